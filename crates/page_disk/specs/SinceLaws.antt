-- The laws of `LeavesOnly`, and of a disk with nothing pending. They are public for the proofs of the crates
-- above: they speak of any fact about images, which no clause can, and a lemma cites no contract.
use Rattle.std.specs.Prelude.{◌≡◌, ◌≤◌, List, [], ◌∷◌, length, refl}
use Rattle.std.proofs.Common.{◌∙◌, ap, inl, inr, arith}
use Rattle.std.proofs.lemmas.List.{ext_get_or}
use Rattle.page_disk.specs.Image.{PageList, Image}
use Rattle.page_disk.specs.Moment.{Moment, AreaMayBeLeft, MayBeLeft, MayBeLeftNow, MayBeLeftSince, area_settled, settled_moment, then_moment, clock_of}
use Rattle.page_disk.specs.Since.{LeavesNow, LeavesOnly}

pub LeavesOnly-same : (P : Image → Type 0) (moments : List Moment) → LeavesOnly P moments moments
LeavesOnly-same P moments = record { later = omega arith; each = λ t x le left. inl left }

pub LeavesOnly-then : (P : Image → Type 0) (first second third : List Moment)
    → LeavesOnly P first second → LeavesOnly P second third → LeavesOnly P first third
LeavesOnly-then P first second third f g = record {
  later = let a : clock_of first ≤ clock_of second = f.later in
      let b : clock_of second ≤ clock_of third = g.later in omega arith;
  each = λ t x le left.
      let within : t ≤ clock_of second = let a : clock_of first ≤ clock_of second = f.later in omega arith in
      elim (g.each t x within left) [
        | inl before ↦ f.each t x le before
        | inr has ↦ inr has
      ];
}

pub LeavesOnly-weaken : (P Q : Image → Type 0) (old new : List Moment) → ((x : Image) → P x → Q x)
    → LeavesOnly P old new → LeavesOnly Q old new
LeavesOnly-weaken P Q old new step f = record {
  later = f.later;
  each = λ t x le left. elim (f.each t x le left) [ inl before ↦ inl before | inr has ↦ inr (step x has) ];
}

-- A call whose moment leaves only what has P.
pub LeavesOnly-moment : (P : Image → Type 0) (change : Moment → Moment) (moments : List Moment)
    → ((x : Image) → MayBeLeftNow (then_moment change moments) x → P x) → LeavesOnly P moments (then_moment change moments)
LeavesOnly-moment P change [] has = LeavesOnly-same P []
LeavesOnly-moment P change (m ∷ earlier) has = record {
  later = omega arith;
  each = λ t x le left. elim left [ inl now ↦ inr (has x now) | inr before ↦ inl before.1 ];
}

pub since_now : (moments : List Moment) (x : Image) → MayBeLeftSince moments (clock_of moments) x → MayBeLeftNow moments x
since_now [] x left = left
since_now (m ∷ earlier) x left = elim left [
  | inl now ↦ now
  | inr before ↦ let le : clock_of (m ∷ earlier) ≤ clock_of earlier = before.0 in absurd (omega arith)
]

pub area_left_settled : (pages x : PageList) → AreaMayBeLeft (area_settled pages) x → x ≡ pages
area_left_settled pages x h =
    let low : length pages ≤ length x = h.no_shorter in
    let high : length x ≤ length pages = h.no_longer in
    ext_get_or [] x pages (omega arith) (λ i within. h.kept i (omega arith) refl)

pub left_settled : (image x : Image) → MayBeLeft (settled_moment image) x → x ≡ image
left_settled image x h =
    let pages : x.pages ≡ image.pages = area_left_settled image.pages x.pages h.pages in
    let journal : x.journal ≡ image.journal = area_left_settled image.journal x.journal h.journal in
    ap (λ (p : PageList). let y : Image = record { pages = p; journal = x.journal } in y) pages
    ∙ ap (λ (j : PageList). let y : Image = record { pages = image.pages; journal = j } in y) journal

-- after a sync, a crash leaves what reads give
pub settled_leaves : (image : Image) (moments : List Moment) → LeavesNow (then_moment (λ _. settled_moment image) moments) image
settled_leaves image [] = λ x left. absurd left
settled_leaves image (m ∷ earlier) = λ x left. left_settled image x left
