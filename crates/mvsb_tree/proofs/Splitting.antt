-- The cut of a node that was closed lies inside the node's interval.
use Rattle.std.proofs.Common.{◌≡◌, ℕ, ◌<◌, ◌≤◌, ◌&&◌, inl, inr, true, Bool, IsTrue, nat_le, not, List, [], ◌∷◌, ◌++◌, length, map, Option, Some, None, refl, sym, ap, ◌∙◌, subst, arith}
use Rattle.std.specs.List.{All, list_all}
use Rattle.std.proofs.lemmas.Bool.{and_parts, cases_Bool, or_cases, leb-true, true≢false}
use Rattle.std.proofs.lemmas.List.Elements.{All-cons, All-head, All-nil, All-tail}
use Rattle.page_layout.specs.declared.mv_node.MvNode.{MvNode}
use Rattle.page_layout.specs.declared.mv_node.MvEntry.{MvEntry}
use Rattle.mv_pages.specs.Alive.{is_alive}
use Rattle.mv_pages.specs.Copies.{AreTwoCopies}
use Rattle.mv_pages.specs.Lows.{alive_lows}
use Rattle.mvsb_tree.specs.declared.place.Place.{Place}
use Rattle.mvsb_tree.specs.declared.replaced.Replaced.{Replaced}
use Rattle.mvsb_tree.specs.Changed.{CutFits, ReplacedFits}
use Rattle.mvsb_tree.specs.Damage.{begins_within}
use Rattle.mvsb_tree.specs.Stands.{ends_after}
use Rattle.mvsb_tree.specs.Stored.{IsSplitOf, SplitCut}

-- whether a low lies in an interval
abbrev pub lies_in : ℕ → Option ℕ → ℕ → Bool
lies_in low high l = nat_le low l && ends_after high l

-- Where the entries that are alive begin within a place, so do the lows.
pub lows_within : (place : Place) (es : List MvEntry) → IsTrue (list_all (begins_within place) es) → All (λ l. IsTrue (lies_in place.low place.high l)) (alive_lows es place.version)
lows_within place [] all = All-nil (λ (l : ℕ). IsTrue (lies_in place.low place.high l))
lows_within place (e ∷ es) all =
    let parts = and_parts (begins_within place e) (list_all (begins_within place) es) all in
    let rest = lows_within place es parts.1 in
    elim (cases_Bool (is_alive place.version e)) [
      | inl lives ↦
          let cons : alive_lows (e ∷ es) place.version ≡ e.low ∷ alive_lows es place.version = rw lives refl in
          let here : lies_in place.low place.high e.low ≡ true = elim (or_cases (not (is_alive place.version e)) (lies_in place.low place.high e.low) parts.0) [
            | inl dead ↦ absurd (true≢false (sym dead ∙ ap (λ (b : Bool). not b) lives))
            | inr inside ↦ inside
          ] in
          subst (All (λ (l : ℕ). IsTrue (lies_in place.low place.high l))) (sym cons) (All-cons (λ (l : ℕ). IsTrue (lies_in place.low place.high l)) e.low (alive_lows es place.version) here rest)
      | inr dead ↦
          let skip : alive_lows (e ∷ es) place.version ≡ alive_lows es place.version = rw dead refl in
          subst (All (λ (l : ℕ). IsTrue (lies_in place.low place.high l))) (sym skip) rest
    ]

front_all : (P : ℕ → Type 0) (xs ys : List ℕ) → All P (xs ++ ys) → All P xs × All P ys
front_all P [] ys all = (All-nil P, all)
front_all P (x ∷ xs) ys all =
    let rest = front_all P xs ys (All-tail P x (xs ++ ys) all) in
    (All-cons P x xs (All-head P x (xs ++ ys) all) rest.0, rest.1)

some_between : (low cut : ℕ) (es : List MvEntry) → 1 ≤ length es → All (λ e. e.low < cut) es → All (λ l. low ≤ l) (map (λ (e : MvEntry). e.low) es) → low < cut
some_between low cut [] some below above = absurd (omega (arith, some))
some_between low cut (e ∷ es) some below above =
    let one = All-head (λ (x : MvEntry). x.low < cut) e es below in
    let two = All-head (λ (l : ℕ). low ≤ l) e.low (map (λ (x : MvEntry). x.low) es) above in
    omega (arith, one, two)

cut_inside : (node : MvNode) (v cut low : ℕ) (high : Option ℕ) (first second : MvNode) → AreTwoCopies node v first cut second
    → All (λ l. IsTrue (lies_in low high l)) (alive_lows node.entries.items v) → (low < cut) × IsTrue (ends_after high cut)
cut_inside node v cut low high first second copy within =
    let P : ℕ → Type 0 = λ l. IsTrue (lies_in low high l) in
    let both = front_all P (alive_lows first.entries.items v) (alive_lows second.entries.items v) (subst (All P) (sym (copy.lows v (omega arith))) within) in
    let firsts = subst (λ (es : List MvEntry). All P (map (λ (e : MvEntry). e.low) es)) (copy.first_fresh.alive v (omega arith)) both.0 in
    let seconds = subst (λ (es : List MvEntry). All P (map (λ (e : MvEntry). e.low) es)) (copy.second_fresh.alive v (omega arith) ∙ copy.cut_is.2) both.1 in
    let at_cut = All-head P copy.cut_is.0.low (map (λ (e : MvEntry). e.low) copy.cut_is.1) seconds in (
      some_between low cut first.entries.items (omega (arith, copy.sizes.0)) copy.first_lows
          (λ k d h. leb-true low _ (and_parts (nat_le low _) (ends_after high _) (firsts k d h)).0),
      subst (λ (n : ℕ). IsTrue (ends_after high n)) copy.cut_is.3 (and_parts (nat_le low copy.cut_is.0.low) (ends_after high copy.cut_is.0.low) at_cut).1,
    )

split_cut : (node : MvNode) (v low : ℕ) (high : Option ℕ) (o : Option (ℕ × ℕ)) → All (λ l. IsTrue (lies_in low high l)) (alive_lows node.entries.items v) → SplitCut node v o → CutFits (Some low) high o
split_cut node v low high None within split = tt
split_cut node v low high (Some pair) within split =
    let d = cut_inside node v pair.0 low high split.1 split.2 split.3 within in
    (split.0, d.0, d.1)

pub split_fits : (node : MvNode) (v low : ℕ) (high : Option ℕ) (r : Option Replaced) → All (λ l. IsTrue (lies_in low high l)) (alive_lows node.entries.items v) → IsSplitOf node v r → ReplacedFits (Some low) high r
split_fits node v low high None within split = tt
split_fits node v low high (Some r) within split = (split.0, split_cut node v low high r.second within split.1)
