-- A disk that is as ready for spans as another, and what was given out there.
use Rattle.std.proofs.Common.{◌≡◌, ◌==◌, ℕ, Bool, true, false, if◌then◌else◌, length, inl, inr, sym, ◌∙◌, ap, subst}
use Rattle.bw_types.specs.Fits.{IsInRange}
use Rattle.bw_types.specs.declared.params.Params.{Params}
use Rattle.page_disk.specs.Image.{Image}
use Rattle.page_layout.specs.declared.meta.Meta.{Meta}
use Rattle.ports.specs.Pages.{PageMap, empty_map}
use Rattle.page_space.specs.Laws.{CreatedHolds, HoldsOne}
use Rattle.page_space.specs.Opening.{StandsAlike}
use Rattle.page_space.specs.Settling.{HasNoReplay}
use Rattle.page_space.specs.Space.{HoldsSpace}
use Rattle.redo_journal.specs.Gates.{is_empty, is_open}
use Rattle.redo_journal.specs.declared.gate.Gate.TheVariants.{Armed, Blank, Idle, NoJournal}
use Rattle.span_planes.specs.Made.{HasGivenOut, HoldsNoVersion, IsNew, IsStillReady, new_meta}
use Rattle.span_planes.specs.SpanHolds.{without_degree}
use Rattle.span_planes.proofs.NoVersionSpans.{new_space, not_empty}
use Rattle.span_planes.proofs.SpanOpened.{unordered}

-- a disk that reads the same
pub still_same : (params : Params) (x y : Image) → y ≡ x → IsStillReady params x y
still_same params x y same = subst (λ (z : Image). IsStillReady params x z) (sym same) (record { alike = λ pages settles. settles; empty = λ none. inl none })

-- one that was empty and has new spans
pub still_new : (params : Params) (x y : Image) → is_empty x ≡ true → IsNew params y → IsStillReady params x y
still_new params x y none new = record {
  alike = λ pages settles. (let no : true ≡ false = sym none ∙ settles.made in absurd (cc));
  empty = λ _. inr new;
}

-- one that held spans of no version
pub still_none : (params : Params) (x y : Image) → HoldsNoVersion params x → StandsAlike x y → IsStillReady params x y
still_none params x y held alike = record {
  alike = alike;
  empty = λ none. (let no : true ≡ false = sym none ∙ not_empty params x held in absurd (cc));
}

-- where new spans were made nothing is replayed
not_armed : (empty none opens : Bool) → opens ≡ false → (if empty then Blank else if none then NoJournal else if opens then Armed else Idle) ≡ Armed → ⊥
not_armed true none opens closed is = cc
not_armed false true opens closed is = cc
not_armed false false true closed is = cc
not_armed false false false closed is = cc

pub new_idle : (params : Params) (x : Image) → IsNew params x → HasNoReplay x
new_idle params x new = λ armed. absurd (not_armed (is_empty x) (length x.journal == 0) (is_open x.journal) new.closed armed)

-- how many page numbers a space has given out
pub given_here : HoldsOne → (params : Params) (x : Image) (read : Params) (meta : Meta) (map : PageMap) → HoldsSpace x read meta map ⊥ → (n : ℕ) → HasGivenOut params x n → meta.allotted ≡ n
given_here one params x read meta map space n given = elim given [
  | inl none ↦ (let no : true ≡ false = sym none.0 ∙ space.settled.made in absurd (cc))
  | inr out ↦ ap (λ (m : Meta). m.allotted) (one x read (without_degree params) meta out.meta map out.pages space out.space).1 ∙ out.allotted
]

-- a disk that is still ready has given out as many
pub given_still : CreatedHolds → (params : Params) → IsInRange params → (x y : Image) → IsStillReady params x y → (n : ℕ) → HasGivenOut params x n → HasGivenOut params y n
given_still created params r x y still n given = elim given [
  | inl none ↦ elim (still.empty none.0) [
    | inl empty ↦ inl (empty, none.1)
    | inr new ↦ inr (record {
      meta = new_meta params;
      pages = empty_map;
      space = unordered y (without_degree params) (new_meta params) empty_map (Unit {0}) (new_space created params y r new);
      allotted = sym none.1;
    })
  ]
  | inr out ↦ inr (record {
    meta = out.meta;
    pages = out.pages;
    space = record { pages = out.space.pages; settled = still.alike out.space.pages out.space.settled; space = out.space.space };
    allotted = out.allotted;
  })
]
