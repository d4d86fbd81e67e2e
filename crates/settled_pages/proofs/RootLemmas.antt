-- Pages that are no space.
use Rattle.std.proofs.Common.{ℕ, ◌≤◌, sym, ap, ◌∙◌, length, arith}
use Rattle.std.proofs.lemmas.Bool.Decides.{nat_tests}
use Rattle.bw_types.specs.declared.params.Params.{Params}
use Rattle.ports.specs.Pages.{PageMap}
use Rattle.page_disk.specs.Image.{PageList, Image, page_at}
use Rattle.page_layout.specs.declared.super_page.Super.{Super}
use Rattle.page_layout.specs.declared.meta.Meta.{Meta}
use Rattle.redo_journal.specs.Settled.{NeverHoldsAndBreaks, SettlesTo, SettlesToOne}
use Rattle.page_space.specs.Opening.{HasNoMeta, HasNoParams}
use Rattle.page_space.specs.Settling.{IsBadAt}
use Rattle.page_space.specs.Space.{HoldsSpace, IsSpace, SpellsParams}
use Rattle.page_space.proofs.Unique.{SupersDiffer}

-- The journal of a disk that stands for some pages is not bad.
pub never_bad : (x : Image) (pages : PageList) → NeverHoldsAndBreaks → SettlesTo x pages → (page : ℕ) → IsBadAt x page → ⊥
never_bad x pages apart settles page bad = grind (arith, nat_tests, settles, apart)

-- These pages are all that the disk stands for.
module _ (one : SettlesToOne) (x : Image) (pages : PageList) (settles : SettlesTo x pages) (params : Params) (meta : Meta) (map : PageMap)
    (h : HoldsSpace x params meta map ⊥) where
  on_pages : IsSpace pages params meta map ⊥
  on_pages = rw (one x h.pages pages h.settled settles) at h.space

  pub no_params : (3 ≤ length pages → HasNoParams pages) → ⊥
  no_params none = none (omega (arith, on_pages.there, on_pages.roots.rules.allotted)) params on_pages.superblock

  pub no_meta : SupersDiffer → (found : Params) → SpellsParams (page_at pages 1) found → HasNoMeta pages found.pages → ⊥
  no_meta supers found spells none =
      let same = supers (record { params = found }) (record { params = params }) tt spells.rules tt on_pages.superblock.rules (sym spells.spelled ∙ on_pages.superblock.spelled) in
      none meta on_pages.roots on_pages.there (rw (ap (λ (s : Super). s.params) same) on_pages.few)
