-- A disk holds one space.
use Rattle.std.proofs.Common.{◌≡◌, ℕ, sym, ◌∙◌, ap, inl, inr, arith}
use Rattle.std.proofs.lemmas.Bool.Decides.{nat_tests}
use Rattle.bw_types.specs.declared.params.Params.{Params}
use Rattle.ports.specs.Pages.{PageMap}
use Rattle.page_disk.specs.Image.{PageList}
use Rattle.page_layout.specs.Super.{IsSuper, super_page}
use Rattle.page_layout.specs.Super as superblock
use Rattle.page_layout.specs.Meta.{IsMeta, IsTyped, meta_page}
use Rattle.page_layout.specs.declared.super_page.Super.{Super}
use Rattle.page_layout.specs.declared.meta.Meta.{Meta}
use Rattle.redo_journal.specs.Settled.{NeverHoldsAndBreaks, SettlesToOne}
use Rattle.page_space.specs.Opening.{IsDamagedAt}
use Rattle.page_space.specs.Space.{IsSpace}
use Rattle.page_space.specs.Laws.{HeldOpens, HoldsOne, HoldsOrder}

abbrev pub SupersDiffer : Type 0
SupersDiffer = (value other : Super) → superblock.IsTyped value → IsSuper value → superblock.IsTyped other → IsSuper other → super_page value ≡ super_page other → value ≡ other

abbrev pub MetasDiffer : Type 0
MetasDiffer = (value other : Meta) → IsTyped value → IsMeta value → IsTyped other → IsMeta other → meta_page value ≡ meta_page other → value ≡ other

same_space : SupersDiffer → MetasDiffer → (pages : PageList) (params params' : Params) (meta meta' : Meta) (map map' : PageMap)
    → IsSpace pages params meta map ⊥ → IsSpace pages params' meta' map' ⊥ → (params ≡ params') × (meta ≡ meta') × (map ≡ map')
same_space supers metas pages params params' meta meta' map map' a b =
    let same_super = supers (record { params = params }) (record { params = params' }) tt a.superblock.rules tt b.superblock.rules (sym a.superblock.spelled ∙ b.superblock.spelled) in
    let same_meta = metas meta meta' a.roots.typed a.roots.rules b.roots.typed b.roots.rules (sym a.roots.spelled ∙ b.roots.spelled) in
    (ap (λ (s : Super). s.params) same_super, same_meta, rw (a.in_use, b.in_use, same_meta))

pub holds_one : SettlesToOne → SupersDiffer → MetasDiffer → HoldsOne
holds_one one supers metas x params params' meta meta' map map' a b =
    same_space supers metas b.pages params params' meta meta' map map' (rw (one x a.pages b.pages a.settled b.settled) at a.space) b.space

pub holds_order : SettlesToOne → HoldsOrder
holds_order one x pages params meta map h settles = rw (one x pages h.pages settles h.settled) (h.space.in_order tt)

not_damaged : SupersDiffer → (pages : PageList) (params : Params) (meta : Meta) (map : PageMap) (page : ℕ)
    → IsSpace pages params meta map ⊥ → IsDamagedAt pages page → ⊥
not_damaged supers pages params meta map page space (inl superblock) = superblock.1 params space.superblock
not_damaged supers pages params meta map page space (inr roots) =
    let same = supers (record { params = roots.1.0 }) (record { params = params }) tt roots.1.1.0.rules tt space.superblock.rules (sym roots.1.1.0.spelled ∙ space.superblock.spelled) in
    roots.1.1.1 meta space.roots space.there (rw (ap (λ (s : Super). s.params) same) space.few)

-- Of a disk that holds a space nothing is amiss.
pub held_opens : SettlesToOne → NeverHoldsAndBreaks → SupersDiffer → HeldOpens
held_opens one apart supers x params meta map h = record {
  not_empty = h.settled.made;
  not_bad = λ page bad. grind (arith, nat_tests, h.settled, apart);
  not_damaged = λ page damaged. not_damaged supers h.pages params meta map page h.space (rw (one x damaged.0 h.pages damaged.1.0 h.settled) at damaged.1.1);
}
