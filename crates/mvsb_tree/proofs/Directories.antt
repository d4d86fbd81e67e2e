-- Pages of directories, which no change of the nodes touches.
use Rattle.std.proofs.Common.{◌≡◌, ◌⊎◌, ℕ, zero, suc, ◌==◌, inl, inr, Bool, true, false, List, [], ◌∷◌, length, Option, Some, None, refl, sym, ap, ◌∙◌, subst, arith}
use Rattle.std.specs.List.{list_any}
use Rattle.std.specs.Option.{option_map_or}
use Rattle.std.proofs.lemmas.Bool.{cases_Bool, eqb-true, eq-eqb}
use Rattle.bw_types.specs.declared.tree.Tree.{Tree}
use Rattle.ports.specs.Pages.{PageMap, put_page}
use Rattle.page_layout.specs.Damage.{IsDamagedBelow, NothingBeside}
use Rattle.page_layout.specs.MvNode.{mv_node_page}
use Rattle.page_layout.specs.SbNode.{sb_node_in, sb_node_page}
use Rattle.page_layout.specs.Spelled.{SpellsNone}
use Rattle.page_layout.specs.declared.mv_node.MvNode.{MvNode}
use Rattle.page_layout.specs.declared.sb_node.SbEntry.{SbEntry}
use Rattle.sb_tree.specs.declared.place.Place.{Place}
use Rattle.sb_tree.specs.Damage.{FitsPlace, IsDamagedForAdd, IsFull, IsFullBelow, LeadsTo, sb_pages}
use Rattle.sb_tree.specs.Steps.{child_at, entries_on, no_node}
use Rattle.mvsb_tree.specs.declared.replaced.Replaced.{Replaced}
use Rattle.mvsb_tree.specs.AddDamage.{KeepsDirectories}
use Rattle.mvsb_tree.specs.Stored.{IsClosedBy, IsFirstStored, IsNext, IsStored, all_start_at}
use Rattle.mvsb_tree.specs.Tops.{IsTop, IsTopOf}

abbrev first_byte : List ℕ → ℕ
first_byte [] = 0
first_byte (byte ∷ bytes) = byte

some_same : (x y : List ℕ) → Some x ≡ Some y → x ≡ y
some_same x y e = cc

-- A page of a multiversion tree's node is none of a directory's.
pub no_directory : (m : PageMap) (page : ℕ) (node : MvNode) → m page ≡ Some (mv_node_page node) → SpellsNone sb_pages m page
no_directory m page node there = λ other bytes here spells.
    let same : mv_node_page node ≡ sb_node_page other = some_same (mv_node_page node) bytes (sym there ∙ here) ∙ spells.spelled in
    let kinds : 3 ≡ 2 = ap first_byte same in
    omega (arith, kinds)

no_page : (m : PageMap) (page : ℕ) → m page ≡ None → SpellsNone sb_pages m page
no_page m page none = λ other bytes here spells. (let e : None ≡ Some bytes = sym none ∙ here in cc)

pub none_moved : (a b : PageMap) (page : ℕ) → b page ≡ a page → SpellsNone sb_pages a page → SpellsNone sb_pages b page
none_moved a b page same none = λ other bytes here spells. none other bytes (sym same ∙ here) spells

pub keeps_both : (a b c : PageMap) → KeepsDirectories a b → KeepsDirectories b c → KeepsDirectories a c
keeps_both a b c f g = λ page. elim (f page) [
  | inl same ↦ elim (g page) [
    | inl again ↦ inl (again ∙ same)
    | inr none ↦ inr (none_moved b a page (sym same) none.0, none.1)
  ]
  | inr none ↦ elim (g page) [
    | inl again ↦ inr (none.0, none_moved b c page again none.1)
    | inr more ↦ inr (none.0, more.1)
  ]
]

-- A page that spelled none spells none.
pub still_none : (a b : PageMap) (page : ℕ) → KeepsDirectories a b → SpellsNone sb_pages a page → SpellsNone sb_pages b page
still_none a b page keeps none = elim (keeps page) [
  | inl same ↦ none_moved a b page same none
  | inr both ↦ both.1
]

-- Only one page is another one, where before and after no node of a directory is.
pub one_changes : (a b : PageMap) (page : ℕ) → SpellsNone sb_pages a page → SpellsNone sb_pages b page → ((p : ℕ) → (page == p) ≡ false → b p ≡ a p) → KeepsDirectories a b
one_changes a b page before after others = λ p. elim (cases_Bool (page == p)) [
  | inl same ↦ subst (λ (q : ℕ). (b q ≡ a q) ⊎ (SpellsNone sb_pages a q × SpellsNone sb_pages b q)) (eqb-true page p same) (inr (before, after))
  | inr other ↦ inl (others p other)
]

pub made_keeps : (a b : PageMap) (page : ℕ) (node : MvNode) → a page ≡ None → b page ≡ Some (mv_node_page node) → ((p : ℕ) → (page == p) ≡ false → b p ≡ a p) → KeepsDirectories a b
made_keeps a b page node fresh made others = one_changes a b page (no_page a page fresh) (no_directory b page node made) others

put_keeps : (a b : PageMap) (page : ℕ) (node : MvNode) → SpellsNone sb_pages a page → b ≡ put_page a page (mv_node_page node) → KeepsDirectories a b
put_keeps a b page node none is =
    one_changes a b page none (no_directory b page node (ap (λ (m : PageMap). m page) is ∙ put_same (eq-eqb page page refl))) (λ p other. ap (λ (m : PageMap). m p) is ∙ put_other p other)
  where
    put_same : (page == page) ≡ true → put_page a page (mv_node_page node) page ≡ Some (mv_node_page node)
    put_same same = rw same refl

    put_other : (p : ℕ) → (page == p) ≡ false → put_page a page (mv_node_page node) p ≡ a p
    put_other p other = rw other refl

next_keeps : (a b : PageMap) (last page : ℕ) (node : MvNode) → IsNext a b last node page → KeepsDirectories a b
next_keeps a b last page node next = made_keeps a b page _ next.fresh next.made next.others

first_keeps : (starts : Bool) (a b : PageMap) (page last new_last : ℕ) (node : MvNode) (first : ℕ) → SpellsNone sb_pages a page → IsFirstStored starts a b page last new_last node first → KeepsDirectories a b
first_keeps true a b page last new_last node first none stored = put_keeps a b page node none stored.2
first_keeps false a b page last new_last node first none stored = next_keeps a b last first node stored.1

-- A node was stored, whose page spelled no node of a directory.
pub stored_keeps : (a b : PageMap) (page : ℕ) (node : MvNode) (v last new_last : ℕ) (r : Option Replaced) → SpellsNone sb_pages a page → IsStored a b page node v last new_last r → KeepsDirectories a b
stored_keeps a b page node v last new_last None none st = put_keeps a b page node none st.2
stored_keeps a b page node v last new_last (Some r) none st = by_second r.second st.1
  where
    by_second : (o : Option (ℕ × ℕ)) → IsClosedBy a b page node v last new_last r.first o → KeepsDirectories a b
    by_second None c = next_keeps a b last r.first c.0 c.3
    by_second (Some pair) t = keeps_both a t.between b (first_keeps (all_start_at v node.entries.items) a t.between page last t.between_last t.first_node r.first none t.stored)
        (next_keeps t.between b t.between_last pair.1 t.second_node t.next)

-- A new root.
pub top_keeps : (a b : PageMap) (root level v : ℕ) (r : Option Replaced) (last new_last top : ℕ) → IsTop a b root level v r last new_last top → KeepsDirectories a b
top_keeps a b root level v None last new_last top is = λ p. inl (ap (λ (m : PageMap). m p) is.1)
top_keeps a b root level v (Some r) last new_last top is = by_second r.second is
  where
    by_second : (o : Option (ℕ × ℕ)) → IsTopOf a b level v r.first o last new_last top → KeepsDirectories a b
    by_second None is = λ p. inl (ap (λ (m : PageMap). m p) is.1)
    by_second (Some second) is = next_keeps a b last top _ is.0

-- What an addition to a directory finds damaged later it would have found before.
path_before : (level : ℕ) (m0 m1 : PageMap) (place : Place) (page p : ℕ) → KeepsDirectories m0 m1 → IsDamagedBelow FitsPlace LeadsTo NothingBeside m1 level place page p
    → IsDamagedBelow FitsPlace LeadsTo NothingBeside m0 level place page p
path_before zero m0 m1 place page p keeps d = d
path_before (suc level) m0 m1 place page p keeps (inl here) = elim (keeps page) [
  | inl same ↦ inl (here.0, λ node bytes there fits. here.1 node bytes (same ∙ there) fits)
  | inr none ↦ inl (here.0, λ node bytes there fits. none.0 node bytes there (record { spelled = fits.fits.spelled; rules = fits.fits.rules; typed = fits.fits.typed }))
]
path_before (suc level) m0 m1 place page p keeps (inr (inl beside)) = absurd beside.4
path_before (suc level) m0 m1 place page p keeps (inr (inr below)) = elim (keeps page) [
  | inl same ↦ inr (inr (below.0, below.1, below.2, below.3, sym same ∙ below.4, below.5, below.6, path_before level m0 m1 below.3 below.2 p keeps below.7))
  | inr none ↦ absurd (none.1 below.0 below.1 below.4 (record { spelled = below.5.fits.spelled; rules = below.5.fits.rules; typed = below.5.fits.typed }))
]

same_entries : (m0 m1 : PageMap) (page : ℕ) → m1 page ≡ m0 page → entries_on m1 page ≡ entries_on m0 page
same_entries m0 m1 page same = ap (λ (o : Option (List ℕ)). (option_map_or sb_node_in o no_node).entries.items) same

page_stays : (m0 m1 : PageMap) (page : ℕ) → KeepsDirectories m0 m1 → IsFull m1 page → m1 page ≡ m0 page
page_stays m0 m1 page keeps full = elim (keeps page) [
  | inl same ↦ same
  | inr none ↦ absurd (full.spelled none.1)
]

is_full_before : (m0 m1 : PageMap) (page : ℕ) → m1 page ≡ m0 page → IsFull m1 page → IsFull m0 page
is_full_before m0 m1 page same full = record {
  spelled = λ none. full.spelled (none_moved m0 m1 page same none);
  count = ap (λ (es : List SbEntry). length es) (sym (same_entries m0 m1 page same)) ∙ full.count;
}

full_before : (level : ℕ) (m0 m1 : PageMap) (page v : ℕ) → KeepsDirectories m0 m1 → IsFullBelow level m1 page v → IsFullBelow level m0 page v
full_before zero m0 m1 page v keeps full = full
full_before (suc zero) m0 m1 page v keeps full =
    let same = page_stays m0 m1 page keeps full.0 in (
      is_full_before m0 m1 page same full.0,
      ap (λ (es : List SbEntry). list_any (λ e. e.low == v) es) (sym (same_entries m0 m1 page same)) ∙ full.1,
    )
full_before (suc (suc level)) m0 m1 page v keeps full =
    let same = page_stays m0 m1 page keeps full.0 in (
      is_full_before m0 m1 page same full.0,
      full_before (suc level) m0 m1 _ v keeps
          (subst (λ (es : List SbEntry). IsFullBelow (suc level) m1 (child_at es v) v) (same_entries m0 m1 page same) full.1),
    )

pub damaged_before : (m0 m1 : PageMap) (order0 order1 : Type 0) (tree : Tree) (v p : ℕ) → KeepsDirectories m0 m1 → (order0 → order1)
    → IsDamagedForAdd m1 order1 tree v p → IsDamagedForAdd m0 order0 tree v p
damaged_before m0 m1 order0 order1 tree v p keeps order (inl path) = inl (path_before tree.levels m0 m1 _ tree.root p keeps path)
damaged_before m0 m1 order0 order1 tree v p keeps order (inr (inl many)) = inr (inl many)
damaged_before m0 m1 order0 order1 tree v p keeps order (inr (inr (inl full))) = inr (inr (inl (full.0, full.1, full_before 16 m0 m1 tree.root v keeps full.2)))
damaged_before m0 m1 order0 order1 tree v p keeps order (inr (inr (inr unordered))) = inr (inr (inr (λ ordered. unordered (order ordered))))
