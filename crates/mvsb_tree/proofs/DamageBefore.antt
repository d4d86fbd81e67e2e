-- What is found damaged in a map that has lost pages.
use Rattle.std.proofs.Common.{◌≡◌, ◌≢◌, ◌⊎◌, ℕ, zero, suc, ◌≤◌, true, inl, inr, List, [], ◌++◌, Some, refl, sym, ap, ◌∙◌, subst, arith}
use Rattle.std.proofs.lemmas.Bool.{cases_Bool, cases_lt, or_left, or_right}
use Rattle.std.proofs.lemmas.List.{append-nil}
use Rattle.bw_types.specs.declared.tree.Tree.{Tree}
use Rattle.ports.specs.Pages.{PageMap}
use Rattle.ports.specs.Frame.{Replaces, names_page}
use Rattle.ports.specs.FrameLaws.{Replaces-beside, Replaces-same, names_page-append}
use Rattle.page_layout.specs.Footprint.{IsNamedTwice, times_named}
use Rattle.page_layout.specs.FootprintLaws.{named_by_one, named_once, times_append}
use Rattle.page_layout.specs.MvNode.{IsMvNode, IsTyped, mv_node_page}
use Rattle.page_layout.specs.Spelled.{SpellsNone}
use Rattle.page_layout.specs.declared.mv_node.MvNode.{MvNode}
use Rattle.sb_tree.proofs.Freeing.{damage_left, fewer_named}
use Rattle.sb_tree.specs.Damage as over_versions
use Rattle.sb_tree.specs.Steps as steps_over_versions
use Rattle.mvsb_tree.specs.Damage.{IsDamagedForFree, IsDamagedInChain, mv_pages}
use Rattle.mvsb_tree.specs.Gone.{AreDropped, WasDamaged}
use Rattle.mvsb_tree.specs.Steps.{chain_from, directory, node_on, place_count, tree_pages}
use Rattle.mvsb_tree.proofs.Chains.{chain_left, names_first}
use Rattle.mvsb_tree.proofs.Dropping.{places_before}
use Rattle.mvsb_tree.proofs.Freeing.{count_is}
use Rattle.mvsb_tree.proofs.Nodes.{node_on-spelled}

-- What is found in a part, after the parts before it were freed, is found in the whole.
part_damaged : (D E : Type 0) (gone a x z w : List ℕ) (p : ℕ) → (D → E) → w ≡ a ++ (x ++ z)
    → (D ⊎ IsNamedTwice x p) ⊎ ((names_page (gone ++ a) p ≡ true) × (names_page x p ≡ true))
    → (E ⊎ IsNamedTwice w p) ⊎ ((names_page gone p ≡ true) × (names_page w p ≡ true))
part_damaged D E gone a x z w p more whole (inl (inl d)) = inl (inl (more d))
part_damaged D E gone a x z w p more whole (inl (inr twice)) =
    inl (inr (omega (arith, twice, ap (λ (ps : List ℕ). times_named ps p) whole, times_append a (x ++ z) p, times_append x z p)))
part_damaged D E gone a x z w p more whole (inr both) = elim (named_by_one gone a p both.0) [
  | inl first ↦ inr (
    first,
    ap (λ (ps : List ℕ). names_page ps p) whole ∙ names_page-append a (x ++ z) p ∙ or_right (names_page a p) (names_page (x ++ z) p)
        (names_page-append x z p ∙ or_left (names_page x p) (names_page z p) both.1),
  )
  | inr second ↦ inl (inr (omega (
    arith,
    ap (λ (ps : List ℕ). times_named ps p) whole,
    times_append a (x ++ z) p,
    times_append x z p,
    named_once a p second,
    named_once x p both.1,
  )))
]

pub was_damaged_more : (f g rest h : PageMap → List ℕ) (D E : PageMap → ℕ → Type 0) (old mid : PageMap) (p : ℕ) → AreDropped f old mid
    → ((before : PageMap) (gone : List ℕ) → Replaces gone [] before old → (h before ≡ f before ++ (g before ++ rest before)) × (D before p → E before p))
    → WasDamaged g D mid p → WasDamaged h E old p
was_damaged_more f g rest h D E old mid p dropped parts damaged = λ before gone r.
    let one = dropped before gone r in
    let part = parts before gone r in
    part_damaged (D before p) (E before p) gone (f before) (g before) (rest before) (h before) p part.1 part.0
    (damaged before (gone ++ f before) (Replaces-beside gone [] (f before) [] before old mid r one.1))

-- What was damaged in this map itself.
pub damaged_here : (h : PageMap → List ℕ) (D : PageMap → ℕ → Type 0) (old : PageMap) (p : ℕ) → (IsNamedTwice (h old) p → D old p) → WasDamaged h D old p → D old p
damaged_here h D old p twice damaged = elim (damaged old [] (Replaces-same [] old)) [
  | inl now ↦ elim now [
    | inl d ↦ d
    | inr more ↦ twice more
  ]
  | inr both ↦ cc
]

pub tree_damaged_here : (pages : PageMap) (tree : Tree) (page : ℕ) → WasDamaged (λ m. tree_pages m tree) (λ m p. IsDamagedForFree m tree p) pages page → IsDamagedForFree pages tree page
tree_damaged_here pages tree page damaged =
    damaged_here (λ m. tree_pages m tree) (λ m p. IsDamagedForFree m tree p) pages page (λ twice. inr (inr (inr twice))) damaged

-- Trees over versions.
pub versions_damaged : (tree : Tree) (old : PageMap) (p : ℕ) → over_versions.IsDamagedForFree old tree p
    → WasDamaged (λ m. steps_over_versions.tree_pages m tree) (λ m. over_versions.IsDamagedForFree m tree) old p
versions_damaged tree old p (inl d) = λ before gone r. elim (damage_left tree.levels gone before old tree.root p r d) [
  | inl b ↦ inl (inl (inl b))
  | inr both ↦ inr both
]
versions_damaged tree old p (inr twice) = λ before gone r. inl (inr (omega (arith, twice, fewer_named tree.levels gone before old p tree.root r)))

-- The last page: it spells no node, in the map before or in this one, or it is the first of a chain.
in_chain : (places last : ℕ) (m : PageMap) → 1 ≤ places → names_page (chain_from places m last) last ≡ true
in_chain zero last m some = absurd (omega (arith, some))
in_chain (suc places) last m some = names_first last (chain_from places m (node_on m last).before)

no_place : (m : PageMap) (last : ℕ) → (node_on m last).place ≡ 0 → SpellsNone mv_pages m last
no_place m last none = λ node bytes there spells.
    let same : node_on m last ≡ node = node_on-spelled m last node spells.typed spells.rules (there ∙ ap (λ (b : List ℕ). Some b) spells.spelled) in
    let place : (node_on m last).place ≡ node.place = ap (λ (n : MvNode). n.place) same in
    omega (arith, none, place, spells.rules.place)

has_places : (m : PageMap) (last : ℕ) → (SpellsNone mv_pages m last) ⊎ (1 ≤ (node_on m last).place)
has_places m last = elim (cases_lt 0 (node_on m last).place) [
  | inl some ↦ inr (omega (arith, some))
  | inr none ↦ inl (no_place m last (omega (arith, none)))
]

pub last_damaged : (tree : Tree) (old : PageMap) (p : ℕ) → tree.levels ≢ 0 → p ≡ tree.last → SpellsNone mv_pages old tree.last
    → WasDamaged (λ m. tree_pages m tree) (λ m. IsDamagedForFree m tree) old p
last_damaged tree old p some same none = λ before gone r. elim (cases_Bool (names_page gone tree.last)) [
  | inr left ↦ inl (inl (inl (some, same, λ node bytes there. none node bytes (r.others tree.last left refl ∙ there))))
  | inl lost ↦ elim (has_places before tree.last) [
    | inl spells_none ↦ inl (inl (inl (some, same, spells_none)))
    | inr place ↦
        let chain : names_page (chain_from (place_count before tree) before tree.last) tree.last ≡ true =
        in_chain (place_count before tree) tree.last before (omega (arith, place, count_is before tree some)) in
        inr (
          subst (λ (q : ℕ). names_page gone q ≡ true) (sym same) lost,
          subst (λ (q : ℕ). names_page (tree_pages before tree) q ≡ true) (sym same)
              (names_page-append (steps_over_versions.tree_pages before (directory tree)) (chain_from (place_count before tree) before tree.last) tree.last
              ∙ or_right (names_page (steps_over_versions.tree_pages before (directory tree)) tree.last) _ chain),
        )
  ]
]

-- The directory, which is freed first: the map was read in between.
pub directory_damaged : (tree roots : Tree) (old read : PageMap) (p : ℕ) → read ≡ old → roots ≡ directory tree → over_versions.IsDamagedForFree read roots p
    → WasDamaged (λ m. tree_pages m tree) (λ m. IsDamagedForFree m tree) old p
directory_damaged tree roots old read p same is_directory d =
    let here = subst (λ (m : PageMap). over_versions.IsDamagedForFree m roots p) same d in
    was_damaged_more (λ m. []) (λ m. steps_over_versions.tree_pages m (directory tree)) (λ m. chain_from (place_count m tree) m tree.last)
    (λ m. tree_pages m tree) (λ m. over_versions.IsDamagedForFree m (directory tree)) (λ m. IsDamagedForFree m tree) old old p
    (λ before gone r. (λ q named. cc, Replaces-same [] old))
    (λ before gone r. (refl, λ e. inr (inl e)))
    (versions_damaged (directory tree) old p (subst (λ (t : Tree). over_versions.IsDamagedForFree old t p) is_directory here))

-- The chain, after the directory.
chain_was_damaged : (places last : ℕ) (old : PageMap) (p : ℕ) → IsDamagedInChain old places last p → WasDamaged (λ m. chain_from places m last) (λ m. IsDamagedInChain m places last) old p
chain_was_damaged places last old p d = λ before gone r. elim (chain_left places gone before old last p r d) [
  | inl b ↦ inl (inl b)
  | inr both ↦ inr both
]

pub chain_damaged : (tree : Tree) (node : MvNode) (old mid : PageMap) (p : ℕ) → tree.levels ≢ 0 → old tree.last ≡ Some (mv_node_page node) → IsTyped node → IsMvNode node
    → AreDropped (λ m. steps_over_versions.tree_pages m (directory tree)) old mid → IsDamagedInChain mid node.place tree.last p
    → WasDamaged (λ m. tree_pages m tree) (λ m. IsDamagedForFree m tree) old p
chain_damaged tree node old mid p some found typed rules dropped d =
    was_damaged_more (λ m. steps_over_versions.tree_pages m (directory tree)) (λ m. chain_from node.place m tree.last) (λ m. [])
    (λ m. tree_pages m tree) (λ m. IsDamagedInChain m node.place tree.last) (λ m. IsDamagedForFree m tree) old mid p
    dropped
    (λ before gone r.
    let count : place_count before tree ≡ node.place = places_before tree node old before gone some found typed rules r in (
      ap (λ (n : ℕ). steps_over_versions.tree_pages before (directory tree) ++ chain_from n before tree.last) count
          ∙ ap (λ (ps : List ℕ). steps_over_versions.tree_pages before (directory tree) ++ ps) (sym (append-nil (chain_from node.place before tree.last))),
      λ e. inr (inr (inl (subst (λ (n : ℕ). IsDamagedInChain before n tree.last p) (sym count) e))),
    ))
    (chain_was_damaged node.place tree.last mid p d)
