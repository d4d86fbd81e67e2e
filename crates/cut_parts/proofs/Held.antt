-- What a page that spells a value holds.
use Rattle.std.proofs.Common.{◌≡◌, ℕ, ◌≤◌, List, Some, length, sym, ap, ◌∙◌, subst, arith}
use Rattle.bw_types.specs.declared.point.Point.{Point}
use Rattle.ports.specs.Pages.{PageMap}
use Rattle.page_layout.specs.CutPage.{IsCutPage, IsTyped, cut_page_in, cut_page_page}
use Rattle.page_layout.specs.CutPageLaws.{cut_page_in-page, entries-filled}
use Rattle.page_layout.specs.PointLeaf as leaf
use Rattle.page_layout.specs.PointLeafLaws.{point_leaf_in-page}
use Rattle.page_layout.specs.Spelled.{Spells, SpellsNone}
use Rattle.page_layout.specs.declared.cut_page.CutNode.{CutNode}
use Rattle.page_layout.specs.declared.cut_page.CutPage.{CutPage}
use Rattle.page_layout.specs.declared.point_leaf.PointLeaf.{PointLeaf}
use Rattle.cut_parts.specs.Spelling.{HoldsCuts, HoldsLeaf, pages_of_cuts, is_cuts, is_leaf, nodes_in, point_pages, points_in}
use Rattle.cut_parts.specs.Nodes.{AreNodes, LeavesHoldPoints, PagesHoldNodes}

pub cuts_held : (pages : PageMap) (page : ℕ) (cuts : CutPage) → pages page ≡ Some (cut_page_page cuts) → Spells pages_of_cuts cuts (cut_page_page cuts)
    → HoldsCuts pages page cuts.nodes.items
unfolding is_cuts nodes_in
cuts_held pages page cuts there spells =
    let back : cut_page_in (cut_page_page cuts) ≡ cuts = cut_page_in-page cuts spells.typed spells.rules in
    record {
      bytes = cut_page_page cuts;
      there = there;
      spelled = subst (λ (c : CutPage). Spells pages_of_cuts c (cut_page_page cuts)) (sym back) spells;
      is = ap (λ (c : CutPage). c.nodes.items) back;
    }

pub no_cuts_held : (pages : PageMap) (page : ℕ) (nodes : List CutNode) → SpellsNone pages_of_cuts pages page → HoldsCuts pages page nodes → ⊥
unfolding is_cuts nodes_in
no_cuts_held pages page nodes none held = none (cut_page_in held.bytes) held.bytes held.there held.spelled

pub cuts_are_nodes : (cuts : CutPage) → IsCutPage cuts → IsTyped cuts → AreNodes cuts.nodes.items
cuts_are_nodes cuts rules typed = record { filled = rules.filled; fit = rules.nodes; typed = typed }

abbrev pub AreSoMany : List CutNode → Type 0
AreSoMany nodes = (3 ≤ length nodes) × (length nodes ≤ 127)

pub so_many_nodes : (cuts : CutPage) → IsCutPage cuts → AreSoMany cuts.nodes.items
so_many_nodes cuts rules =
    let sized = entries-filled 1 cuts.nodes.items rules.filled in
    (omega (arith, sized, rules.some), omega (arith, sized, rules.few))

pub leaf_held : (pages : PageMap) (page : ℕ) (held : PointLeaf) → pages page ≡ Some (leaf.point_leaf_page held) → Spells point_pages held (leaf.point_leaf_page held)
    → held.next ≡ 0 → HoldsLeaf pages page held.points.items
unfolding is_leaf points_in
leaf_held pages page held there spells none =
    let back : leaf.point_leaf_in (leaf.point_leaf_page held) ≡ held = point_leaf_in-page held spells.typed spells.rules in
    record {
      bytes = leaf.point_leaf_page held;
      there = there;
      spelled = (
        subst (λ (l : PointLeaf). Spells point_pages l (leaf.point_leaf_page held)) (sym back) spells,
        ap (λ (l : PointLeaf). l.next) back ∙ none,
      );
      is = ap (λ (l : PointLeaf). l.points.items) back;
    }

pub no_leaf_held : (pages : PageMap) (page : ℕ) (points : List Point) → SpellsNone point_pages pages page → HoldsLeaf pages page points → ⊥
unfolding is_leaf points_in
no_leaf_held pages page points none held = none (leaf.point_leaf_in held.bytes) held.bytes held.there held.spelled.0

-- No other leaf is held where one is spelled.
pub only_leaf_held : (pages : PageMap) (page : ℕ) (found : PointLeaf) (points : List Point)
    → ((other : PointLeaf) (bytes : List ℕ) → pages page ≡ Some bytes → Spells point_pages other bytes → found ≡ other)
    → HoldsLeaf pages page points → (found.next ≡ 0) × (length found.points.items ≡ length points)
unfolding is_leaf points_in
only_leaf_held pages page found points only held =
    let same : found ≡ leaf.point_leaf_in held.bytes = only (leaf.point_leaf_in held.bytes) held.bytes held.there held.spelled.0 in (
      ap (λ (l : PointLeaf). l.next) same ∙ held.spelled.1,
      ap (λ (l : PointLeaf). length l.points.items) same ∙ ap (λ (ps : List Point). length ps) held.is,
    )

pub pages_hold_nodes : PagesHoldNodes
unfolding is_cuts nodes_in
pages_hold_nodes pages page nodes others held other =
    let same : held.bytes ≡ other.bytes = cc in
    let cuts : CutPage = cut_page_in held.bytes in
    let are : AreNodes nodes = subst AreNodes held.is (cuts_are_nodes cuts held.spelled.rules held.spelled.typed) in
    let many = so_many_nodes cuts held.spelled.rules in
    let long = ap (λ (ns : List CutNode). length ns) held.is in
    (sym held.is ∙ ap (λ (bs : List ℕ). (cut_page_in bs).nodes.items) same ∙ other.is, are, omega (arith, many.0, long), omega (arith, many.1, long))

pub leaves_hold_points : LeavesHoldPoints
unfolding is_leaf points_in
leaves_hold_points pages page points others held other =
    let same : held.bytes ≡ other.bytes = cc in
    sym held.is ∙ ap (λ (bs : List ℕ). (leaf.point_leaf_in bs).points.items) same ∙ other.is
