-- What a page holds into which nodes or points were put.
use Rattle.std.proofs.Common.{◌≡◌, ℕ, ◌==◌, ◌≤◌, Bool, true, false, IsTrue, List, length, refl, sym, ap, ◌∙◌, subst, arith, eq-eqb}
use Rattle.std.specs.Prelude.{IfOk, None, OnOk, Some, Result, Ok, Err}
use Rattle.bw_types.specs.declared.point.Point.{Point}
use Rattle.ports.specs.declared.page.StageFault.{StageFault}
use Rattle.ports.specs.Pages.{PageMap, put_page}
use Rattle.page_layout.specs.CutPage as cuts
use Rattle.page_layout.specs.CutPageLaws.{cut_page_in-page, entries-filled}
use Rattle.page_layout.specs.PointLeaf as leaf
use Rattle.page_layout.specs.PointLeafLaws.{point_leaf_in-page}
use Rattle.page_layout.specs.declared.cut_page.CutPage.{CutPage}
use Rattle.page_layout.specs.declared.point_leaf.PointLeaf.{PointLeaf}
use Rattle.cut_parts.specs.Spelling.{HoldsCuts, HoldsLeaf, is_cuts, is_leaf, nodes_in, points_in}
use Rattle.cut_parts.specs.Nodes.{AreNodes}

-- Nodes that are not too many and not an entry alone are those of a page.
pub is_page : (page : CutPage) → AreNodes page.nodes.items → 3 ≤ length page.nodes.items → length page.nodes.items ≤ 127 → cuts.IsCutPage page
is_page page are some few =
    let sized = entries-filled 1 page.nodes.items are.filled in
    record { some = omega (arith, sized); few = omega (arith, sized); filled = are.filled; nodes = are.fit }

pub holds_cuts : (map : PageMap) (page : ℕ) (value : CutPage) → cuts.IsCutPage value → cuts.IsTyped value → map page ≡ Some (cuts.cut_page_page value)
    → HoldsCuts map page value.nodes.items
unfolding is_cuts nodes_in
holds_cuts map page value rules typed there =
    let back : cuts.cut_page_in (cuts.cut_page_page value) ≡ value = cut_page_in-page value typed rules in
    record {
      bytes = cuts.cut_page_page value;
      there = there;
      spelled = record {
        spelled = ap cuts.cut_page_page (sym back);
        rules = subst cuts.IsCutPage (sym back) rules;
        typed = subst cuts.IsTyped (sym back) typed;
      };
      is = ap (λ (p : CutPage). p.nodes.items) back;
    }

pub holds_leaf : (map : PageMap) (page : ℕ) (value : PointLeaf) (points : List Point) → value.points.items ≡ points → value.next ≡ 0
    → leaf.IsPointLeaf value → leaf.IsTyped value → map page ≡ Some (leaf.point_leaf_page value) → HoldsLeaf map page points
unfolding is_leaf points_in
holds_leaf map page value points same last rules typed there =
    let back : leaf.point_leaf_in (leaf.point_leaf_page value) ≡ value = point_leaf_in-page value typed rules in
    record {
      bytes = leaf.point_leaf_page value;
      there = there;
      spelled = (
        record {
          spelled = ap leaf.point_leaf_page (sym back);
          rules = subst leaf.IsPointLeaf (sym back) rules;
          typed = subst leaf.IsTyped (sym back) typed;
        },
        ap (λ (p : PointLeaf). p.next) back ∙ last,
      );
      is = ap (λ (p : PointLeaf). p.points.items) back ∙ same;
    }

-- the page that was put
pub put_there : (before after : PageMap) (page : ℕ) (bytes : List ℕ) → after ≡ put_page before page bytes → after page ≡ Some bytes
put_there before after page bytes put =
    let named : (page == page) ≡ true = eq-eqb page page refl in
    let there : put_page before page bytes page ≡ Some bytes = rw named refl in
    ap (λ (map : PageMap). map page) put ∙ there

pub made_cuts : (result : Result ℕ StageFault) (tells : Bool) (before after : PageMap) (value : CutPage) → AreNodes value.nodes.items
    → 3 ≤ length value.nodes.items → length value.nodes.items ≤ 127
    → IfOk result (λ page. IsTrue tells → (before page ≡ None) × (after page ≡ Some (cuts.cut_page_page value)) × ((p : ℕ) → (page == p) ≡ false → after p ≡ before p))
    → IfOk result (λ page. IsTrue tells → HoldsCuts after page value.nodes.items)
made_cuts (Err fault) tells before after value are some few made = made
made_cuts (Ok page) tells before after value are some few made = λ told. holds_cuts after page value (is_page value are some few) are.typed (made told).1

pub put_cuts : {X : Type 0} (result : Result X StageFault) (tells : Bool) (before after : PageMap) (page : ℕ) (value : CutPage) → AreNodes value.nodes.items
    → 3 ≤ length value.nodes.items → length value.nodes.items ≤ 127
    → OnOk result (IsTrue tells → after ≡ put_page before page (cuts.cut_page_page value))
    → OnOk result (IsTrue tells → HoldsCuts after page value.nodes.items)
put_cuts (Err fault) tells before after page value are some few put = put
put_cuts (Ok done) tells before after page value are some few put = λ told.
    holds_cuts after page value (is_page value are some few) are.typed (put_there before after page (cuts.cut_page_page value) (put told))

-- A leaf that is made of points.
pub record IsLeafOf (value : PointLeaf) (points : List Point) : Type 0 where
  pub same : value.points.items ≡ points
  pub last : value.next ≡ 0
  pub typed : leaf.IsTyped value
  pub some : 1 ≤ length points
  pub few : length points ≤ 64

leaf_rules : (value : PointLeaf) (points : List Point) → IsLeafOf value points → leaf.IsPointLeaf value
leaf_rules value points is =
    let sized : length value.points.items ≡ length points = ap (λ (ps : List Point). length ps) is.same in
    record { some = omega (arith, sized, is.some); few = omega (arith, sized, is.few) }

pub made_leaf : (result : Result ℕ StageFault) (tells : Bool) (before after : PageMap) (value : PointLeaf) (points : List Point) → IsLeafOf value points
    → IfOk result (λ page. IsTrue tells → (before page ≡ None) × (after page ≡ Some (leaf.point_leaf_page value)) × ((p : ℕ) → (page == p) ≡ false → after p ≡ before p))
    → IfOk result (λ page. IsTrue tells → HoldsLeaf after page points)
made_leaf (Err fault) tells before after value points is made = made
made_leaf (Ok page) tells before after value points is made = λ told.
    holds_leaf after page value points is.same is.last (leaf_rules value points is) is.typed (made told).1

pub put_leaf : {X : Type 0} (result : Result X StageFault) (tells : Bool) (before after : PageMap) (page : ℕ) (value : PointLeaf) (points : List Point) → IsLeafOf value points
    → OnOk result (IsTrue tells → after ≡ put_page before page (leaf.point_leaf_page value))
    → OnOk result (IsTrue tells → HoldsLeaf after page points)
put_leaf (Err fault) tells before after page value points is put = put
put_leaf (Ok done) tells before after page value points is put = λ told.
    holds_leaf after page value points is.same is.last (leaf_rules value points is) is.typed (put_there before after page (leaf.point_leaf_page value) (put told))
