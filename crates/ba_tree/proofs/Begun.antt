-- A border that begins.
use Rattle.std.proofs.Common.{◌≡◌, ℕ, ◌<◌, ◌≤◌, Some, None, List, ◌∷◌, length, sym, ap, subst, ◌∙◌, arith}
use Rattle.std.specs.Prelude.{IsPermutation}
use Rattle.std.proofs.lemmas.List.Sorted.{IsPermutation-map, IsPermutation-sym}
use Rattle.bw_types.specs.Without.{without_dimension}
use Rattle.bw_types.specs.Empty.{empty_tree}
use Rattle.bw_types.specs.declared.point.Point.{Point}
use Rattle.bw_types.specs.declared.tree.Tree.{Tree}
use Rattle.ports.specs.Frame.{Replaces}
use Rattle.ports.specs.FrameLaws.{Replaces-same}
use Rattle.ports.specs.Pages.{PageMap}
use Rattle.page_layout.specs.Footprint.{NamesNoneTwice}
use Rattle.cut_parts.specs.Borders.{IsBuiltOf, TakesPoint}
use Rattle.cut_parts.specs.Parts.{Part, Leaf, Split, border_points, points_of}
use Rattle.cut_parts.specs.Spelling.{HoldsLeaf, first_page}
use Rattle.cut_parts.specs.Standing.{HaveLaws, PartStands}
use Rattle.cut_parts.specs.declared.border_tree.BorderTree.{Ghosts}
use Rattle.ba_tree.specs.Additions.{BorderBegun, BorderGrown}

-- a part of 64 points is a leaf, which its page holds
pub leaf_held : {B : Type 0} (g : Ghosts B) (m : PageMap) (part : Part) (page n : ℕ) → n ≤ 64 → PartStands g m n part → first_page part ≡ Some page
    → HoldsLeaf m page (points_of part) × (length (points_of part) ≡ n)
leaf_held g m (Leaf first points) page n few stood begins =
    let same : first ≡ page = cc in
    (subst (λ (q : ℕ). HoldsLeaf m q points) same stood.spelled, sym stood.shape.0)
leaf_held g m (Split home dimension key low border low_side high_side) page n few stood begins = let many = stood.shape.0.many in absurd (omega (arith, few, many))

pub leaf_begins : {B : Type 0} (g : Ghosts B) (m : PageMap) (part : Part) (n : ℕ) → n ≤ 64 → PartStands g m n part → first_page part ≡ None → ⊥
leaf_begins g m (Leaf first points) n few stood begins = cc
leaf_begins g m (Split home dimension key low border low_side high_side) n few stood begins = let many = stood.shape.0.many in omega (arith, few, many)

module _ {B : Type 0} (g : Ghosts B) (laws : HaveLaws g) where
  -- built of the points in another order
  pub begun_of : (m0 m1 : PageMap) (dimension : ℕ) (begun : Tree) (all fitted kept others : List Point) (point : Point) → all ≡ point ∷ others → IsPermutation all fitted
      → kept ≡ border_points dimension fitted → IsBuiltOf g.stands g.footprint g.balanced m0 m1 begun kept → BorderBegun g m0 m1 dimension begun others point
  begun_of m0 m1 dimension begun all fitted kept others point is order kept_are built = record {
    stood = laws.any_order m1 begun kept (border_points dimension (point ∷ others)) built.stood
        (subst (λ (ps : List Point). IsPermutation ps (border_points dimension (point ∷ others))) (sym kept_are)
        (IsPermutation-map (without_dimension dimension) fitted (point ∷ others) (subst (λ (ps : List Point). IsPermutation fitted ps) is (IsPermutation-sym all fitted order))));
    balance = built.balance;
    change = built.change;
  }

  -- for as long as the side is a leaf
  pub none_grown : (m : PageMap) (dimension low : ℕ) (border : Tree) (points : List Point) (point : Point) → low < 64 → border ≡ empty_tree
      → BorderGrown g m m dimension low border border points point
  none_grown m dimension low border points point few none = record {
    few = λ _. none;
    many = λ more. absurd (omega (arith, more, few));
    change = Replaces-same (g.footprint m border) m;
    once = subst NamesNoneTwice (sym (ap (g.footprint m) none ∙ (laws.empty m).1)) tt;
    balance = λ _ more. absurd (omega (arith, more, few));
  }

  pub first_grown : (m0 m1 : PageMap) (dimension low : ℕ) (border grown : Tree) (points : List Point) (point : Point) → low ≡ 64 → border ≡ empty_tree
      → BorderBegun g m0 m1 dimension grown points point → BorderGrown g m0 m1 dimension low border grown points point
  first_grown m0 m1 dimension low border grown points point full none begun = record {
    few = λ less. absurd (omega (arith, less, full));
    many = λ _. begun.stood;
    change = subst (λ (ps : List ℕ). Replaces ps (g.footprint m1 grown) m0 m1) (sym (ap (g.footprint m0) none ∙ (laws.empty m0).1)) begun.change;
    once = laws.once m1 grown (border_points dimension (point ∷ points)) begun.stood;
    balance = λ _ _. begun.balance;
  }

  pub more_grown : (m0 m1 : PageMap) (dimension low : ℕ) (border grown : Tree) (points : List Point) (point : Point) → 64 < low
      → TakesPoint g.stands g.footprint g.balanced m0 m1 border grown (border_points dimension points) (without_dimension dimension point)
      → BorderGrown g m0 m1 dimension low border grown points point
  more_grown m0 m1 dimension low border grown points point more took = record {
    few = λ less. absurd (omega (arith, less, more));
    many = λ _. took.stood;
    change = took.change;
    once = laws.once m1 grown (border_points dimension (point ∷ points)) took.stood;
    balance = λ before _. took.balance (before more);
  }
