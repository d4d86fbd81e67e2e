-- The part of a page of cuts, the sides of a cut, and the part of a tree.
use Rattle.std.proofs.Common.{◌≡◌, ℕ, suc, ◌-◌, ◌<◌, ◌≤◌, Some, None, List, [], ◌∷◌, ◌++◌, length, get_or, inl, inr, refl, sym, ap, ◌∙◌, subst, append-nil, arith}
use Rattle.std.proofs.lemmas.Bool.{cases_lt}
use Rattle.bw_types.specs.Empty.{empty_tree}
use Rattle.bw_types.specs.Without.{without_dimension}
use Rattle.bw_types.specs.declared.point.Point.{Point}
use Rattle.bw_types.specs.declared.tree.Tree.{Tree}
use Rattle.ports.specs.Pages.{PageMap}
use Rattle.page_layout.specs.declared.cut_page.CutNode.{CutNode}
use Rattle.page_layout.specs.declared.cut_page.CutNode.TheVariants.{Cut}
use Rattle.cut_parts.specs.Damage.{IsSoundCut}
use Rattle.cut_parts.specs.Parts.{Part, Leaf, Split, border_points, points_of}
use Rattle.cut_parts.specs.Spelling.{HoldsCuts, first_page, is_cuts, nodes_in, nodes_of}
use Rattle.cut_parts.specs.Standing.{CutsStand, HaveLaws, IsPartOf, PartStands, levels_of, part_pages}
use Rattle.cut_parts.specs.declared.border_tree.BorderTree.{Ghosts}
use Rattle.cut_parts.proofs.Depths.{parts_are_counted}
use Rattle.cut_parts.proofs.Halves.{length_mapped}
use Rattle.cut_parts.proofs.PartNodes.{IsCutOf, holds_one}

-- A part that begins with a page of cuts, without this page: its nodes are those of the page.
pub record IsInPage {B : Type 0} (g : Ghosts B) (a : PageMap) (n page : ℕ) (nodes : List CutNode) (part : Part) : Type 0 where
  pub cut : Part
  pub stands : PartStands g a n cut
  pub inside : first_page cut ≡ None
  pub nodes_are : nodes ≡ nodes_of cut ++ []
  pub points : points_of cut ≡ points_of part
  pub pages : part_pages g a part ≡ page ∷ part_pages g a cut

pub in_page : {B : Type 0} (g : Ghosts B) (a : PageMap) (n page : ℕ) (nodes : List CutNode) (part : Part) → first_page part ≡ Some page → 64 < n
    → HoldsCuts a page nodes → PartStands g a n part → IsInPage g a n page nodes part
in_page g a n page nodes (Leaf first points) begins many holds s = absurd (let few = s.shape.2 in omega (arith, many, few))
in_page g a n page nodes (Split None dimension key low border low_side high_side) begins many holds s = absurd cc
in_page g a n page nodes (Split (Some first) dimension key low border low_side high_side) begins many holds s =
    let same : first ≡ page = cc in
    let own : List CutNode = Cut dimension key low border ∷ (nodes_of low_side ++ nodes_of high_side) in
    let pages : List ℕ = g.footprint a border ++ (part_pages g a low_side ++ part_pages g a high_side) in
    record {
      cut = Split None dimension key low border low_side high_side;
      stands = record { shape = s.shape; parted = s.parted; borders = s.borders; spelled = (tt, s.spelled.1, s.spelled.2) };
      inside = refl;
      nodes_are = holds_one is_cuts nodes_in a page nodes own holds (subst (λ (p : ℕ). HoldsCuts a p own) same s.spelled.0) ∙ sym (append-nil own);
      points = refl;
      pages = ap (λ (p : ℕ). p ∷ pages) same;
    }

-- The border and the two sides of a part that is a cut.
pub record AreSides {B : Type 0} (g : Ghosts B) (a : PageMap) (n dimension low : ℕ) (border : Tree) (part low_side high_side : Part) : Type 0 where
  pub low_stands : PartStands g a low low_side
  pub high_stands : PartStands g a (n - low) high_side
  pub points : points_of part ≡ points_of low_side ++ points_of high_side
  pub pages : part_pages g a part ≡ g.footprint a border ++ (part_pages g a low_side ++ part_pages g a high_side)
  pub few : low ≤ 64 → border ≡ empty_tree
  pub many : 64 < low → g.stands a border (border_points dimension (points_of low_side))

pub sides_of : {B : Type 0} (g : Ghosts B) (a : PageMap) (n dimension key low : ℕ) (border : Tree) (part : Part) (nodes rest : List CutNode)
    (cut : IsCutOf part dimension key low border nodes rest) → PartStands g a n part → AreSides g a n dimension low border part cut.low_side cut.high_side
sides_of g a n dimension key low border part nodes rest cut stands =
    let s : PartStands g a n (Split None dimension key low border cut.low_side cut.high_side) = subst (λ (p : Part). PartStands g a n p) cut.is stands in
    record {
      low_stands = record { shape = s.shape.1; parted = s.parted.3; borders = s.borders.2; spelled = s.spelled.1 };
      high_stands = record { shape = s.shape.2; parted = s.parted.4; borders = s.borders.3; spelled = s.spelled.2 };
      points = ap points_of cut.is;
      pages = ap (λ (p : Part). part_pages g a p) cut.is;
      few = s.borders.0;
      many = s.borders.1;
    }

-- the nodes begin with the node that is read first
pub first_node : (nodes : List CutNode) (node : CutNode) → 0 < length nodes → ((d : CutNode) → node ≡ get_or nodes 0 d)
    → (others : List CutNode) × (nodes ≡ node ∷ others)
first_node [] node some is = absurd (omega (arith, some))
first_node (first ∷ others) node some is = (others, ap (λ (n : CutNode). n ∷ others) (sym (is node)))

has_points : (n : ℕ) → 0 < levels_of n → 1 ≤ n
has_points n some = elim (cases_lt 0 n) [
  | inl more ↦ more
  | inr less ↦ let none : n ≡ 0 = omega (arith, less) in absurd (let zero : 0 < 0 = subst (λ (m : ℕ). 0 < levels_of m) none some in omega (arith, zero))
]

-- a tree with levels is a part
pub tree_has_part : {B : Type 0} (g : Ghosts B) (a : PageMap) (tree : Tree) (points : List Point) → 0 < tree.levels → CutsStand g a tree points
    → (part : Part) × IsPartOf g a tree points part
tree_has_part g a tree points some s = s.part (has_points (length points) (subst (λ (n : ℕ). 0 < n) s.levels some))

pub counted_has_part : {B : Type 0} (g : Ghosts B) (a : PageMap) (tree : Tree) (points : List Point) → 0 < tree.count → CutsStand g a tree points
    → (part : Part) × IsPartOf g a tree points part
counted_has_part g a tree points some s = let count = s.count in s.part (omega (arith, some, count))

-- The cut of a part that stands is sound.
pub cut_is_sound : {B : Type 0} (g : Ghosts B) → HaveLaws g → (a : PageMap) (n dimension key low : ℕ) (border : Tree) (part : Part) (nodes rest : List CutNode)
    (cut : IsCutOf part dimension key low border nodes rest) → PartStands g a n part → IsSoundCut (suc g.DIMS) n dimension low border
cut_is_sound g laws a n dimension key low border part nodes rest cut stands =
    let s : PartStands g a n (Split None dimension key low border cut.low_side cut.high_side) = subst (λ (p : Part). PartStands g a n p) cut.is stands in
    let points : List Point = points_of cut.low_side in
    let counted = parts_are_counted cut.low_side low s.shape.1 in
    record {
      in_dims = s.parted.0;
      balanced = s.shape.0;
      few = s.borders.0;
      many = λ more.
          let tree = laws.counted a border (border_points dimension points) (s.borders.1 more) in
          let mapped = length_mapped (without_dimension dimension) points in
          omega (arith, tree, mapped, counted);
    }
