-- The sides of a cut whose part stands and is balanced, and the part of a page of cuts.
use Rattle.std.proofs.Common.{◌≡◌, ℕ, suc, ◌-◌, ◌*◌, ◌<◌, ◌≤◌, Some, None, List, [], ◌∷◌, ◌++◌, length, slice_index, get_or, refl, sym, ap, ◌∙◌, subst, append-nil, arith}
use Rattle.std.specs.List.{All}
use Rattle.bw_types.specs.Without.{without_dimension}
use Rattle.bw_types.specs.declared.point.Point.{Point}
use Rattle.bw_types.specs.declared.tree.Tree.{Tree}
use Rattle.ports.specs.Pages.{PageMap}
use Rattle.page_layout.specs.declared.cut_page.CutNode.{CutNode}
use Rattle.page_layout.specs.declared.cut_page.CutNode.TheVariants.{Cut}
use Rattle.cut_parts.specs.Damage.{IsSoundCut}
use Rattle.cut_parts.specs.Parts.{Part, Leaf, Split, border_points, points_of}
use Rattle.cut_parts.specs.Spelling.{HoldsCuts, HoldsLeaf, first_page, is_cuts, nodes_in, nodes_of, part_in}
use Rattle.cut_parts.specs.Standing.{HaveLaws, PartBalanced, PartStands}
use Rattle.cut_parts.specs.declared.border_tree.BorderTree.{Ghosts}
use Rattle.cut_parts.proofs.Depths.{parts_are_counted}
use Rattle.cut_parts.proofs.Halves.{length_mapped}
use Rattle.cut_parts.proofs.PartNodes.{IsCutOf, cut_of, holds_one}
use Rattle.cut_parts.proofs.Telling.{told_part}
use Rattle.image_check.specs.Walked.{AreLow}

-- Nodes begin with those of no two parts of n points that stand.
pub same_part : {B : Type 0} (g : Ghosts B) (m : PageMap) (n : ℕ) (nodes : List CutNode) (one other : Part) (rest others : List CutNode)
    → nodes ≡ nodes_of one ++ rest → nodes ≡ nodes_of other ++ others → PartStands g m n one → PartStands g m n other → one ≡ other
same_part g m n nodes one other rest others one_is other_is one_stands other_stands =
    let first : part_in m (2 * n) n nodes ≡ (one, rest) =
    ap (λ (ns : List CutNode). part_in m (2 * n) n ns) one_is ∙ told_part m (2 * n) n one rest (omega arith) one_stands.shape one_stands.spelled in
    let second : part_in m (2 * n) n nodes ≡ (other, others) =
    ap (λ (ns : List CutNode). part_in m (2 * n) n ns) other_is ∙ told_part m (2 * n) n other others (omega arith) other_stands.shape other_stands.spelled in
    ap (λ (x : Part × List CutNode). x.0) (sym first ∙ second)

-- The sides of a part that is a cut.
pub record HasSides {B : Type 0} (g : Ghosts B) (m : PageMap) (n dimension key low : ℕ) (border : Tree) (nodes rest : List CutNode) : Type 0 where
  pub low_side : Part
  pub high_side : Part
  pub nodes_are : nodes ≡ nodes_of low_side ++ (nodes_of high_side ++ rest)
  pub sound : IsSoundCut (suc g.DIMS) n dimension low border
  pub low_stands : PartStands g m low low_side
  pub low_balance : PartBalanced g m low_side
  pub high_stands : PartStands g m (n - low) high_side
  pub high_balance : PartBalanced g m high_side
  pub lows : AreLow g m dimension key low border (points_of low_side)
  pub highs : All (λ p. key ≤ slice_index p.keys dimension) (points_of high_side)

pub sides_of : {B : Type 0} (g : Ghosts B) → HaveLaws g → (m : PageMap) (n dimension key low : ℕ) (border : Tree) (nodes others rest : List CutNode) (part : Part)
    → Cut dimension key low border ∷ others ≡ nodes → nodes ≡ nodes_of part ++ rest → PartStands g m n part → PartBalanced g m part
    → HasSides g m n dimension key low border others rest
sides_of g laws m n dimension key low border nodes others rest part begun nodes_are stands balance =
    let cut : IsCutOf part dimension key low border others rest = cut_of part dimension key low border others rest (begun ∙ nodes_are) in
    let whole : Part = Split None dimension key low border cut.low_side cut.high_side in
    let s : PartStands g m n whole = subst (λ (p : Part). PartStands g m n p) cut.is stands in
    let b : PartBalanced g m whole = subst (λ (p : Part). PartBalanced g m p) cut.is balance in
    let points : List Point = points_of cut.low_side in
    let counted = parts_are_counted cut.low_side low s.shape.1 in
    record {
      low_side = cut.low_side;
      high_side = cut.high_side;
      nodes_are = cut.nodes_are;
      sound = record {
        in_dims = s.parted.0;
        balanced = s.shape.0;
        few = s.borders.0;
        many = λ more.
            let tree = laws.counted m border (border_points dimension points) (s.borders.1 more) in
            let mapped = length_mapped (without_dimension dimension) points in
            omega (arith, tree, mapped, counted);
      };
      low_stands = record { shape = s.shape.1; parted = s.parted.3; borders = s.borders.2; spelled = s.spelled.1 };
      low_balance = b.1;
      high_stands = record { shape = s.shape.2; parted = s.parted.4; borders = s.borders.3; spelled = s.spelled.2 };
      high_balance = b.2;
      lows = record { below = s.parted.1; stood = s.borders.1; balance = b.0 };
      highs = s.parted.2;
    }

-- A part that begins with a page of cuts, without this page: its nodes are those of the page.
pub record IsInPage {B : Type 0} (g : Ghosts B) (m : PageMap) (n : ℕ) (nodes : List CutNode) : Type 0 where
  pub cut : Part
  pub stands : PartStands g m n cut
  pub balance : PartBalanced g m cut
  pub inside : first_page cut ≡ None
  pub nodes_are : nodes ≡ nodes_of cut ++ []

pub in_page : {B : Type 0} (g : Ghosts B) (m : PageMap) (n page : ℕ) (nodes : List CutNode) (part : Part) → first_page part ≡ Some page → 64 < n
    → HoldsCuts m page nodes → PartStands g m n part → PartBalanced g m part → IsInPage g m n nodes
in_page g m n page nodes (Leaf first points) begins many holds s b = absurd (let few = s.shape.2 in omega (arith, many, few))
in_page g m n page nodes (Split None dimension key low border low_side high_side) begins many holds s b = absurd cc
in_page g m n page nodes (Split (Some first) dimension key low border low_side high_side) begins many holds s b =
    let same : first ≡ page = cc in
    let own : List CutNode = Cut dimension key low border ∷ (nodes_of low_side ++ nodes_of high_side) in
    record {
      cut = Split None dimension key low border low_side high_side;
      stands = record { shape = s.shape; parted = s.parted; borders = s.borders; spelled = (tt, s.spelled.1, s.spelled.2) };
      balance = b;
      inside = refl;
      nodes_are = holds_one is_cuts nodes_in m page nodes own holds (subst (λ (p : ℕ). HoldsCuts m p own) same s.spelled.0) ∙ sym (append-nil own);
    }

-- a page that begins a part of more points than a leaf takes holds cuts
pub page_holds : {B : Type 0} (g : Ghosts B) (m : PageMap) (n page : ℕ) (part : Part) → first_page part ≡ Some page → 64 < n
    → PartStands g m n part → (nodes : List CutNode) × HoldsCuts m page nodes
page_holds g m n page (Leaf first points) begins many s = absurd (let few = s.shape.2 in omega (arith, many, few))
page_holds g m n page (Split None dimension key low border low_side high_side) begins many s = absurd cc
page_holds g m n page (Split (Some first) dimension key low border low_side high_side) begins many s =
    let same : first ≡ page = cc in
    let own : List CutNode = Cut dimension key low border ∷ (nodes_of low_side ++ nodes_of high_side) in
    (own, subst (λ (p : ℕ). HoldsCuts m p own) same s.spelled.0)

-- and one of fewer is a leaf of these
pub leaf_holds : {B : Type 0} (g : Ghosts B) (m : PageMap) (n page : ℕ) (part : Part) → first_page part ≡ Some page → n ≤ 64
    → PartStands g m n part → (held : List Point) × HoldsLeaf m page held × (length held ≡ n)
leaf_holds g m n page (Leaf first points) begins few s = let same : first ≡ page = cc in (points, subst (λ (p : ℕ). HoldsLeaf m p points) same s.spelled, sym s.shape.0)
leaf_holds g m n page (Split home dimension key low border low_side high_side) begins few s = absurd (let many = s.shape.0.many in omega (arith, many, few))

-- the nodes begin with the node that is read first
pub first_node : (nodes : List CutNode) (node : CutNode) → 0 < length nodes → ((d : CutNode) → node ≡ get_or nodes 0 d)
    → (others : List CutNode) × (nodes ≡ node ∷ others)
first_node [] node some is = absurd (omega (arith, some))
first_node (first ∷ others) node some is = (others, ap (λ (n : CutNode). n ∷ others) (sym (is node)))
