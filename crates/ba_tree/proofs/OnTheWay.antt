-- What an addition finds on its way through the nodes of a page.
use Rattle.std.proofs.Common.{◌≡◌, ℕ, suc, ◌+◌, ◌-◌, ◌<◌, ◌≤◌, Option, Some, None, List, [], ◌∷◌, ◌++◌, length, get_or, set, drop, sym, ap, ◌∙◌, subst, arith, append_assoc, length-append}
use Rattle.bw_types.specs.Without.{without_dimension}
use Rattle.bw_types.specs.declared.point.Point.{Point}
use Rattle.bw_types.specs.declared.tree.Tree.{Tree}
use Rattle.ports.specs.Pages.{PageMap}
use Rattle.page_layout.specs.declared.cut_page.CutNode.{CutNode}
use Rattle.page_layout.specs.declared.cut_page.CutNode.TheVariants.{Cut, Entry}
use Rattle.cut_parts.specs.Damage.{IsSoundCut, after_parts}
use Rattle.cut_parts.specs.Parts.{Part, Leaf, Split, border_points, points_of}
use Rattle.cut_parts.specs.Spelling.{first_page, nodes_of}
use Rattle.cut_parts.specs.Standing.{HaveLaws, PartBalanced, PartStands, part_pages}
use Rattle.cut_parts.specs.declared.border_tree.BorderTree.{Ghosts}
use Rattle.cut_parts.proofs.BorderPoints.{left_may}
use Rattle.cut_parts.proofs.Depths.{parts_are_counted}
use Rattle.cut_parts.proofs.Frames.{agree_left, part_balance}
use Rattle.cut_parts.proofs.Halves.{length_mapped}
use Rattle.cut_parts.proofs.PartNodes.{entry_of}
use Rattle.cut_parts.proofs.Places.{after_part}
use Rattle.ba_tree.specs.Additions.{BorderGrown, BorderTakes, MayTake}
use Rattle.ba_tree.proofs.Growing.{CutAt}
use Rattle.ba_tree.proofs.NewPoints.{new_low}
use Rattle.ba_tree.proofs.Places.{drop_front, node_at, one_more, set_at}
use Rattle.ba_tree.proofs.CutSides.{high_takes, low_stood, side_after_border}

some_nodes : (part : Part) → 1 ≤ length (nodes_of part)
some_nodes (Leaf page points) = omega arith
some_nodes (Split (Some page) dimension key low border low_side high_side) = omega arith
some_nodes (Split None dimension key low border low_side high_side) = omega arith

-- the nodes of a part begin at a place that is within the page
pub is_within : (part : Part) (nodes front rest : List CutNode) (place : ℕ) → nodes ≡ front ++ (nodes_of part ++ rest) → place ≡ length front → place < length nodes
is_within part nodes front rest place is at =
    let some = some_nodes part in
    let whole : length nodes ≡ length front + length (nodes_of part ++ rest) = ap (λ (ns : List CutNode). length ns) is ∙ length-append front (nodes_of part ++ rest) in
    let more = length-append (nodes_of part) rest in
    omega (arith, some, whole, more, at)

-- a part inside the page begins with no entry
pub no_entry : (part : Part) (nodes front rest : List CutNode) (place child : ℕ) → nodes ≡ front ++ (nodes_of part ++ rest) → place ≡ length front
    → place < length nodes → ((d : CutNode) → Entry child ≡ get_or nodes place d) → first_page part ≡ None → ⊥
no_entry part nodes front rest place child is at lt read inside =
    let first = node_at nodes front (nodes_of part ++ rest) place (Entry child) is at lt read in
    let begins : first_page part ≡ Some child = (entry_of part child first.0 rest (sym first.1)).0 in
    cc

-- the page with which the part begins that is an entry
pub begins_with : (part : Part) (nodes front rest : List CutNode) (place child : ℕ) → nodes ≡ front ++ (nodes_of part ++ rest) → place ≡ length front
    → place < length nodes → ((d : CutNode) → Entry child ≡ get_or nodes place d) → first_page part ≡ Some child
begins_with part nodes front rest place child is at lt read =
    let first = node_at nodes front (nodes_of part ++ rest) place (Entry child) is at lt read in
    (entry_of part child first.0 rest (sym first.1)).0

-- where the nodes of the high side begin
pub after_low : (part : Part) (nodes front rest : List CutNode) (place dimension key low : ℕ) (border : Tree) (c : CutAt part nodes front rest place dimension key low border)
    → place ≡ length front → after_parts 1 (drop (place + 1) nodes) ≡ nodes_of c.high_side ++ rest
after_low part nodes front rest place dimension key low border c at =
    ap (λ (ns : List CutNode). after_parts 1 (drop (place + 1) ns)) c.whole
    ∙ ap (λ (ns : List CutNode). after_parts 1 ns) (drop_front front (nodes_of c.low_side ++ (nodes_of c.high_side ++ rest)) (Cut dimension key low border) place at)
    ∙ after_part c.low_side 0 (nodes_of c.high_side ++ rest)

pub is_inside : (part : Part) (nodes front rest : List CutNode) (place dimension key low : ℕ) (border : Tree) → CutAt part nodes front rest place dimension key low border
    → first_page part ≡ None
is_inside part nodes front rest place dimension key low border c = ap (λ (q : Part). first_page q) c.is

module _ {B : Type 0} (g : Ghosts B) (laws : HaveLaws g) where
  -- a cut of a part that stands is sound
  pub cut_sound : (m : PageMap) (part : Part) (nodes front rest : List CutNode) (place n dimension key low : ℕ) (border : Tree)
      → CutAt part nodes front rest place dimension key low border → PartStands g m n part → IsSoundCut (suc g.DIMS) n dimension low border
  cut_sound m part nodes front rest place n dimension key low border c stood =
      let s : PartStands g m n (Split None dimension key low border c.low_side c.high_side) = subst (λ (q : Part). PartStands g m n q) c.is stood in
      let points : List Point = points_of c.low_side in
      let counted = parts_are_counted c.low_side low s.shape.1 in
      record {
        in_dims = s.parted.0;
        balanced = s.shape.0;
        few = s.borders.0;
        many = λ more.
            let tree = laws.counted m border (border_points dimension points) (s.borders.1 more) in
            let mapped = length_mapped (without_dimension dimension) points in
            omega (arith, tree, mapped, counted);
      }

  pub cut_many : (m : PageMap) (part : Part) (nodes front rest : List CutNode) (place n dimension key low : ℕ) (border : Tree)
      → CutAt part nodes front rest place dimension key low border → PartStands g m n part → 64 < n
  cut_many m part nodes front rest place n dimension key low border c stood =
      let s : PartStands g m n (Split None dimension key low border c.low_side c.high_side) = subst (λ (q : Part). PartStands g m n q) c.is stood in
      s.shape.0.many

  pub border_balanced : (m : PageMap) (part : Part) (nodes front rest : List CutNode) (place dimension key low : ℕ) (border : Tree)
      → CutAt part nodes front rest place dimension key low border → PartBalanced g m part → 64 < low → g.balanced m border
  border_balanced m part nodes front rest place dimension key low border c balanced =
      let whole : PartBalanced g m (Split None dimension key low border c.low_side c.high_side) = subst (λ (q : Part). PartBalanced g m q) c.is balanced in
      whole.0

  -- A side of a cut, between others, that may take the point.
  pub record SideAt (m : PageMap) (nodes : List CutNode) (place n : ℕ) (balanced : Type 0) (p : Point) : Type 0 where
    pub side : Part
    pub before : List CutNode
    pub others : List CutNode
    pub is : nodes ≡ before ++ (nodes_of side ++ others)
    pub at : place ≡ length before
    pub takes : MayTake g m n side p
    pub balance : balanced → PartBalanced g m side

  pub high_side : (m : PageMap) (part : Part) (nodes front rest : List CutNode) (place high n dimension key low : ℕ) (border : Tree) (p : Point)
      → (c : CutAt part nodes front rest place dimension key low border) → place ≡ length front → MayTake g m n part p
      → high ≡ length nodes - length (nodes_of c.high_side ++ rest) → SideAt m nodes high (n - low) (PartBalanced g m part) p
  high_side m part nodes front rest place high n dimension key low border p c at take high_is =
      let node : CutNode = Cut dimension key low border in
      let behind : List CutNode = nodes_of c.high_side ++ rest in
      let lows : List CutNode = nodes_of c.low_side in
      let before : List CutNode = front ++ (node ∷ lows) in
      let whole : nodes ≡ before ++ behind = c.whole ∙ sym (append_assoc front (node ∷ lows) behind) in
      let long : length nodes ≡ length before + length behind = ap (λ (ns : List CutNode). length ns) whole ∙ length-append before behind in
      let takes : MayTake g m n (Split None dimension key low border c.low_side c.high_side) p = subst (λ (q : Part). MayTake g m n q p) c.is take in
      record {
        side = c.high_side;
        before = before;
        others = rest;
        is = whole;
        at = omega (arith, high_is, long);
        takes = high_takes g laws m dimension key low n border c.low_side c.high_side p takes;
        balance = λ balanced.
            let all : PartBalanced g m (Split None dimension key low border c.low_side c.high_side) = subst (λ (q : Part). PartBalanced g m q) c.is balanced in
            all.2;
      }

  pub low_side : (m0 m1 : PageMap) (part : Part) (nodes changed front rest : List CutNode) (place n dimension key low : ℕ) (border after : Tree) (p : Point)
      → (c : CutAt part nodes front rest place dimension key low border) → place ≡ length front → MayTake g m0 n part p
      → BorderGrown g m0 m1 dimension low border after (points_of c.low_side) p → changed ≡ set nodes place (Cut dimension key (low + 1) after)
      → SideAt m1 changed (place + 1) low (PartBalanced g m0 part) p
  low_side m0 m1 part nodes changed front rest place n dimension key low border after p c at take grown written =
      let node : CutNode = Cut dimension key (low + 1) after in
      let before : List CutNode = front ++ (node ∷ []) in
      let behind : List CutNode = nodes_of c.high_side ++ rest in
      let others : List CutNode = nodes_of c.low_side ++ behind in
      let now : changed ≡ before ++ others =
      written ∙ ap (λ (ns : List CutNode). set ns place node) c.whole
      ∙ set_at front others place (Cut dimension key low border) node at ∙ one_more front others node in
      let takes : MayTake g m0 n (Split None dimension key low border c.low_side c.high_side) p = subst (λ (q : Part). MayTake g m0 n q p) c.is take in
      let sides = side_after_border g laws m0 m1 dimension key low n border after c.low_side c.high_side p takes grown in
      record {
        side = c.low_side;
        before = before;
        others = behind;
        is = now;
        at = omega (arith, at, length-append front (node ∷ []));
        takes = sides.takes;
        balance = λ balanced.
            let all : PartBalanced g m0 (Split None dimension key low border c.low_side c.high_side) = subst (λ (q : Part). PartBalanced g m0 q) c.is balanced in
            part_balance g laws m0 m1 low c.low_side (low_stood g laws m0 n dimension key low border c.low_side c.high_side takes.stood)
            (agree_left (part_pages g m0 c.low_side) (part_pages g m0 c.high_side) m0 m1 sides.rest.agree) all.1;
      }

  -- what the border of a cut is asked to take
  pub takes_border : (m : PageMap) (part : Part) (nodes front rest : List CutNode) (place n dimension key low : ℕ) (border : Tree) (p : Point) (leaf : Option ℕ)
      → (c : CutAt part nodes front rest place dimension key low border) → place ≡ length front → MayTake g m n part p
      → ((side : Part) (before others : List CutNode) → nodes ≡ before ++ (nodes_of side ++ others) → place + 1 ≡ length before → leaf ≡ first_page side)
      → BorderTakes g m leaf dimension low border c.low_side p
  takes_border m part nodes front rest place n dimension key low border p leaf c at take found =
      let node : CutNode = Cut dimension key low border in
      let before : List CutNode = front ++ (node ∷ []) in
      let behind : List CutNode = nodes_of c.high_side ++ rest in
      let now : nodes ≡ before ++ (nodes_of c.low_side ++ behind) = c.whole ∙ one_more front (nodes_of c.low_side ++ behind) node in
      let takes : MayTake g m n (Split None dimension key low border c.low_side c.high_side) p = subst (λ (q : Part). MayTake g m n q p) c.is take in
      let s = takes.stood in
      record {
        stood = low_stood g laws m n dimension key low border c.low_side c.high_side s;
        leaf_is = λ full. found c.low_side before behind now (omega (arith, at, length-append front (node ∷ [])));
        few = s.borders.0;
        many = s.borders.1;
        new = new_low (suc g.DIMS) (points_of c.low_side) (points_of c.high_side) p takes.new;
        may_be = left_may (suc g.DIMS) (points_of c.low_side) (points_of c.high_side) takes.may_be;
        three = takes.three;
      }
