-- A part between a front and others that got a point in one of its sides.
use Rattle.std.proofs.Common.{◌≡◌, ℕ, suc, ◌+◌, ◌-◌, ◌<◌, ◌≤◌, Some, None, List, [], ◌∷◌, ◌++◌, length, get_or, set, drop, take, slice_index, refl, sym, ap, ◌∙◌, subst, arith, append_assoc, length-append}
use Rattle.std.specs.List.{insert}
use Rattle.bw_types.specs.Empty.{empty_tree}
use Rattle.bw_types.specs.declared.point.Point.{Point}
use Rattle.bw_types.specs.declared.tree.Tree.{Tree}
use Rattle.ports.specs.Frame.{Replaces}
use Rattle.ports.specs.Pages.{PageMap}
use Rattle.page_layout.specs.declared.cut_page.CutNode.{CutNode}
use Rattle.page_layout.specs.declared.cut_page.CutNode.TheVariants.{Cut, Entry}
use Rattle.cut_parts.specs.Damage.{after_parts}
use Rattle.cut_parts.specs.Parts.{Part, Leaf, Split, IsBalancedCut, points_of}
use Rattle.cut_parts.specs.Spelling.{HoldsLeaf, first_page, nodes_of}
use Rattle.cut_parts.specs.Standing.{HaveLaws}
use Rattle.cut_parts.specs.declared.border_tree.BorderTree.{Ghosts}
use Rattle.cut_parts.proofs.PartNodes.{IsCutOf, cut_of, entry_of}
use Rattle.cut_parts.proofs.Trees.{entry_nodes}
use Rattle.cut_parts.proofs.Places.{after_part}
use Rattle.ba_tree.specs.Additions.{BorderGrown, IsAdded, IsAddedAs, IsGrownIn, IsLeafSplit, IsTaken, MayTake, nodes_after}
use Rattle.ba_tree.specs.declared.change.Change.{Change}
use Rattle.ba_tree.specs.declared.change.Change.TheVariants.{Moved, Raised, Same}
use Rattle.ba_tree.proofs.CutSides.{cut_leaf, grow_high, grow_leaf, grow_low, high_takes, side_after_border}
use Rattle.ba_tree.proofs.Places.{drop_all_front, insert_at, node_at, one_more, set_at, take_front}

-- A cut among nodes: the part is a cut with this node, behind the front, and its sides' nodes follow.
pub record CutAt (part : Part) (nodes front rest : List CutNode) (place dimension key low : ℕ) (border : Tree) : Type 0 where
  pub low_side : Part
  pub high_side : Part
  pub is : part ≡ Split None dimension key low border low_side high_side
  pub whole : nodes ≡ front ++ (Cut dimension key low border ∷ (nodes_of low_side ++ (nodes_of high_side ++ rest)))

pub cut_at : (part : Part) (nodes front rest : List CutNode) (place dimension key low : ℕ) (border : Tree)
    → nodes ≡ front ++ (nodes_of part ++ rest) → place ≡ length front → place < length nodes → ((d : CutNode) → Cut dimension key low border ≡ get_or nodes place d)
    → CutAt part nodes front rest place dimension key low border
cut_at part nodes front rest place dimension key low border is at lt read =
    let first = node_at nodes front (nodes_of part ++ rest) place (Cut dimension key low border) is at lt read in
    let c : IsCutOf part dimension key low border first.0 rest = cut_of part dimension key low border first.0 rest (sym first.1) in
    record {
      low_side = c.low_side;
      high_side = c.high_side;
      is = c.is;
      whole = is ∙ ap (λ (ns : List CutNode). front ++ ns) first.1 ∙ ap (λ (ns : List CutNode). front ++ (Cut dimension key low border ∷ ns)) c.nodes_are;
    }

module _ {B : Type 0} (g : Ghosts B) (laws : HaveLaws g) where
  pub went_low : (m0 m1 m2 : PageMap) (part : Part) (nodes changed grown front rest : List CutNode) (place n dimension key low : ℕ) (border after : Tree) (p : Point)
      → (c : CutAt part nodes front rest place dimension key low border) → place ≡ length front
      → MayTake g m0 n part p → IsBalancedCut (n + 1) (low + 1) → slice_index p.keys dimension < key
      → BorderGrown g m0 m1 dimension low border after (points_of c.low_side) p
      → changed ≡ set nodes place (Cut dimension key (low + 1) after)
      → ((side : Part) (before others : List CutNode) → changed ≡ before ++ (nodes_of side ++ others) → place + 1 ≡ length before
      → MayTake g m1 low side p → IsGrownIn g m1 m2 low side p grown before others)
      → IsGrownIn g m0 m2 n part p grown front rest
  went_low m0 m1 m2 part nodes changed grown front rest place n dimension key low border after p c at take balanced below b written side_grows =
      let node : CutNode = Cut dimension key (low + 1) after in
      let before : List CutNode = front ++ (node ∷ []) in
      let behind : List CutNode = nodes_of c.high_side ++ rest in
      let others : List CutNode = nodes_of c.low_side ++ behind in
      let now : changed ≡ before ++ (nodes_of c.low_side ++ behind) =
      written ∙ ap (λ (ns : List CutNode). set ns place node) c.whole
      ∙ set_at front others place (Cut dimension key low border) node at ∙ one_more front others node in
      let next : place + 1 ≡ length before = omega (arith, at, length-append front (node ∷ [])) in
      let takes : MayTake g m0 n (Split None dimension key low border c.low_side c.high_side) p = subst (λ (q : Part). MayTake g m0 n q p) c.is take in
      let sides = side_after_border g laws m0 m1 dimension key low n border after c.low_side c.high_side p takes b in
      let side = side_grows c.low_side before behind now next sides.takes in
      record {
        grown = Split None dimension key (low + 1) after side.grown c.high_side;
        added = subst (λ (q : Part). IsAdded g m0 m2 n q (Split None dimension key (low + 1) after side.grown c.high_side) p) (sym c.is)
            (grow_low g laws m0 m1 m2 dimension key low n border after c.low_side c.high_side side.grown p takes b balanced below side.added);
        nodes_are = side.nodes_are ∙ sym (one_more front (nodes_of side.grown ++ behind) node)
            ∙ ap (λ (ns : List CutNode). front ++ (node ∷ ns)) (sym (append_assoc (nodes_of side.grown) (nodes_of c.high_side) rest));
      }

  pub went_high : (m0 m1 : PageMap) (part : Part) (nodes grown front rest : List CutNode) (place high n dimension key low : ℕ) (border : Tree) (p : Point)
      → (c : CutAt part nodes front rest place dimension key low border) → place ≡ length front
      → MayTake g m0 n part p → IsBalancedCut (n + 1) low → key ≤ slice_index p.keys dimension
      → high ≡ length nodes - length (nodes_of c.high_side ++ rest)
      → ((side : Part) (before others : List CutNode) → nodes ≡ before ++ (nodes_of side ++ others) → high ≡ length before
      → MayTake g m0 (n - low) side p → IsGrownIn g m0 m1 (n - low) side p grown before others)
      → IsGrownIn g m0 m1 n part p grown front rest
  went_high m0 m1 part nodes grown front rest place high n dimension key low border p c at take balanced from high_is side_grows =
      let node : CutNode = Cut dimension key low border in
      let behind : List CutNode = nodes_of c.high_side ++ rest in
      let lows : List CutNode = nodes_of c.low_side in
      let before : List CutNode = front ++ (node ∷ lows) in
      let whole : nodes ≡ before ++ behind = c.whole ∙ sym (append_assoc front (node ∷ lows) behind) in
      let long : length nodes ≡ length before + length behind = ap (λ (ns : List CutNode). length ns) whole ∙ length-append before behind in
      let takes : MayTake g m0 n (Split None dimension key low border c.low_side c.high_side) p = subst (λ (q : Part). MayTake g m0 n q p) c.is take in
      let side = side_grows c.high_side before rest whole (omega (arith, high_is, long)) (high_takes g laws m0 dimension key low n border c.low_side c.high_side p takes) in
      record {
        grown = Split None dimension key low border c.low_side side.grown;
        added = subst (λ (q : Part). IsAdded g m0 m1 n q (Split None dimension key low border c.low_side side.grown) p) (sym c.is)
            (grow_high g laws m0 m1 dimension key low n border c.low_side c.high_side side.grown p takes balanced from side.added);
        nodes_are = side.nodes_are ∙ append_assoc front (node ∷ lows) (nodes_of side.grown ++ rest)
            ∙ ap (λ (ns : List CutNode). front ++ (node ∷ ns)) (sym (append_assoc lows (nodes_of side.grown) rest));
      }

  -- a leaf that a page holds
  pub leaf_grown : (m0 m1 : PageMap) (part : Part) (page n : ℕ) (p : Point) → first_page part ≡ Some page → n < 64 → MayTake g m0 n part p
      → ((points : List Point) → HoldsLeaf m0 page points → HoldsLeaf m1 page (points ++ (p ∷ []))) → Replaces (page ∷ []) (page ∷ []) m0 m1
      → IsAddedAs g m0 m1 n part p (Entry page ∷ [])
  leaf_grown m0 m1 (Split home dimension key low border low_side high_side) page n p begins few take put change = let many = take.stood.shape.0.many in absurd (omega (arith, few, many))
  leaf_grown m0 m1 (Leaf first points) page n p begins few take put change =
      let same : first ≡ page = cc in
      let takes : MayTake g m0 n (Leaf page points) p = subst (λ (q : ℕ). MayTake g m0 n (Leaf q points) p) same take in
      let added : IsAdded g m0 m1 n (Leaf page points) (Leaf page (points ++ (p ∷ []))) p = grow_leaf g laws m0 m1 page n points p takes few (put points takes.stood.spelled) change in
      record {
        grown = Leaf page (points ++ (p ∷ []));
        added = subst (λ (q : ℕ). IsAdded g m0 m1 n (Leaf q points) (Leaf page (points ++ (p ∷ []))) p) (sym same) added;
        nodes_are = refl;
      }

  -- a leaf that a page held, and that is split
  pub leaf_cut : (m0 m1 : PageMap) (part : Part) (page high dimension key n : ℕ) (p : Point) → first_page part ≡ Some page → n ≡ 64 → MayTake g m0 n part p
      → ((points : List Point) → HoldsLeaf m0 page points → IsLeafSplit (suc g.DIMS) m0 m1 page high dimension key points p)
      → IsAddedAs g m0 m1 n part p (Cut dimension key 32 empty_tree ∷ Entry page ∷ Entry high ∷ [])
  leaf_cut m0 m1 (Split home d k l b low_side high_side) page high dimension key n p begins full take splits = let many = take.stood.shape.0.many in absurd (omega (arith, full, many))
  leaf_cut m0 m1 (Leaf first points) page high dimension key n p begins full take splits =
      let same : first ≡ page = cc in
      let takes : MayTake g m0 64 (Leaf page points) p = subst (λ (k : ℕ). MayTake g m0 k (Leaf page points) p) full (subst (λ (q : ℕ). MayTake g m0 n (Leaf q points) p) same take) in
      let split : IsLeafSplit (suc g.DIMS) m0 m1 page high dimension key points p = splits points takes.stood.spelled in
      let grown : Part = Split None dimension key 32 empty_tree (Leaf page split.lows) (Leaf high split.highs) in
      let added : IsAdded g m0 m1 64 (Leaf page points) grown p = cut_leaf g laws m0 m1 page high dimension key points p takes split in
      record {
        grown = grown;
        added = subst (λ (k : ℕ). IsAdded g m0 m1 k (Leaf first points) grown p) (sym full) (subst (λ (q : ℕ). IsAdded g m0 m1 64 (Leaf q points) grown p) (sym same) added);
        nodes_are = refl;
      }

module _ {B : Type 0} (g : Ghosts B) where
  -- an entry that made way for a cut and the entries of its sides
  entry_cut : (m0 m1 : PageMap) (part : Part) (nodes grown front rest : List CutNode) (place child n low high : ℕ) (cut : CutNode) (p : Point)
      → nodes ≡ front ++ (nodes_of part ++ rest) → place ≡ length front → place < length nodes → ((d : CutNode) → Entry child ≡ get_or nodes place d)
      → (first_page part ≡ Some child → IsAddedAs g m0 m1 n part p (cut ∷ Entry low ∷ Entry high ∷ []))
      → grown ≡ insert (insert (set nodes place (Entry high)) place (Entry low)) place cut
      → IsGrownIn g m0 m1 n part p grown front rest
  entry_cut m0 m1 part nodes grown front rest place child n low high cut p is at lt read grows put =
      let first = node_at nodes front (nodes_of part ++ rest) place (Entry child) is at lt read in
      let e = entry_of part child first.0 rest (sym first.1) in
      let side = grows e.0 in
      let written : grown ≡ front ++ (cut ∷ Entry low ∷ Entry high ∷ first.0) =
      put ∙ ap (λ (ns : List CutNode). insert (insert (set ns place (Entry high)) place (Entry low)) place cut) (is ∙ ap (λ (ns : List CutNode). front ++ ns) first.1)
      ∙ ap (λ (ns : List CutNode). insert (insert ns place (Entry low)) place cut) (set_at front first.0 place (Entry child) (Entry high) at)
      ∙ ap (λ (ns : List CutNode). insert ns place cut) (insert_at front (Entry high ∷ first.0) place (Entry low) at)
      ∙ insert_at front (Entry low ∷ Entry high ∷ first.0) place cut at in
      record {
        grown = side.grown;
        added = side.added;
        nodes_are = written ∙ ap (λ (ns : List CutNode). front ++ (cut ∷ Entry low ∷ Entry high ∷ ns)) e.1 ∙ ap (λ (ns : List CutNode). front ++ (ns ++ rest)) (sym side.nodes_are);
      }

  -- an entry that leads to another page, or to the same
  entry_moved : (m0 m1 : PageMap) (part : Part) (nodes grown front rest : List CutNode) (place child other n : ℕ) (p : Point)
      → nodes ≡ front ++ (nodes_of part ++ rest) → place ≡ length front → place < length nodes → ((d : CutNode) → Entry child ≡ get_or nodes place d)
      → (first_page part ≡ Some child → IsAddedAs g m0 m1 n part p (Entry other ∷ []))
      → grown ≡ take place nodes ++ (Entry other ∷ after_parts 1 (drop place nodes))
      → IsGrownIn g m0 m1 n part p grown front rest
  entry_moved m0 m1 part nodes grown front rest place child other n p is at lt read grows put =
      let first = node_at nodes front (nodes_of part ++ rest) place (Entry child) is at lt read in
      let e = entry_of part child first.0 rest (sym first.1) in
      let side = grows e.0 in
      let before : take place nodes ≡ front = ap (λ (ns : List CutNode). take place ns) is ∙ take_front front (nodes_of part ++ rest) place at in
      let behind : after_parts 1 (drop place nodes) ≡ rest =
      ap (λ (ns : List CutNode). after_parts 1 (drop place ns)) is ∙ ap (λ (ns : List CutNode). after_parts 1 ns) (drop_all_front front (nodes_of part ++ rest) place at)
      ∙ after_part part 0 rest in
      record {
        grown = side.grown;
        added = side.added;
        nodes_are = put ∙ ap (λ (ns : List CutNode). ns ++ (Entry other ∷ after_parts 1 (drop place nodes))) before
            ∙ ap (λ (ns : List CutNode). front ++ (Entry other ∷ ns)) behind
            ∙ ap (λ (ns : List CutNode). front ++ (ns ++ rest)) (sym side.nodes_are);
      }

  entry_kept : (m0 m1 : PageMap) (part : Part) (nodes front rest : List CutNode) (place child n : ℕ) (p : Point)
      → nodes ≡ front ++ (nodes_of part ++ rest) → place ≡ length front → place < length nodes → ((d : CutNode) → Entry child ≡ get_or nodes place d)
      → (first_page part ≡ Some child → IsAddedAs g m0 m1 n part p (Entry child ∷ []))
      → IsGrownIn g m0 m1 n part p nodes front rest
  entry_kept m0 m1 part nodes front rest place child n p is at lt read grows =
      let first = node_at nodes front (nodes_of part ++ rest) place (Entry child) is at lt read in
      let e = entry_of part child first.0 rest (sym first.1) in
      let side = grows e.0 in
      record {
        grown = side.grown;
        added = side.added;
        nodes_are = is ∙ ap (λ (ns : List CutNode). front ++ (ns ++ rest)) (entry_nodes part child e.0 ∙ sym side.nodes_are);
      }

  -- what was asked for was put into the place of the entry
  pub entry_taken : (m0 m1 : PageMap) (part : Part) (nodes grown front rest : List CutNode) (place child n : ℕ) (change : Change) (p : Point)
      → nodes ≡ front ++ (nodes_of part ++ rest) → place ≡ length front → place < length nodes → ((d : CutNode) → Entry child ≡ get_or nodes place d)
      → (first_page part ≡ Some child → IsAddedAs g m0 m1 n part p (nodes_after change child)) → IsTaken nodes grown place change
      → IsGrownIn g m0 m1 n part p grown front rest
  entry_taken m0 m1 part nodes grown front rest place child n Same p is at lt read grows taken =
      subst (λ (ns : List CutNode). IsGrownIn g m0 m1 n part p ns front rest) (sym taken) (entry_kept m0 m1 part nodes front rest place child n p is at lt read grows)
  entry_taken m0 m1 part nodes grown front rest place child n (Moved other) p is at lt read grows taken =
      entry_moved m0 m1 part nodes grown front rest place child other n p is at lt read grows taken
  entry_taken m0 m1 part nodes grown front rest place child n (Raised cut low high) p is at lt read grows taken =
      entry_cut m0 m1 part nodes grown front rest place child n low high cut p is at lt read grows taken
