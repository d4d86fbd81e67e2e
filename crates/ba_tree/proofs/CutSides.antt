-- A point that is added to a side of a cut.
use Rattle.std.proofs.Common.{◌≡◌, ℕ, suc, ◌+◌, ◌-◌, ◌<◌, ◌≤◌, ◌==◌, false, None, List, [], ◌∷◌, ◌++◌, length, slice_index, refl, sym, ap, ◌∙◌, subst, arith, length-append}
use Rattle.std.specs.Prelude.{IsPermutation}
use Rattle.std.specs.List.{All}
use Rattle.std.proofs.lemmas.List.Elements.{All-append, All-cons}
use Rattle.std.proofs.lemmas.List.Sorted.{All-permutation, IsPermutation-append_left, IsPermutation-append_right, IsPermutation-map, IsPermutation-middle, IsPermutation-refl, IsPermutation-sym, IsPermutation-to_front, IsPermutation-trans}
use Rattle.bw_types.specs.Without.{without_dimension}
use Rattle.bw_types.specs.Empty.{empty_tree}
use Rattle.bw_types.specs.declared.point.Point.{Point}
use Rattle.bw_types.specs.declared.tree.Tree.{Tree}
use Rattle.ports.specs.Frame.{AgreeOn, AreInMap, Replaces, names_page}
use Rattle.ports.specs.FrameLaws.{Replaces-then}
use Rattle.ports.specs.Pages.{PageMap}
use Rattle.page_layout.specs.Footprint.{NamesNoneTwice}
use Rattle.page_layout.specs.FootprintLaws.{once_left, once_right}
use Rattle.cut_parts.specs.Parts.{Part, Leaf, Split, HasShape, IsBalancedCut, border_points, points_of}
use Rattle.cut_parts.specs.Spelling.{HoldsLeaf}
use Rattle.cut_parts.specs.Standing.{HaveLaws, PartStands, part_pages}
use Rattle.cut_parts.specs.declared.border_tree.BorderTree.{Ghosts}
use Rattle.cut_parts.proofs.BorderPoints.{left_may, right_may}
use Rattle.cut_parts.proofs.Frames.{agree_left, agree_right, border_balance, border_same, border_there, part_balance, part_same, part_there}
use Rattle.cut_parts.proofs.Halves.{all_left, all_right}
use Rattle.ba_tree.specs.Additions.{BorderGrown, IsAdded, IsLeafSplit, MayTake}
use Rattle.ba_tree.proofs.NewPoints.{new_high, new_low}
use Rattle.ba_tree.proofs.Within.{Within, second_first, there_both, third_first, within}

module _ {B : Type 0} (g : Ghosts B) (laws : HaveLaws g) where
  -- the sides of a cut that stands
  pub low_stood : (m : PageMap) (n dimension key low : ℕ) (border : Tree) (low_side high_side : Part) → PartStands g m n (Split None dimension key low border low_side high_side)
      → PartStands g m low low_side
  low_stood m n dimension key low border low_side high_side s = record { shape = s.shape.1; parted = s.parted.3; borders = s.borders.2; spelled = s.spelled.1 }

  pub high_stood : (m : PageMap) (n dimension key low : ℕ) (border : Tree) (low_side high_side : Part) → PartStands g m n (Split None dimension key low border low_side high_side)
      → PartStands g m (n - low) high_side
  high_stood m n dimension key low border low_side high_side s = record { shape = s.shape.2; parted = s.parted.4; borders = s.borders.3; spelled = s.spelled.2 }

  -- the low side, after its border
  pub record SideAfter (m0 m1 : PageMap) (low n : ℕ) (border grown : Tree) (low_side high_side : Part) (p : Point) : Type 0 where
    pub takes : MayTake g m1 low low_side p
    pub high : PartStands g m1 (n - low) high_side
    pub low_pages : part_pages g m1 low_side ≡ part_pages g m0 low_side
    pub high_pages : part_pages g m1 high_side ≡ part_pages g m0 high_side
    pub rest : Within (g.footprint m0 border ++ (part_pages g m0 low_side ++ part_pages g m0 high_side))
        (g.footprint m1 grown ++ (part_pages g m0 low_side ++ part_pages g m0 high_side)) (part_pages g m0 low_side ++ part_pages g m0 high_side) m0 m1

  pub side_after_border : (m0 m1 : PageMap) (dimension key low n : ℕ) (border grown : Tree) (low_side high_side : Part) (p : Point)
      → MayTake g m0 n (Split None dimension key low border low_side high_side) p → BorderGrown g m0 m1 dimension low border grown (points_of low_side) p
      → SideAfter m0 m1 low n border grown low_side high_side p
  side_after_border m0 m1 dimension key low n border grown low_side high_side p take b =
      let s = take.stood in
      let low_stands = low_stood m0 n dimension key low border low_side high_side s in
      let high_stands = high_stood m0 n dimension key low border low_side high_side s in
      let ls : List ℕ = part_pages g m0 low_side in
      let hs : List ℕ = part_pages g m0 high_side in
      let w = within (g.footprint m0 border) (g.footprint m1 grown) (ls ++ hs) (g.footprint m0 border ++ (ls ++ hs)) (g.footprint m1 grown ++ (ls ++ hs)) m0 m1
      (IsPermutation-refl _) (IsPermutation-refl _) b.change take.once b.once
      (there_both ls hs m0 (part_there g laws m0 low low_side low_stands) (part_there g laws m0 (n - low) high_side high_stands)) in
      let l = part_same g laws m0 m1 low low_side low_stands (agree_left ls hs m0 m1 w.agree) in
      let h = part_same g laws m0 m1 (n - low) high_side high_stands (agree_right ls hs m0 m1 w.agree) in
      let once_low : NamesNoneTwice ls = once_left ls hs (once_right (g.footprint m0 border) (ls ++ hs) take.once) in
      record {
        takes = record {
          stood = l.0;
          once = subst NamesNoneTwice (sym l.1) once_low;
          new = new_low (suc g.DIMS) (points_of low_side) (points_of high_side) p take.new;
          may_be = left_may (suc g.DIMS) (points_of low_side) (points_of high_side) take.may_be;
          three = take.three;
        };
        high = h.0;
        low_pages = l.1;
        high_pages = h.1;
        rest = w;
      }

  -- the border of a cut after its low side got a point, in the map in which it was written
  pub grown_there : (m1 : PageMap) (dimension low : ℕ) (border grown : Tree) (points : List Point) (p : Point) (m0 : PageMap)
      → BorderGrown g m0 m1 dimension low border grown points p → AreInMap m1 (g.footprint m1 grown)
  grown_there m1 dimension low border grown points p m0 b = border_there g laws m1 (low + 1) grown (border_points dimension (p ∷ points)) b.few b.many

  -- a point that went low
  pub grow_low : (m0 m1 m2 : PageMap) (dimension key low n : ℕ) (border grown : Tree) (low_side high_side side : Part) (p : Point)
      → MayTake g m0 n (Split None dimension key low border low_side high_side) p
      → BorderGrown g m0 m1 dimension low border grown (points_of low_side) p
      → IsBalancedCut (n + 1) (low + 1) → slice_index p.keys dimension < key → IsAdded g m1 m2 low low_side side p
      → IsAdded g m0 m2 n (Split None dimension key low border low_side high_side) (Split None dimension key (low + 1) grown side high_side) p
  grow_low m0 m1 m2 dimension key low n border grown low_side high_side side p take b balanced below added =
      let first = side_after_border m0 m1 dimension key low n border grown low_side high_side p take b in
      let bs : List ℕ = g.footprint m1 grown in
      let ls : List ℕ = part_pages g m0 low_side in
      let hs : List ℕ = part_pages g m0 high_side in
      let high_there : AreInMap m1 hs = subst (λ (ps : List ℕ). AreInMap m1 ps) first.high_pages (part_there g laws m1 (n - low) high_side first.high) in
      let w = within ls (part_pages g m2 side) (bs ++ hs) (bs ++ (ls ++ hs)) (bs ++ (part_pages g m2 side ++ hs)) m1 m2 (second_first bs ls hs) (second_first bs (part_pages g m2 side) hs)
      (subst (λ (ps : List ℕ). Replaces ps (part_pages g m2 side) m1 m2) first.low_pages added.change) first.rest.once added.once
      (there_both bs hs m1 (grown_there m1 dimension low border grown (points_of low_side) p m0 b) high_there) in
      let on_high = subst (λ (ps : List ℕ). AgreeOn ps m1 m2) (sym first.high_pages) (agree_right bs hs m1 m2 w.agree) in
      let h = part_same g laws m1 m2 (n - low) high_side first.high on_high in
      let e = border_same g laws m1 m2 (low + 1) grown (border_points dimension (p ∷ points_of low_side)) b.few b.many (agree_left bs hs m1 m2 w.agree) in
      let high_pages : part_pages g m2 high_side ≡ hs = h.1 ∙ first.high_pages in
      let whole : bs ++ (part_pages g m2 side ++ hs) ≡ g.footprint m2 grown ++ (part_pages g m2 side ++ part_pages g m2 high_side) =
      λ i. sym e.1 i ++ (part_pages g m2 side ++ sym high_pages i) in
      let back : IsPermutation (p ∷ points_of low_side) (points_of side) = IsPermutation-sym (points_of side) (p ∷ points_of low_side) added.points in
      let s = take.stood in
      let less : n + 1 - (low + 1) ≡ n - low = omega arith in
      record {
        stood = record {
          shape = (balanced, added.stood.shape, subst (λ (k : ℕ). HasShape k high_side) (sym less) h.0.shape);
          parted = (
            s.parted.0,
            All-permutation (λ (q : Point). slice_index q.keys dimension < key) (p ∷ points_of low_side) (points_of side) back
                (All-cons (λ (q : Point). slice_index q.keys dimension < key) p (points_of low_side) below s.parted.1),
            s.parted.2,
            added.stood.parted,
            s.parted.4,
          );
          borders = (
            b.few,
            (λ more. laws.any_order m2 grown (border_points dimension (p ∷ points_of low_side)) (border_points dimension (points_of side)) (e.0 more)
                (IsPermutation-map (without_dimension dimension) (p ∷ points_of low_side) (points_of side) back)),
            added.stood.borders,
            h.0.borders,
          );
          spelled = (tt, added.stood.spelled, h.0.spelled);
        };
        points = IsPermutation-append_left (points_of high_side) (points_of side) (p ∷ points_of low_side) added.points;
        change = subst (λ (ps : List ℕ). Replaces (g.footprint m0 border ++ (ls ++ hs)) ps m0 m2) whole
            (Replaces-then (g.footprint m0 border ++ (ls ++ hs)) (bs ++ (ls ++ hs)) (bs ++ (part_pages g m2 side ++ hs)) m0 m1 m2 first.rest.change w.change);
        once = subst NamesNoneTwice whole w.once;
        balance = λ before.
            let low_stands = low_stood m0 n dimension key low border low_side high_side s in
            let high_stands = high_stood m0 n dimension key low border low_side high_side s in
            let agree = first.rest.agree in (
              border_balance g laws m1 m2 (low + 1) grown (border_points dimension (p ∷ points_of low_side)) b.many (agree_left bs hs m1 m2 w.agree) (b.balance before.0),
              added.balance (part_balance g laws m0 m1 low low_side low_stands (agree_left ls hs m0 m1 agree) before.1),
              part_balance g laws m1 m2 (n - low) high_side first.high on_high (part_balance g laws m0 m1 (n - low) high_side high_stands (agree_right ls hs m0 m1 agree) before.2),
            );
      }

  -- a point that went high
  pub high_takes : (m0 : PageMap) (dimension key low n : ℕ) (border : Tree) (low_side high_side : Part) (p : Point)
      → MayTake g m0 n (Split None dimension key low border low_side high_side) p → MayTake g m0 (n - low) high_side p
  high_takes m0 dimension key low n border low_side high_side p take =
      let s = take.stood in
      let ls : List ℕ = part_pages g m0 low_side in
      let hs : List ℕ = part_pages g m0 high_side in
      record {
        stood = high_stood m0 n dimension key low border low_side high_side s;
        once = once_right ls hs (once_right (g.footprint m0 border) (ls ++ hs) take.once);
        new = new_high (suc g.DIMS) (points_of low_side) (points_of high_side) p take.new;
        may_be = right_may (suc g.DIMS) (points_of low_side) (points_of high_side) take.may_be;
        three = take.three;
      }

  pub grow_high : (m0 m1 : PageMap) (dimension key low n : ℕ) (border : Tree) (low_side high_side side : Part) (p : Point)
      → MayTake g m0 n (Split None dimension key low border low_side high_side) p
      → IsBalancedCut (n + 1) low → key ≤ slice_index p.keys dimension → IsAdded g m0 m1 (n - low) high_side side p
      → IsAdded g m0 m1 n (Split None dimension key low border low_side high_side) (Split None dimension key low border low_side side) p
  grow_high m0 m1 dimension key low n border low_side high_side side p take balanced from added =
      let s = take.stood in
      let low_stands = low_stood m0 n dimension key low border low_side high_side s in
      let bs : List ℕ = g.footprint m0 border in
      let ls : List ℕ = part_pages g m0 low_side in
      let hs : List ℕ = part_pages g m0 high_side in
      let border_in : AreInMap m0 bs = border_there g laws m0 low border (border_points dimension (points_of low_side)) s.borders.0 s.borders.1 in
      let w = within hs (part_pages g m1 side) (bs ++ ls) (bs ++ (ls ++ hs)) (bs ++ (ls ++ part_pages g m1 side)) m0 m1 (third_first bs ls hs) (third_first bs ls (part_pages g m1 side))
      added.change take.once added.once (there_both bs ls m0 border_in (part_there g laws m0 low low_side low_stands)) in
      let on_low = agree_right bs ls m0 m1 w.agree in
      let on_border = agree_left bs ls m0 m1 w.agree in
      let l = part_same g laws m0 m1 low low_side low_stands on_low in
      let e = border_same g laws m0 m1 low border (border_points dimension (points_of low_side)) s.borders.0 s.borders.1 on_border in
      let whole : bs ++ (ls ++ part_pages g m1 side) ≡ g.footprint m1 border ++ (part_pages g m1 low_side ++ part_pages g m1 side) = λ i. sym e.1 i ++ (sym l.1 i ++ part_pages g m1 side) in
      let back : IsPermutation (p ∷ points_of high_side) (points_of side) = IsPermutation-sym (points_of side) (p ∷ points_of high_side) added.points in
      let less : n - low + 1 ≡ n + 1 - low = let t = s.shape.0.some_high in omega (arith, t) in
      record {
        stood = record {
          shape = (balanced, l.0.shape, subst (λ (k : ℕ). HasShape k side) less added.stood.shape);
          parted = (
            s.parted.0,
            s.parted.1,
            All-permutation (λ (q : Point). key ≤ slice_index q.keys dimension) (p ∷ points_of high_side) (points_of side) back
                (All-cons (λ (q : Point). key ≤ slice_index q.keys dimension) p (points_of high_side) from s.parted.2),
            s.parted.3,
            added.stood.parted,
          );
          borders = (s.borders.0, e.0, l.0.borders, added.stood.borders);
          spelled = (tt, l.0.spelled, added.stood.spelled);
        };
        points = IsPermutation-trans (points_of low_side ++ points_of side) (points_of low_side ++ (p ∷ points_of high_side)) (p ∷ (points_of low_side ++ points_of high_side))
            (IsPermutation-append_right (points_of low_side) (points_of side) (p ∷ points_of high_side) added.points)
            (IsPermutation-middle (points_of low_side) p (points_of high_side));
        change = subst (λ (ps : List ℕ). Replaces (bs ++ (ls ++ hs)) ps m0 m1) whole w.change;
        once = subst NamesNoneTwice whole w.once;
        balance = λ before. (
          border_balance g laws m0 m1 low border (border_points dimension (points_of low_side)) s.borders.1 on_border before.0,
          part_balance g laws m0 m1 low low_side low_stands on_low before.1,
          added.balance before.2,
        );
      }

  -- a point that is put into a leaf
  pub grow_leaf : (m0 m1 : PageMap) (page n : ℕ) (points : List Point) (p : Point) → MayTake g m0 n (Leaf page points) p → n < 64
      → HoldsLeaf m1 page (points ++ (p ∷ [])) → Replaces (page ∷ []) (page ∷ []) m0 m1
      → IsAdded g m0 m1 n (Leaf page points) (Leaf page (points ++ (p ∷ []))) p
  grow_leaf m0 m1 page n points p take few holds change = record {
    stood = record {
      shape = (omega (arith, take.stood.shape, length-append points (p ∷ [])), omega arith, omega (arith, few));
      parted = All-append (λ (q : Point). length q.keys ≡ 3) points (p ∷ []) take.stood.parted (All-cons (λ (q : Point). length q.keys ≡ 3) p [] take.three (λ k d lt. absurd (omega (arith, lt))));
      borders = tt;
      spelled = holds;
    };
    points = IsPermutation-to_front points p;
    change = change;
    once = take.once;
    balance = λ before. tt;
  }

  named_once_of : (page high : ℕ) → (high == page) ≡ false → names_page (high ∷ []) page ≡ false
  named_once_of page high other = rw other refl

  -- a leaf that is split
  pub cut_leaf : (m0 m1 : PageMap) (page high dimension key : ℕ) (points : List Point) (p : Point) → MayTake g m0 64 (Leaf page points) p
      → (split : IsLeafSplit (suc g.DIMS) m0 m1 page high dimension key points p)
      → IsAdded g m0 m1 64 (Leaf page points) (Split None dimension key 32 empty_tree (Leaf page split.lows) (Leaf high split.highs)) p
  cut_leaf m0 m1 page high dimension key points p take split =
      let pages_are : page ∷ high ∷ [] ≡ g.footprint m1 empty_tree ++ (page ∷ high ∷ []) = ap (λ (ps : List ℕ). ps ++ (page ∷ high ∷ [])) (sym (laws.empty m1).1) in
      let three : All (λ (q : Point). length q.keys ≡ 3) (split.lows ++ split.highs) =
      All-permutation (λ (q : Point). length q.keys ≡ 3) (p ∷ points) (split.lows ++ split.highs) (IsPermutation-sym (split.lows ++ split.highs) (p ∷ points) split.same)
      (All-cons (λ (q : Point). length q.keys ≡ 3) p points take.three take.stood.parted) in
      let few_low = split.few_low in
      let few_high = split.few_high in
      record {
        stood = record {
          shape = (
            record { many = omega arith; some_low = omega arith; some_high = omega arith; low_share = omega arith; high_share = omega arith },
            (sym few_low, omega arith, omega arith),
            (sym few_high, omega arith, omega arith),
          );
          parted = (
            split.in_dims,
            split.below,
            split.from,
            all_left (λ (q : Point). length q.keys ≡ 3) split.lows split.highs three,
            all_right (λ (q : Point). length q.keys ≡ 3) split.lows split.highs three,
          );
          borders = ((λ few. refl), (λ more. absurd (omega (arith, more))), tt, tt);
          spelled = (tt, split.low_holds, split.high_holds);
        };
        points = split.same;
        change = subst (λ (ps : List ℕ). Replaces (page ∷ []) ps m0 m1) pages_are split.change;
        once = subst NamesNoneTwice pages_are (named_once_of page high split.other, (refl, tt));
        balance = λ before. ((λ more. absurd (omega (arith, more))), tt, tt);
      }
