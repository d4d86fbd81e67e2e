-- A leaf, an entry, a cut with both its sides, a page and a tree, as they are built.
use Rattle.std.proofs.Common.{◌≡◌, ℕ, suc, ◌-◌, ◌/◌, ◌<◌, ◌≤◌, ◌==◌, Option, Some, None, List, [], ◌∷◌, ◌++◌, length, slice_index, take, drop, false, refl, sym, ap, ◌∙◌, subst, arith, append_assoc, length-append}
use Rattle.std.specs.Prelude.{IsPermutation}
use Rattle.std.specs.List.{All}
use Rattle.std.proofs.lemmas.Bool.{le-leb, lt-leb, ne_eqb}
use Rattle.std.proofs.lemmas.List.Sorted.{All-permutation, IsPermutation-append, IsPermutation-append_comm, IsPermutation-map, IsPermutation-refl, IsPermutation-sym, IsPermutation-trans, length_permutation}
use Rattle.bw_types.specs.Without.{without_dimension}
use Rattle.bw_types.specs.Empty.{empty_tree}
use Rattle.bw_types.specs.declared.point.Point.{Point}
use Rattle.bw_types.specs.declared.tree.Tree.{Tree}
use Rattle.ports.specs.Frame.{AgreeOn, AreApart, AreInMap, Replaces}
use Rattle.ports.specs.FrameLaws.{Replaces-agree, Replaces-apart, Replaces-beside, Replaces-by_names, Replaces-same}
use Rattle.ports.specs.Pages.{PageMap}
use Rattle.page_layout.specs.Footprint.{NamesNoneTwice}
use Rattle.page_layout.specs.FootprintLaws.{apart_sym, names_permuted, once_join}
use Rattle.page_layout.specs.declared.cut_page.CutNode.{CutNode}
use Rattle.page_layout.specs.declared.cut_page.CutNode.TheVariants.{Cut}
use Rattle.cut_parts.specs.Borders.{IsBuiltOf, MayBeBuilt}
use Rattle.cut_parts.specs.Parts.{Part, Leaf, Split, HasShape, IsBalancedCut, border_points, points_of}
use Rattle.cut_parts.specs.Spelling.{HoldsCuts, HoldsLeaf, at_page, first_page, nodes_of}
use Rattle.cut_parts.specs.Standing.{BordersBalanced, CutsBalanced, CutsStand, HaveLaws, IsPartOf, PartBalanced, levels_of, part_pages, tree_pages}
use Rattle.cut_parts.specs.declared.border_tree.BorderTree.{Ghosts}
use Rattle.cut_parts.proofs.BorderPoints.{left_may, right_may}
use Rattle.cut_parts.proofs.Orders.{may_in_any_order}
use Rattle.cut_parts.proofs.Frames.{border_balance, border_same, border_there, part_balance, part_same, part_there}
use Rattle.cut_parts.proofs.Homes.{borders_stay, more_pages, moved, parted_stays, points_stay, shape_stays}
use Rattle.cut_parts.proofs.Trees.{own_pages, tree_is}
use Rattle.ba_tree.specs.Building.{IsBorderBuilt}
use Rattle.ba_tree.specs.Built.{IsBuiltAt, IsBuiltBehind}

pub parts_permuted : (points new xs ys us vs : List Point) → IsPermutation points new → new ≡ xs ++ ys → IsPermutation xs us → IsPermutation ys vs
    → IsPermutation points (us ++ vs)
parts_permuted points new xs ys us vs same parts first second =
    IsPermutation-trans points (xs ++ ys) (us ++ vs) (subst (λ (ps : List Point). IsPermutation points ps) parts same) (IsPermutation-append xs us ys vs first second)

-- the points of both halves may be built
pub halves_may : (dims : ℕ) (points new xs ys : List Point) → MayBeBuilt dims points → IsPermutation points new → new ≡ xs ++ ys → MayBeBuilt dims xs × MayBeBuilt dims ys
halves_may dims points new xs ys may same parts =
    let all : MayBeBuilt dims (xs ++ ys) = subst (λ (ps : List Point). MayBeBuilt dims ps) parts (may_in_any_order dims points new same may) in
    (left_may dims xs ys all, right_may dims xs ys all)

-- what holds of each point of a half
pub first_half : (P : Point → Type 0) (points new xs : List Point) → IsPermutation points new → xs ≡ take (length points / 2) new
    → All P (take (length new / 2) new) → All P xs
first_half P points new xs same front all =
    subst (λ (ps : List Point). All P ps) (ap (λ (n : ℕ). take (n / 2) new) (length_permutation points new same) ∙ sym front) all

pub second_half : (P : Point → Type 0) (points new ys : List Point) → IsPermutation points new → ys ≡ drop (length points / 2) new
    → All P (drop (length new / 2) new) → All P ys
second_half P points new ys same back all =
    subst (λ (ps : List Point). All P ps) (ap (λ (n : ℕ). drop (n / 2) new) (length_permutation points new same) ∙ sym back) all

apart_none : (pages : List ℕ) → AreApart pages []
apart_none pages = λ p named. refl

balance_stays : (balanced : Tree → Type 0) (home : Option ℕ) (part : Part) → BordersBalanced balanced part → BordersBalanced balanced (at_page home part)
balance_stays balanced home (Leaf page points) s = s
balance_stays balanced home (Split other dimension key low border low_side high_side) s = s

-- a part of more nodes than one has no page of its own
inside : (part : Part) → 2 ≤ length (nodes_of part) → first_page part ≡ None
inside (Leaf page points) many = absurd (omega (arith, many))
inside (Split (Some page) dimension key low border low_side high_side) many = absurd (omega (arith, many))
inside (Split None dimension key low border low_side high_side) many = refl

begins_there : (page : ℕ) (part : Part) → first_page part ≡ None → first_page (at_page (Some page) part) ≡ Some page
begins_there page (Leaf first points) none = absurd cc
begins_there page (Split home dimension key low border low_side high_side) none = refl

-- the halves of more than 64 points
pub balanced_halves : (n low : ℕ) → 64 < n → low ≡ n / 2 → IsBalancedCut n low
balanced_halves n low many half = record {
  many = many;
  some_low = omega (arith, half, many);
  some_high = omega (arith, half, many);
  low_share = omega (arith, half, many);
  high_share = omega (arith, half, many);
}

pub levels_few : (n : ℕ) → 1 ≤ n → n ≤ 64 → levels_of n ≡ 1
levels_few n some few = let other : (n == 0) ≡ false = ne_eqb n 0 (λ e. omega (arith, e, some)) in rw (other, le-leb n 64 few) refl

pub levels_many : (n : ℕ) → 64 < n → levels_of n ≡ 2
levels_many n many = let other : (n == 0) ≡ false = ne_eqb n 0 (λ e. omega (arith, e, many)) in rw (other, lt-leb n 64 many) refl

module _ {B : Type 0} (g : Ghosts B) where
  pub leaf_built : (m0 m1 : PageMap) (points : List Point) (page : ℕ) → 1 ≤ length points → length points ≤ 64 → All (λ p. length p.keys ≡ 3) points
      → HoldsLeaf m1 page points → Replaces [] (page ∷ []) m0 m1 → IsBuiltAt g points m0 m1 page
  leaf_built m0 m1 points page some few three holds change = record {
    part = Leaf page points;
    is = record {
      stood = record { shape = (refl, some, few); parted = three; borders = tt; spelled = holds };
      balance = tt;
      kept = IsPermutation-refl points;
      change = change;
      once = (refl, tt);
    };
    begins = refl;
  }

  pub border_built : (m0 m1 : PageMap) (dimension : ℕ) (lows : List Point) (border : Tree) → HaveLaws g → 64 < length lows
      → IsBuiltOf g.stands g.footprint g.balanced m0 m1 border (border_points dimension lows) → IsBorderBuilt g dimension lows m0 m1 border
  border_built m0 m1 dimension lows border laws many built = record {
    none = λ few. absurd (omega (arith, few, many));
    stood = λ more. built.stood;
    balance = λ more. built.balance;
    change = built.change;
    once = laws.once m1 border (border_points dimension lows) built.stood;
  }

  pub border_none : (m : PageMap) (dimension : ℕ) (lows : List Point) (border : Tree) → HaveLaws g → length lows ≤ 64 → border ≡ empty_tree
      → IsBorderBuilt g dimension lows m m border
  border_none m dimension lows border laws few empty =
      let none : g.footprint m border ≡ [] = ap (g.footprint m) empty ∙ (laws.empty m).1 in
      record {
        none = λ less. empty;
        stood = λ more. absurd (omega (arith, few, more));
        balance = λ more. absurd (omega (arith, few, more));
        change = subst (λ (ps : List ℕ). Replaces [] ps m m) (sym none) (Replaces-same [] m);
        once = subst NamesNoneTwice (sym none) tt;
      }

  -- a cut, with the border and both sides, in this order
  pub cut_built : (m0 m1 m2 m3 : PageMap) (points new xs ys : List Point) (dimension key low : ℕ) (border : Tree) (p0 p1 p2 p3 : List CutNode)
      → HaveLaws g → IsPermutation points new → new ≡ xs ++ ys → low ≡ length xs → IsBalancedCut (length points) low → dimension < suc g.DIMS
      → All (λ p. slice_index p.keys dimension < key) xs → All (λ p. key ≤ slice_index p.keys dimension) ys
      → p1 ≡ p0 ++ (Cut dimension key low border ∷ []) → IsBorderBuilt g dimension xs m0 m1 border
      → IsBuiltBehind g xs m1 m2 p1 p2 → IsBuiltBehind g ys m2 m3 p2 p3 → IsBuiltBehind g points m0 m3 p0 p3
  cut_built m0 m1 m2 m3 points new xs ys dimension key low border p0 p1 p2 p3 laws same parts counted balanced lt below from pushed b l h =
      let cut : CutNode = Cut dimension key low border in
      let lows : Part = l.part in
      let highs : Part = h.part in
      let f : List ℕ = g.footprint m1 border in
      let lp : List ℕ = part_pages g m2 lows in
      let hp : List ℕ = part_pages g m3 highs in
      let sides : Replaces [] (lp ++ hp) m1 m3 = Replaces-beside [] lp [] hp m1 m2 m3 l.is.change h.is.change in
      let all : Replaces [] (f ++ (lp ++ hp)) m0 m3 = Replaces-beside [] f [] (lp ++ hp) m0 m1 m3 b.change sides in
      let halves : IsPermutation points (xs ++ ys) = subst (λ (ps : List Point). IsPermutation points ps) parts same in
      let long : length points ≡ length (xs ++ ys) = sym (length_permutation points (xs ++ ys) halves) in
      let few : low ≤ 64 → border ≡ empty_tree = λ less. b.none (omega (arith, less, counted)) in
      let kept_low : IsPermutation xs (points_of lows) = IsPermutation-sym (points_of lows) xs l.is.kept in
      let kept_high : IsPermutation ys (points_of highs) = IsPermutation-sym (points_of highs) ys h.is.kept in
      let many : 64 < low → g.stands m1 border (border_points dimension (points_of lows)) = λ more.
      laws.any_order m1 border (border_points dimension xs) (border_points dimension (points_of lows)) (b.stood (omega (arith, more, counted)))
      (IsPermutation-map (without_dimension dimension) xs (points_of lows) kept_low) in
      let there_border : AreInMap m1 f = border_there g laws m1 low border (border_points dimension (points_of lows)) few many in
      let agree_border : AgreeOn f m1 m3 = Replaces-agree f [] (lp ++ hp) m1 m3 sides there_border (apart_none f) in
      let mine = border_same g laws m1 m3 low border (border_points dimension (points_of lows)) few many agree_border in
      let there_low : AreInMap m2 lp = part_there g laws m2 (length xs) lows l.is.stood in
      let agree_low : AgreeOn lp m2 m3 = Replaces-agree lp [] hp m2 m3 h.is.change there_low (apart_none lp) in
      let still = part_same g laws m2 m3 (length xs) lows l.is.stood agree_low in
      let pages_are : part_pages g m3 (Split None dimension key low border lows highs) ≡ f ++ (lp ++ hp) = λ i. mine.1 i ++ (still.1 i ++ hp) in
      let rest : length ys ≡ length points - low = omega (arith, long, counted, length-append xs ys) in
      record {
        part = Split None dimension key low border lows highs;
        is = record {
          stood = record {
            shape = (balanced, subst (λ (n : ℕ). HasShape n lows) (sym counted) still.0.shape, subst (λ (n : ℕ). HasShape n highs) rest h.is.stood.shape);
            parted = (
              lt,
              All-permutation (λ (p : Point). slice_index p.keys dimension < key) xs (points_of lows) kept_low below,
              All-permutation (λ (p : Point). key ≤ slice_index p.keys dimension) ys (points_of highs) kept_high from,
              still.0.parted,
              h.is.stood.parted,
            );
            borders = (few, mine.0, still.0.borders, h.is.stood.borders);
            spelled = (tt, still.0.spelled, h.is.stood.spelled);
          };
          balance = (
            border_balance g laws m1 m3 low border (border_points dimension (points_of lows)) many agree_border (λ more. b.balance (omega (arith, more, counted))),
            part_balance g laws m2 m3 (length xs) lows l.is.stood agree_low l.is.balance,
            h.is.balance,
          );
          kept = IsPermutation-trans (points_of lows ++ points_of highs) (xs ++ ys) points
              (IsPermutation-append (points_of lows) xs (points_of highs) ys l.is.kept h.is.kept) (IsPermutation-sym points (xs ++ ys) halves);
          change = subst (λ (ps : List ℕ). Replaces [] ps m0 m3) (sym pages_are) all;
          once = subst NamesNoneTwice (sym pages_are)
              (once_join f (lp ++ hp) b.once
              (once_join lp hp l.is.once h.is.once (Replaces-apart lp [] hp m2 m3 h.is.change there_low (apart_none lp)))
              (Replaces-apart f [] (lp ++ hp) m1 m3 sides there_border (apart_none f)));
        };
        nodes_are =
            h.nodes_are ∙ ap (λ (ns : List CutNode). ns ++ nodes_of highs)
            (l.nodes_are ∙ ap (λ (ns : List CutNode). ns ++ nodes_of lows) pushed ∙ append_assoc p0 (cut ∷ []) (nodes_of lows))
            ∙ append_assoc p0 (cut ∷ nodes_of lows) (nodes_of highs);
      }

  -- a page that holds the nodes of a part, made after them
  pub page_built : (m0 m1 m2 : PageMap) (points : List Point) (none nodes : List CutNode) (page : ℕ) → HaveLaws g → none ≡ [] → 3 ≤ length nodes
      → IsBuiltBehind g points m0 m1 none nodes → HoldsCuts m2 page nodes → Replaces [] (page ∷ []) m1 m2 → IsBuiltAt g points m0 m2 page
  page_built m0 m1 m2 points none nodes page laws empty many built holds change =
      let part : Part = built.part in
      let n : ℕ = length points in
      let nodes_are : nodes ≡ nodes_of part = built.nodes_are ∙ ap (λ (ns : List CutNode). ns ++ nodes_of part) empty in
      let long : length nodes ≡ length (nodes_of part) = ap (λ (ns : List CutNode). length ns) nodes_are in
      let no_home : first_page part ≡ None = inside part (omega (arith, many, long)) in
      let pp : List ℕ = part_pages g m1 part in
      let there : AreInMap m1 pp = part_there g laws m1 n part built.is.stood in
      let agree : AgreeOn pp m1 m2 = Replaces-agree pp [] (page ∷ []) m1 m2 change there (apart_none pp) in
      let same = part_same g laws m1 m2 n part built.is.stood agree in
      let balance = part_balance g laws m1 m2 n part built.is.stood agree built.is.balance in
      let spelled = moved m2 page part no_home same.0.spelled (subst (λ (ns : List CutNode). HoldsCuts m2 page ns) nodes_are holds) in
      let apart : AreApart pp (page ∷ []) = Replaces-apart pp [] (page ∷ []) m1 m2 change there (apart_none pp) in
      let pages_are : part_pages g m2 (at_page (Some page) part) ≡ page ∷ pp =
      more_pages page (g.footprint m2) part no_home ∙ ap (λ (ps : List ℕ). page ∷ ps) same.1 in
      let both : Replaces [] (pp ++ (page ∷ [])) m0 m2 = Replaces-beside [] pp [] (page ∷ []) m0 m1 m2 built.is.change change in
      record {
        part = at_page (Some page) part;
        is = record {
          stood = record {
            shape = shape_stays (Some page) n part same.0.shape;
            parted = parted_stays (Some page) (suc g.DIMS) part same.0.parted;
            borders = borders_stay (g.stands m2) (Some page) part same.0.borders;
            spelled = spelled.0;
          };
          balance = balance_stays (g.balanced m2) (Some page) part balance;
          kept = subst (λ (ps : List Point). IsPermutation ps points) (sym (points_stay (Some page) part)) built.is.kept;
          change = subst (λ (ps : List ℕ). Replaces [] ps m0 m2) (sym pages_are)
              (Replaces-by_names [] (pp ++ (page ∷ [])) [] (page ∷ pp) m0 m2 (λ p. refl)
              (λ p. names_permuted (pp ++ (page ∷ [])) (page ∷ pp) p (IsPermutation-append_comm pp (page ∷ []))) both);
          once = subst NamesNoneTwice (sym pages_are)
              (once_join (page ∷ []) pp (refl, tt) built.is.once (apart_sym pp (page ∷ []) apart));
        };
        begins = begins_there page part no_home;
      }

  -- a tree of some points
  pub tree_built : (m0 m1 : PageMap) (points : List Point) (tree : Tree) → 1 ≤ length points → MayBeBuilt (suc g.DIMS) points
      → tree.count ≡ length points → tree.levels ≡ levels_of (length points) → tree.changes ≡ 0 → tree.last ≡ 0 → IsBuiltAt g points m0 m1 tree.root
      → IsBuiltOf (CutsStand g) (tree_pages g) (CutsBalanced g) m0 m1 tree points
  tree_built m0 m1 points tree some may count levels changes last built =
      let part : Part = built.part in
      let counted : 1 ≤ tree.count = omega (arith, some, count) in
      let stood = built.is.stood in
      let is : IsPartOf g m1 tree points part = record {
        stood = record { shape = subst (λ (n : ℕ). HasShape n part) (sym count) stood.shape; parted = stood.parted; borders = stood.borders; spelled = stood.spelled };
        begins = built.begins;
        kept = built.is.kept;
      } in
      let pages_are : tree_pages g m1 tree ≡ part_pages g m1 part = own_pages g m1 tree points part counted is in
      record {
        stood = record {
          count = count;
          may_be = may;
          levels = levels;
          changes = changes;
          last = last;
          none = λ none. absurd (omega (arith, none, some));
          part = λ _. (part, is);
          once = subst NamesNoneTwice (sym pages_are) built.is.once;
        };
        balance = λ _. subst (λ (p : Part). PartBalanced g m1 p) (sym (tree_is g m1 tree points part is)) built.is.balance;
        change = subst (λ (ps : List ℕ). Replaces [] ps m0 m1) (sym pages_are) built.is.change;
      }
