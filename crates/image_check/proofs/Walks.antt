-- What a walk over a page, or over a cut, finds, from what the walks inside it find.
use Rattle.std.proofs.Common.{◌≡◌, ℕ, suc, ◌-◌, ◌<◌, ◌≤◌, Some, None, List, [], ◌∷◌, ◌++◌, length, drop, slice_index, refl, sym, ap, ◌∙◌, subst, append-nil, append_assoc, arith, IsTrue}
use Rattle.std.specs.Prelude.{IsPermutation}
use Rattle.std.specs.List.{All}
use Rattle.std.proofs.lemmas.Bool.{false≢true}
use Rattle.std.proofs.lemmas.List.Sorted.{IsPermutation-append_left, IsPermutation-append_right, IsPermutation-append_comm, IsPermutation-refl, IsPermutation-trans}
use Rattle.bw_types.specs.declared.point.Point.{Point}
use Rattle.bw_types.specs.declared.tree.Tree.{Tree}
use Rattle.ports.specs.Pages.{PageMap}
use Rattle.page_layout.specs.CutPage.{open_places}
use Rattle.page_layout.specs.declared.cut_page.CutNode.{CutNode}
use Rattle.page_layout.specs.declared.cut_page.CutNode.TheVariants.{Cut, Entry}
use Rattle.cut_parts.specs.Damage.{IsSoundCut, after_parts}
use Rattle.cut_parts.specs.Parts.{Part, Leaf, Split, points_of}
use Rattle.cut_parts.specs.Spelling.{HoldsCuts, HoldsLeaf, at_page, first_page, nodes_of}
use Rattle.cut_parts.specs.Standing.{HaveLaws, PartBalanced, PartStands, part_pages}
use Rattle.cut_parts.specs.declared.border_tree.BorderTree.{Ghosts}
use Rattle.cut_parts.proofs.Homes.{borders_stay, more_pages, moved, parted_stays, points_stay, shape_stays}
use Rattle.cut_parts.proofs.PartNodes.{entry_of}
use Rattle.cut_parts.proofs.Trees.{entry_nodes}
use Rattle.cut_parts.specs.Nodes.{AreNodes}
use Rattle.cut_parts.proofs.Places.{after_part, fills_place}
use Rattle.image_check.specs.Walked.{AreLow, BeginWalked, BeginWithNone}
use Rattle.image_check.proofs.Cuts.{in_page, leaf_holds, page_holds, same_part, sides_of}

drop_first : {X : Type 0} (xs ys : List X) → drop (length xs) (xs ++ ys) ≡ ys
drop_first [] ys = refl
drop_first (x ∷ xs) ys = drop_first xs ys

-- what lies behind the first points, where others were put behind them
behind_first : (old more new : List Point) (before : ℕ) → before ≡ length old → new ≡ old ++ more → drop before new ≡ more
behind_first old more new before long is = ap (λ (k : ℕ). drop k new) long ∙ ap (λ (ps : List Point). drop (length old) ps) is ∙ drop_first old more

-- the points behind the first ones, of a slice of a vector
pub sliced : (before : ℕ) (points slice items : List Point) → points ≡ drop before slice → slice ≡ items → points ≡ drop before items
sliced before points slice items is same = is ∙ ap (λ (ps : List Point). drop before ps) same

-- Pages of a low side, of a border and of a high side, named in this order, are those of the cut.
names_of_cut : (before lows border highs first second last : List ℕ) → IsPermutation (before ++ lows) first → IsPermutation (first ++ border) second
    → IsPermutation (second ++ highs) last → IsPermutation (before ++ (border ++ (lows ++ highs))) last
names_of_cut before lows border highs first second last a b c =
    let swapped : IsPermutation (before ++ (border ++ (lows ++ highs))) (((before ++ lows) ++ border) ++ highs) =
    subst (λ (ps : List ℕ). IsPermutation (before ++ (border ++ (lows ++ highs))) ps)
    (sym (append_assoc (before ++ lows) border highs ∙ append_assoc before lows (border ++ highs)))
    (IsPermutation-append_right before (border ++ (lows ++ highs)) (lows ++ (border ++ highs))
    (subst (λ (ps : List ℕ). IsPermutation ps (lows ++ (border ++ highs))) (append_assoc border lows highs)
    (subst (λ (ps : List ℕ). IsPermutation ((border ++ lows) ++ highs) ps) (append_assoc lows border highs)
    (IsPermutation-append_left highs (border ++ lows) (lows ++ border) (IsPermutation-append_comm border lows))))) in
    let one : IsPermutation (((before ++ lows) ++ border) ++ highs) ((first ++ border) ++ highs) =
    IsPermutation-append_left highs ((before ++ lows) ++ border) (first ++ border) (IsPermutation-append_left border (before ++ lows) first a) in
    let two : IsPermutation ((first ++ border) ++ highs) (second ++ highs) = IsPermutation-append_left highs (first ++ border) second b in
    IsPermutation-trans _ _ _ swapped (IsPermutation-trans _ _ _ one (IsPermutation-trans _ _ _ two c))

none_after : (nodes : List CutNode) → IsTrue (open_places 0 nodes) → nodes ≡ []
none_after [] filled = refl
none_after (node ∷ nodes) filled = absurd (false≢true filled)

no_entry : (part : Part) → 3 ≤ length (nodes_of part) → first_page part ≡ None
no_entry (Leaf page points) many = absurd (omega (arith, many))
no_entry (Split (Some page) dimension key low border low_side high_side) many = absurd (omega (arith, many))
no_entry (Split None dimension key low border low_side high_side) many = refl

-- A page's nodes are those of one part, which is a cut.
whole_page : (nodes rest : List CutNode) (part : Part) → AreNodes nodes → 3 ≤ length nodes → nodes ≡ nodes_of part ++ rest
    → (nodes ≡ nodes_of part) × (first_page part ≡ None)
whole_page nodes rest part are many is =
    let left : rest ≡ [] = none_after rest (subst IsTrue (fills_place part 0 rest) (subst (λ (ns : List CutNode). IsTrue (open_places 1 ns)) is are.filled)) in
    let all : nodes ≡ nodes_of part = is ∙ ap (λ (ns : List CutNode). nodes_of part ++ ns) left ∙ append-nil (nodes_of part) in
    (all, no_entry part (subst (λ (ns : List CutNode). 3 ≤ length ns) all many))

no_nodes : (nodes : List CutNode) → length nodes ≡ 0 → nodes ≡ []
no_nodes [] none = refl
no_nodes (node ∷ nodes) none = absurd (omega (arith, none))

some_node : (part : Part) (rest : List CutNode) → [] ≡ nodes_of part ++ rest → ⊥
some_node (Leaf page points) rest none = cc
some_node (Split (Some page) dimension key low border low_side high_side) rest none = cc
some_node (Split None dimension key low border low_side high_side) rest none = cc

-- no nodes begin with none
pub empty_refused : {B : Type 0} (g : Ghosts B) (m : PageMap) (n : ℕ) (nodes : List CutNode) → length nodes ≡ 0 → BeginWithNone g m n nodes
empty_refused g m n nodes none part rest nodes_are stands balance = some_node part rest (sym (no_nodes nodes none) ∙ nodes_are)

balance_stays : {B : Type 0} (g : Ghosts B) (m : PageMap) (page : ℕ) (part : Part) → PartBalanced g m part → PartBalanced g m (at_page (Some page) part)
balance_stays g m page (Leaf first points) b = b
balance_stays g m page (Split home dimension key low border low_side high_side) b = b

module _ {B : Type 0} (g : Ghosts B) (m : PageMap) (n : ℕ) where
  -- an entry, whatever follows it
  pub entry_walked : (page : ℕ) (nodes others : List CutNode) (old new : List Point) (before after : List ℕ) → nodes ≡ Entry page ∷ others
      → BeginWalked g m n (Entry page ∷ []) old new before after → BeginWalked g m n nodes old new before after
  entry_walked page nodes others old new before after is w =
      let e = entry_of w.part page [] w.rest w.nodes_are in
      record { part = w.part; rest = others; nodes_are = is ∙ ap (λ (ns : List CutNode). ns ++ others) (sym (entry_nodes w.part page e.0)); is = w.is }

  pub entry_refused : (page : ℕ) (nodes others : List CutNode) → nodes ≡ Entry page ∷ others → BeginWithNone g m n (Entry page ∷ []) → BeginWithNone g m n nodes
  entry_refused page nodes others is none = λ part rest nodes_are stands balance.
      let e = entry_of part page others rest (sym is ∙ nodes_are) in
      none part [] (sym (entry_nodes part page e.0) ∙ sym (append-nil (nodes_of part))) stands balance

  -- a leaf
  pub leaf_walked : (page : ℕ) (held old new : List Point) (before after : List ℕ) → n ≤ 64 → HoldsLeaf m page held → length held ≡ n → 1 ≤ n
      → All (λ p. length p.keys ≡ 3) held → new ≡ old ++ held → after ≡ before ++ page ∷ [] → BeginWalked g m n (Entry page ∷ []) old new before after
  leaf_walked page held old new before after few holds counted some three points named = record {
    part = Leaf page held;
    rest = [];
    nodes_are = refl;
    is = record {
      stands = record { shape = (sym counted, some, few); parted = three; borders = tt; spelled = holds };
      balance = tt;
      points = points;
      names = subst (λ (ps : List ℕ). IsPermutation (before ++ page ∷ []) ps) (sym named) (IsPermutation-refl (before ++ page ∷ []));
    };
  }

  pub leaf_refused : (page : ℕ) → n ≤ 64 → ((held : List Point) → HoldsLeaf m page held → length held ≡ n → ⊥) → BeginWithNone g m n (Entry page ∷ [])
  leaf_refused page few none = λ part rest nodes_are stands balance.
      let k = leaf_holds g m n page part (entry_of part page [] rest nodes_are).0 few stands in
      none k.0 k.1 k.2

  -- a page of cuts
  pub page_walked : (page : ℕ) (nodes : List CutNode) (old new : List Point) (before between after : List ℕ) → HoldsCuts m page nodes → AreNodes nodes → 3 ≤ length nodes
      → between ≡ before ++ page ∷ [] → BeginWalked g m n nodes old new between after → BeginWalked g m n (Entry page ∷ []) old new before after
  page_walked page nodes old new before between after held are many named w =
      let whole = whole_page nodes w.rest w.part are many w.nodes_are in
      let home : Part = at_page (Some page) w.part in
      let at = moved m page w.part whole.1 w.is.stands.spelled (subst (λ (ns : List CutNode). HoldsCuts m page ns) whole.0 held) in
      let s = w.is.stands in
      let same : between ++ part_pages g m w.part ≡ before ++ part_pages g m home =
      ap (λ (ps : List ℕ). ps ++ part_pages g m w.part) named ∙ append_assoc before (page ∷ []) (part_pages g m w.part)
      ∙ ap (λ (ps : List ℕ). before ++ ps) (sym (more_pages page (g.footprint m) w.part whole.1)) in
      record {
        part = home;
        rest = [];
        nodes_are = sym (append-nil (nodes_of home) ∙ at.1);
        is = record {
          stands = record {
            shape = shape_stays (Some page) n w.part s.shape;
            parted = parted_stays (Some page) (suc g.DIMS) w.part s.parted;
            borders = borders_stay (g.stands m) (Some page) w.part s.borders;
            spelled = at.0;
          };
          balance = balance_stays g m page w.part w.is.balance;
          points = w.is.points ∙ ap (λ (ps : List Point). old ++ ps) (sym (points_stay (Some page) w.part));
          names = subst (λ (ps : List ℕ). IsPermutation ps after) same w.is.names;
        };
      }

  pub no_page : (page : ℕ) → 64 < n → ((nodes : List CutNode) → HoldsCuts m page nodes → ⊥) → BeginWithNone g m n (Entry page ∷ [])
  no_page page many none = λ part rest nodes_are stands balance.
      let k = page_holds g m n page part (entry_of part page [] rest nodes_are).0 many stands in
      none k.0 k.1

  pub page_refused : (page : ℕ) (nodes : List CutNode) → 64 < n → HoldsCuts m page nodes
      → ((part : Part) (rest : List CutNode) → nodes ≡ nodes_of part ++ rest → first_page part ≡ None → PartStands g m n part → PartBalanced g m part → ⊥)
      → BeginWithNone g m n (Entry page ∷ [])
  page_refused page nodes many held none = λ part rest nodes_are stands balance.
      let k = in_page g m n page nodes part (entry_of part page [] rest nodes_are).0 many held stands balance in
      none k.cut [] k.nodes_are k.inside k.stands k.balance

-- a cut
module _ {B : Type 0} (g : Ghosts B) (laws : HaveLaws g) (m : PageMap) (n dimension key low : ℕ) (border : Tree) (nodes others : List CutNode)
    (begun : Cut dimension key low border ∷ others ≡ nodes) where
  pub sound_refused : (IsSoundCut (suc g.DIMS) n dimension low border → ⊥) → BeginWithNone g m n nodes
  sound_refused wrong = λ part rest nodes_are stands balance.
      let k = sides_of g laws m n dimension key low border nodes others rest part begun nodes_are stands balance in
      wrong k.sound

  pub low_refused : BeginWithNone g m low others → BeginWithNone g m n nodes
  low_refused none = λ part rest nodes_are stands balance.
      let k = sides_of g laws m n dimension key low border nodes others rest part begun nodes_are stands balance in
      none k.low_side (nodes_of k.high_side ++ rest) k.nodes_are k.low_stands k.low_balance

  pub border_refused : (old new : List Point) (names first : List ℕ) (before : ℕ) (lows : List Point) → before ≡ length old → lows ≡ drop before new
      → BeginWalked g m low others old new names first → (AreLow g m dimension key low border lows → ⊥) → BeginWithNone g m n nodes
  border_refused old new names first before lows long lows_are w wrong = λ part rest nodes_are stands balance.
      let k = sides_of g laws m n dimension key low border nodes others rest part begun nodes_are stands balance in
      let same : w.part ≡ k.low_side = same_part g m low others w.part k.low_side w.rest (nodes_of k.high_side ++ rest) w.nodes_are k.nodes_are w.is.stands k.low_stands in
      let points : points_of k.low_side ≡ lows = ap points_of (sym same) ∙ sym (lows_are ∙ behind_first old (points_of w.part) new before long w.is.points) in
      wrong (subst (λ (ps : List Point). AreLow g m dimension key low border ps) points k.lows)

  pub high_refused : BeginWithNone g m (n - low) (after_parts 1 others) → BeginWithNone g m n nodes
  high_refused none = λ part rest nodes_are stands balance.
      let k = sides_of g laws m n dimension key low border nodes others rest part begun nodes_are stands balance in
      none k.high_side rest (ap (λ (ns : List CutNode). after_parts 1 ns) k.nodes_are ∙ after_part k.low_side 0 (nodes_of k.high_side ++ rest)) k.high_stands k.high_balance

  pub highs_refused : (old new : List Point) (names first : List ℕ) (middle : ℕ) (highs : List Point) → middle ≡ length old → highs ≡ drop middle new
      → BeginWalked g m (n - low) (after_parts 1 others) old new names first → (All (λ p. key ≤ slice_index p.keys dimension) highs → ⊥) → BeginWithNone g m n nodes
  highs_refused old new names first middle highs long highs_are w wrong = λ part rest nodes_are stands balance.
      let k = sides_of g laws m n dimension key low border nodes others rest part begun nodes_are stands balance in
      let after : after_parts 1 others ≡ nodes_of k.high_side ++ rest =
      ap (λ (ns : List CutNode). after_parts 1 ns) k.nodes_are ∙ after_part k.low_side 0 (nodes_of k.high_side ++ rest) in
      let same : w.part ≡ k.high_side = same_part g m (n - low) (after_parts 1 others) w.part k.high_side w.rest rest w.nodes_are after w.is.stands k.high_stands in
      let points : points_of k.high_side ≡ highs = ap points_of (sym same) ∙ sym (highs_are ∙ behind_first old (points_of w.part) new middle long w.is.points) in
      wrong (subst (λ (ps : List Point). All (λ p. key ≤ slice_index p.keys dimension) ps) points k.highs)

  pub cut_walked : (old mid new : List Point) (names first second last : List ℕ) (before middle : ℕ) (lows highs : List Point) → IsSoundCut (suc g.DIMS) n dimension low border
      → before ≡ length old → lows ≡ drop before mid → middle ≡ length mid → highs ≡ drop middle new
      → BeginWalked g m low others old mid names first → AreLow g m dimension key low border lows → IsPermutation (first ++ g.footprint m border) second
      → BeginWalked g m (n - low) (after_parts 1 others) mid new second last → All (λ p. key ≤ slice_index p.keys dimension) highs
      → BeginWalked g m n nodes old new names last
  cut_walked old mid new names first second last before middle lows highs sound low_long lows_are high_long highs_are a low_points named b high_points =
      let lowers : AreLow g m dimension key low border (points_of a.part) =
      subst (λ (ps : List Point). AreLow g m dimension key low border ps) (lows_are ∙ behind_first old (points_of a.part) mid before low_long a.is.points) low_points in
      let uppers : All (λ p. key ≤ slice_index p.keys dimension) (points_of b.part) =
      subst (λ (ps : List Point). All (λ p. key ≤ slice_index p.keys dimension) ps) (highs_are ∙ behind_first mid (points_of b.part) new middle high_long b.is.points) high_points in
      let next : a.rest ≡ nodes_of b.part ++ b.rest =
      sym (ap (λ (ns : List CutNode). after_parts 1 ns) a.nodes_are ∙ after_part a.part 0 a.rest) ∙ b.nodes_are in
      let node : CutNode = Cut dimension key low border in
      record {
        part = Split None dimension key low border a.part b.part;
        rest = b.rest;
        nodes_are = sym begun ∙ ap (λ (ns : List CutNode). node ∷ ns) (a.nodes_are ∙ ap (λ (ns : List CutNode). nodes_of a.part ++ ns) next
            ∙ sym (append_assoc (nodes_of a.part) (nodes_of b.part) b.rest));
        is = record {
          stands = record {
            shape = (sound.balanced, a.is.stands.shape, b.is.stands.shape);
            parted = (sound.in_dims, lowers.below, uppers, a.is.stands.parted, b.is.stands.parted);
            borders = (sound.few, lowers.stood, a.is.stands.borders, b.is.stands.borders);
            spelled = (tt, a.is.stands.spelled, b.is.stands.spelled);
          };
          balance = (lowers.balance, a.is.balance, b.is.balance);
          points = b.is.points ∙ ap (λ (ps : List Point). ps ++ points_of b.part) a.is.points ∙ append_assoc old (points_of a.part) (points_of b.part);
          names = names_of_cut names (part_pages g m a.part) (g.footprint m border) (part_pages g m b.part) first second last a.is.names named b.is.names;
        };
      }
