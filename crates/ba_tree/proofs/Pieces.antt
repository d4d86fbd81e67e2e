-- A part whose page is put, split at its first cut, or freed: the same part, in other pages.
use Rattle.std.proofs.Common.{◌≡◌, ℕ, ◌+◌, ◌-◌, ◌<◌, ◌≤◌, Option, Some, None, IsSome, List, [], ◌∷◌, ◌++◌, slice_index, refl, sym, ap, ◌∙◌, subst, arith, append-nil, length}
use Rattle.std.specs.Prelude.{IsPermutation}
use Rattle.std.proofs.lemmas.List.Sorted.{IsPermutation-refl}
use Rattle.std.specs.List.{All}
use Rattle.bw_types.specs.declared.point.Point.{Point}
use Rattle.bw_types.specs.declared.tree.Tree.{Tree}
use Rattle.ports.specs.Frame.{AgreeOn, Replaces}
use Rattle.ports.specs.FrameLaws.{Replaces-then}
use Rattle.ports.specs.Pages.{PageMap}
use Rattle.page_layout.specs.Footprint.{NamesNoneTwice}
use Rattle.page_layout.specs.declared.cut_page.CutNode.{CutNode}
use Rattle.page_layout.specs.declared.cut_page.CutNode.TheVariants.{Cut, Entry}
use Rattle.cut_parts.specs.Parts.{Part, Leaf, Split, border_points, points_of}
use Rattle.cut_parts.specs.Spelling.{HoldsCuts, at_page, first_page, from_home, nodes_in, nodes_of}
use Rattle.cut_parts.specs.Standing.{BordersBalanced, HaveLaws, PartBalanced, PartStands, part_pages}
use Rattle.cut_parts.specs.declared.border_tree.BorderTree.{Ghosts}
use Rattle.cut_parts.proofs.Frames.{agree_left, agree_right, border_balance, border_same, part_balance, part_same, part_there}
use Rattle.cut_parts.proofs.Homes.{borders_stay, more_pages, moved, parted_stays, points_stay, shape_stays}
use Rattle.cut_parts.proofs.Trees.{entry_nodes}
use Rattle.ba_tree.specs.Additions.{IsAdded, IsAddedAs, IsGrownIn, IsMovedAs, MayTake}
use Rattle.ba_tree.proofs.CutSides.{high_stood, low_stood}
use Rattle.ba_tree.proofs.Within.{beside, both_first, high_first, low_first, some_there, still_there, two_pages, within}

-- a side that begins with a page of its own, or is left as it is
abbrev rehome : Option ℕ → Part → Part
rehome None side = side
rehome (Some page) side = at_page (Some page) side

at_first : (page : ℕ) (side : Part) → first_page side ≡ None → first_page (at_page (Some page) side) ≡ Some page
at_first page (Leaf first points) inside = absurd cc
at_first page (Split home dimension key low border low_side high_side) inside = refl

own_nodes : (page : ℕ) (side : Part) → first_page side ≡ None → nodes_of (at_page (Some page) side) ≡ Entry page ∷ []
own_nodes page (Leaf first points) inside = absurd cc
own_nodes page (Split home dimension key low border low_side high_side) inside = refl

-- a part of three nodes and more is a cut inside a page, and one of one node begins with a page
pub many_nodes : (side : Part) → 2 ≤ length (nodes_of side) → first_page side ≡ None
many_nodes (Leaf page points) many = absurd (omega (arith, many))
many_nodes (Split (Some page) dimension key low border low_side high_side) many = absurd (omega (arith, many))
many_nodes (Split None dimension key low border low_side high_side) many = refl

nodes_split : (dimension key low : ℕ) (border : Tree) {first second : ℕ} {low_nodes high_nodes : List CutNode} → low_nodes ≡ Entry first ∷ [] → high_nodes ≡ Entry second ∷ []
    → Cut dimension key low border ∷ (low_nodes ++ high_nodes) ≡ Cut dimension key low border ∷ Entry first ∷ Entry second ∷ []
nodes_split dimension key low border l h = λ i. Cut dimension key low border ∷ (l i ++ h i)

balance_stays : (balanced : Tree → Type 0) (home : Option ℕ) (part : Part) → BordersBalanced balanced part → BordersBalanced balanced (at_page home part)
balance_stays balanced home (Leaf page points) s = s
balance_stays balanced home (Split other dimension key low border low_side high_side) s = s

module _ {B : Type 0} (g : Ghosts B) (laws : HaveLaws g) where
  -- what a side needs to begin with a page of its own
  abbrev MayMove : PageMap → Option ℕ → Part → Type 0
  MayMove m None side = Unit {0}
  MayMove m (Some page) side = (first_page side ≡ None) × HoldsCuts m page (nodes_of side)

  pub record SideStays (a b : PageMap) (k : ℕ) (home : Option ℕ) (side : Part) : Type 0 where
    pub stood : PartStands g b k (rehome home side)
    pub pages : part_pages g b (rehome home side) ≡ from_home home (part_pages g a side)
    pub points : points_of (rehome home side) ≡ points_of side
    pub balance : PartBalanced g a side → PartBalanced g b (rehome home side)

  pub side_stays : (a b : PageMap) (k : ℕ) (home : Option ℕ) (side : Part) → PartStands g a k side → AgreeOn (part_pages g a side) a b → MayMove b home side
      → SideStays a b k home side
  side_stays a b k None side s agree may =
      let same = part_same g laws a b k side s agree in
      record { stood = same.0; pages = same.1; points = refl; balance = part_balance g laws a b k side s agree }
  side_stays a b k (Some page) side s agree may =
      let same = part_same g laws a b k side s agree in
      let spelled = moved b page side may.0 same.0.spelled may.1 in
      record {
        stood = record {
          shape = shape_stays (Some page) k side same.0.shape;
          parted = parted_stays (Some page) _ side same.0.parted;
          borders = borders_stay (g.stands b) (Some page) side same.0.borders;
          spelled = spelled.0;
        };
        pages = more_pages page (g.footprint b) side may.0 ∙ ap (λ (ps : List ℕ). page ∷ ps) same.1;
        points = points_stay (Some page) side;
        balance = λ before. balance_stays (g.balanced b) (Some page) side (part_balance g laws a b k side s agree before);
      }

  move_sides : (a b : PageMap) (page n dimension key low : ℕ) (border : Tree) (low_side high_side : Part) (home_low home_high : Option ℕ) (new : List ℕ) (nodes : List CutNode)
      → PartStands g a n (Split None dimension key low border low_side high_side) → NamesNoneTwice (page ∷ part_pages g a (Split None dimension key low border low_side high_side))
      → Replaces (page ∷ []) new a b → NamesNoneTwice new → MayMove b home_low low_side → MayMove b home_high high_side
      → IsPermutation (g.footprint a border ++ (from_home home_low (part_pages g a low_side) ++ from_home home_high (part_pages g a high_side))) (new ++ (g.footprint a border ++ (part_pages g a low_side ++ part_pages g a high_side)))
      → nodes_of (Split None dimension key low border (rehome home_low low_side) (rehome home_high high_side)) ≡ nodes
      → IsMovedAs g a b n page (Split None dimension key low border low_side high_side) nodes
  move_sides a b page n dimension key low border low_side high_side home_low home_high new nodes s once change once_new may_low may_high order nodes_are =
      let bs : List ℕ = g.footprint a border in
      let ls : List ℕ = part_pages g a low_side in
      let hs : List ℕ = part_pages g a high_side in
      let all : List ℕ = bs ++ (ls ++ hs) in
      let w = within (page ∷ []) new all (page ∷ all) (bs ++ (from_home home_low ls ++ from_home home_high hs)) a b (IsPermutation-refl (page ∷ all)) order change once once_new
      (part_there g laws a n (Split None dimension key low border low_side high_side) s) in
      let sides = agree_right bs (ls ++ hs) a b w.agree in
      let on_border = agree_left bs (ls ++ hs) a b w.agree in
      let e = border_same g laws a b low border (border_points dimension (points_of low_side)) s.borders.0 s.borders.1 on_border in
      let l = side_stays a b low home_low low_side (low_stood g laws a n dimension key low border low_side high_side s) (agree_left ls hs a b sides) may_low in
      let h = side_stays a b (n - low) home_high high_side (high_stood g laws a n dimension key low border low_side high_side s) (agree_right ls hs a b sides) may_high in
      let low_new : Part = rehome home_low low_side in
      let high_new : Part = rehome home_high high_side in
      let whole : bs ++ (from_home home_low ls ++ from_home home_high hs) ≡ g.footprint b border ++ (part_pages g b low_new ++ part_pages g b high_new) =
      λ i. sym e.1 i ++ (sym l.pages i ++ sym h.pages i) in
      record {
        moved = Split None dimension key low border low_new high_new;
        stood = record {
          shape = (s.shape.0, l.stood.shape, h.stood.shape);
          parted = (
            s.parted.0,
            subst (λ (ps : List Point). All (λ (q : Point). slice_index q.keys dimension < key) ps) (sym l.points) s.parted.1,
            subst (λ (ps : List Point). All (λ (q : Point). key ≤ slice_index q.keys dimension) ps) (sym h.points) s.parted.2,
            l.stood.parted,
            h.stood.parted,
          );
          borders = (
            s.borders.0,
            (λ more. subst (λ (ps : List Point). g.stands b border (border_points dimension ps)) (sym l.points) (e.0 more)),
            l.stood.borders,
            h.stood.borders,
          );
          spelled = (tt, l.stood.spelled, h.stood.spelled);
        };
        points = λ i. l.points i ++ h.points i;
        change = subst (λ (ps : List ℕ). Replaces (page ∷ all) ps a b) whole w.change;
        once = subst NamesNoneTwice whole w.once;
        balance = λ before. (
          border_balance g laws a b low border (border_points dimension (points_of low_side)) s.borders.1 on_border before.0,
          l.balance before.1,
          h.balance before.2,
        );
        nodes_are = nodes_are;
      }

  -- ---- the split of a page at its first cut, by the sides that are entries

  -- the nodes and the sides as the code finds them
  abbrev FoundSides : List CutNode → CutNode → List CutNode → List CutNode → Type 0
  FoundSides nodes cut lows highs = (dimension key low : ℕ) (border : Tree) (low_side high_side : Part) → nodes ≡ nodes_of (Split None dimension key low border low_side high_side)
      → (cut ≡ Cut dimension key low border) × (lows ≡ nodes_of low_side) × (highs ≡ nodes_of high_side)

  abbrev Begins : List CutNode → Option ℕ → Type 0
  Begins nodes found = (side : Part) → nodes ≡ nodes_of side → found ≡ first_page side

  pub split_low : (a b : PageMap) (page n child : ℕ) (part : Part) (nodes lows highs : List CutNode) (cut : CutNode) → first_page part ≡ None → nodes ≡ nodes_of part
      → PartStands g a n part → NamesNoneTwice (page ∷ part_pages g a part) → FoundSides nodes cut lows highs → Begins lows (Some child) → Begins highs None
      → HoldsCuts b page highs → Replaces (page ∷ []) (page ∷ []) a b → IsMovedAs g a b n page part (cut ∷ Entry child ∷ Entry page ∷ [])
  split_low a b page n child (Leaf first points) nodes lows highs cut inside is s once sides low_begins high_begins holds change = absurd cc
  split_low a b page n child (Split (Some first) d k l t low_side high_side) nodes lows highs cut inside is s once sides low_begins high_begins holds change = absurd cc
  split_low a b page n child (Split None d k l t low_side high_side) nodes lows highs cut inside is s once sides low_begins high_begins holds change =
      let f = sides d k l t low_side high_side is in
      let high_inside : first_page high_side ≡ None = sym (high_begins high_side f.2) in
      subst (λ (c : CutNode). IsMovedAs g a b n page (Split None d k l t low_side high_side) (c ∷ Entry child ∷ Entry page ∷ [])) (sym f.0)
      (move_sides a b page n d k l t low_side high_side None (Some page) (page ∷ []) (Cut d k l t ∷ Entry child ∷ Entry page ∷ []) s once change (refl, tt) tt
      (high_inside, subst (λ (ns : List CutNode). HoldsCuts b page ns) f.2 holds)
      (high_first (g.footprint a t) (part_pages g a low_side) (part_pages g a high_side) page)
      (nodes_split d k l t (entry_nodes low_side child (sym (low_begins low_side f.1))) (own_nodes page high_side high_inside)))

  pub split_high : (a b : PageMap) (page n child : ℕ) (part : Part) (nodes lows highs : List CutNode) (cut : CutNode) → first_page part ≡ None → nodes ≡ nodes_of part
      → PartStands g a n part → NamesNoneTwice (page ∷ part_pages g a part) → FoundSides nodes cut lows highs → Begins lows None → Begins highs (Some child)
      → HoldsCuts b page lows → Replaces (page ∷ []) (page ∷ []) a b → IsMovedAs g a b n page part (cut ∷ Entry page ∷ Entry child ∷ [])
  split_high a b page n child (Leaf first points) nodes lows highs cut inside is s once sides low_begins high_begins holds change = absurd cc
  split_high a b page n child (Split (Some first) d k l t low_side high_side) nodes lows highs cut inside is s once sides low_begins high_begins holds change = absurd cc
  split_high a b page n child (Split None d k l t low_side high_side) nodes lows highs cut inside is s once sides low_begins high_begins holds change =
      let f = sides d k l t low_side high_side is in
      let low_inside : first_page low_side ≡ None = sym (low_begins low_side f.1) in
      subst (λ (c : CutNode). IsMovedAs g a b n page (Split None d k l t low_side high_side) (c ∷ Entry page ∷ Entry child ∷ [])) (sym f.0)
      (move_sides a b page n d k l t low_side high_side (Some page) None (page ∷ []) (Cut d k l t ∷ Entry page ∷ Entry child ∷ []) s once change (refl, tt)
      (low_inside, subst (λ (ns : List CutNode). HoldsCuts b page ns) f.1 holds) tt
      (low_first (g.footprint a t) (part_pages g a low_side) (part_pages g a high_side) page)
      (nodes_split d k l t (own_nodes page low_side low_inside) (entry_nodes high_side child (sym (high_begins high_side f.2)))))

  pub split_both : (a b c : PageMap) (page new n : ℕ) (part : Part) (nodes lows highs : List CutNode) (cut : CutNode) → first_page part ≡ None → nodes ≡ nodes_of part
      → PartStands g a n part → NamesNoneTwice (page ∷ part_pages g a part) → FoundSides nodes cut lows highs → Begins lows None → Begins highs None
      → HoldsCuts b page lows → Replaces (page ∷ []) (page ∷ []) a b → HoldsCuts c new highs → Replaces [] (new ∷ []) b c
      → IsMovedAs g a c n page part (cut ∷ Entry page ∷ Entry new ∷ [])
  split_both a b c page new n (Leaf first points) nodes lows highs cut inside is s once sides low_begins high_begins holds change new_holds made = absurd cc
  split_both a b c page new n (Split (Some first) d k l t low_side high_side) nodes lows highs cut inside is s once sides low_begins high_begins holds change new_holds made = absurd cc
  split_both a b c page new n (Split None d k l t low_side high_side) nodes lows highs cut inside is s once sides low_begins high_begins holds change new_holds made =
      let f = sides d k l t low_side high_side is in
      let low_inside : first_page low_side ≡ None = sym (low_begins low_side f.1) in
      let high_inside : first_page high_side ≡ None = sym (high_begins high_side f.2) in
      let two = two_pages page new a b c change (some_there b page holds.bytes holds.there) made in
      let low_holds : HoldsCuts c page lows = record { bytes = holds.bytes; there = two.agree ∙ holds.there; spelled = holds.spelled; is = holds.is } in
      subst (λ (x : CutNode). IsMovedAs g a c n page (Split None d k l t low_side high_side) (x ∷ Entry page ∷ Entry new ∷ [])) (sym f.0)
      (move_sides a c page n d k l t low_side high_side (Some page) (Some new) (page ∷ new ∷ []) (Cut d k l t ∷ Entry page ∷ Entry new ∷ []) s once two.change two.once
      (low_inside, subst (λ (ns : List CutNode). HoldsCuts c page ns) f.1 low_holds) (high_inside, subst (λ (ns : List CutNode). HoldsCuts c new ns) f.2 new_holds)
      (both_first (g.footprint a t) (part_pages g a low_side) (part_pages g a high_side) page new)
      (nodes_split d k l t (own_nodes page low_side low_inside) (own_nodes new high_side high_inside)))

  -- ---- a page that is put as it is, or freed

  pub stays_home : (a b : PageMap) (page n : ℕ) (part : Part) (nodes : List CutNode) → first_page part ≡ None → nodes ≡ nodes_of part → PartStands g a n part
      → NamesNoneTwice (page ∷ part_pages g a part) → HoldsCuts b page nodes → Replaces (page ∷ []) (page ∷ []) a b → IsMovedAs g a b n page part (Entry page ∷ [])
  stays_home a b page n part nodes inside is s once holds change =
      let others : List ℕ = part_pages g a part in
      let w = within (page ∷ []) (page ∷ []) others (page ∷ others) (page ∷ others) a b (IsPermutation-refl (page ∷ others)) (IsPermutation-refl (page ∷ others)) change once (refl, tt)
      (part_there g laws a n part s) in
      let side = side_stays a b n (Some page) part s w.agree (inside, subst (λ (ns : List CutNode). HoldsCuts b page ns) is holds) in
      record {
        moved = at_page (Some page) part;
        stood = side.stood;
        points = side.points;
        change = subst (λ (ps : List ℕ). Replaces (page ∷ others) ps a b) (sym side.pages) w.change;
        once = subst NamesNoneTwice (sym side.pages) w.once;
        balance = side.balance;
        nodes_are = own_nodes page part inside;
      }

  pub home_is_freed : (a b : PageMap) (page n child : ℕ) (part : Part) → first_page part ≡ Some child → PartStands g a n part
      → NamesNoneTwice (page ∷ part_pages g a part) → Replaces (page ∷ []) [] a b → IsMovedAs g a b n page part (Entry child ∷ [])
  home_is_freed a b page n child part begins s once change =
      let others : List ℕ = part_pages g a part in
      let w = within (page ∷ []) [] others (page ∷ others) others a b (IsPermutation-refl (page ∷ others)) (IsPermutation-refl others) change once tt (part_there g laws a n part s) in
      let side = side_stays a b n None part s w.agree tt in
      record {
        moved = part;
        stood = side.stood;
        points = refl;
        change = subst (λ (ps : List ℕ). Replaces (page ∷ others) ps a b) (sym side.pages) w.change;
        once = subst NamesNoneTwice (sym side.pages) w.once;
        balance = side.balance;
        nodes_are = entry_nodes part child begins;
      }

  -- ---- a page of cuts of which the part got a point inside

  -- the part in a page of cuts, without its page
  pub inside_of : (m : PageMap) (page n : ℕ) (part : Part) (nodes : List CutNode) (p : Point) → first_page part ≡ Some page → 64 < n → MayTake g m n part p
      → HoldsCuts m page nodes → MayTake g m n (at_page None part) p × (nodes ≡ nodes_of (at_page None part)) × NamesNoneTwice (page ∷ part_pages g m (at_page None part))
      × (part_pages g m part ≡ page ∷ part_pages g m (at_page None part)) × (points_of (at_page None part) ≡ points_of part)
  inside_of m page n (Leaf first points) nodes p begins many take holds = absurd (omega (arith, take.stood.shape, many))
  inside_of m page n (Split None dimension key low border low_side high_side) nodes p begins many take holds = absurd cc
  inside_of m page n (Split (Some first) dimension key low border low_side high_side) nodes p begins many take holds =
      let same : first ≡ page = cc in
      let takes : MayTake g m n (Split (Some page) dimension key low border low_side high_side) p =
      subst (λ (q : ℕ). MayTake g m n (Split (Some q) dimension key low border low_side high_side) p) same take in
      let s = takes.stood in
      let nodes_are : nodes ≡ Cut dimension key low border ∷ (nodes_of low_side ++ nodes_of high_side) =
      let here : holds.bytes ≡ s.spelled.0.bytes = cc in sym holds.is ∙ ap (λ (bs : List ℕ). nodes_in bs) here ∙ s.spelled.0.is in (
        record {
          stood = record { shape = s.shape; parted = s.parted; borders = s.borders; spelled = (tt, s.spelled.1, s.spelled.2) };
          once = takes.once.1;
          new = takes.new;
          may_be = takes.may_be;
          three = takes.three;
        },
        nodes_are,
        takes.once,
        ap (λ (q : ℕ). q ∷ part_pages g m (Split None dimension key low border low_side high_side)) same,
        refl,
      )

  -- the part's page was put, split or freed after the addition inside
  pub page_stored : (m0 m1 m2 : PageMap) (page n : ℕ) (part inner grown : Part) (p : Point) (nodes : List CutNode) → IsSome (m0 page)
      → NamesNoneTwice (page ∷ part_pages g m0 inner) → part_pages g m0 part ≡ page ∷ part_pages g m0 inner → points_of inner ≡ points_of part
      → (PartBalanced g m0 part → PartBalanced g m0 inner)
      → IsAdded g m0 m1 n inner grown p → IsMovedAs g m1 m2 (n + 1) page grown nodes → IsAddedAs g m0 m2 n part p nodes
  page_stored m0 m1 m2 page n part inner grown p nodes here once own same balanced added move =
      let b = beside page (part_pages g m0 inner) (part_pages g m1 grown) m0 m1 once added.once added.change here in
      record {
        grown = move.moved;
        added = record {
          stood = move.stood;
          points = subst (λ (ps : List Point). IsPermutation (points_of move.moved) (p ∷ ps)) same (subst (λ (ps : List Point). IsPermutation ps (p ∷ points_of inner)) (sym move.points) added.points);
          change = subst (λ (ps : List ℕ). Replaces ps (part_pages g m2 move.moved) m0 m2) (sym own)
              (Replaces-then (page ∷ part_pages g m0 inner) (page ∷ part_pages g m1 grown) (part_pages g m2 move.moved) m0 m1 m2 b.change move.change);
          once = move.once;
          balance = λ before. move.balance (added.balance (balanced before));
        };
        nodes_are = move.nodes_are;
      }

  -- A page of cuts holds a part inside it, which may take the point.
  pub record InPage (m : PageMap) (page n : ℕ) (part : Part) (nodes : List CutNode) (p : Point) : Type 0 where
    pub inner : Part
    pub inside : first_page inner ≡ None
    pub is : nodes ≡ [] ++ (nodes_of inner ++ [])
    pub takes : MayTake g m n inner p
    pub once : NamesNoneTwice (page ∷ part_pages g m inner)
    pub own : part_pages g m part ≡ page ∷ part_pages g m inner
    pub same : points_of inner ≡ points_of part
    pub balance : PartBalanced g m part → PartBalanced g m inner

  pub in_page : (m : PageMap) (page n : ℕ) (part : Part) (nodes : List CutNode) (p : Point) → first_page part ≡ Some page → 64 < n → 3 ≤ length nodes
      → MayTake g m n part p → HoldsCuts m page nodes → InPage m page n part nodes p
  in_page m page n part nodes p begins many some take holds =
      let i = inside_of m page n part nodes p begins many take holds in
      let inner : Part = at_page None part in
      let long : length nodes ≡ length (nodes_of inner) = ap (λ (ns : List CutNode). length ns) i.1 in
      record {
        inner = inner;
        inside = many_nodes inner (omega (arith, some, long));
        is = i.1 ∙ sym (append-nil (nodes_of inner));
        takes = i.0;
        once = i.2;
        own = i.3;
        same = i.4;
        balance = balance_stays (g.balanced m) None part;
      }

  -- The part inside a page got a point; the page is still there.
  pub record GrownInPage (m0 m1 : PageMap) (page n : ℕ) (inner : Part) (nodes : List CutNode) (p : Point) : Type 0 where
    pub grown : Part
    pub added : IsAdded g m0 m1 n inner grown p
    pub is : nodes ≡ nodes_of grown
    pub once : NamesNoneTwice (page ∷ part_pages g m1 grown)
    pub here : IsSome (m1 page)

  pub grown_in_page : (m0 m1 : PageMap) (page n : ℕ) (inner : Part) (nodes : List CutNode) (p : Point) → NamesNoneTwice (page ∷ part_pages g m0 inner)
      → IsSome (m0 page) → IsGrownIn g m0 m1 n inner p nodes [] [] → GrownInPage m0 m1 page n inner nodes p
  grown_in_page m0 m1 page n inner nodes p once here grew =
      let b = beside page (part_pages g m0 inner) (part_pages g m1 grew.grown) m0 m1 once grew.added.once grew.added.change here in
      record {
        grown = grew.grown;
        added = grew.added;
        is = grew.nodes_are ∙ append-nil (nodes_of grew.grown);
        once = b.once;
        here = still_there m0 m1 page b.same here;
      }

  -- a new page that holds the nodes of what a part has become
  pub new_home : (m0 m1 m2 : PageMap) (n new : ℕ) (part : Part) (p : Point) (nodes : List CutNode) → 2 ≤ length nodes → IsAddedAs g m0 m1 n part p nodes
      → HoldsCuts m2 new nodes → Replaces [] (new ∷ []) m1 m2 → IsAddedAs g m0 m2 n part p (Entry new ∷ [])
  new_home m0 m1 m2 n new part p nodes many got holds made =
      let others : List ℕ = part_pages g m1 got.grown in
      let long : length (nodes_of got.grown) ≡ length nodes = ap (λ (ns : List CutNode). length ns) got.nodes_are in
      let inside : first_page got.grown ≡ None = many_nodes got.grown (omega (arith, many, long)) in
      let w = within [] (new ∷ []) others others (new ∷ others) m1 m2 (IsPermutation-refl others) (IsPermutation-refl (new ∷ others)) made got.added.once (refl, tt)
      (part_there g laws m1 (n + 1) got.grown got.added.stood) in
      let side = side_stays m1 m2 (n + 1) (Some new) got.grown got.added.stood w.agree (inside, subst (λ (ns : List CutNode). HoldsCuts m2 new ns) (sym got.nodes_are) holds) in
      record {
        grown = at_page (Some new) got.grown;
        added = record {
          stood = side.stood;
          points = subst (λ (ps : List Point). IsPermutation ps (p ∷ points_of part)) (sym side.points) got.added.points;
          change = subst (λ (ps : List ℕ). Replaces (part_pages g m0 part) ps m0 m2) (sym side.pages)
              (Replaces-then (part_pages g m0 part) others (new ∷ others) m0 m1 m2 got.added.change w.change);
          once = subst NamesNoneTwice (sym side.pages) w.once;
          balance = λ before. side.balance (got.added.balance before);
        };
        nodes_are = own_nodes new got.grown inside;
      }
