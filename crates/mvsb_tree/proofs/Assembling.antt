-- An addition to a node, and to one below it, put together.
use Rattle.std.proofs.Common.{◌≡◌, ℕ, zero, suc, ◌+◌, ◌-◌, ◌%◌, ◌^◌, ◌≤◌, ◌==◌, inl, inr, ◌⊎◌, true, false, Bool, IsTrue, nat_le, List, ◌∷◌, Option, Some, None, IsSome, refl, sym, ap, ◌∙◌, subst, arith}
use Rattle.std.specs.List.{All}
use Rattle.std.proofs.lemmas.Bool.{and_parts, leb-true, ltb-true, or_parts}
use Rattle.ports.specs.Pages.{PageMap, put_page}
use Rattle.ports.specs.Frame.{names_page}
use Rattle.page_layout.specs.MvNode.{IsMvNode, IsTyped, mv_node_page}
use Rattle.page_layout.specs.declared.mv_node.MvNode.{MvNode}
use Rattle.mv_pages.specs.Alive.{child_of, node_value, or_later}
use Rattle.mv_pages.specs.Edits.{Cut, OfCut}
use Rattle.mv_pages.specs.Lows.{alive_lows, low_above, low_at, with_cut}
use Rattle.mvsb_tree.specs.declared.replaced.Replaced.{Replaced}
use Rattle.mvsb_tree.specs.Changed.{CutFits, IsAbove, IsFrom, LowsPut, ReplacedFits, beside_value, cut_of, part_page}
use Rattle.mvsb_tree.specs.Grown.{EntriesHold, NodesHold, PastStays}
use Rattle.mvsb_tree.specs.Stands.{ChainStands, NodeStands, ends_after, inner_high, inner_low}
use Rattle.mvsb_tree.specs.Steps.{chain_from, node_on, total_below}
use Rattle.mvsb_tree.specs.Stored.{IsFirstStored, IsStorable, IsStored, all_start_at}
use Rattle.mvsb_tree.specs.Ways.{IsAdded, IsKeyIn, LowsCut, NodeWays, PartsStand, WaysStand, added_at, way_pages}
use Rattle.mvsb_tree.proofs.Adding.{index_ways, leaf_ways}
use Rattle.mvsb_tree.proofs.Descending as descending
use Rattle.mvsb_tree.proofs.Growing.{grown_then, named_second}
use Rattle.mvsb_tree.proofs.Intervals.{ends_down, lows_cut}
use Rattle.mvsb_tree.proofs.Landing.{landed, not_new}
use Rattle.mvsb_tree.proofs.Nodes.{node_on-spelled}
use Rattle.mvsb_tree.proofs.Sound.{root_spelled}
use Rattle.mvsb_tree.proofs.Splitting.{lies_in}
use Rattle.mvsb_tree.proofs.Ways.{low_above_holds, low_at_holds, way_goes_on}

-- A cut inside a child's interval fits the lows around it, and lies inside the node's interval.
outer_cut : (lows : List ℕ) (key low : ℕ) (high : Option ℕ) (o : Option Cut) → low_at lows key ≡ Some low → CutFits (Some low) (or_later high (low_above lows key)) o → CutFits (low_at lows key) (low_above lows key) o
outer_cut lows key low high None at f = tt
outer_cut lows key low high (Some c) at f = (f.0, subst (λ (o : Option ℕ). IsAbove o c.0) (sym at) f.1, next (low_above lows key) f.2)
  where
    next : (o : Option ℕ) → IsTrue (ends_after (or_later high o) c.0) → IsTrue (ends_after o c.0)
    next None h = refl
    next (Some n) h = h

pub outer_fits : (lows : List ℕ) (key low : ℕ) (high inner : Option ℕ) (r : Option Replaced) → low_at lows key ≡ Some low → inner ≡ inner_high high lows key
    → ReplacedFits (Some low) inner r → ReplacedFits (low_at lows key) (low_above lows key) r
outer_fits lows key low high inner None at is f = tt
outer_fits lows key low high inner (Some r) at is f = (f.0, outer_cut lows key low high r.second at (subst (λ (h : Option ℕ). CutFits (Some low) h r.second) is f.1))

cut_in : (lows : List ℕ) (key low : ℕ) (high : Option ℕ) (least : ℕ) (o : Option Cut) → All (λ l. IsTrue (lies_in least high l)) lows → low_at lows key ≡ Some low
    → CutFits (Some low) (or_later high (low_above lows key)) o → OfCut o (λ c. (least ≤ c) × IsTrue (ends_after high c))
cut_in lows key low high least None all at f = tt
cut_in lows key low high least (Some c) all at f =
    let within = low_at_holds (λ l. IsTrue (lies_in least high l)) lows key low all at in
    let above = leb-true least low (and_parts (nat_le least low) (ends_after high low) within).0 in
    (omega (arith, above, f.1), next (low_above lows key) refl f.2)
  where
    next : (o : Option ℕ) → low_above lows key ≡ o → IsTrue (ends_after (or_later high o) c.0) → IsTrue (ends_after high c.0)
    next None e h = h
    next (Some n) e h =
        let within = (low_above_holds (λ (l : ℕ). IsTrue (lies_in least high l)) lows key n all e).0 in
        let less = ltb-true c.0 n h in
        ends_down high c.0 n (omega (arith, less)) (and_parts (nat_le least n) (ends_after high n) within).1

pub cut_inside_too : (lows : List ℕ) (key low : ℕ) (high inner : Option ℕ) (least : ℕ) (r : Option Replaced) → All (λ l. IsTrue (lies_in least high l)) lows → low_at lows key ≡ Some low → inner ≡ inner_high high lows key
    → ReplacedFits (Some low) inner r → OfCut (cut_of r) (λ c. (least ≤ c) × IsTrue (ends_after high c))
cut_inside_too lows key low high inner least None all at is f = tt
cut_inside_too lows key low high inner least (Some r) all at is f = cut_in lows key low high least r.second all at (subst (λ (h : Option ℕ). CutFits (Some low) h r.second) is f.1)

pub of_cut : (P Q : ℕ → Type 0) (o : Option Cut) → ((c : ℕ) → P c → Q c) → OfCut o P → OfCut o Q
of_cut P Q None f h = tt
of_cut P Q (Some c) f h = f c.0 h

-- Storing a node leaves the other pages as they are.
pub stored_apart : (a b : PageMap) (page : ℕ) (node : MvNode) (v last new_last : ℕ) (r : Option Replaced) → IsStored a b page node v last new_last r
    → (p : ℕ) → (page == p) ≡ false → IsSome (a p) → b p ≡ a p
stored_apart a b page node v last new_last None st p apart some = ap (λ (m : PageMap). m p) st.2 ∙ put_beside
  where
    put_beside : put_page a page (mv_node_page node) p ≡ a p
    put_beside = rw apart refl
stored_apart a b page node v last new_last (Some r) st p apart some = by_second r.second st.1
  where
    by_second : (o : Option (ℕ × ℕ)) → Rattle.mvsb_tree.specs.Stored.IsClosedBy a b page node v last new_last r.first o → b p ≡ a p
    by_second None c = c.3.others p (not_new a r.first p c.3.fresh some)
    by_second (Some pair) t = second (first (all_start_at v node.entries.items) t.stored)
      where
        first : (starts : Bool) → IsFirstStored starts a t.between page last t.between_last t.first_node r.first → t.between p ≡ a p
        first true f = ap (λ (m : PageMap). m p) f.2 ∙ (let e : put_page a page (mv_node_page t.first_node) p ≡ a p = rw apart refl in e)
        first false f = f.1.others p (not_new a r.first p f.1.fresh some)

        second : t.between p ≡ a p → b p ≡ a p
        second kept = t.next.others p (not_new t.between pair.1 p t.next.fresh (subst IsSome (sym kept) some)) ∙ kept

pub first_apart : (level : ℕ) (m : PageMap) (page key v p : ℕ) → 1 ≤ level → names_page (way_pages level m page key v) p ≡ false → (page == p) ≡ false
first_apart zero m page key v p some off = absurd (omega (arith, some))
first_apart (suc level) m page key v p some off = (or_parts (page == p) _ off).0

-- The addition in a leaf.
pub leaf_added : (m0 m1 : PageMap) (page : ℕ) (old new : MvNode) (v key value low : ℕ) (high : Option ℕ) (last new_last : ℕ) (replaced : Option Replaced)
    → old.level ≡ 1 → IsMvNode old → IsTyped old → m0 page ≡ Some (mv_node_page old)
    → IsStorable v new → PastStays v old new
    → ((q : ℕ) → node_value new q v ≡ (node_value old q v + added_at key value q) % 2 ^ 128)
    → ((test : ℕ → Bool) → All (λ e. IsTrue (test e.low)) old.entries.items → IsTrue (test key) → All (λ e. IsTrue (test e.low)) new.entries.items)
    → ((low least : ℕ) (high : Option ℕ) → LowsCut (alive_lows old.entries.items v) low high least → low ≤ key → IsTrue (ends_after high key) → LowsCut (alive_lows new.entries.items v) low high least)
    → IsKeyIn low high key → IsStored m0 m1 page new v last new_last replaced
    → (test : ℕ → Bool) (places least : ℕ) → IsTrue (test key) → ChainStands places m0 last → NodesHold v test m0 (chain_from places m0 last)
    → WaysStand old.level m0 (chain_from places m0 last) page v low high least
    → IsAdded old.level test m0 m1 page v key value low high least places last new_last replaced
leaf_added m0 m1 page old new v key value low high last new_last replaced leaf rules typed there storable past values tests cut key_in stored test places least key_test s h ways =
    let nodes : List ℕ = chain_from places m0 last in
    let is : node_on m0 page ≡ old = node_on-spelled m0 page old typed rules there in
    let top = root_spelled old.level m0 nodes page v key low high least (ways key key_in) in
    let old_cut = subst (λ (n : MvNode). LowsCut (alive_lows n.entries.items v) low high least) is (lows_cut m0 nodes old.level page v low high least top) in
    let held = subst (EntriesHold v test) is (h page top.listed) in
    let holds : EntriesHold v test new = record { past = storable.changeable.past; lows = λ _. tests test (held.lows leaf) key_test } in
    let node_ways = leaf_ways m0 nodes page old new v key value low high least leaf past.level is values (cut low least high old_cut key_in.from key_in.before) in
    let l = landed m0 page new v places last test s h top.listed (subst (λ (n : MvNode). PastStays v n new) (sym is) past) holds m1 new_last low high least
    (λ q. total_below old.level m0 page q v + added_at key value q) storable.low_level storable.typed node_ways replaced stored in
    record {
      new_places = l.new_places;
      grown = l.grown;
      parts = subst (λ (n : ℕ). Rattle.mvsb_tree.specs.Ways.PartsStand n m1 (chain_from l.new_places m1 new_last) page v low high least replaced (λ q. total_below old.level m0 page q v + added_at key value q)) past.level l.parts;
    }

pub leaf_here : (node : MvNode) (key v : ℕ) → (node.level ≡ 1) ⊎ IsSome (child_of node key v) → child_of node key v ≡ None → node.level ≡ 1
leaf_here node key v (inl leaf) none = leaf
leaf_here node key v (inr some) none = absurd (let h : IsSome {T = ℕ} None = subst IsSome none some in cc)

-- What an addition below a child does, where it stands.
abbrev pub AddsBelow : ℕ → PageMap → PageMap → ℕ → ℕ → ℕ → ℕ → ℕ → Option ℕ → ℕ → ℕ → Option Replaced → Type 0
AddsBelow level m0 m1 child v key value low high last new_last replaced = (test : ℕ → Bool) (places least : ℕ) → IsTrue (test key)
    → ChainStands places m0 last → NodesHold v test m0 (chain_from places m0 last) → WaysStand level m0 (chain_from places m0 last) child v low high least
    → IsAdded level test m0 m1 child v key value low high least places last new_last replaced

module _ (m0 m1 m2 : PageMap) (page child : ℕ) (old new : MvNode) (v key value low : ℕ) (high : Option ℕ) (last last1 last2 : ℕ) (replaced result : Option Replaced) (level : ℕ)
    (at_level : old.level ≡ suc (suc level)) (rules : IsMvNode old) (typed : IsTyped old) (there : m0 page ≡ Some (mv_node_page old))
    (leads : child_of old key v ≡ Some child)
    (fits : ReplacedFits (low_at (alive_lows old.entries.items v) key) (low_above (alive_lows old.entries.items v) key) replaced)
    (rec : AddsBelow (suc level) m0 m1 child v key value (inner_low low (alive_lows old.entries.items v) key) (inner_high high (alive_lows old.entries.items v) key) last last1 replaced)
    (apart : (p : ℕ) → names_page (way_pages (suc level) m0 child key v) p ≡ false → IsSome (m0 p) → m1 p ≡ m0 p)
    (storable : IsStorable v new) (past : PastStays v old new)
    (values : (q : ℕ) → node_value new q v ≡ (node_value old q v + beside_value (low_above (alive_lows old.entries.items v) key) value q) % 2 ^ 128)
    (led : (q c : ℕ) → IsFrom (low_at (alive_lows old.entries.items v) key) q → IsTrue (ends_after (low_above (alive_lows old.entries.items v) key) q)
    → child_of old q v ≡ Some c → child_of new q v ≡ Some (part_page c replaced q))
    (others : (q : ℕ) → (IsFrom (low_at (alive_lows old.entries.items v) key) q → IsTrue (ends_after (low_above (alive_lows old.entries.items v) key) q) → ⊥)
    → child_of new q v ≡ child_of old q v)
    (new_lows : alive_lows new.entries.items v ≡ with_cut (cut_of replaced) (alive_lows old.entries.items v))
    (around : (cut q : ℕ) → LowsPut cut (alive_lows old.entries.items v) q)
    (cut : (low least : ℕ) (high : Option ℕ) → LowsCut (alive_lows old.entries.items v) low high least → OfCut (cut_of replaced) (λ cut. (low ≤ cut) × IsTrue (ends_after high cut))
    → LowsCut (alive_lows new.entries.items v) low high least)
    (cut_fits : OfCut (cut_of replaced) (λ cut. (low ≤ cut) × IsTrue (ends_after high cut)))
    (same_child : (q : ℕ) → low_at (alive_lows old.entries.items v) q ≡ low_at (alive_lows old.entries.items v) key → child_of old q v ≡ child_of old key v)
    (key_in : IsKeyIn low high key) (stored : IsStored m1 m2 page new v last1 last2 result)
    (test : ℕ → Bool) (places least : ℕ) (key_test : IsTrue (test key)) (s : ChainStands places m0 last) (h : NodesHold v test m0 (chain_from places m0 last))
    (ways : WaysStand old.level m0 (chain_from places m0 last) page v low high least) where
  abbrev nodes : List ℕ
  nodes = chain_from places m0 last

  abbrev lows : List ℕ
  lows = alive_lows old.entries.items v

  is : node_on m0 page ≡ old
  is = descending.is m0 page child old v key low high level at_level rules typed there leads same_child key_in nodes least ways

  ways2 : WaysStand (suc (suc level)) m0 nodes page v low high least
  ways2 = descending.ways2 m0 page child old v key low high level at_level rules typed there leads same_child key_in nodes least ways

  top : NodeStands m0 nodes (suc (suc level)) page v low high least
  top = descending.top m0 page child old v key low high level at_level rules typed there leads same_child key_in nodes least ways

  old_cut : LowsCut lows low high least
  old_cut = descending.old_cut m0 page child old v key low high level at_level rules typed there leads same_child key_in nodes least ways

  done : IsAdded (suc level) test m0 m1 child v key value (inner_low low lows key) (inner_high high lows key) 24 places last last1 replaced
  done = rec test places 24 key_test s h (descending.child_ways m0 page child old v key low high level at_level rules typed there leads same_child key_in nodes least ways)

  abbrev nodes1 : List ℕ
  nodes1 = chain_from done.new_places m1 last1

  subset : (p : ℕ) → names_page nodes p ≡ true → names_page nodes1 p ≡ true
  subset p named = named_second done.grown.new nodes nodes1 p done.grown.chain named

  is1 : node_on m1 page ≡ old
  is1 = descending.still m0 page child old v key low high level at_level rules typed there leads same_child key_in nodes least ways m1 apart

  node_ways : NodeWays m1 nodes1 new v low high least (λ q. total_below old.level m0 page q v + added_at key value q)
  node_ways = index_ways m0 m1 nodes nodes1 page child v key value low high least level old new replaced at_level past.level is key_in ways2 leads done.parts apart subset fits values led others new_lows around
      (cut low least high old_cut cut_fits) same_child

  holds : EntriesHold v test new
  holds = record { past = storable.changeable.past; lows = λ leaf. absurd (omega (arith, leaf, past.level, at_level)) }

  pub index_added : IsAdded old.level test m0 m2 page v key value low high least places last last2 result
  index_added =
      let l = landed m1 page new v done.new_places last1 test done.grown.stands done.grown.hold (subset page top.listed) (subst (λ (n : MvNode). PastStays v n new) (sym is1) past) holds m2 last2 low high least
      (λ q. total_below old.level m0 page q v + added_at key value q) storable.low_level storable.typed node_ways result stored in
      record {
        new_places = l.new_places;
        grown = grown_then v test m0 m1 m2 places last done.new_places last1 l.new_places last2 done.grown l.grown;
        parts = subst (λ (n : ℕ). PartsStand n m2 (chain_from l.new_places m2 last2) page v low high least result (λ q. total_below old.level m0 page q v + added_at key value q)) past.level l.parts;
      }

-- The pages that are on no way of the key stay.
pub both_apart : (m0 m1 m2 : PageMap) (level page child : ℕ) (old new : MvNode) (v key last1 last2 : ℕ) (r : Option Replaced) → 2 ≤ level
    → IsMvNode old → IsTyped old → m0 page ≡ Some (mv_node_page old) → child_of old key v ≡ Some child
    → ((p : ℕ) → names_page (way_pages (level - 1) m0 child key v) p ≡ false → IsSome (m0 p) → m1 p ≡ m0 p)
    → IsStored m1 m2 page new v last1 last2 r
    → (p : ℕ) → names_page (way_pages level m0 page key v) p ≡ false → IsSome (m0 p) → m2 p ≡ m0 p
both_apart m0 m1 m2 zero page child old new v key last1 last2 r two rules typed there leads apart stored p off some = absurd (omega (arith, two))
both_apart m0 m1 m2 (suc level) page child old new v key last1 last2 r two rules typed there leads apart stored p off some =
    let is : node_on m0 page ≡ old = node_on-spelled m0 page old typed rules there in
    let less : suc level - 1 ≡ level = omega arith in
    let whole : way_pages (suc level) m0 page key v ≡ page ∷ way_pages level m0 child key v = way_goes_on level m0 page key v child (ap (λ (n : MvNode). child_of n key v) is ∙ leads) in
    let parts = or_parts (page == p) (names_page (way_pages level m0 child key v) p) (sym (ap (λ (ps : List ℕ). names_page ps p) whole) ∙ off) in
    let kept = apart p (ap (λ (l : ℕ). names_page (way_pages l m0 child key v) p) less ∙ parts.1) some in
    stored_apart m1 m2 page new v last1 last2 r stored p parts.0 (subst IsSome (sym kept) some) ∙ kept
