-- The way down from a node that stands to its child.
use Rattle.std.proofs.Common.{◌≡◌, ℕ, suc, ◌≤◌, inl, inr, false, IsTrue, List, Option, Some, None, IsSome, refl, sym, ap, ◌∙◌, subst, arith}
use Rattle.std.specs.Option.{option_map_or}
use Rattle.std.proofs.lemmas.Bool.{cases_Bool}
use Rattle.ports.specs.Pages.{PageMap}
use Rattle.ports.specs.Frame.{names_page}
use Rattle.page_layout.specs.MvNode.{IsMvNode, IsTyped, mv_node_page}
use Rattle.page_layout.specs.declared.mv_node.MvNode.{MvNode}
use Rattle.mv_pages.specs.Alive.{child_of, or_later}
use Rattle.mv_pages.specs.Lows.{alive_lows, low_above, low_at}
use Rattle.mvsb_tree.specs.Stands.{NodeStands, StandsOnWay, ends_after, inner_high, inner_low}
use Rattle.mvsb_tree.specs.Steps.{node_on}
use Rattle.mvsb_tree.specs.Ways.{IsKeyIn, LowsCut, WaysStand, way_pages}
use Rattle.mvsb_tree.proofs.Chains.{same_node}
use Rattle.mvsb_tree.proofs.Cutting.{same_interval}
use Rattle.mvsb_tree.proofs.Intervals.{inner_in, lows_cut, way_within}
use Rattle.mvsb_tree.proofs.Nodes.{node_on-spelled, some_same}
use Rattle.mvsb_tree.proofs.Ways.{low_at_some}

module _ (m0 : PageMap) (page child : ℕ) (old : MvNode) (v key low : ℕ) (high : Option ℕ) (level : ℕ)
    (at_level : old.level ≡ suc (suc level)) (rules : IsMvNode old) (typed : IsTyped old) (there : m0 page ≡ Some (mv_node_page old))
    (leads : child_of old key v ≡ Some child)
    (same_child : (q : ℕ) → low_at (alive_lows old.entries.items v) q ≡ low_at (alive_lows old.entries.items v) key → child_of old q v ≡ child_of old key v)
    (key_in : IsKeyIn low high key) (nodes : List ℕ) (least : ℕ) (ways : WaysStand old.level m0 nodes page v low high least) where
  abbrev lows : List ℕ
  lows = alive_lows old.entries.items v

  pub is : node_on m0 page ≡ old
  is = node_on-spelled m0 page old typed rules there

  pub ways2 : WaysStand (suc (suc level)) m0 nodes page v low high least
  ways2 = subst (λ (l : ℕ). WaysStand l m0 nodes page v low high least) at_level ways

  pub top : NodeStands m0 nodes (suc (suc level)) page v low high least
  top = (ways2 key key_in).0

  pub old_cut : LowsCut lows low high least
  old_cut = subst (λ (n : MvNode). LowsCut (alive_lows n.entries.items v) low high least) is (lows_cut m0 nodes (suc (suc level)) page v low high least top)

  key_low : (a : ℕ) × (low_at lows key ≡ Some a)
  key_low = low_at_some lows key low old_cut.begins key_in.from

  a_is : inner_low low lows key ≡ key_low.0
  a_is = ap (λ (o : Option ℕ). option_map_or (λ l. l) o low) key_low.1

  key_inner : IsKeyIn (inner_low low lows key) (inner_high high lows key) key × (low ≤ inner_low low lows key) × ((x : ℕ) → IsTrue (ends_after (inner_high high lows key) x) → IsTrue (ends_after high x))
  key_inner = inner_in lows low high least key old_cut key_in

  next_after : (o : Option ℕ) (q : ℕ) → IsTrue (ends_after (or_later high o) q) → IsTrue (ends_after o q)
  next_after None q b = refl
  next_after (Some n) q b = b

  -- The ways of the child's keys stand.
  pub child_ways : WaysStand (suc level) m0 nodes child v (inner_low low lows key) (inner_high high lows key) 24
  child_ways = λ q q_in.
      let from : key_low.0 ≤ q = omega (arith, a_is, q_in.from) in
      let before = next_after (low_above lows key) q q_in.before in
      let in_node : IsKeyIn low high q = record { from = omega (arith, key_inner.1, q_in.from); before = key_inner.2 q q_in.before; fits = q_in.fits } in
      let same = same_interval None lows key q key_low.0 old_cut.differ key_low.1 from before in
      let w = ways2 q in_node in
      let leads_q : child_of old q v ≡ Some child = same_child q (same.0 ∙ sym key_low.1) ∙ leads in
      let child_is : w.1 ≡ child = some_same w.1 child (sym w.2 ∙ ap (λ (n : MvNode). child_of n q v) is ∙ leads_q) in
      let w1 = subst (λ (n : MvNode). StandsOnWay (suc level) m0 nodes w.1 v q (inner_low low (alive_lows n.entries.items v) q) (inner_high high (alive_lows n.entries.items v) q) 24) is w.3 in
      let w2 = subst (λ (c : ℕ). StandsOnWay (suc level) m0 nodes c v q (inner_low low lows q) (inner_high high lows q) 24) child_is w1 in
      let w3 = subst (λ (l : ℕ). StandsOnWay (suc level) m0 nodes child v q l (inner_high high lows q) 24) (ap (λ (o : Option ℕ). option_map_or (λ l. l) o low) (same.0 ∙ sym key_low.1)) w2 in
      subst (λ (e : Option ℕ). StandsOnWay (suc level) m0 nodes child v q (inner_low low lows key) e 24) (ap (λ (o : Option ℕ). or_later high o) same.1) w3

  -- The node's own page is on no way below it.
  off : names_page (way_pages (suc level) m0 child key v) page ≡ false
  off = elim (cases_Bool (names_page (way_pages (suc level) m0 child key v) page)) [
    | inr away ↦ away
    | inl named ↦
        let d = way_within (suc level) m0 nodes child v key (inner_low low lows key) (inner_high high lows key) 24 (child_ways key key_inner.0) key_inner.0 page named in
        absurd (omega (arith, d.4, top.at_level))
  ]

  -- The page stays where those on the way below it alone change.
  pub still : (m1 : PageMap) → ((p : ℕ) → names_page (way_pages (suc level) m0 child key v) p ≡ false → IsSome (m0 p) → m1 p ≡ m0 p) → node_on m1 page ≡ old
  still m1 apart = same_node m0 m1 page (apart page off (subst IsSome (sym there) refl)) ∙ is
