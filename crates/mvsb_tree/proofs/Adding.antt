-- A node that is changed for an addition stands for its keys with so much more.
use Rattle.std.proofs.Common.{◌≡◌, ℕ, suc, ◌+◌, ◌%◌, ◌^◌, ◌<◌, ◌≤◌, inl, inr, ◌⊎◌, true, false, Bool, IsTrue, nat_le, List, Option, Some, None, IsSome, cond, refl, sym, ap, ◌∙◌, subst, arith}
use Rattle.std.specs.Option.{option_map_or}
use Rattle.std.proofs.Math.Nat.{mod-add-mod}
use Rattle.std.proofs.lemmas.Bool.{true≢false, cases_Bool, cases_lt, le-leb, lt-leb, ltb-true, lt-ltb}
use Rattle.ports.specs.Pages.{PageMap}
use Rattle.ports.specs.Frame.{names_page}
use Rattle.page_layout.specs.declared.mv_node.MvNode.{MvNode}
use Rattle.mv_pages.specs.Alive.{child_of, node_value, or_later, value_of}
use Rattle.mv_pages.specs.Edits.{Cut}
use Rattle.mv_pages.specs.Lows.{alive_lows, low_above, low_at, with_cut}
use Rattle.mvsb_tree.specs.declared.replaced.Replaced.{Replaced}
use Rattle.mvsb_tree.specs.Changed.{CutFits, IsAbove, IsFrom, LowsPut, ReplacedFits, beside_value, cut_of, part_page}
use Rattle.mvsb_tree.specs.Stands.{NodeStands, StandsOnWay, ends_after, inner_high, inner_low}
use Rattle.mvsb_tree.specs.Steps.{node_on, node_total, total_below}
use Rattle.mvsb_tree.specs.Ways.{BelowStands, IsKeyIn, LowsCut, NodeWays, PartsStand, WaysStand, added_at, cut_high, cut_least, cut_low, way_pages}
use Rattle.mvsb_tree.proofs.Cutting.{put_elsewhere, put_low_above, put_low_at, same_interval}
use Rattle.mvsb_tree.proofs.Intervals.{AreDisjoint, inner_apart, inner_in, lows_cut, way_within, ways_apart}
use Rattle.mvsb_tree.proofs.Nodes.{some_same}
use Rattle.mvsb_tree.proofs.Past.{add_mods}
use Rattle.mvsb_tree.proofs.Raising.{index_total, leaf_total}
use Rattle.mvsb_tree.proofs.Ways.{low_above_holds, low_at_from, low_at_some, way_moves}

abbrev zero_total : ℕ → ℕ
zero_total child = 0

-- a total of a sum of residues
pub sum_mods : (a b c d n : ℕ) → a % n ≡ (b % n + c) % n → (a + d) % n ≡ (b + d + c) % n
sum_mods a b c d n e =
    let one : a % n ≡ (b + c) % n = e ∙ mod-add-mod b n c in
    let two : (a + d) % n ≡ (b + c + d) % n = add_mods a d (b + c) d n one refl in
    two ∙ ap (λ (x : ℕ). x % n) (let r : b + c + d ≡ b + d + c = omega arith in r)

-- The addition in a leaf.
pub leaf_ways : (a : PageMap) (nodes : List ℕ) (page : ℕ) (old new : MvNode) (v key value low : ℕ) (high : Option ℕ) (least : ℕ)
    → old.level ≡ 1 → new.level ≡ old.level → node_on a page ≡ old
    → ((q : ℕ) → node_value new q v ≡ (node_value old q v + added_at key value q) % 2 ^ 128)
    → LowsCut (alive_lows new.entries.items v) low high least
    → NodeWays a nodes new v low high least (λ q. total_below old.level a page q v + added_at key value q)
leaf_ways a nodes page old new v key value low high least leaf level is values cut = record {
  cut = cut;
  below = λ q in_key. subst (λ (l : ℕ). BelowStands l a nodes new v q low high) (sym (level ∙ leaf)) tt;
  totals = λ q in_key.
      let before : total_below old.level a page q v ≡ value_of old.entries.items q v + 0 =
      ap (λ (l : ℕ). total_below l a page q v) leaf ∙ ap (λ (n : MvNode). value_of n.entries.items q v + option_map_or (λ (child : ℕ). zero_total child) (child_of n q v) 0) is ∙ sym (leaf_zero q) in
      ap (λ (n : ℕ). n % 2 ^ 128) (leaf_total a new q v (level ∙ leaf))
      ∙ sum_mods (value_of new.entries.items q v) (value_of old.entries.items q v) (added_at key value q) 0 (2 ^ 128) (values q)
      ∙ ap (λ (n : ℕ). (n + added_at key value q) % 2 ^ 128) (sym before);
}
  where
    leaf_zero : (q : ℕ) → value_of old.entries.items q v + 0 ≡ value_of old.entries.items q v + option_map_or (λ (child : ℕ). zero_total child) (child_of old q v) 0
    leaf_zero q = ap (λ (n : ℕ). value_of old.entries.items q v + n) (sym (zeros (child_of old q v)))
      where
        zeros : (o : Option ℕ) → option_map_or (λ (child : ℕ). zero_total child) o 0 ≡ 0
        zeros None = refl
        zeros (Some x) = refl

-- What is added beside a child is added to the keys from the next low on.
beside_inside : (next : Option ℕ) (value q : ℕ) → IsTrue (ends_after next q) → beside_value next value q ≡ 0
beside_inside None value q before = refl
beside_inside (Some n) value q before =
    let less = ltb-true q n before in
    ap (λ (b : Bool). cond b value 0) (lt-leb n q less)

none_of : (value key q : ℕ) → q < key → added_at key value q ≡ 0
none_of value key q less = ap (λ (b : Bool). cond b value 0) (lt-leb key q less)

beside_below : (next : Option ℕ) (value key q : ℕ) → ((n : ℕ) → next ≡ Some n → key < n) → q < key → beside_value next value q ≡ added_at key value q
beside_below None value key q over less = sym (none_of value key q less)
beside_below (Some n) value key q over less =
    let more = over n refl in
    ap (λ (b : Bool). cond b value 0) (lt-leb n q (omega (arith, more, less))) ∙ sym (none_of value key q less)

beside_above : (next : Option ℕ) (value key q : ℕ) → ((n : ℕ) → next ≡ Some n → key < n) → (IsTrue (ends_after next q) → ⊥) → beside_value next value q ≡ added_at key value q
beside_above None value key q over out = absurd (out refl)
beside_above (Some n) value key q over out = elim (cases_lt q n) [
  | inl inside ↦ absurd (out (lt-ltb q n inside))
  | inr past ↦
      let more = over n refl in
      ap (λ (b : Bool). cond b value 0) (le-leb n q past) ∙ sym (ap (λ (b : Bool). cond b value 0) (le-leb key q (omega (arith, more, past))))
]

least_is : (o : Option Cut) → cut_least 24 o ≡ 24
least_is None = refl
least_is (Some c) = refl

module _ (m0 m1 : PageMap) (nodes0 nodes1 : List ℕ) (page child v key value low : ℕ) (high : Option ℕ) (least level : ℕ) (old new : MvNode) (replaced : Option Replaced)
    (at_level : old.level ≡ suc (suc level)) (new_level : new.level ≡ old.level) (is : node_on m0 page ≡ old) (key_in : IsKeyIn low high key)
    (stands : WaysStand (suc (suc level)) m0 nodes0 page v low high least)
    (leads : child_of old key v ≡ Some child)
    (parts : PartsStand (suc level) m1 nodes1 child v (inner_low low (alive_lows old.entries.items v) key) (inner_high high (alive_lows old.entries.items v) key) 24 replaced
    (λ q. total_below (suc level) m0 child q v + added_at key value q))
    (apart : (p : ℕ) → names_page (way_pages (suc level) m0 child key v) p ≡ false → IsSome (m0 p) → m1 p ≡ m0 p)
    (subset : (p : ℕ) → names_page nodes0 p ≡ true → names_page nodes1 p ≡ true)
    (fits : ReplacedFits (low_at (alive_lows old.entries.items v) key) (low_above (alive_lows old.entries.items v) key) replaced)
    (values : (q : ℕ) → node_value new q v ≡ (node_value old q v + beside_value (low_above (alive_lows old.entries.items v) key) value q) % 2 ^ 128)
    (led : (q c : ℕ) → IsFrom (low_at (alive_lows old.entries.items v) key) q → IsTrue (ends_after (low_above (alive_lows old.entries.items v) key) q)
    → child_of old q v ≡ Some c → child_of new q v ≡ Some (part_page c replaced q))
    (others : (q : ℕ) → (IsFrom (low_at (alive_lows old.entries.items v) key) q → IsTrue (ends_after (low_above (alive_lows old.entries.items v) key) q) → ⊥)
    → child_of new q v ≡ child_of old q v)
    (new_lows : alive_lows new.entries.items v ≡ with_cut (cut_of replaced) (alive_lows old.entries.items v))
    (around : (cut q : ℕ) → LowsPut cut (alive_lows old.entries.items v) q)
    (cut : LowsCut (alive_lows new.entries.items v) low high least)
    (same_child : (q : ℕ) → low_at (alive_lows old.entries.items v) q ≡ low_at (alive_lows old.entries.items v) key → child_of old q v ≡ child_of old key v) where
  abbrev lows : List ℕ
  lows = alive_lows old.entries.items v

  way_at : (q : ℕ) → IsKeyIn low high q → NodeStands m0 nodes0 (suc (suc level)) page v low high least × (c : ℕ) × (child_of old q v ≡ Some c)
      × StandsOnWay (suc level) m0 nodes0 c v q (inner_low low lows q) (inner_high high lows q) 24
  way_at q q_in =
      let w = stands q q_in in (
        w.0,
        w.1,
        subst (λ (n : MvNode). child_of n q v ≡ Some w.1) is w.2,
        subst (λ (n : MvNode). StandsOnWay (suc level) m0 nodes0 w.1 v q (inner_low low (alive_lows n.entries.items v) q) (inner_high high (alive_lows n.entries.items v) q) 24) is w.3,
      )

  old_cut : LowsCut lows low high least
  old_cut = subst (λ (n : MvNode). LowsCut (alive_lows n.entries.items v) low high least) is (lows_cut m0 nodes0 (suc (suc level)) page v low high least (way_at key key_in).0)

  key_low : (a : ℕ) × (low_at lows key ≡ Some a)
  key_low = low_at_some lows key low old_cut.begins key_in.from

  abbrev a : ℕ
  a = key_low.0

  next_over : (n : ℕ) → low_above lows key ≡ Some n → key < n
  next_over n e = (low_above_holds (λ (l : ℕ). IsTrue (ends_after high l)) lows key n old_cut.ends e).1

  total_old : (q c : ℕ) → child_of old q v ≡ Some c → total_below (suc (suc level)) m0 page q v ≡ value_of old.entries.items q v + total_below (suc level) m0 c q v
  total_old q c leads_q =
      ap (λ (n : MvNode). value_of n.entries.items q v + option_map_or (λ x. total_below (suc level) m0 x q v) (child_of n q v) 0) is
      ∙ ap (λ (o : Option ℕ). value_of old.entries.items q v + option_map_or (λ x. total_below (suc level) m0 x q v) o 0) leads_q

  total_new : (q c : ℕ) → child_of new q v ≡ Some c → node_total m1 new q v ≡ value_of new.entries.items q v + total_below (suc level) m1 c q v
  total_new q c leads_q = index_total m1 new (suc level) q v c (new_level ∙ at_level) leads_q

  -- The keys of the child that took the addition.
  module _ (q : ℕ) (q_in : IsKeyIn low high q) (from : a ≤ q) (before : IsTrue (ends_after (low_above lows key) q)) where
    same : (low_at lows q ≡ Some a) × (low_above lows q ≡ low_above lows key)
    same = same_interval None lows key q a old_cut.differ key_low.1 from before

    leads_q : child_of old q v ≡ Some child
    leads_q = same_child q (same.0 ∙ sym key_low.1) ∙ leads

    leads_new : child_of new q v ≡ Some (part_page child replaced q)
    leads_new = led q child (subst (λ (o : Option ℕ). IsFrom o q) (sym key_low.1) from) before leads_q

    low_same : inner_low low lows q ≡ inner_low low lows key
    low_same = ap (λ (o : Option ℕ). option_map_or (λ l. l) o low) (same.0 ∙ sym key_low.1)

    high_same : inner_high high lows q ≡ inner_high high lows key
    high_same = ap (λ (o : Option ℕ). or_later high o) same.1

    in_part : IsKeyIn (inner_low low lows key) (inner_high high lows key) q
    in_part =
        let inner = (inner_in lows low high least q old_cut q_in).0 in
        subst (λ (h : Option ℕ). IsKeyIn (inner_low low lows key) h q) high_same (subst (λ (l : ℕ). IsKeyIn l (inner_high high lows q) q) low_same inner)

    part_low : (o : Option Cut) → CutFits (low_at lows key) (low_above lows key) o
        → (inner_low low (with_cut o lows) q ≡ cut_low (inner_low low lows key) o q) × (inner_high high (with_cut o lows) q ≡ cut_high (inner_high high lows key) o q)
    part_low None f = (low_same, high_same)
    part_low (Some c) f =
        let less : a < c.0 = subst (λ (o : Option ℕ). IsAbove o c.0) key_low.1 f.1 in
        let inside : IsTrue (ends_after (low_above lows q) c.0) = subst (λ (o : Option ℕ). IsTrue (ends_after o c.0)) (sym same.1) f.2 in
        let a_is : a ≡ inner_low low lows key = sym (ap (λ (o : Option ℕ). option_map_or (λ l. l) o low) key_low.1) in (
          ap (λ (o : Option ℕ). option_map_or (λ l. l) o low) (put_low_at lows c.0 (λ x. (around c.0 x).at) (λ x. (around c.0 x).above) q a same.0 less)
              ∙ ap (λ (n : ℕ). cond (nat_le c.0 q) c.0 n) a_is,
          put_low_above lows c.0 (λ x. (around c.0 x).at) (λ x. (around c.0 x).above) q high inside ∙ ap (λ (h : Option ℕ). cond (nat_le c.0 q) h (Some c.0)) high_same,
        )

    fits_cut : (r : Option Replaced) → ReplacedFits (low_at lows key) (low_above lows key) r → CutFits (low_at lows key) (low_above lows key) (cut_of r)
    fits_cut None f = tt
    fits_cut (Some r) f = f.1

    inside_below : BelowStands (suc (suc level)) m1 nodes1 new v q low high
    inside_below =
        let w = parts.ways q in_part in
        let l = part_low (cut_of replaced) (fits_cut replaced fits) in
        let low_is : inner_low low (alive_lows new.entries.items v) q ≡ cut_low (inner_low low lows key) (cut_of replaced) q = ap (λ (ls : List ℕ). inner_low low ls q) new_lows ∙ l.0 in
        let high_is : inner_high high (alive_lows new.entries.items v) q ≡ cut_high (inner_high high lows key) (cut_of replaced) q = ap (λ (ls : List ℕ). inner_high high ls q) new_lows ∙ l.1 in
        let w1 = subst (λ (n : ℕ). StandsOnWay (suc level) m1 nodes1 (part_page child replaced q) v q (cut_low (inner_low low lows key) (cut_of replaced) q) (cut_high (inner_high high lows key) (cut_of replaced) q) n) (least_is (cut_of replaced)) w in
        let w2 = subst (λ (n : ℕ). StandsOnWay (suc level) m1 nodes1 (part_page child replaced q) v q n (cut_high (inner_high high lows key) (cut_of replaced) q) 24) (sym low_is) w1 in
        let w3 = subst (λ (h : Option ℕ). StandsOnWay (suc level) m1 nodes1 (part_page child replaced q) v q (inner_low low (alive_lows new.entries.items v) q) h 24) (sym high_is) w2 in
        (part_page child replaced q, leads_new, w3)

    inside_total : node_total m1 new q v % 2 ^ 128 ≡ (total_below (suc (suc level)) m0 page q v + added_at key value q) % 2 ^ 128
    inside_total =
        let x : ℕ = value_of old.entries.items q v in
        let t : ℕ = total_below (suc level) m0 child q v in
        let none = beside_inside (low_above lows key) value q before in
        let v1 : value_of new.entries.items q v % 2 ^ 128 ≡ (x % 2 ^ 128 + 0) % 2 ^ 128 = values q ∙ ap (λ (n : ℕ). (x % 2 ^ 128 + n) % 2 ^ 128) none in
        let v2 : value_of new.entries.items q v % 2 ^ 128 ≡ x % 2 ^ 128 = v1 ∙ mod-add-mod x (2 ^ 128) 0 ∙ ap (λ (n : ℕ). n % 2 ^ 128) (let z : x + 0 ≡ x = omega arith in z) in
        ap (λ (n : ℕ). n % 2 ^ 128) (total_new q (part_page child replaced q) leads_new)
        ∙ add_mods (value_of new.entries.items q v) (total_below (suc level) m1 (part_page child replaced q) q v) x (t + added_at key value q) (2 ^ 128) v2 (parts.totals q in_part)
        ∙ ap (λ (n : ℕ). n % 2 ^ 128) (let z : x + (t + added_at key value q) ≡ x + t + added_at key value q = omega arith in z)
        ∙ ap (λ (n : ℕ). (n + added_at key value q) % 2 ^ 128) (sym (total_old q child leads_q))

  -- The other keys.
  module _ (q : ℕ) (q_in : IsKeyIn low high q) (out : a ≤ q → IsTrue (ends_after (low_above lows key) q) → ⊥) where
    other_low : (b : ℕ) × (low_at lows q ≡ Some b)
    other_low = low_at_some lows q low old_cut.begins q_in.from

    not_led : IsFrom (low_at lows key) q → IsTrue (ends_after (low_above lows key) q) → ⊥
    not_led from before = out (subst (λ (o : Option ℕ). IsFrom o q) key_low.1 from) before

    c_old : (c : ℕ) × (child_of old q v ≡ Some c) × StandsOnWay (suc level) m0 nodes0 c v q (inner_low low lows q) (inner_high high lows q) 24
    c_old = let w = way_at q q_in in (w.1, w.2, w.3)

    c_new : child_of new q v ≡ Some c_old.0
    c_new = others q not_led ∙ c_old.1

    disjoint : AreDisjoint (inner_low low lows q) (inner_high high lows q) (inner_low low lows key) (inner_high high lows key)
    disjoint = λ x q_from q_before key_from key_before.
        inner_apart lows high key q a other_low.0 old_cut.differ out key_low.1 other_low.1 x
        (subst (λ (n : ℕ). n ≤ x) (ap (λ (o : Option ℕ). option_map_or (λ l. l) o low) key_low.1) key_from) key_before
        (subst (λ (n : ℕ). n ≤ x) (ap (λ (o : Option ℕ). option_map_or (λ l. l) o low) other_low.1) q_from) q_before

    key_way : StandsOnWay (suc level) m0 nodes0 child v key (inner_low low lows key) (inner_high high lows key) 24
    key_way = let w = way_at key key_in in
        subst (λ (c : ℕ). StandsOnWay (suc level) m0 nodes0 c v key (inner_low low lows key) (inner_high high lows key) 24) (some_same w.1 child (sym w.2 ∙ leads)) w.3

    moved : StandsOnWay (suc level) m1 nodes1 c_old.0 v q (inner_low low lows q) (inner_high high lows q) 24 × (total_below (suc level) m1 c_old.0 q v ≡ total_below (suc level) m0 c_old.0 q v)
    moved =
        let q_inner = (inner_in lows low high least q old_cut q_in).0 in
        let key_inner = (inner_in lows low high least key old_cut key_in).0 in
        way_moves (suc level) m0 m1 nodes0 nodes1 c_old.0 v q (inner_low low lows q) (inner_high high lows q) 24
        (λ p named.
        let d = way_within (suc level) m0 nodes0 c_old.0 v q (inner_low low lows q) (inner_high high lows q) 24 c_old.2 q_inner p named in
        let away = ways_apart m0 nodes0 v (suc level) c_old.0 q (inner_low low lows q) (inner_high high lows q) (suc level) child key (inner_low low lows key) (inner_high high lows key)
        c_old.2 q_inner key_way key_inner disjoint p named in
        (apart p away d.5, subset p d.6)) c_old.2

    around_same : (o : Option Cut) → CutFits (low_at lows key) (low_above lows key) o
        → (inner_low low (with_cut o lows) q ≡ inner_low low lows q) × (inner_high high (with_cut o lows) q ≡ inner_high high lows q)
    around_same None f = (refl, refl)
    around_same (Some c) f =
        let less : a < c.0 = subst (λ (o : Option ℕ). IsAbove o c.0) key_low.1 f.1 in
        let e = put_elsewhere lows c.0 (λ x. (around c.0 x).at) (λ x. (around c.0 x).above) key q a other_low.0 old_cut.differ key_low.1 less f.2 other_low.1 out in
        (ap (λ (o : Option ℕ). option_map_or (λ l. l) o low) e.0, ap (λ (o : Option ℕ). or_later high o) e.1)

    other_fits : (r : Option Replaced) → ReplacedFits (low_at lows key) (low_above lows key) r → CutFits (low_at lows key) (low_above lows key) (cut_of r)
    other_fits None f = tt
    other_fits (Some r) f = f.1

    outside_below : BelowStands (suc (suc level)) m1 nodes1 new v q low high
    outside_below =
        let l = around_same (cut_of replaced) (other_fits replaced fits) in
        let low_is : inner_low low (alive_lows new.entries.items v) q ≡ inner_low low lows q = ap (λ (ls : List ℕ). inner_low low ls q) new_lows ∙ l.0 in
        let high_is : inner_high high (alive_lows new.entries.items v) q ≡ inner_high high lows q = ap (λ (ls : List ℕ). inner_high high ls q) new_lows ∙ l.1 in
        let w1 = subst (λ (n : ℕ). StandsOnWay (suc level) m1 nodes1 c_old.0 v q n (inner_high high lows q) 24) (sym low_is) moved.0 in
        let w2 = subst (λ (h : Option ℕ). StandsOnWay (suc level) m1 nodes1 c_old.0 v q (inner_low low (alive_lows new.entries.items v) q) h 24) (sym high_is) w1 in
        (c_old.0, c_new, w2)

    beside_is : beside_value (low_above lows key) value q ≡ added_at key value q
    beside_is = elim (cases_lt q key) [
      | inl less ↦ beside_below (low_above lows key) value key q next_over less
      | inr le ↦
          let from : a ≤ q = (let at = low_at_from lows key a key_low.1 in omega (arith, at, le)) in
          beside_above (low_above lows key) value key q next_over (λ before. out from before)
    ]

    outside_total : node_total m1 new q v % 2 ^ 128 ≡ (total_below (suc (suc level)) m0 page q v + added_at key value q) % 2 ^ 128
    outside_total =
        let x : ℕ = value_of old.entries.items q v in
        let t : ℕ = total_below (suc level) m0 c_old.0 q v in
        let v1 = values q ∙ ap (λ (n : ℕ). (x % 2 ^ 128 + n) % 2 ^ 128) beside_is in
        ap (λ (n : ℕ). n % 2 ^ 128) (total_new q c_old.0 c_new ∙ ap (λ (n : ℕ). value_of new.entries.items q v + n) moved.1)
        ∙ sum_mods (value_of new.entries.items q v) x (added_at key value q) t (2 ^ 128) v1
        ∙ ap (λ (n : ℕ). (n + added_at key value q) % 2 ^ 128) (sym (total_old q c_old.0 c_old.1))

  is_inside : (q : ℕ) → ((a ≤ q) × IsTrue (ends_after (low_above lows key) q)) ⊎ (a ≤ q → IsTrue (ends_after (low_above lows key) q) → ⊥)
  is_inside q = elim (cases_lt q a) [
    | inl less ↦ inr (λ le before. omega (arith, less, le))
    | inr le ↦ elim (cases_Bool (ends_after (low_above lows key) q)) [
      | inl before ↦ inl (le, before)
      | inr past ↦ inr (λ _ before. true≢false (sym before ∙ past))
    ]
  ]

  -- The index node stands for all its keys.
  pub index_ways : NodeWays m1 nodes1 new v low high least (λ q. total_below old.level m0 page q v + added_at key value q)
  index_ways = record {
    cut = cut;
    below = λ q q_in. subst (λ (l : ℕ). BelowStands l m1 nodes1 new v q low high) (sym (new_level ∙ at_level)) (elim (is_inside q) [
      | inl i ↦ inside_below q q_in i.0 i.1
      | inr o ↦ outside_below q q_in o
    ]);
    totals = λ q q_in. (elim (is_inside q) [
      | inl i ↦ inside_total q q_in i.0 i.1
      | inr o ↦ outside_total q q_in o
    ]) ∙ ap (λ (l : ℕ). (total_below l m0 page q v + added_at key value q) % 2 ^ 128) (sym at_level);
  }
