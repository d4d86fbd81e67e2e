-- A node in memory that stands for an interval, and the pages that take its part.
use Rattle.std.proofs.Common.{◌≡◌, ℕ, zero, suc, ◌+◌, ◌-◌, ◌%◌, ◌^◌, ◌<◌, ◌≤◌, ◌==◌, inl, inr, true, Bool, IsTrue, nat_le, List, [], ◌∷◌, ◌++◌, get_or, length, map, Option, Some, None, IsSome, cond, refl, sym, ap, ◌∙◌, subst, arith}
use Rattle.std.specs.List.{All}
use Rattle.std.specs.Option.{option_map_or}
use Rattle.std.proofs.lemmas.Bool.{and_from, and_parts, cases_lt, cond-true, eq-eqb, le-leb, lt-leb, lt-ltb}
use Rattle.std.proofs.lemmas.List.Elements.{All-tail, All-map}
use Rattle.std.proofs.lemmas.List.{length-map}
use Rattle.ports.specs.Pages.{PageMap}
use Rattle.ports.specs.Frame.{names_page}
use Rattle.page_layout.specs.declared.mv_node.MvNode.{MvNode}
use Rattle.page_layout.specs.declared.mv_node.MvEntry.{MvEntry}
use Rattle.mv_pages.specs.Alive.{child_of, node_value, path_child, value_of}
use Rattle.mv_pages.specs.Copies.{AreTwoCopies, IsOneCopy}
use Rattle.mv_pages.specs.Lows.{alive_lows, ascend, ascend_from, follows}
use Rattle.mvsb_tree.specs.Stands.{NodeStands, StandsOnWay, ends_after, first_of, inner_high, inner_low}
use Rattle.mvsb_tree.specs.Steps.{entries_on, node_on, node_total, total_below}
use Rattle.mvsb_tree.specs.Ways.{BelowStands, IsKeyIn, LowsCut, NodeWays, PartsStand}
use Rattle.mvsb_tree.proofs.Cutting.{first_interval, second_interval}
use Rattle.mvsb_tree.proofs.Intervals.{inner_in, way_within}
use Rattle.mvsb_tree.proofs.Past.{SpellsNode, add_mods}
use Rattle.mvsb_tree.proofs.Sound.{first_least}
use Rattle.mvsb_tree.proofs.Values.{total_at}
use Rattle.mvsb_tree.proofs.Ways.{way_moves}

node_from : (m : PageMap) (nodes : List ℕ) (level page v low : ℕ) (high : Option ℕ) (least : ℕ) → names_page nodes page ≡ true → SpellsNode m page → (node_on m page).level ≡ level
    → LowsCut (alive_lows (entries_on m page) v) low high least → NodeStands m nodes level page v low high least
node_from m nodes level page v low high least named on at cut = record {
  listed = named;
  spelled = on.spelled;
  rules = on.rules;
  typed = on.typed;
  at_level = at;
  differ = cut.differ;
  begins = cut.begins;
  ends = cut.ends;
  filled = cut.filled;
}

pub way_from : (level : ℕ) (m : PageMap) (nodes : List ℕ) (page v key low : ℕ) (high : Option ℕ) (least : ℕ) → names_page nodes page ≡ true → SpellsNode m page → (node_on m page).level ≡ level
    → LowsCut (alive_lows (entries_on m page) v) low high least → BelowStands level m nodes (node_on m page) v key low high → StandsOnWay level m nodes page v key low high least
way_from zero m nodes page v key low high least named on at cut below = absurd below
way_from (suc zero) m nodes page v key low high least named on at cut below = node_from m nodes 1 page v low high least named on at cut
way_from (suc (suc level)) m nodes page v key low high least named on at cut below =
    (node_from m nodes (suc (suc level)) page v low high least named on at cut, below.0, below.1, below.2)

-- What a node reads: nothing below it where it is a leaf, and where it leads to a child that child's total.
pub leaf_total : (m : PageMap) (node : MvNode) (key v : ℕ) → node.level ≡ 1 → node_total m node key v ≡ value_of node.entries.items key v + 0
leaf_total m node key v leaf =
    let none : child_of node key v ≡ None = cond-true (node.level == 1) None (path_child node.entries.items key v) (eq-eqb node.level 1 leaf) in
    ap (λ (o : Option ℕ). value_of node.entries.items key v + option_map_or (λ child. total_below (node.level - 1) m child key v) o 0) none

pub index_total : (m : PageMap) (node : MvNode) (level key v child : ℕ) → node.level ≡ suc level → child_of node key v ≡ Some child
    → node_total m node key v ≡ value_of node.entries.items key v + total_below level m child key v
index_total m node level key v child at leads =
    let less : node.level - 1 ≡ level = omega (arith, at) in
    ap (λ (o : Option ℕ). value_of node.entries.items key v + option_map_or (λ c. total_below (node.level - 1) m c key v) o 0) leads
    ∙ ap (λ (l : ℕ). value_of node.entries.items key v + total_below l m child key v) less

-- What stands below a node stands where the pages of lower levels stay.
pub below_moves : (level : ℕ) (a b : PageMap) (nodes others : List ℕ) (node : MvNode) (v key low : ℕ) (high : Option ℕ) (least : ℕ) → node.level ≡ level
    → LowsCut (alive_lows node.entries.items v) low high least → IsKeyIn low high key
    → ((p : ℕ) → IsSome (a p) → names_page nodes p ≡ true → (node_on a p).level < level → (b p ≡ a p) × (names_page others p ≡ true))
    → BelowStands level a nodes node v key low high → BelowStands level b others node v key low high × (node_total b node key v ≡ node_total a node key v)
below_moves zero a b nodes others node v key low high least at cut in_key stays below = absurd below
below_moves (suc zero) a b nodes others node v key low high least at cut in_key stays below = (tt, leaf_total b node key v at ∙ sym (leaf_total a node key v at))
below_moves (suc (suc level)) a b nodes others node v key low high least at cut in_key stays below =
    let lows : List ℕ = alive_lows node.entries.items v in
    let inner = inner_in lows low high least key cut in_key in
    let moved = way_moves (suc level) a b nodes others below.0 v key (inner_low low lows key) (inner_high high lows key) 24
    (λ p named. let d = way_within (suc level) a nodes below.0 v key (inner_low low lows key) (inner_high high lows key) 24 below.2 inner.0 p named in
    stays p d.5 d.6 (omega (arith, d.4))) below.2 in (
      (below.0, below.1, moved.0),
      index_total b node (suc level) key v below.0 at below.1 ∙ ap (λ (n : ℕ). value_of node.entries.items key v + n) moved.1 ∙ sym (index_total a node (suc level) key v below.0 at below.1),
    )

same_below : (level : ℕ) (m : PageMap) (nodes : List ℕ) (node copy : MvNode) (v key low : ℕ) (high : Option ℕ) (new_low : ℕ) (new_high : Option ℕ)
    → child_of copy key v ≡ child_of node key v
    → inner_low new_low (alive_lows copy.entries.items v) key ≡ inner_low low (alive_lows node.entries.items v) key
    → inner_high new_high (alive_lows copy.entries.items v) key ≡ inner_high high (alive_lows node.entries.items v) key
    → BelowStands level m nodes node v key low high → BelowStands level m nodes copy v key new_low new_high
same_below zero m nodes node copy v key low high new_low new_high child ilow ihigh below = below
same_below (suc zero) m nodes node copy v key low high new_low new_high child ilow ihigh below = tt
same_below (suc (suc level)) m nodes node copy v key low high new_low new_high child ilow ihigh below =
    let a = subst (λ (l : ℕ). StandsOnWay (suc level) m nodes below.0 v key l (inner_high high (alive_lows node.entries.items v) key) 24) (sym ilow) below.2 in
    (below.0, child ∙ below.1, subst (λ (h : Option ℕ). StandsOnWay (suc level) m nodes below.0 v key (inner_low new_low (alive_lows copy.entries.items v) key) h 24) (sym ihigh) a)

same_total : (m : PageMap) (node copy : MvNode) (v key : ℕ) → copy.level ≡ node.level → child_of copy key v ≡ child_of node key v → node_value copy key v ≡ node_value node key v
    → node_total m copy key v % 2 ^ 128 ≡ node_total m node key v % 2 ^ 128
same_total m node copy v key level child value =
    let t : ℕ → Option ℕ → ℕ = λ l o. option_map_or (λ c. total_below (l - 1) m c key v) o 0 in
    add_mods (value_of copy.entries.items key v) (t copy.level (child_of copy key v)) (value_of node.entries.items key v) (t node.level (child_of node key v)) (2 ^ 128) value
    (ap (λ (n : ℕ). n % 2 ^ 128) (ap (λ (o : Option ℕ). t copy.level o) child ∙ ap (λ (l : ℕ). t l (child_of node key v)) level))

-- Lists of lows one after the other.
ascend_front : (last : Option ℕ) (xs ys : List ℕ) → ascend_from last (xs ++ ys) ≡ true → ascend_from last xs ≡ true
ascend_front last [] ys up = refl
ascend_front last (x ∷ xs) ys up =
    let parts = and_parts (follows last x) (ascend_from (Some x) (xs ++ ys)) up in
    and_from (follows last x) (ascend_from (Some x) xs) parts.0 (ascend_front (Some x) xs ys parts.1)

ascend_none : (last : Option ℕ) (ys : List ℕ) → ascend_from last ys ≡ true → ascend_from None ys ≡ true
ascend_none last [] up = refl
ascend_none last (y ∷ ys) up = (and_parts (follows last y) (ascend_from (Some y) ys) up).1

ascend_back : (last : Option ℕ) (xs ys : List ℕ) → ascend_from last (xs ++ ys) ≡ true → ascend_from None ys ≡ true
ascend_back last [] ys up = ascend_none last ys up
ascend_back last (x ∷ xs) ys up = ascend_back (Some x) xs ys (and_parts (follows last x) (ascend_from (Some x) (xs ++ ys)) up).1

first_append : (xs ys : List ℕ) → 1 ≤ length xs → first_of (xs ++ ys) ≡ first_of xs
first_append [] ys some = absurd (omega (arith, some))
first_append (x ∷ xs) ys some = refl

all_back : (P : ℕ → Type 0) (xs ys : List ℕ) → All P (xs ++ ys) → All P ys
all_back P [] ys all = all
all_back P (x ∷ xs) ys all = all_back P xs ys (All-tail P x (xs ++ ys) all)

module _ (a b : PageMap) (nodes others : List ℕ) (node : MvNode) (v low : ℕ) (high : Option ℕ) (least : ℕ) (total : ℕ → ℕ) (some : 1 ≤ node.level)
    (ways : NodeWays a nodes node v low high least total)
    (stays : (p : ℕ) → IsSome (a p) → names_page nodes p ≡ true → (node_on a p).level < node.level → (b p ≡ a p) × (names_page others p ≡ true)) where
  -- A page that has taken a part of the node's keys stands for them.
  part_stands : (part key new_low : ℕ) (new_high : Option ℕ) (new_least : ℕ) → names_page others part ≡ true → SpellsNode b part → (node_on b part).level ≡ node.level
      → LowsCut (alive_lows (entries_on b part) v) new_low new_high new_least → IsKeyIn low high key
      → child_of (node_on b part) key v ≡ child_of node key v → node_value (node_on b part) key v ≡ node_value node key v
      → inner_low new_low (alive_lows (entries_on b part) v) key ≡ inner_low low (alive_lows node.entries.items v) key
      → inner_high new_high (alive_lows (entries_on b part) v) key ≡ inner_high high (alive_lows node.entries.items v) key
      → StandsOnWay node.level b others part v key new_low new_high new_least × (total_below node.level b part key v % 2 ^ 128 ≡ total key % 2 ^ 128)
  part_stands part key new_low new_high new_least named on level cut in_key child value ilow ihigh =
      let moved = below_moves node.level a b nodes others node v key low high least refl ways.cut in_key stays (ways.below key in_key) in
      let below = same_below node.level b others node (node_on b part) v key low high new_low new_high child ilow ihigh moved.0 in (
        way_from node.level b others part v key new_low new_high new_least named on level cut below,
        ap (λ (n : ℕ). n % 2 ^ 128) (total_at b node.level part key v (node_on b part) some on.typed on.rules level on.spelled)
            ∙ same_total b node (node_on b part) v key level child value ∙ ap (λ (n : ℕ). n % 2 ^ 128) moved.1 ∙ ways.totals key in_key,
      )

  pub stored_in_place : (page : ℕ) → names_page others page ≡ true → SpellsNode b page → node_on b page ≡ node → PartsStand node.level b others page v low high least None total
  stored_in_place page named on is = record {
    ways = λ key in_key. (at key in_key).0;
    totals = λ key in_key. (at key in_key).1;
  }
    where
      at : (key : ℕ) → IsKeyIn low high key → StandsOnWay node.level b others page v key low high least × (total_below node.level b page key v % 2 ^ 128 ≡ total key % 2 ^ 128)
      at key in_key = part_stands page key low high least named on (ap (λ (n : MvNode). n.level) is)
          (subst (λ (n : MvNode). LowsCut (alive_lows n.entries.items v) low high least) (sym is) ways.cut) in_key
          (ap (λ (n : MvNode). child_of n key v) is) (ap (λ (n : MvNode). node_value n key v) is)
          (ap (λ (n : MvNode). inner_low low (alive_lows n.entries.items v) key) is) (ap (λ (n : MvNode). inner_high high (alive_lows n.entries.items v) key) is)

  pub stored_as_one : (page first : ℕ) (one : MvNode) → IsOneCopy node v one → names_page others first ≡ true → SpellsNode b first
      → (node_on b first).level ≡ one.level → (node_on b first).entries ≡ one.entries
      → PartsStand node.level b others page v low high least (Some (record { first = first; second = None })) total
  stored_as_one page first one copy named on level entries = record {
    ways = λ key in_key. (at key in_key).0;
    totals = λ key in_key. (at key in_key).1;
  }
    where
      one_level : one.level ≡ node.level
      one_level = ap (λ (n : MvNode). n.level) copy.made

      lows : alive_lows (entries_on b first) v ≡ alive_lows node.entries.items v
      lows = ap (λ (es : List MvEntry). alive_lows es v) (ap (λ e. e.items) entries) ∙ copy.lows v (omega arith)

      child_same : (key : ℕ) → child_of (node_on b first) key v ≡ child_of one key v
      child_same key = ap (λ (l : ℕ). cond (l == 1) None (path_child (entries_on b first) key v)) level ∙ ap (λ (es : List MvEntry). cond (one.level == 1) None (path_child es key v)) (ap (λ e. e.items) entries)

      at : (key : ℕ) → IsKeyIn low high key → StandsOnWay node.level b others first v key low high least × (total_below node.level b first key v % 2 ^ 128 ≡ total key % 2 ^ 128)
      at key in_key = part_stands first key low high least named on (level ∙ one_level) (subst (λ (ls : List ℕ). LowsCut ls low high least) (sym lows) ways.cut) in_key
          (child_same key ∙ (copy.follows key).child v (omega arith))
          (ap (λ (es : List MvEntry). value_of es key v % 2 ^ 128) (ap (λ e. e.items) entries) ∙ (copy.follows key).value v (omega arith))
          (ap (λ (ls : List ℕ). inner_low low ls key) lows) (ap (λ (ls : List ℕ). inner_high high ls key) lows)

  module _ (first second cut : ℕ) (a_node c_node : MvNode) (copy : AreTwoCopies node v a_node cut c_node)
      (first_named : names_page others first ≡ true) (first_on : SpellsNode b first) (first_level : (node_on b first).level ≡ a_node.level) (first_entries : (node_on b first).entries ≡ a_node.entries)
      (second_named : names_page others second ≡ true) (second_on : SpellsNode b second) (second_level : (node_on b second).level ≡ c_node.level) (second_entries : (node_on b second).entries ≡ c_node.entries) where
    first_items : entries_on b first ≡ a_node.entries.items
    first_items = ap (λ e. e.items) first_entries

    second_items : entries_on b second ≡ c_node.entries.items
    second_items = ap (λ e. e.items) second_entries

    abbrev xs : List ℕ
    xs = alive_lows a_node.entries.items v

    abbrev ys : List ℕ
    ys = alive_lows c_node.entries.items v

    all_lows : xs ++ ys ≡ alive_lows node.entries.items v
    all_lows = copy.lows v (omega arith)

    xs_are : xs ≡ map (λ (e : MvEntry). e.low) a_node.entries.items
    xs_are = ap (λ (es : List MvEntry). map (λ (e : MvEntry). e.low) es) (copy.first_fresh.alive v (omega arith))

    ys_are : ys ≡ map (λ (e : MvEntry). e.low) c_node.entries.items
    ys_are = ap (λ (es : List MvEntry). map (λ (e : MvEntry). e.low) es) (copy.second_fresh.alive v (omega arith))

    xs_below : All (λ l. l < cut) xs
    xs_below = subst (All (λ (l : ℕ). l < cut)) (sym xs_are) (All-map (λ (l : ℕ). l < cut) (λ (e : MvEntry). e.low) a_node.entries.items copy.first_lows)

    ys_first : first_of ys ≡ Some cut
    ys_first = ap first_of (ys_are ∙ ap (λ (es : List MvEntry). map (λ (e : MvEntry). e.low) es) copy.cut_is.2) ∙ ap (λ (n : ℕ). Some n) copy.cut_is.3

    differ : IsTrue (ascend (xs ++ ys))
    differ = subst (λ (ls : List ℕ). IsTrue (ascend ls)) (sym all_lows) ways.cut.differ

    ys_differ : IsTrue (ascend ys)
    ys_differ = ascend_back None xs ys differ

    ys_above : All (λ l. cut ≤ l) ys
    ys_above = first_least ys cut ys_differ ys_first

    long_xs : length xs ≡ length a_node.entries.items
    long_xs = ap (λ (ls : List ℕ). length ls) xs_are ∙ length-map a_node.entries.items (λ (e : MvEntry). e.low)

    long_ys : length ys ≡ length c_node.entries.items
    long_ys = ap (λ (ls : List ℕ). length ls) ys_are ∙ length-map c_node.entries.items (λ (e : MvEntry). e.low)

    xs_cut : LowsCut xs low (Some cut) 24
    xs_cut = record {
      differ = ascend_front None xs ys differ;
      begins = sym (first_append xs ys (omega (arith, long_xs, copy.sizes.0))) ∙ ap first_of all_lows ∙ ways.cut.begins;
      ends = λ k d h. lt-ltb (get_or xs k d) cut (xs_below k d h);
      filled = omega (arith, long_xs, copy.sizes.0);
    }

    ys_cut : LowsCut ys cut high 24
    ys_cut = record {
      differ = ys_differ;
      begins = ys_first;
      ends = all_back (λ l. IsTrue (ends_after high l)) xs ys (subst (All (λ (l : ℕ). IsTrue (ends_after high l))) (sym all_lows) ways.cut.ends);
      filled = omega (arith, long_ys, copy.sizes.2);
    }

    first_child : (key : ℕ) → child_of (node_on b first) key v ≡ child_of a_node key v
    first_child key = ap (λ (l : ℕ). cond (l == 1) None (path_child (entries_on b first) key v)) first_level ∙ ap (λ (es : List MvEntry). cond (a_node.level == 1) None (path_child es key v)) first_items

    second_child : (key : ℕ) → child_of (node_on b second) key v ≡ child_of c_node key v
    second_child key = ap (λ (l : ℕ). cond (l == 1) None (path_child (entries_on b second) key v)) second_level ∙ ap (λ (es : List MvEntry). cond (c_node.level == 1) None (path_child es key v)) second_items

    a_level : a_node.level ≡ node.level
    a_level = ap (λ (n : MvNode). n.level) copy.first_made

    c_level : c_node.level ≡ node.level
    c_level = ap (λ (n : MvNode). n.level) copy.second_made

    first_part : (key : ℕ) → IsKeyIn low high key → key < cut
        → StandsOnWay node.level b others first v key low (Some cut) 24 × (total_below node.level b first key v % 2 ^ 128 ≡ total key % 2 ^ 128)
    first_part key in_key less =
        let same : alive_lows (entries_on b first) v ≡ xs = ap (λ (es : List MvEntry). alive_lows es v) first_items in
        let parts = first_interval xs ys low cut key high ys_first ys_above less in
        part_stands first key low (Some cut) 24 first_named first_on (first_level ∙ a_level) (subst (λ (ls : List ℕ). LowsCut ls low (Some cut) 24) (sym same) xs_cut) in_key
        (first_child key ∙ (copy.below key less).child v (omega arith))
        (ap (λ (es : List MvEntry). value_of es key v % 2 ^ 128) first_items ∙ (copy.below key less).value v (omega arith))
        (ap (λ (ls : List ℕ). inner_low low ls key) same ∙ parts.0 ∙ ap (λ (ls : List ℕ). inner_low low ls key) all_lows)
        (ap (λ (ls : List ℕ). inner_high (Some cut) ls key) same ∙ parts.1 ∙ ap (λ (ls : List ℕ). inner_high high ls key) all_lows)

    second_part : (key : ℕ) → IsKeyIn low high key → cut ≤ key
        → StandsOnWay node.level b others second v key cut high 24 × (total_below node.level b second key v % 2 ^ 128 ≡ total key % 2 ^ 128)
    second_part key in_key le =
        let same : alive_lows (entries_on b second) v ≡ ys = ap (λ (es : List MvEntry). alive_lows es v) second_items in
        let parts = second_interval xs ys low cut key high ys_first xs_below le in
        part_stands second key cut high 24 second_named second_on (second_level ∙ c_level) (subst (λ (ls : List ℕ). LowsCut ls cut high 24) (sym same) ys_cut) in_key
        (second_child key ∙ (copy.above key le).child v (omega arith))
        (ap (λ (es : List MvEntry). value_of es key v % 2 ^ 128) second_items ∙ (copy.above key le).value v (omega arith))
        (ap (λ (ls : List ℕ). inner_low cut ls key) same ∙ parts.0 ∙ ap (λ (ls : List ℕ). inner_low low ls key) all_lows)
        (ap (λ (ls : List ℕ). inner_high high ls key) same ∙ parts.1 ∙ ap (λ (ls : List ℕ). inner_high high ls key) all_lows)

    either : (key : ℕ) → IsKeyIn low high key
        → StandsOnWay node.level b others (cond (nat_le cut key) second first) v key (cond (nat_le cut key) cut low) (cond (nat_le cut key) high (Some cut)) 24
        × (total_below node.level b (cond (nat_le cut key) second first) key v % 2 ^ 128 ≡ total key % 2 ^ 128)
    either key in_key = elim (cases_lt key cut) [
      | inl less ↦ subst (λ (t : Bool). StandsOnWay node.level b others (cond t second first) v key (cond t cut low) (cond t high (Some cut)) 24
          × (total_below node.level b (cond t second first) key v % 2 ^ 128 ≡ total key % 2 ^ 128)) (sym (lt-leb cut key less)) (first_part key in_key less)
      | inr le ↦ subst (λ (t : Bool). StandsOnWay node.level b others (cond t second first) v key (cond t cut low) (cond t high (Some cut)) 24
          × (total_below node.level b (cond t second first) key v % 2 ^ 128 ≡ total key % 2 ^ 128)) (sym (le-leb cut key le)) (second_part key in_key le)
    ]

    pub stored_as_two : (page : ℕ) → PartsStand node.level b others page v low high least (Some (record { first = first; second = Some (cut, second) })) total
    stored_as_two page = record {
      ways = λ key in_key. (either key in_key).0;
      totals = λ key in_key. (either key in_key).1;
    }
