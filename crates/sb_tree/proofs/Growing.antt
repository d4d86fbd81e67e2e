-- The tree after an addition.
use Rattle.sb_tree.proofs.Common.{sym, ◌≡◌, ℕ, zero, suc, ◌+◌, ◌%◌, ◌^◌, ◌<◌, ◌≤◌, ◌==◌, cond, true, false, IsTrue, ◌⊎◌, inl, inr, List, [], ◌∷◌, length, Option, Some, None, IsSome, refl, ap, ◌∙◌, subst, arith, lit<, lit≤, rules, All, list_any, or_left, or_right, or_cases, eqb-true, All-cons, All-nil, sum_by-cons, one-le-pow, dominance_sum, dominated_weight, is_dominated, digits_are_few, digits_grow, powers_have_digits, Point, Tree, PageMap, names_page, AgreeOn, Replaces, Replaces-same, NamesNoneTwice, IsSbNode, sb_node_in, sb_node_page, option_map_or, SbEntry, Second, Place, IsFullBelow, root_place, leaf_entry, first_entries, root_entries, second_entry, parts_pages, parts_lows, parts_total, added_at, IsLowOf, IsRaised, SecondFits, WasFull, entries_on, total_below, pages_below, lows_below, no_node, node_on, StandsBelow, RootStands, is_marked, SbStands, IsBalanced, page_of}
use Rattle.sb_tree.proofs.Balance.{lows_within, two_many_lows, few_lows}
use Rattle.sb_tree.proofs.Landing.{stored_node, node_of, node_rules, entries_stored, in_list_some}
use Rattle.sb_tree.proofs.Paths.{All-head, All-tail, begun_value-cons}
use Rattle.sb_tree.proofs.Proper.{Proper}
use Rattle.sb_tree.proofs.Lists.{stored_below, EachBelow, list_pages, list_total, list_lows, join_stands, split_stands, EachBelow-frame, EachBelow-there, list_total-frame, total_of_entries, lows_of_entries}
use Rattle.sb_tree.proofs.Totals.{parts_list_total}
use Rattle.sb_tree.proofs.Additions.{parts_list_pages, parts_list_lows, parts_each}

-- The nodes of a tree after an addition at a version.
pub record Grown (levels more : ℕ) (m0 m2 : PageMap) (old new v x : ℕ) : Type 0 where
  pub nodes : RootStands more m2 new
  pub once : NamesNoneTwice (pages_below more m2 new)
  pub change : Replaces (pages_below levels m0 old) (pages_below more m2 new) m0 m2
  pub lows : All (λ l. (l ≡ 0) ⊎ IsLowOf (lows_below levels m0 old) v l) (lows_below more m2 new)
  pub values : (w : ℕ) → w < 2 ^ 32 → total_below more m2 new w % 2 ^ 128 ≡ (total_below levels m0 old w + added_at v x w) % 2 ^ 128

-- the dominance sum with a point more
pub sum_with : (points : List Point) (p : Point) (v x w : ℕ) → p.version ≡ v → p.weight ≡ x
    → dominance_sum 0 (p ∷ points) [] w ≡ (dominated_weight 0 points [] w + added_at v x w) % 2 ^ 128
sum_with points p v x w version weight =
    let first : cond (is_dominated 0 [] w p) p.weight 0 ≡ added_at v x w = search rules in
    let whole : dominated_weight 0 (p ∷ points) [] w ≡ dominated_weight 0 points [] w + added_at v x w = search (rules, sum_by-cons) in
    ap (λ n. n % 2 ^ 128) whole

any_holds : (P : ℕ → Type 0) (ls : List ℕ) (l : ℕ) → list_any (λ k. k == l) ls ≡ true → All P ls → P l
any_holds P [] l h all = cc
any_holds P (k ∷ ls) l h all = elim (or_cases (k == l) (list_any (λ j. j == l) ls) h) [
  | inl here ↦ rw (eqb-true k l here) at (All-head P k ls all)
  | inr rest ↦ any_holds P ls l rest (All-tail P k ls all)
]

low_marked : (points : List Point) (p : Point) (ls : List ℕ) (v l : ℕ) → p.version ≡ v → All (λ k. IsTrue (is_marked points k)) ls
    → (l ≡ 0) ⊎ IsLowOf ls v l → IsTrue (is_marked (p ∷ points) l)
low_marked points p ls v l version marked (inl none) = grind arith
low_marked points p ls v l version marked (inr h) = elim (or_cases (l == v) (list_any (λ k. k == l) ls) h) [
  | inl own ↦ search rules
  | inr found ↦ elim (or_cases (l == 0) (list_any (λ q. q.version == l) points) (any_holds (λ k. IsTrue (is_marked points k)) ls l found marked)) [
    | inl none ↦ or_left (l == 0) (list_any (λ q. q.version == l) (p ∷ points)) none
    | inr among ↦ or_right (l == 0) (list_any (λ q. q.version == l) (p ∷ points)) (or_right (p.version == l) (list_any (λ q. q.version == l) points) among)
  ]
]

-- The tree stands for a point more.
pub grown_stands : {m0 m2 : PageMap} {old new : Tree} {points : List Point} {p : Point} {v x : ℕ} → SbStands m0 old points → length points < 2 ^ 31 → p.version ≡ v → p.weight ≡ x
    → new.count ≡ old.count + 1 → new.changes ≡ old.changes → new.last ≡ old.last → 1 ≤ new.levels → Grown old.levels new.levels m0 m2 old.root new.root v x
    → SbStands m2 new (p ∷ points)
grown_stands s few version weight count changes last some g = grind (arith, low_marked, sum_with)

fresh_change : (P0 P1 : List ℕ) (m0 m1 m2 : PageMap) (new : ℕ) → Replaces P0 P1 m0 m1 → m1 new ≡ None → names_page P1 new ≡ false
    → ((p : ℕ) → (new == p) ≡ false → m2 p ≡ m1 p) → Replaces P0 (new ∷ P1) m0 m2
fresh_change P0 P1 m0 m1 m2 new r missing apart others = grind arith

root_proper : (level root : ℕ) (s : Second) → 3 ≤ root → root < 2 ^ 64 → SecondFits 0 (2 ^ 32) (Some s) → Proper (suc (suc level)) (root_entries root s)
root_proper level root s three fits second = grind arith

-- The root was split, and a new one stands above.
grown_above : (l : ℕ) (m0 m1 m2 : PageMap) (root new v x : ℕ) (s : Second) → suc (suc l) ≤ 16 → 3 ≤ root → root < 2 ^ 64 → SecondFits 0 (2 ^ 32) (Some s)
    → IsRaised (suc l) m0 m1 root 0 (2 ^ 32) 1 v x (Some s) → m1 new ≡ None → m2 new ≡ Some (page_of (suc (suc l)) (root_entries root s))
    → ((p : ℕ) → (new == p) ≡ false → m2 p ≡ m1 p) → Grown (suc l) (suc (suc l)) m0 m2 root new v x
grown_above l m0 m1 m2 root new v x s bound three fits second r missing there others =
    let c : ℕ = suc l in
    let at : SbEntry = record { low = 0; value = 0; child = root } in
    let es : List SbEntry = root_entries root s in
    let P1 : List ℕ = parts_pages c m1 root (Some s) in
    let pages1 : list_pages c m1 es ≡ P1 = parts_list_pages l m1 at (Some s) in
    let each1 : EachBelow c m1 es (2 ^ 32) = parts_each l m1 at (Some s) (2 ^ 32) r.stands in
    let there1 = EachBelow-there c m1 es (2 ^ 32) each1 in
    let apart1 = in_list_some m1 (list_pages c m1 es) new there1 missing in
    let agree : AgreeOn (list_pages c m1 es) m1 m2 = search rules in
    let p = root_proper l root s three fits second in
    let below = All-cons (λ (e : SbEntry). e.low < 2 ^ 32) at (second_entry (Some s)) (lit< tt) (All-cons (λ (e : SbEntry). e.low < 2 ^ 32) (record { low = s.low; value = 0; child = s.page }) [] second.2 (All-nil (λ (e : SbEntry). e.low < 2 ^ 32))) in
    let node = stored_node {least = 1} m2 new (omega arith) bound p (omega arith) (omega arith) there refl below (omega arith) in
    let of_new = stored_below c m1 m2 new es node.0 agree in
    let pages : pages_below (suc c) m2 new ≡ new ∷ P1 = of_new.0 ∙ ap (λ ps. new ∷ ps) pages1 in
    let lows : lows_below (suc c) m2 new ≡ parts_lows c m1 root (Some s) = of_new.1 ∙ parts_list_lows l m1 at (Some s) in
    let apart = rw pages1 at apart1 in
    record {
      nodes = join_stands c m2 new 0 (2 ^ 32) 1 node.1 (rw node.0 (EachBelow-frame c m1 m2 es (2 ^ 32) agree each1));
      once = subst NamesNoneTwice (sym pages) (apart, r.once);
      change = rw pages (fresh_change (pages_below c m0 root) P1 m0 m1 m2 new r.change missing apart others);
      lows = rw lows (λ k d h. inr (r.lows k d h));
      values = λ w fits.
          let same : total_below (suc c) m2 new w ≡ list_total c m1 es w = total_of_entries c m2 new w es node.0 ∙ list_total-frame c m1 m2 es (2 ^ 32) w each1 p.ascends (omega arith) (omega arith) agree in
          let parts : list_total c m1 es w ≡ 0 + parts_total c m1 root (Some s) w = parts_list_total c m1 at (Some s) w (omega arith) in
          let all : total_below (suc c) m2 new w ≡ parts_total c m1 root (Some s) w = omega (arith, same, parts) in
          ap (λ n. n % 2 ^ 128) all ∙ r.values w (omega arith) fits;
    }

whole_root : {l root v x : ℕ} {m0 m2 : PageMap} → IsRaised (suc l) m0 m2 root 0 (2 ^ 32) 1 v x None → Grown (suc l) (suc l) m0 m2 root root v x
whole_root r = record { nodes = r.stands; once = r.once; change = r.change; lows = λ k d h. inr (r.lows k d h); values = λ w fits. r.values w (omega arith) fits }

pub grown_split : {levels more root new at v x : ℕ} {m0 m1 m2 : PageMap} {o : Option Second} {s : Second} → o ≡ Some s → 1 ≤ levels → levels < 16 → at ≡ new → more ≡ levels + 1
    → 3 ≤ root → root < 2 ^ 64 → SecondFits 0 (2 ^ 32) (Some s) → IsRaised levels m0 m1 root 0 (2 ^ 32) 1 v x o
    → (m1 new ≡ None) × (m2 new ≡ Some (page_of (levels + 1) (root_entries root s))) × ((p : ℕ) → (new == p) ≡ false → m2 p ≡ m1 p) → Grown levels more m0 m2 root at v x
grown_split {levels = zero} is some bound at_is above three fits second r made = absurd (omega (arith, some))
grown_split {levels = suc l} {root = root} {new = new} {v = v} {x = x} {m0 = m0} {m1 = m1} {m2 = m2} {s = s} is some bound at_is above three fits second r made =
    let up : suc l + 1 ≡ suc (suc l) = omega arith in
    rw (at_is, above, up) (grown_above l m0 m1 m2 root new v x s (omega (arith, bound)) three fits second (rw is at r) made.0 (rw up at made.1) made.2)

-- The root was not split.
pub grown_none : {levels more root at v x : ℕ} {m0 m2 : PageMap} {o : Option Second} → o ≡ None → 1 ≤ levels → at ≡ root → more ≡ levels
    → IsRaised levels m0 m2 root 0 (2 ^ 32) 1 v x o → Grown levels more m0 m2 root at v x
grown_none {levels = zero} none some at_is same r = absurd (omega (arith, some))
grown_none {levels = suc l} none some at_is same r = rw (at_is, same) (whole_root (rw none at r))

-- The first leaf of a tree.
first_proper : (v x : ℕ) → v < 2 ^ 32 → x < 2 ^ 128 → Proper 1 (first_entries v x)
first_proper zero x fv fx = grind arith
first_proper (suc v) x fv fx = grind arith

first_total : (m : PageMap) (v x w : ℕ) → list_total 0 m (first_entries v x) w ≡ 0 + added_at v x w
first_total m zero x w = omega (arith, begun_value-cons (leaf_entry 0 x) [] w)
first_total m (suc v) x w = grind arith

first_lows : (m : PageMap) (v x : ℕ) → All (λ l. (l ≡ 0) ⊎ IsLowOf [] v l) (list_lows 0 m (first_entries v x))
first_lows m zero x = grind arith
first_lows m (suc v) x = grind arith

pub grown_first : (levels more : ℕ) (m0 m2 : PageMap) (root new v x : ℕ) → levels ≡ 0 → more ≡ 1 → v < 2 ^ 32 → x < 2 ^ 128
    → m0 new ≡ None → m2 new ≡ Some (page_of 1 (first_entries v x)) → ((p : ℕ) → (new == p) ≡ false → m2 p ≡ m0 p) → Grown levels more m0 m2 root new v x
grown_first levels more m0 m2 root new v x none one fv fx missing there others =
    grind (arith, first_proper, entries_stored, lows_of_entries, fresh_change, Replaces-same, first_lows, total_of_entries, first_total)

pub grown_leaf : {levels more root new at v x : ℕ} {m0 m2 : PageMap} → levels ≡ 0 → at ≡ new → more ≡ 1 → v < 2 ^ 32 → x < 2 ^ 128
    → (m0 new ≡ None) × (m2 new ≡ Some (page_of 1 (first_entries v x))) × ((p : ℕ) → (new == p) ≡ false → m2 p ≡ m0 p) → Grown levels more m0 m2 root at v x
grown_leaf none at_is one fv fx made = rw at_is (grown_first _ _ _ _ _ _ _ _ none one fv fx made.0 made.1 made.2)

-- How high it is.
count_small : (n : ℕ) → n < 2 ^ 31 → n < 32 ^ 7
count_small n h = omega (arith, h)

pub few_levels : (m : PageMap) (tree : Tree) (points : List Point) → SbStands m tree points → length points < 2 ^ 31 → IsBalanced tree → tree.levels ≤ 7
few_levels m tree points s few balanced = omega (arith, balanced, digits_are_few 32 7 tree.count (lit≤ tt) (count_small tree.count (omega (arith, s.count, few))))

pub balanced_whole : (old new : Tree) → new.levels ≡ old.levels → new.count ≡ old.count + 1 → IsBalanced old → IsBalanced new
balanced_whole old new same count balanced = omega (arith, same, balanced, digits_grow 32 old.count new.count (lit≤ tt) (omega (arith, count)))

pub balanced_first : (old new : Tree) → new.levels ≡ 1 → new.count ≡ old.count + 1 → IsBalanced new
balanced_first old new one count = omega (arith, one, powers_have_digits 32 0 new.count (lit≤ tt) (omega (arith, count)))

two_entries : (m : PageMap) (root second : ℕ) (s : Second) (level : ℕ) → Proper level (root_entries root s) → IsSbNode (node_of level (root_entries root s)) → m second ≡ Some (page_of level (root_entries root s)) → length (entries_on m second) ≡ 2
two_entries m root second s level p rules there = search (rules, entries_stored)

high_enough : (l : ℕ) (m : PageMap) (new : Tree) (points : List Point) → new.levels ≡ suc (suc l) → SbStands m new points → 2 ≤ length (entries_on m new.root) → IsBalanced new
high_enough l m new points levels s two =
    let n : ℕ = 32 ^ suc l in
    let nodes = rw levels at s.nodes in
    let many = two_many_lows l m new.root 0 (2 ^ 32) 1 nodes two in
    let within = lows_within (suc l) m new.root 0 (2 ^ 32) 1 nodes in
    let marked = rw levels at s.lows in
    let few = few_lows points (lows_below (suc (suc l)) m new.root) within.0 marked in
    let one : 1 ≤ n = one-le-pow (suc l) 32 (lit< tt) in
    let digits = powers_have_digits 32 (suc l) new.count (lit≤ tt) (omega (arith, many, few, one, s.count)) in
    omega (arith, levels, digits)

pub balanced_split : (levels : ℕ) (m : PageMap) (new : Tree) (points : List Point) (root : ℕ) (s : Second) → 1 ≤ levels → levels < 16 → new.levels ≡ levels + 1 → SbStands m new points
    → 3 ≤ root → root < 2 ^ 64 → SecondFits 0 (2 ^ 32) (Some s) → m new.root ≡ Some (page_of (levels + 1) (root_entries root s)) → IsBalanced new
balanced_split zero m new points root s some bound above stands three fits second there = absurd (omega (arith, some))
balanced_split (suc l) m new points root s some bound above stands three fits second there =
    let up : suc l + 1 ≡ suc (suc l) = omega arith in
    let there1 = rw up at there in
    let p = root_proper l root s three fits second in
    let rules = node_rules (suc (suc l)) (root_entries root s) (omega arith) (omega (arith, bound)) p (omega arith) (omega arith) in
    let two = two_entries m root new.root s (suc (suc l)) p rules there1 in
    high_enough l m new points (above ∙ up) stands (omega (arith, two))

full_count : (levels : ℕ) (m : PageMap) (page v : ℕ) → IsFullBelow levels m page v → length (entries_on m page) ≡ 64
full_count zero m page v full = absurd full
full_count (suc zero) m page v full = full.0.count
full_count (suc (suc level)) m page v full = full.0.count

there_from : (o : Option (List ℕ)) → length (option_map_or sb_node_in o no_node).entries.items ≡ 64 → IsSome o
there_from None h = absurd (omega (arith, h))
there_from (Some bytes) h = refl

there_if_full : (m : PageMap) (page : ℕ) → length (entries_on m page) ≡ 64 → IsSome (m page)
there_if_full m page h = there_from (m page) h

-- A page that is full is in the map.
pub full_there : (levels : ℕ) (m : PageMap) (page v : ℕ) → IsFullBelow levels m page v → IsSome (m page)
full_there levels m page v full = there_if_full m page (full_count levels m page v full)

-- What the calls of an addition say of the whole tree.
pub root_stands_below : (levels : ℕ) (m : PageMap) (root : ℕ) → 1 ≤ levels → RootStands levels m root → StandsBelow levels m root 0 (2 ^ 32) 1
root_stands_below zero m root some s = absurd (omega (arith, some))
root_stands_below (suc level) m root some s = s

pub root_spelled : (levels : ℕ) (m : PageMap) (root : ℕ) → 1 ≤ levels → RootStands levels m root → m root ≡ Some (sb_node_page (node_on m root))
root_spelled zero m root some s = absurd (omega (arith, some))
root_spelled (suc level) m root some s = (split_stands level m root 0 (2 ^ 32) 1 s).0.spelled

pub raised_of_tree : {levels root v x : ℕ} {m0 m1 : PageMap} {place : Place} {o : Option Second} → 1 ≤ levels → place ≡ root_place v → RootStands levels m0 root
    → NamesNoneTwice (pages_below levels m0 root)
    → ((least : ℕ) → StandsBelow levels m0 root place.low place.high least → NamesNoneTwice (pages_below levels m0 root) → IsRaised levels m0 m1 root place.low place.high least place.sought x o)
    → IsRaised levels m0 m1 root 0 (2 ^ 32) 1 v x o
raised_of_tree {levels} {root} {m0 = m0} some same s once call = (rw same at (call 1)) (root_stands_below levels m0 root some s) once

pub second_of_tree : {v : ℕ} {place : Place} {o : Option Second} {s : Second} → place ≡ root_place v → o ≡ Some s → SecondFits place.low place.high o → SecondFits 0 (2 ^ 32) (Some s)
second_of_tree same is fits = grind arith

pub full_root : (levels : ℕ) (m : PageMap) (root v : ℕ) (place : Place) (o : Option Second) (s : Second) → place ≡ root_place v → o ≡ Some s
    → WasFull o (IsFullBelow levels m root place.sought) → IsFullBelow levels m root v
full_root levels m root v place o s same is full = grind arith

-- A page that is in the map has bytes.
pub bytes_of : (o : Option (List ℕ)) → IsSome o → (bytes : List ℕ) × (o ≡ Some bytes)
bytes_of None h = cc
bytes_of (Some bytes) h = (bytes, refl)
