-- How many lows a tree has, and how many it may have.
use Rattle.sb_tree.proofs.Common.{◌≡◌, ℕ, zero, suc, ◌+◌, ◌*◌, ◌^◌, ◌<◌, ◌≤◌, ◌==◌, nat_eq, true, false, IsTrue, inl, inr, List, [], ◌∷◌, ◌++◌, length, map, arith, length-append, rules, All, flat_map, list_any, AllByRecursion, or_right, or_cases, nat_eq_equiv, length-map, All-append, All-nil, length-le_from_is_member, suc-mul, pow-suc, mul-le-mul_left, mul_comm, zero-mul, Point, PageMap, SbEntry, entries_on, lows_below, first_low, EachStands, StandsBelow, is_marked}
use Rattle.std.specs.List.{IsDistinct}
use Rattle.sb_tree.proofs.Paths.{All-head, All-tail}
use Rattle.sb_tree.proofs.Order.{Ascends, ascends, all_from}

abbrev pub Rising : List ℕ → Type 0
Rising [] = Unit {0}
Rising (k ∷ ks) = All (λ l. k < l) ks × Rising ks

rising_join : (xs ys : List ℕ) (bound : ℕ) → Rising xs → Rising ys → All (λ l. l < bound) xs → All (λ l. bound ≤ l) ys → Rising (xs ++ ys)
rising_join [] ys bound a b below from = b
rising_join (x ∷ xs) ys bound a b below from =
    let here : x < bound = All-head (λ l. l < bound) x xs below in (
      All-append (λ l. x < l) xs ys a.0 (λ k d h. omega (arith, here, from k d h)),
      rising_join xs ys bound a.1 b (All-tail (λ l. l < bound) x xs below) from,
    )

all_lows : (P : ℕ → Type 0) (es : List SbEntry) → All (λ e. P e.low) es → All P (map (λ e. e.low) es)
all_lows P [] all = All-nil P
all_lows P (e ∷ es) all = grind (arith, All-head, all_lows P es (All-tail (λ e. P e.low) e es all))

rising_lows : (es : List SbEntry) → Ascends es → Rising (map (λ e. e.low) es)
rising_lows [] a = tt
rising_lows (e ∷ es) a = (all_lows (λ l. e.low < l) es a.0, rising_lows es a.1)

-- lows in order, within a range
abbrev pub Within : List ℕ → ℕ → ℕ → Type 0
Within ls low high = Rising ls × All (λ l. low ≤ l) ls × All (λ l. l < high) ls

next_above : (e : SbEntry) (es : List SbEntry) (high : ℕ) → Ascends (e ∷ es) → All (λ f. f.low < high) (e ∷ es) → (e.low ≤ first_low es high) × (first_low es high ≤ high)
next_above e [] high a below = grind (arith, All-head)
next_above e (f ∷ fs) high a below =
    (omega (arith, All-head (λ g. e.low < g.low) f fs a.0), omega (arith, All-head (λ g. g.low < high) f fs (All-tail (λ g. g.low < high) e (f ∷ fs) below)))

each_within : (f : SbEntry → List ℕ) (s : ℕ → ℕ → ℕ → Type 0) → ((e : SbEntry) (to : ℕ) → s e.child e.low to → Within (f e) e.low to)
    → (es : List SbEntry) (high : ℕ) → EachStands s es high → Ascends es → All (λ e. e.low < high) es → Within (flat_map f es) (first_low es high) high
each_within f s each [] high stands a below = (tt, All-nil _, All-nil _)
each_within f s each (e ∷ es) high stands a below =
    let own = each e (first_low es high) stands.0 in
    let rest = each_within f s each es high stands.1 a.1 (All-tail (λ e. e.low < high) e es below) in
    let next = next_above e es high a below in (
      rising_join (f e) (flat_map f es) (first_low es high) own.0 rest.0 own.2 rest.1,
      All-append (λ l. e.low ≤ l) (f e) (flat_map f es) own.1 (λ k d h. omega (arith, next.0, rest.1 k d h)),
      All-append (λ l. l < high) (f e) (flat_map f es) (λ k d h. omega (arith, next.1, own.2 k d h)) rest.2,
    )

pub lows_within : (level : ℕ) (m : PageMap) (page low high least : ℕ) → StandsBelow (suc level) m page low high least → Within (lows_below (suc level) m page) low high
lows_within zero m page low high least s = search (rules, ascends, rising_lows, all_lows, all_from)
lows_within (suc level) m page low high least s =
    let es : List SbEntry = entries_on m page in
    let all = each_within (λ e. lows_below (suc level) m e.child) (λ child from to. StandsBelow (suc level) m child from to 32)
    (λ e to stands. lows_within level m e.child e.low to 32 stands) es high s.1 (ascends es s.0.rules.entries.order) s.0.ends in
    rw s.0.begins at all

each_count : (f : SbEntry → List ℕ) (s : ℕ → ℕ → ℕ → Type 0) (n : ℕ) → ((e : SbEntry) (to : ℕ) → s e.child e.low to → n ≤ length (f e))
    → (es : List SbEntry) (high : ℕ) → EachStands s es high → length es * n ≤ length (flat_map f es)
each_count f s n each [] high stands = omega (arith, zero-mul n)
each_count f s n each (e ∷ es) high stands =
    omega (arith, suc-mul (length es) n, each e (first_low es high) stands.0, each_count f s n each es high stands.1, length-append (f e) (flat_map f es))

pub many_lows : (level : ℕ) (m : PageMap) (page low high : ℕ) → StandsBelow (suc level) m page low high 32 → 32 ^ suc level ≤ length (lows_below (suc level) m page)
many_lows zero m page low high s = omega (arith, s.filled, length-map (entries_on m page) (λ e. e.low), pow-suc 32 0)
many_lows (suc level) m page low high s =
    let n : ℕ = 32 ^ suc level in
    let es : List SbEntry = entries_on m page in
    let all = each_count (λ e. lows_below (suc level) m e.child) (λ child from to. StandsBelow (suc level) m child from to 32) n
    (λ e to stands. many_lows level m e.child e.low to stands) es high s.1 in
    let power : 32 ^ suc (suc level) ≡ n * 32 = pow-suc 32 (suc level) in
    let times : n * 32 ≤ n * length es = mul-le-mul_left n s.0.filled in
    omega (arith, all, power, times, mul_comm n (length es))

-- A root of two nodes that are half full has twice so many.
pub two_many_lows : (level : ℕ) (m : PageMap) (page low high least : ℕ) → StandsBelow (suc (suc level)) m page low high least → 2 ≤ length (entries_on m page)
    → 2 * 32 ^ suc level ≤ length (lows_below (suc (suc level)) m page)
two_many_lows level m page low high least s two =
    let n : ℕ = 32 ^ suc level in
    let es : List SbEntry = entries_on m page in
    let all = each_count (λ e. lows_below (suc level) m e.child) (λ child from to. StandsBelow (suc level) m child from to 32) n
    (λ e to stands. many_lows level m e.child e.low to stands) es high s.1 in
    let times : n * 2 ≤ n * length es = mul-le-mul_left n two in
    omega (arith, all, times, mul_comm n (length es))

apart_all : (k : ℕ) (ls : List ℕ) → All (λ l. k < l) ls → AllByRecursion (λ y. nat_eq k y ≡ false) ls
apart_all k [] all = tt
apart_all k (l ∷ ls) all = grind (arith, All-head, apart_all k ls (All-tail (λ l. k < l) l ls all))

rising_distinct : (ls : List ℕ) → Rising ls → IsDistinct nat_eq ls
unfolding IsDistinct
rising_distinct [] r = tt
rising_distinct (k ∷ ls) r = (apart_all k ls r.0, rising_distinct ls r.1)

member_holds : (P : ℕ → Type 0) (xs : List ℕ) (q : ℕ) → list_any (nat_eq q) xs ≡ true → All P xs → P q
member_holds P [] q h all = cc
member_holds P (x ∷ xs) q h all = elim (or_cases (nat_eq q x) (list_any (nat_eq q) xs) h) [
  | inl here ↦ search (rules, All-head)
  | inr rest ↦ member_holds P xs q rest (All-tail P x xs all)
]

point_member : (points : List Point) (q : ℕ) → list_any (λ p. p.version == q) points ≡ true → list_any (nat_eq q) (map (λ p. p.version) points) ≡ true
point_member [] q h = h
point_member (p ∷ points) q h = elim (or_cases (p.version == q) (list_any (λ p. p.version == q) points) h) [
  | inl here ↦ search rules
  | inr rest ↦ or_right (nat_eq q p.version) (list_any (nat_eq q) (map (λ p. p.version) points)) (point_member points q rest)
]

marked_member : (points : List Point) (q : ℕ) → IsTrue (is_marked points q) → list_any (nat_eq q) (0 ∷ map (λ p. p.version) points) ≡ true
marked_member points q h = grind (arith, point_member)

-- Lows in order that are each 0 or a point's version are at most one more than the points.
pub few_lows : (points : List Point) (ls : List ℕ) → Rising ls → All (λ l. IsTrue (is_marked points l)) ls → length ls ≤ length points + 1
few_lows points ls r marked =
    let all = length-le_from_is_member nat_eq_equiv ls (0 ∷ map (λ p. p.version) points) (rising_distinct ls r)
    (λ q h. marked_member points q (member_holds (λ l. IsTrue (is_marked points l)) ls q h marked)) in
    omega (arith, all, length-map points (λ p. p.version))
