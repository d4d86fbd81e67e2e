-- The product of differences over one to three dimensions, expanded into the terms of the subsets.
--
-- In a dimension a tells that the object's low end is at most the query's high end, and b that its high end is
-- below the query's low end; where b holds a does too.
use Rattle.std.specs.Prelude.{◌≡◌, ℕ, ◌-◌, ◌^◌, ◌<◌, ◌≤◌, Bool, true, false, not, ◌&&◌, ◌==◌, nat_lt, nat_le, if◌then◌else◌, ℤ, pos, ◌+ℤ◌, ◌-ℤ◌, neg_ℤ, refl}
use Rattle.std.proofs.Common.{arith, inl, inr}
use Rattle.std.proofs.lemmas.Bool.{cases_lt, cases_eq, lt-ltb, le-ltb, le-leb, lt-leb, leb-true, ltb-true, eq-eqb, ne_eqb, false≢true}
use Rattle.std.proofs.Math.Bool.{and-false}
use Rattle.std.proofs.lemmas.Int.{ints}
use Rattle.bw_types.specs.Keys.{point_key, query_key}

-- the weight where the test holds, else 0
unfoldable pub weighed : ℤ → Bool → ℤ
weighed w t = if t then w else pos 0

-- a point's key is at most a bound's exactly where its coordinate is at most the bound
key-at_most : (low high number : ℕ) → number < 2 ^ 32 → nat_le (point_key low number) (query_key high) ≡ nat_le low high
key-at_most low high number n = elim (cases_lt high low) [
  | inl lt ↦ rw (lt-leb low high lt, lt-leb (point_key low number) (query_key high) (omega arith)) refl
  | inr ge ↦ rw (le-leb low high ge, le-leb (point_key low number) (query_key high) (omega arith)) refl
]

-- a point's key is at most that of one less than a bound above 0 exactly where its coordinate is below the bound
key-below : (high low number : ℕ) → number < 2 ^ 32 → (not (low == 0) && nat_le (point_key high number) (query_key (low - 1))) ≡ nat_lt high low
key-below high low number n = elim (cases_lt high low) [
  | inl lt ↦
      let ne : low ≡ 0 → ⊥ = λ e. omega arith in
      rw (lt-ltb high low lt, ne_eqb low 0 ne, le-leb (point_key high number) (query_key (low - 1)) (omega arith)) refl
  | inr ge ↦ elim (cases_eq low 0) [
    | inl e ↦ rw (le-ltb high low ge, eq-eqb low 0 e) refl
    | inr ne ↦ rw (le-ltb high low ge, lt-leb (point_key high number) (query_key (low - 1)) (omega arith)) (and-false _)
  ]
]

-- in one dimension: the bound is there and the point's key keeps it, said of coordinates
pub key_keeps_bound : (low high qlow qhigh number : ℕ) → number < 2 ^ 32 → (x : Bool)
    → (not (x && qlow == 0) && nat_le (point_key (if x then high else low) number) (query_key (if x then qlow - 1 else qhigh))) ≡ (if x then nat_lt high qlow else nat_le low qhigh)
key_keeps_bound low high qlow qhigh number n true = key-below high qlow number n
key_keeps_bound low high qlow qhigh number n false = key-at_most low qhigh number n

-- an object's low end is at most a query's high end where its high end is below the query's low end
pub below_is_at_most : (low high qlow qhigh : ℕ) → nat_le low high ≡ true → nat_le qlow qhigh ≡ true → nat_lt high qlow ≡ true → nat_le low qhigh ≡ true
below_is_at_most low high qlow qhigh o q h =
    let lo : low ≤ high = leb-true low high o in
    let lq : qlow ≤ qhigh = leb-true qlow qhigh q in
    let lt : high < qlow = ltb-true high qlow h in
    le-leb low qhigh (omega arith)

-- not below is at least
pub not-below : (high low : ℕ) → not (nat_lt high low) ≡ nat_le low high
not-below high low = elim (cases_lt high low) [
  | inl lt ↦ rw (lt-ltb high low lt, lt-leb low high lt) refl
  | inr ge ↦ rw (le-ltb high low ge, le-leb low high ge) refl
]

-- one dimension's two terms are one, whatever the other dimensions say
difference : (w : ℤ) (a b rest : Bool) → (b ≡ true → a ≡ true) → weighed w (a && rest) -ℤ weighed w (b && rest) ≡ weighed w ((a && not b) && rest)
unfolding weighed
difference w false false rest h = refl
difference w false true rest h = absurd (false≢true (h refl))
difference w true false rest h = omega (arith, ints)
difference w true true rest h = omega (arith, ints)

difference-after : (w : ℤ) (p a b rest : Bool) → (b ≡ true → a ≡ true) → weighed w (p && (a && rest)) -ℤ weighed w (p && (b && rest)) ≡ weighed w (p && ((a && not b) && rest))
unfolding weighed
difference-after w false a b rest h = refl
difference-after w true a b rest h = difference w a b rest h

difference-after_two : (w : ℤ) (o p a b : Bool) → (b ≡ true → a ≡ true) → weighed w (o && (p && a)) -ℤ weighed w (o && (p && b)) ≡ weighed w (o && (p && (a && not b)))
unfolding weighed
difference-after_two w false p a b h = refl
difference-after_two w true false a b h = refl
difference-after_two w true true false false h = refl
difference-after_two w true true false true h = absurd (false≢true (h refl))
difference-after_two w true true true false h = omega (arith, ints)
difference-after_two w true true true true h = omega (arith, ints)

-- one dimension has two terms
pub expand_one : (w : ℤ) (a b : Bool) → (b ≡ true → a ≡ true)
    → pos 0 +ℤ weighed w a +ℤ neg_ℤ (weighed w b) ≡ weighed w (a && not b)
expand_one w a b h = let e = difference-after_two w true true a b h in omega (arith, ints)

-- two dimensions have four
pub expand_two : (w : ℤ) (a b c d : Bool) → (b ≡ true → a ≡ true) → (d ≡ true → c ≡ true)
    → pos 0 +ℤ weighed w (a && c) +ℤ neg_ℤ (weighed w (b && c)) +ℤ neg_ℤ (weighed w (a && d)) +ℤ weighed w (b && d)
    ≡ weighed w ((a && not b) && (c && not d))
expand_two w a b c d h k =
    let e1 = difference w a b c h in
    let e2 = difference w a b d h in
    let e3 = difference-after_two w true (a && not b) c d k in
    omega (arith, ints)

-- three dimensions have eight
pub expand_three : (w : ℤ) (a b c d e f : Bool) → (b ≡ true → a ≡ true) → (d ≡ true → c ≡ true) → (f ≡ true → e ≡ true)
    → pos 0 +ℤ weighed w (a && (c && e)) +ℤ neg_ℤ (weighed w (b && (c && e))) +ℤ neg_ℤ (weighed w (a && (d && e))) +ℤ weighed w (b && (d && e))
    +ℤ neg_ℤ (weighed w (a && (c && f))) +ℤ weighed w (b && (c && f)) +ℤ weighed w (a && (d && f)) +ℤ neg_ℤ (weighed w (b && (d && f)))
    ≡ weighed w ((a && not b) && ((c && not d) && (e && not f)))
expand_three w a b c d e f h k l =
    let e1 = difference w a b (c && e) h in
    let e2 = difference w a b (d && e) h in
    let e3 = difference w a b (c && f) h in
    let e4 = difference w a b (d && f) h in
    let e5 = difference-after w (a && not b) c d e k in
    let e6 = difference-after w (a && not b) c d f k in
    let e7 = difference-after_two w (a && not b) (c && not d) e f l in
    omega (arith, ints)

-- tests of bounds and of keys, dimension by dimension
pub pair_one : (h c : Bool) → ((true && h) && (c && true)) ≡ (h && c)
pair_one false c = refl
pair_one true false = refl
pair_one true true = refl

pub pair_two : (h i c d : Bool) → (((true && h) && i) && (c && (d && true))) ≡ ((h && c) && (i && d))
pair_two false i c d = refl
pair_two true false false d = refl
pair_two true false true d = refl
pair_two true true false d = refl
pair_two true true true false = refl
pair_two true true true true = refl

pub pair_three : (h i j c d e : Bool) → ((((true && h) && i) && j) && (c && (d && (e && true)))) ≡ ((h && c) && ((i && d) && (j && e)))
pair_three false i j c d e = refl
pair_three true false j false d e = refl
pair_three true false j true d e = refl
pair_three true true false false d e = refl
pair_three true true false true false e = refl
pair_three true true false true true e = refl
pair_three true true true false d e = refl
pair_three true true true true false e = refl
pair_three true true true true true false = refl
pair_three true true true true true true = refl

-- grouped to the right
pub group_two : (x y : Bool) → ((true && x) && y) ≡ (x && y)
group_two x y = refl

pub group_three : (x y z : Bool) → (((true && x) && y) && z) ≡ (x && (y && z))
group_three false y z = refl
group_three true y z = refl
