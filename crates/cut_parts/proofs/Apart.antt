-- Points that share no key: in each dimension their keys rise once they are sorted.
use Rattle.std.proofs.Common.{◌≡◌, ℕ, zero, suc, ◌+◌, ◌<◌, ◌==◌, not, Bool, true, false, List, length, get_or, slice_index, inl, inr, refl, sym, ap, ◌∙◌, subst, arith}
use Rattle.std.specs.List.{AllAdjacentBelow}
use Rattle.std.specs.List.Sorted.{IsNonDecreasingBy, IsPermutation}
use Rattle.std.proofs.lemmas.Bool.{cases_eq, cases_lt, eq-eqb, ne_eqb, and_parts}
use Rattle.std.proofs.lemmas.List.Sorted.{IsNonDecreasingBy-from_all_adjacent}
use Rattle.bw_types.specs.Tally.{each_below}
use Rattle.bw_types.specs.declared.point.Point.{Point}
use Rattle.cut_parts.specs.Medians.{key_of, KeysDiffer}
use Rattle.cut_parts.proofs.Ordering.{ascending, keys_differ}
use Rattle.cut_parts.specs.Borders.{ShareNoKey}

-- Each point's key is below that of the next one.
abbrev pub DoRise : ℕ → List Point → Type 0
DoRise dimension points = AllAdjacentBelow (λ p q. key_of dimension p < key_of dimension q) points (length points)

rise_far : (dimension : ℕ) (points : List Point) → DoRise dimension points → (i j : ℕ) (d : Point) → i < j → j < length points
    → key_of dimension (get_or points i d) < key_of dimension (get_or points j d)
rise_far dimension points up i j d lt few =
    let sorted : IsNonDecreasingBy (key_of dimension) points = IsNonDecreasingBy-from_all_adjacent (key_of dimension) points (λ k d less. omega (arith, up k d less)) in
    omega (arith, up i d (omega (arith, lt, few)), sorted (i + 1) j d (omega (arith, lt)) few)

pub differ_where_rising : (dimension : ℕ) (points : List Point) → DoRise dimension points → KeysDiffer dimension points
differ_where_rising dimension points up = λ i j d li lj same. elim (cases_eq i j) [
  | inl e ↦ e
  | inr other ↦ elim (cases_lt i j) [
    | inl lt ↦ absurd (omega (arith, same, rise_far dimension points up i j d lt lj))
    | inr le ↦ absurd (omega (arith, same, rise_far dimension points up j i d (omega (arith, le, other)) li))
  ]
]

pub rising_where_differ : (dimension : ℕ) (points : List Point) → KeysDiffer dimension points → IsNonDecreasingBy (key_of dimension) points → DoRise dimension points
rising_where_differ dimension points differ up = λ k d lt. ascending dimension points differ up k (k + 1) d (omega arith) (omega (arith, lt))

-- a test of each number below n
test_at : (n : ℕ) (test : ℕ → Bool) (i : ℕ) → each_below n test ≡ true → i < n → test i ≡ true
test_at zero test i each lt = absurd (omega (arith, lt))
test_at (suc n) test i each lt = elim (cases_eq i n) [
  | inl same ↦ ap test same ∙ (and_parts (each_below n test) (test n) each).1
  | inr other ↦ test_at n test i (and_parts (each_below n test) (test n) each).0 (omega (arith, lt, other))
]

test_each : (n : ℕ) (test : ℕ → Bool) → ((i : ℕ) → i < n → test i ≡ true) → each_below n test ≡ true
test_each zero test each = refl
test_each (suc n) test each = rw (test_each n test (λ i lt. each i (omega (arith, lt))), each n (omega arith)) refl

not_both : (b : Bool) → not b ≡ true → b ≡ true → ⊥
not_both true h k = cc
not_both false h k = cc

-- the points have different keys in each of the first dimensions
abbrev pub DifferInEach : ℕ → List Point → Type 0
DifferInEach dims points = (i : ℕ) → i < dims → KeysDiffer i points

pub share_none : (dims : ℕ) (points : List Point) → DifferInEach dims points → ShareNoKey dims points
share_none dims points differ = λ i j d lt few.
    let p : Point = get_or points i d in
    let q : Point = get_or points j d in
    test_each dims (λ k. not (slice_index p.keys k == slice_index q.keys k))
    (λ k less. ap not (ne_eqb (slice_index p.keys k) (slice_index q.keys k) (λ same. let e : i ≡ j = differ k less i j d (omega (arith, lt, few)) few same in omega (arith, e, lt))))

pub differ_in_each : (dims : ℕ) (points : List Point) → ShareNoKey dims points → DifferInEach dims points
differ_in_each dims points apart = λ k less i j d li lj same.
    let test : Point → Point → ℕ → Bool = λ p q n. not (slice_index p.keys n == slice_index q.keys n) in
    let p : Point = get_or points i d in
    let q : Point = get_or points j d in
    elim (cases_eq i j) [
      | inl e ↦ e
      | inr other ↦ elim (cases_lt i j) [
        | inl lt ↦ absurd (not_both (slice_index p.keys k == slice_index q.keys k) (test_at dims (test p q) k (apart i j d lt lj) less)
            (eq-eqb (slice_index p.keys k) (slice_index q.keys k) same))
        | inr le ↦ absurd (not_both (slice_index q.keys k == slice_index p.keys k) (test_at dims (test q p) k (apart j i d (omega (arith, le, other)) li) less)
            (eq-eqb (slice_index q.keys k) (slice_index p.keys k) (sym same)))
      ]
    ]

-- one dimension more, where the points may have moved
pub one_more_differs : (dimension : ℕ) (points new : List Point) → IsPermutation points new → DifferInEach dimension points → KeysDiffer dimension new → DifferInEach (dimension + 1) new
one_more_differs dimension points new moved before here = λ i lt. elim (cases_eq i dimension) [
  | inl same ↦ subst (λ (n : ℕ). KeysDiffer n new) (sym same) here
  | inr other ↦ keys_differ i points new moved (before i (omega (arith, lt, other)))
]
