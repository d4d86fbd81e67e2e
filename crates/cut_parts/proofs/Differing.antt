-- Points that differ in their keys still do without a dimension.
use Rattle.std.proofs.Common.{◌≡◌, ◌≢◌, ℕ, zero, suc, ◌+◌, ◌-◌, ◌<◌, ◌≤◌, ◌==◌, not, nat_lt, if◌then◌else◌, Bool, true, IsTrue, inl, inr, List, [], ◌∷◌, ◌++◌, slice_index, refl, ap, ◌∙◌, subst, arith}
use Rattle.std.proofs.lemmas.Bool.{and_parts, cases_eq, cases_lt, le-ltb, lt-ltb}
use Rattle.bw_types.specs.Without.{keys_without, without_dimension}
use Rattle.bw_types.specs.Tally.{each_below}
use Rattle.bw_types.specs.declared.point.Point.{Point}
use Rattle.dom_index.specs.Points.{keys_differ}

-- where the key of a dimension stands without another one
abbrev closed_place : ℕ → ℕ → ℕ
closed_place dimension place = if nat_lt place dimension then place else place - 1

-- a further 0 is what is read past the end
padded_at : (keys : List ℕ) (i : ℕ) → slice_index (keys ++ (0 ∷ [])) i ≡ slice_index keys i
padded_at [] zero = refl
padded_at [] (suc i) = refl
padded_at (k ∷ keys) zero = refl
padded_at (k ∷ keys) (suc i) = padded_at keys i

closed_next : (i j : ℕ) → j ≢ i → closed_place (suc i) (suc j) ≡ suc (closed_place i j)
closed_next i j ne =
    elim (cases_lt j i) [
      | inl lt ↦ rw (lt-ltb j i lt, lt-ltb (suc j) (suc i) (omega arith)) refl
      | inr le ↦
          rw (le-ltb j i le, le-ltb (suc j) (suc i) (omega arith)) (grind arith)
    ]

other_keys_stay : (dimension place : ℕ) (keys : List ℕ) → place ≢ dimension → slice_index (keys_without dimension keys) (closed_place dimension place) ≡ slice_index keys place
other_keys_stay zero zero keys ne = absurd (ne refl)
other_keys_stay zero (suc j) [] ne = padded_at [] (closed_place 0 (suc j))
other_keys_stay zero (suc j) (k ∷ keys) ne =
    let e : suc j - 1 ≡ j = omega arith in
    rw (le-ltb (suc j) 0 (omega arith), e) (padded_at keys j)
other_keys_stay (suc i) j [] ne = padded_at [] (closed_place (suc i) j)
other_keys_stay (suc i) zero (k ∷ keys) ne = rw (lt-ltb 0 (suc i) (omega arith)) refl
other_keys_stay (suc i) (suc j) (k ∷ keys) ne =
    let apart : j ≢ i = λ e. ne (ap suc e) in
    rw (closed_next i j apart) (other_keys_stay i j keys apart)

-- a test of each number below n
test_at : (n : ℕ) (test : ℕ → Bool) (i : ℕ) → each_below n test ≡ true → i < n → test i ≡ true
test_at zero test i each lt = absurd (omega (arith, lt))
test_at (suc n) test i each lt = elim (cases_eq i n) [
  | inl same ↦ ap test same ∙ (and_parts (each_below n test) (test n) each).1
  | inr other ↦ test_at n test i (and_parts (each_below n test) (test n) each).0 (omega (arith, lt, other))
]

test_each : (n : ℕ) (test : ℕ → Bool) → ((i : ℕ) → i < n → test i ≡ true) → each_below n test ≡ true
test_each zero test each = refl
test_each (suc n) test each = rw (test_each n test (λ i lt. each i (omega (arith, lt))), each n (omega arith)) refl

-- where the key stood that stands at a place without a dimension
open_place : (i j : ℕ) → (place : ℕ) × (place ≢ i) × (closed_place i place ≡ j) × (place ≤ j + 1) × (j < i → place ≡ j)
open_place i j = elim (cases_lt j i) [
  | inl lt ↦ (j, (λ same. omega (arith, same, lt)), rw (lt-ltb j i lt) refl, omega arith, (λ _. refl))
  | inr le ↦ (suc j, (λ same. omega (arith, same, le)), rw (le-ltb (suc j) i (omega (arith, le))) (omega arith), omega arith, (λ lt. absurd (omega (arith, lt, le))))
]

-- the key at a place is one of the others
pub key_at : (dims i j : ℕ) → i < dims → j < dims - 1 → (place : ℕ) × (place < dims) × ((keys : List ℕ) → slice_index (keys_without i keys) j ≡ slice_index keys place)
key_at dims i j lt less =
    let found = open_place i j in
    (found.0, omega (arith, found.3, less), (λ keys. subst (λ (n : ℕ). slice_index (keys_without i keys) n ≡ slice_index keys found.0) found.2 (other_keys_stay i found.0 keys found.1)))

pub still_differ : (dims i : ℕ) (p q : Point) → i < dims → IsTrue (keys_differ dims p q) → IsTrue (keys_differ (dims - 1) (without_dimension i p) (without_dimension i q))
still_differ dims i p q lt differ = test_each (dims - 1) (λ j. not (slice_index (keys_without i p.keys) j == slice_index (keys_without i q.keys) j)) (λ j less.
    let at = key_at dims i j lt less in
    ap (λ (n : ℕ). not (n == slice_index (keys_without i q.keys) j)) (at.2 p.keys) ∙ ap (λ (n : ℕ). not (slice_index p.keys at.0 == n)) (at.2 q.keys)
    ∙ test_at dims (λ k. not (slice_index p.keys k == slice_index q.keys k)) at.0 differ at.1)
