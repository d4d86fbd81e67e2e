-- Which exponents belong to which coefficient: each case is computed.
use Rattle.std.proofs.Common.{◌≡◌, ℕ, zero, suc, ◌+◌, ◌-◌, ◌/◌, ◌%◌, ◌^◌, ◌<◌, ◌≤◌, Bool, true, ◌&&◌, inl, inr, refl, [], length, slice_index, slice_index_or, ◌==◌, arith, ap, ◌∙◌}
use Rattle.std.proofs.lemmas.Bool.{cases_lt, and_parts, eqb-true}
use Rattle.bw_types.specs.Tally.{each_below}
use Rattle.bw_types.specs.Integral.{exponent_lists}
use Rattle.corner_weights.specs.Planes.{plane_exponents}

-- what holds of each number below n holds of one of them
pub at_one : (n i : ℕ) (p : ℕ → Bool) → each_below n p ≡ true → i < n → p i ≡ true
at_one zero i p h lt = absurd (omega arith)
at_one (suc n) i p h lt =
    let both = and_parts (each_below n p) (p n) h in
    elim (cases_lt i n) [
      | inl below ↦ at_one n i p both.0 below
      | inr above ↦ let e : i ≡ n = omega arith in rw e both.1
    ]

-- the digit of k for dimension i
abbrev pub digit : ℕ → ℕ → ℕ → ℕ → ℕ
digit dims degree k i = (k / (degree + 1) ^ (dims - 1 - i)) % (degree + 1)

abbrev pub digits_right : ℕ → ℕ → Bool
digits_right dims degree =
    each_below ((degree + 1) ^ dims) (λ k. each_below dims (λ i. digit dims degree k i == slice_index (slice_index_or (exponent_lists dims degree) k []) i))

abbrev pub counts_right : ℕ → ℕ → Bool
counts_right dims degree = length (exponent_lists dims degree) == (degree + 1) ^ dims

-- for each number of dimensions and each degree
pub all_right : each_below 4 (λ dims. each_below 4 (λ degree. digits_right dims degree && counts_right dims degree)) ≡ true
all_right = refl

pub right_at : (dims degree : ℕ) → dims ≤ 3 → degree ≤ 3 → (digits_right dims degree && counts_right dims degree) ≡ true
right_at dims degree hd hg =
    at_one 4 degree (λ degree. digits_right dims degree && counts_right dims degree)
    (at_one 4 dims (λ dims. each_below 4 (λ degree. digits_right dims degree && counts_right dims degree)) all_right (omega arith))
    (omega arith)

-- the digit is the exponent
pub digit_is : (dims degree k i : ℕ) → dims ≤ 3 → degree ≤ 3 → k < (degree + 1) ^ dims → i < dims → digit dims degree k i ≡ slice_index (slice_index_or (exponent_lists dims degree) k []) i
digit_is dims degree k i hd hg hk hi =
    let both = and_parts (digits_right dims degree) (counts_right dims degree) (right_at dims degree hd hg) in
    let row = at_one ((degree + 1) ^ dims) k (λ k. each_below dims (λ i. digit dims degree k i == slice_index (slice_index_or (exponent_lists dims degree) k []) i)) both.0 hk in
    eqb-true _ _ (at_one dims i (λ i. digit dims degree k i == slice_index (slice_index_or (exponent_lists dims degree) k []) i) row hi)

-- there is one list of exponents for each coefficient
pub length-exponent_lists : (dims degree : ℕ) → dims ≤ 3 → degree ≤ 3 → length (exponent_lists dims degree) ≡ (degree + 1) ^ dims
length-exponent_lists dims degree hd hg =
    let both = and_parts (digits_right dims degree) (counts_right dims degree) (right_at dims degree hd hg) in
    eqb-true _ _ both.1

-- and one for each plane
pub length-plane_exponents : (dims g : ℕ) → dims ≤ 3 → g ≤ 2 → length (plane_exponents dims g) ≡ (g + 2) ^ dims
length-plane_exponents dims g hd hg =
    let base : g + 1 + 1 ≡ g + 2 = omega arith in
    length-exponent_lists dims (g + 1) hd (omega arith) ∙ ap (λ b. b ^ dims) base
