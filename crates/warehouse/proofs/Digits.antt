-- There is one list of exponents for each coefficient: each case is computed.
use Rattle.std.proofs.Common.{◌≡◌, ℕ, zero, suc, ◌+◌, ◌^◌, ◌<◌, ◌≤◌, Bool, true, inl, inr, refl, length, ◌==◌, arith}
use Rattle.std.proofs.lemmas.Bool.{cases_lt, and_parts, eqb-true}
use Rattle.bw_types.specs.Tally.{each_below}
use Rattle.bw_types.specs.Integral.{exponent_lists}

-- what holds of each number below n holds of one of them
at_one : (n i : ℕ) (p : ℕ → Bool) → each_below n p ≡ true → i < n → p i ≡ true
at_one zero i p h lt = absurd (omega arith)
at_one (suc n) i p h lt =
    let both = and_parts (each_below n p) (p n) h in
    elim (cases_lt i n) [
      | inl below ↦ at_one n i p both.0 below
      | inr above ↦ let e : i ≡ n = omega arith in rw e both.1
    ]

abbrev pub counts_right : ℕ → ℕ → Bool
counts_right dims degree = length (exponent_lists dims degree) == (degree + 1) ^ dims

all_right : each_below 4 (λ dims. each_below 3 (counts_right dims)) ≡ true
all_right = refl

pub length-exponent_lists : (dims degree : ℕ) → dims ≤ 3 → degree ≤ 2 → length (exponent_lists dims degree) ≡ (degree + 1) ^ dims
length-exponent_lists dims degree hd hg =
    eqb-true _ _ (at_one 3 degree (counts_right dims) (at_one 4 dims (λ dims. each_below 3 (counts_right dims)) all_right (omega arith)) (omega arith))
