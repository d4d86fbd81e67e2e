-- Sums and products that stop at a cap: capping the parts makes no difference to the capped whole.
use Rattle.std.proofs.Common.{List, length, get_or, take, add-one, ◌≡◌, ℕ, ◌+◌, ◌*◌, ◌<◌, ◌≤◌, min, zero, suc, inl, inr, arith, refl, ◌∙◌}
use Rattle.std.proofs.Math.Nat.{mul-le-mul_left, mul-le-mul_right, mul-zero, mul_comm}
use Rattle.std.proofs.lemmas.List.Sums.{sum_by_more}
use Rattle.std.specs.List.{sum_by}
use Rattle.bw_types.specs.Tally.{product_below}
use Rattle.std.proofs.lemmas.Bool.{cases_lt}

pub capped_sum : (a b cap : ℕ) → min (min a cap + min b cap) cap ≡ min (a + b) cap
capped_sum a b cap = omega arith

pub capped_product : (a b cap : ℕ) → min (min a cap * b) cap ≡ min (a * b) cap
capped_product a zero cap = rw (mul-zero (min a cap), mul-zero a) refl
capped_product a (suc b) cap =
    elim (cases_lt cap a) [
      | inl above ↦
          let capped : min a cap ≡ cap = omega arith in
          let least : cap * suc zero ≤ cap * suc b = mul-le-mul_left cap (omega arith) in
          let more : cap * suc b ≤ a * suc b = mul-le-mul_right (suc b) (omega arith) in
          rw capped (omega arith)
      | inr within ↦ let same : min a cap ≡ a = omega arith in rw same refl
    ]

-- one factor more
pub product_step : (f : ℕ → ℕ) (i product factor next cap : ℕ) → product ≡ min (product_below i f) cap → factor ≡ f i → next ≡ min (product * factor) cap → next ≡ min (product_below (i + 1) f) cap
product_step f i product factor next cap so_far at now =
    now ∙ rw (so_far, at) (capped_product (product_below i f) (f i) cap ∙ rw (add-one i) refl)

-- one term more, of which the factor that may be large was capped
pub sum_step : {X : Type 0} (f : X → ℕ) (xs : List X) (i : ℕ) (d : X) (total size large first second part next cap : ℕ) → i < length xs → f (get_or xs i d) ≡ size * large → total ≡ min (sum_by f (take i xs)) cap → first ≡ size → second ≡ min large cap → part ≡ min (first * second) cap → next ≡ min (total + part) cap → next ≡ min (sum_by f (take (i + 1) xs)) cap
sum_step f xs i d total size large first second part next cap lt at so_far is_first is_second is_part now =
    let part_is : part ≡ min (f (get_or xs i d)) cap =
    is_part ∙ rw (is_first, is_second) (rw (mul_comm size (min large cap)) (capped_product large size cap ∙ rw (mul_comm large size, at) refl)) in
    now ∙ rw (so_far, part_is) (capped_sum (sum_by f (take i xs)) (f (get_or xs i d)) cap ∙ rw (sum_by_more f xs i d lt) refl)
