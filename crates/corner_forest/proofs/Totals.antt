-- Sums and counts of entries in one number.
use Rattle.std.proofs.Common.{◌≡◌, ℕ, suc, ◌+◌, ◌*◌, ◌^◌, ◌≤◌, Bool, true, false, nat_le, if◌then◌else◌, List, [], ◌∷◌, length, ℤ, pos, neg_ℤ, ◌+ℤ◌, ◌*ℤ◌, ◌≤ℤ◌, ◌<ℤ◌, nat_abs, ap, ◌∙◌, arith}
use Rattle.std.specs.List.{All}
use Rattle.std.proofs.Math.Nat.{mul-le-mul_left, pow-le-pow_right}
use Rattle.std.proofs.lemmas.Int.{ints}
use Rattle.std.proofs.lemmas.List.Elements.{All-head, All-tail}
use Rattle.bw_types.specs.Fits.{IsInRange}
use Rattle.bw_types.specs.Meets.{meets}
use Rattle.bw_types.specs.Tally.{int_sum_by}
use Rattle.bw_types.specs.declared.params.Params.{Params}
use Rattle.bw_types.specs.declared.query.Query.{Query}
use Rattle.corner_weights.specs.PlaneSums.{Entered, counts_at}
use Rattle.corner_forest.specs.Answers.{where_met, sum_of, count_of}
use Rattle.corner_forest.specs.Entries.{corner_count, sum_and_count}
use Rattle.corner_forest.specs.Stands.{HasSmallWeight}

-- a number that counts with this sign, where it does
abbrev given : Bool → Bool → Bool → ℤ → ℤ
given met told minus x = (if told then (if minus then neg_ℤ (pos 1) else pos 1) else pos 0) *ℤ (if met then x else pos 0)

-- what one entry gives
both : (b t m : Bool) (w : ℤ) → given b t m (sum_and_count w (pos 1)) ≡ sum_and_count (given b t m w) (given b t m (pos 1))
both true true true w = omega (arith, ints)
both true true false w = omega (arith, ints)
both false true true w = omega (arith, ints)
both false true false w = omega (arith, ints)
both true false m w = omega (arith, ints)
both false false m w = omega (arith, ints)

added : (x y s c : ℤ) → sum_and_count x y +ℤ sum_and_count s c ≡ sum_and_count (x +ℤ s) (y +ℤ c)
added x y s c = omega (arith, ints)

pub both_of : (params : Params) (q : Query) (version : ℕ) (es : List Entered)
    → int_sum_by (λ e. counts_at version e *ℤ where_met params q (sum_and_count e.object.weight (pos 1)) e.object) es ≡ sum_and_count (sum_of params es version q) (count_of params es version q)
both_of params q version [] = omega (arith, ints)
both_of params q version (e ∷ es) =
    let first = both (meets params.dims q e.object) (nat_le e.version version) e.minus e.object.weight in
    let rest = both_of params q version es in
    let x = counts_at version e *ℤ where_met params q e.object.weight e.object in
    let y = counts_at version e *ℤ where_met params q (pos 1) e.object in
    ap (λ (z : ℤ). z +ℤ int_sum_by (λ e. counts_at version e *ℤ where_met params q (sum_and_count e.object.weight (pos 1)) e.object) es) first
    ∙ ap (λ (z : ℤ). sum_and_count x y +ℤ z) rest ∙ added x y (sum_of params es version q) (count_of params es version q)

small_given : (b t m : Bool) (w : ℤ) (most : ℕ) → nat_abs w ≤ most → nat_abs (given b t m w) ≤ most
small_given true true true w most le = omega (arith, ints, le)
small_given true true false w most le = omega (arith, ints, le)
small_given false true true w most le = omega (arith, ints)
small_given false true false w most le = omega (arith, ints)
small_given true false m w most le = omega (arith, ints)
small_given false false m w most le = omega (arith, ints)

abs_added : (x y : ℤ) → nat_abs (x +ℤ y) ≤ nat_abs x + nat_abs y
abs_added x y = omega (arith, ints)

one_more : (n most : ℕ) → suc n * most ≡ n * most + most
one_more n most = omega arith

count_bound : (params : Params) (q : Query) (version : ℕ) (es : List Entered) → nat_abs (count_of params es version q) ≤ length es
count_bound params q version [] = omega arith
count_bound params q version (e ∷ es) =
    let first = small_given (meets params.dims q e.object) (nat_le e.version version) e.minus (pos 1) 1 (omega arith) in
    let rest = count_bound params q version es in
    let whole = abs_added (counts_at version e *ℤ where_met params q (pos 1) e.object) (count_of params es version q) in
    omega (arith, first, rest, whole)

sum_bound : (params : Params) (q : Query) (version : ℕ) (es : List Entered) → All HasSmallWeight es → nat_abs (sum_of params es version q) ≤ length es * 2 ^ 63
sum_bound params q version [] all = omega arith
sum_bound params q version (e ∷ es) all =
    let first = small_given (meets params.dims q e.object) (nat_le e.version version) e.minus e.object.weight (2 ^ 63) (All-head HasSmallWeight e es all) in
    let rest = sum_bound params q version es (All-tail HasSmallWeight e es all) in
    let whole = abs_added (counts_at version e *ℤ where_met params q e.object.weight e.object) (sum_of params es version q) in
    let more = one_more (length es) (2 ^ 63) in
    omega (arith, first, rest, whole, more)

few_entries : (params : Params) (n : ℕ) → IsInRange params → n * corner_count params ≤ 2 ^ 31 → n ≤ 2 ^ 30
few_entries params n range few =
    let two : 2 ≤ corner_count params = pow-le-pow_right {n = 2} (omega arith) {j = params.dims} range.some_dims in
    let less : n * 2 ≤ n * corner_count params = mul-le-mul_left n two in
    omega (arith, few, less)

-- a count of 31 bits and a sign
pub short_count : (params : Params) (q : Query) (version : ℕ) (es : List Entered) → IsInRange params → length es * corner_count params ≤ 2 ^ 31
    → (neg_ℤ (pos (2 ^ 31)) ≤ℤ count_of params es version q) × (count_of params es version q <ℤ pos (2 ^ 31))
short_count params q version es range few =
    let most = few_entries params (length es) range few in
    let bound = count_bound params q version es in
    (omega (arith, ints, most, bound), omega (arith, ints, most, bound))

within : (s c : ℤ) (n : ℕ) → n ≤ 2 ^ 30 → nat_abs s ≤ n * 2 ^ 63 → nat_abs c ≤ n → (neg_ℤ (pos (2 ^ 127)) ≤ℤ sum_and_count s c) × (sum_and_count s c <ℤ pos (2 ^ 127))
within s c n few x y = (omega (arith, ints, few, x, y), omega (arith, ints, few, x, y))

-- both together have 127 bits and a sign
pub both_fit : (params : Params) (q : Query) (version : ℕ) (es : List Entered) → IsInRange params → All HasSmallWeight es → length es * corner_count params ≤ 2 ^ 31
    → (neg_ℤ (pos (2 ^ 127)) ≤ℤ sum_and_count (sum_of params es version q) (count_of params es version q))
    × (sum_and_count (sum_of params es version q) (count_of params es version q) <ℤ pos (2 ^ 127))
both_fit params q version es range small few =
    within (sum_of params es version q) (count_of params es version q) (length es) (few_entries params (length es) range few) (sum_bound params q version es small) (count_bound params q version es)
