-- The total of the answers to a sample has less than 128 bits.
use Rattle.std.proofs.Common.{ℕ, suc, ◌+◌, ◌*◌, ◌^◌, ◌<◌, ◌≤◌, List, [], ◌∷◌, length, ℤ, nat_abs, arith, FitsSigned, suc-mul}
use Rattle.std.specs.Int.{w128}
use Rattle.std.proofs.lemmas.Int.{ints, int_wrap_fits}
use Rattle.bw_types.specs.declared.params.Params.{Params}
use Rattle.csv_rows.specs.Input.{input}
use Rattle.csv_rows.specs.Machine.{State, begun, replies, step, text}
use Rattle.line_reader.specs.Lines.{lines}
use Rattle.sample_rows.specs.Generator.{rows}
use Rattle.sample_rows.specs.Summary.{TotalsAreSmall, answers_in, sample_params}
use Rattle.sample_rows.proofs.LineFeeds.{line_count}
use Rattle.sample_rows.proofs.Printed.{reply_more}
use Rattle.sample_rows.proofs.States.{IsSmall, greatest_sum, reply_within, small_after, small_begun}
use Rattle.sample_rows.proofs.Weights.{line_small}

-- one line more adds one answer at most
one_more : (a b most n : ℕ) → a ≤ most + b → b ≤ n * most → a ≤ suc n * most
one_more a b most n h e = let times = suc-mul n most in omega (arith, h, e, times)

total_within : (params : Params) (n : ℕ) (s : State) (ls : List (List ℕ)) → params.events ≤ 2 ^ 28 → IsSmall params s → nat_abs (answers_in (replies params n s ls)) ≤ length ls * greatest_sum params
total_within params n s [] few small = omega arith
total_within params n s (line ∷ ls) few small =
    let after : IsSmall params (step params n s line).state = small_after params n s (input params line) small (line_small params line) in
    let low : greatest_sum params < 10 ^ 64 = omega (arith, few) in
    let rest = replies params (n + 1) (step params n s line).state ls in
    one_more (nat_abs (answers_in (replies params n s (line ∷ ls)))) (nat_abs (answers_in rest)) (greatest_sum params) (length ls)
    (reply_more (greatest_sum params) (step params n s line).reply rest low (reply_within params n s (input params line) small))
    (total_within params (n + 1) (step params n s line).state ls few after)

fits_from_lines : (z : ℤ) (lines count : ℕ) → lines ≤ 3 * count + 101 + 1 → count < 2 ^ 32 → nat_abs z ≤ lines * 9223372036854775808000000 → nat_abs z < 2 ^ 127
fits_from_lines z lines count few small within = omega (arith, few, small, within)

fits_from_size : (z : ℤ) → nat_abs z < 2 ^ 127 → FitsSigned w128 z
fits_from_size z h = omega (arith, ints)

pub totals_are_small : TotalsAreSmall
totals_are_small start count small =
    let total = answers_in (text sample_params [] (rows start count)) in
    let within = total_within sample_params 1 (begun []) (lines (rows start count)) (omega arith) (small_begun sample_params) in
    int_wrap_fits w128 total (fits_from_size total (fits_from_lines total (length (lines (rows start count))) count (line_count start count) small within))
