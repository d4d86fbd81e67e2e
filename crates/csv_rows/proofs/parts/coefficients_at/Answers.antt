use Rattle.std.proofs.Common.{◌≡◌, ◌+◌, ◌<◌, ℕ, pos, Some, None, ◌∙◌, rules, arith, SFits, w64, to_z-of_z}
use Rattle.bw_types.specs.Fits.{coefficient_count}
use Rattle.csv_rows.specs.Fields.{field_at}
use Rattle.csv_rows.specs.Input.{weight_of}
use Rattle.csv_rows.proofs.GivenValues.{holds-all, holds-more, holds-none, none-given}
use Rattle.csv_rows.proofs.parts.coefficients_at.Goals as goal

pub loop-k-init : goal.loop-k-init
loop-k-init c = holds-none (λ k. weight_of (field_at c.args.fields.now (c.args.place + k))) 27 (pos 0)

pub loop-k-preserved : goal.loop-k-preserved
loop-k-preserved c =
    let one = λ (k : ℕ). weight_of (field_at c.args.fields.now (c.args.place + k)) in
    let here : one c.loop-k.k ≡ Some c.in_ok-coefficients.field-0 = search rules in
    let fits : SFits w64 c.in_ok-coefficients.field-0 = search rules in
    rw (to_z-of_z fits) (holds-more c.loop-k.k one 27 (pos 0) c.in_ok-coefficients.field-0 c.loop-k.coefficients (omega arith) c.loop-k.invariant here)

pub returns-in_err-coefficients : goal.returns-in_err-coefficients
returns-in_err-coefficients c =
    let one = λ (k : ℕ). weight_of (field_at c.args.fields.now (c.args.place + k)) in
    let here : one c.loop-k.k ≡ None = search rules in
    let within : c.loop-k.k < coefficient_count c.args.params.now = omega arith in
    c.from_residual.ensures ∙ none-given (coefficient_count c.args.params.now) c.loop-k.k one 27 (pos 0) within here

pub returns : goal.returns
returns c =
    let one = λ (k : ℕ). weight_of (field_at c.args.fields.now (c.args.place + k)) in
    let all : c.loop-k.k ≡ coefficient_count c.args.params.now = omega arith in
    holds-all (coefficient_count c.args.params.now) one 27 (pos 0) c.loop-k.coefficients (rw all at c.loop-k.invariant)
