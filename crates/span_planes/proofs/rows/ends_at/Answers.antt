use Rattle.std.proofs.Common.{◌≡◌, ◌+◌, ◌*◌, ℕ, Some, None, ◌∙◌, rules, arith}
use Rattle.csv_rows.specs.Fields.{field_at}
use Rattle.csv_rows.specs.Input.{stored_of}
use Rattle.csv_rows.proofs.GivenValues.{holds-all, holds-more, holds-none, none-given}
use Rattle.span_planes.proofs.rows.ends_at.Goals as goal

pub loop-i-init : goal.loop-i-init
loop-i-init c = holds-none (λ i. stored_of c.args.params.now (field_at c.args.fields.now (c.args.place + 2 * i))) 3 0

pub loop-i-preserved : goal.loop-i-preserved
loop-i-preserved c =
    let end = λ (i : ℕ). stored_of c.args.params.now (field_at c.args.fields.now (c.args.place + 2 * i)) in
    let here : end c.loop-i.i ≡ Some c.in_ok-ends.field-0 = search rules in
    holds-more c.loop-i.i end 3 0 c.in_ok-ends.field-0 c.loop-i.ends (omega arith) c.loop-i.invariant here

pub returns-in_err-ends : goal.returns-in_err-ends
returns-in_err-ends c =
    let end = λ (i : ℕ). stored_of c.args.params.now (field_at c.args.fields.now (c.args.place + 2 * i)) in
    let here : end c.loop-i.i ≡ None = search rules in
    c.from_residual.ensures ∙ none-given c.args.params.now.dims c.loop-i.i end 3 0 (omega arith) here

pub returns : goal.returns
returns c =
    let end = λ (i : ℕ). stored_of c.args.params.now (field_at c.args.fields.now (c.args.place + 2 * i)) in
    let all : c.loop-i.i ≡ c.args.params.now.dims = omega arith in
    holds-all c.args.params.now.dims end 3 0 c.loop-i.ends (rw all at c.loop-i.invariant)
