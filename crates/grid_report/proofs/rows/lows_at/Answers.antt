use Rattle.std.proofs.Common.{◌≡◌, ◌+◌, ◌*◌, ℕ, Some, None, ◌∙◌, rules, arith}
use Rattle.csv_rows.specs.Fields.{field_at}
use Rattle.csv_rows.specs.Input.{stored_of}
use Rattle.csv_rows.proofs.GivenValues.{holds-all, holds-more, holds-none, none-given}
use Rattle.grid_report.proofs.rows.lows_at.Goals as goal

pub loop-i-init : goal.loop-i-init
loop-i-init c = holds-none (λ i. stored_of c.args.params.now (field_at c.args.fields.now (c.args.place + 3 * i))) 3 0

pub loop-i-preserved : goal.loop-i-preserved
loop-i-preserved c =
    let low = λ (i : ℕ). stored_of c.args.params.now (field_at c.args.fields.now (c.args.place + 3 * i)) in
    let here : low c.loop-i.i ≡ Some c.in_ok-lows.field-0 = search rules in
    holds-more c.loop-i.i low 3 0 c.in_ok-lows.field-0 c.loop-i.lows (omega arith) c.loop-i.invariant here

pub returns-in_err-lows : goal.returns-in_err-lows
returns-in_err-lows c =
    let low = λ (i : ℕ). stored_of c.args.params.now (field_at c.args.fields.now (c.args.place + 3 * i)) in
    let here : low c.loop-i.i ≡ None = search rules in
    c.from_residual.ensures ∙ none-given c.args.params.now.dims c.loop-i.i low 3 0 (omega arith) here

pub returns : goal.returns
returns c =
    let low = λ (i : ℕ). stored_of c.args.params.now (field_at c.args.fields.now (c.args.place + 3 * i)) in
    let all : c.loop-i.i ≡ c.args.params.now.dims = omega arith in
    holds-all c.args.params.now.dims low 3 0 c.loop-i.lows (rw all at c.loop-i.invariant)
