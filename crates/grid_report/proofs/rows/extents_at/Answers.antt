use Rattle.std.proofs.Common.{◌≡◌, ◌+◌, ◌*◌, ℕ, Some, None, ◌∙◌, rules, arith}
use Rattle.csv_rows.specs.Fields.{field_at}
use Rattle.grid_report.specs.GridRows.{extent_of}
use Rattle.csv_rows.proofs.GivenValues.{holds-all, holds-more, holds-none, none-given}
use Rattle.grid_report.proofs.rows.extents_at.Goals as goal

pub loop-i-init : goal.loop-i-init
loop-i-init c = holds-none (λ i. extent_of (field_at c.args.fields.now (c.args.place + 3 * i))) 3 0

pub loop-i-preserved : goal.loop-i-preserved
loop-i-preserved c =
    let extent = λ (i : ℕ). extent_of (field_at c.args.fields.now (c.args.place + 3 * i)) in
    let here : extent c.loop-i.i ≡ Some c.in_ok-extents.field-0 = search rules in
    holds-more c.loop-i.i extent 3 0 c.in_ok-extents.field-0 c.loop-i.extents (omega arith) c.loop-i.invariant here

pub returns-in_err-extents : goal.returns-in_err-extents
returns-in_err-extents c =
    let extent = λ (i : ℕ). extent_of (field_at c.args.fields.now (c.args.place + 3 * i)) in
    let here : extent c.loop-i.i ≡ None = search rules in
    c.from_residual.ensures ∙ none-given c.args.params.now.dims c.loop-i.i extent 3 0 (omega arith) here

pub returns : goal.returns
returns c =
    let extent = λ (i : ℕ). extent_of (field_at c.args.fields.now (c.args.place + 3 * i)) in
    let all : c.loop-i.i ≡ c.args.params.now.dims = omega arith in
    holds-all c.args.params.now.dims extent 3 0 c.loop-i.extents (rw all at c.loop-i.invariant)
