use Rattle.std.proofs.Common.{◌≡◌, Err, to_z, of_z, rules, ap, sym, ◌∙◌, arith}
use Rattle.std.proofs.lemmas.Result.{err_from_is_err_and}
use Rattle.std.specs.Int.{w128}
use Rattle.bw_types.specs.Residues.{residue}
use Rattle.ports.specs.declared.page.PageFault.TheVariants.{Damaged}
use Rattle.span_planes.proofs.OpenSpans.{few_events}
use Rattle.span_planes.proofs.SameSpans.{still_holds}
use Rattle.span_planes.proofs.SpanReads.{exit_error}
use Rattle.span_planes.proofs.SpanValues.{span_from_zero, span_left, span_read}
use Rattle.span_planes.proofs.spans.Spans.between.Goals as goal

pub returns-in_err-whole-clause-sound : goal.returns-in_err-whole-clause-sound
returns-in_err-whole-clause-sound g c = λ params h page holds e.
    let p = err_from_is_err_and c.from_residual.result c.from_residual.ensures.1 in
    let same = exit_error c.from_residual.result c.in_err-whole.field-0.0 (Damaged page) p e in
    c.in_err-whole.ensures.sound params h page holds (ap Err same)

pub returns-in_err-before-clause-sound : goal.returns-in_err-before-clause-sound
returns-in_err-before-clause-sound g c = λ params h page holds e.
    let p = err_from_is_err_and c.from_residual-in_err-before.result c.from_residual-in_err-before.ensures.1 in
    let same = exit_error c.from_residual-in_err-before.result c.in_err-before.field-0.0 (Damaged page) p e in
    c.in_err-before.ensures.sound params h page (still_holds c.args.self.now c.up_to.new.self c.up_to.ensures.reads.read.base params h holds) (ap Err same)

pub returns-then-first-eq0-clause-answers : goal.returns-then-first-eq0-clause-answers
returns-then-first-eq0-clause-answers g c = λ params h holds.
    let back : to_z w128 (of_z w128 c.res_signed.result) ≡ c.res_signed.result = search rules in
    let few = few_events c.holds_one.ensures.one c.args.self.now c.is_held.ensures.held params h holds c.lawful_histories_have_room.ensures c.is_held.ensures.roots.in_range in
    let late = c.ranges.last.fits in
    let is = span_from_zero params h c.args.first c.args.last c.args.query.now c.requires.span c.spans_are_differences.ensures.difference c.if-first-eq0.true in
    back
    ∙ span_read params h c.args.first c.args.last c.args.query.now c.requires.span c.spans_are_differences.ensures.bounded holds.1.weights (omega (arith, late)) few c.in_ok-whole.whole c.res_signed.result
    (c.in_ok-whole.ensures.value params h holds ∙ ap residue (sym is)) c.res_signed.ensures

pub returns-clause-answers : goal.returns-clause-answers
returns-clause-answers g c = λ params h holds.
    let back : to_z w128 (of_z w128 c.res_signed-2.result) ≡ c.res_signed-2.result = search rules in
    let few = few_events c.holds_one.ensures.one c.args.self.now c.is_held.ensures.held params h holds c.lawful_histories_have_room.ensures c.is_held.ensures.roots.in_range in
    let late = c.ranges.last.fits in
    let then = still_holds c.args.self.now c.up_to.new.self c.up_to.ensures.reads.read.base params h holds in
    back
    ∙ span_read params h c.args.first c.args.last c.args.query.now c.requires.span c.spans_are_differences.ensures.bounded holds.1.weights (omega (arith, late)) few c.res_add.result c.res_signed-2.result
    (span_left params h c.args.first c.args.last c.args.query.now c.requires.span c.spans_are_differences.ensures.difference c.if-first-eq0.false
    c.in_ok-whole.whole c.in_ok-before.before c.res_neg.result c.res_add.result (c.in_ok-whole.ensures.value params h holds) (c.in_ok-before.ensures.value params h then) c.res_neg.ensures c.res_add.ensures)
    c.res_signed-2.ensures
