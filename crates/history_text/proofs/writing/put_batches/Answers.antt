-- One batch after the other.
use Rattle.std.proofs.Common.{◌≡◌, ℕ, suc, ◌+◌, ◌-◌, ap, arith}
use Rattle.page_warehouse.specs.Batches.{batches_from}
use Rattle.history_text.specs.Rows.{rows_of}
use Rattle.history_text.proofs.BatchCuts.{rows_step}
use Rattle.history_text.proofs.Gathered.{amid_start, amid_step, amid_stopped, failed_gives}
use Rattle.history_text.proofs.writing.put_batches.Goals as goal

pub loop-before-init : goal.loop-before-init
loop-before-init g c =
    let none : c.args.last ≡ c.args.last - 0 = omega arith in
    amid_start (ap (λ (n : ℕ). rows_of c.args.params.now (batches_from 1 n c.args.events.now)) none)

pub returns-in_err-put_batch : goal.returns-in_err-put_batch
returns-in_err-put_batch g c =
    let i = c.loop-before.before in
    let parts = c.split_at in
    let more : c.args.last - i ≡ suc (c.args.last - (i + 1)) = omega (arith, c.loop-before-test.true) in
    failed_gives c.from_residual.result c.from_residual.ensures.0
    (amid_stopped (rows_of c.args.params.now (batches_from (i + 1 + 1) (c.args.last - (i + 1)) parts.result.1.now)) c.loop-before.invariant c.in_err-put_batch.ensures
    (rows_step c.args.params.now (i + 1) (c.args.last - i) (c.args.last - (i + 1)) c.count_of-count.result parts.result.0.now parts.result.1.now c.loop-before.later.now
    more c.count_of-count.ensures.count parts.ensures.front parts.ensures.back))

pub loop-before-preserved : goal.loop-before-preserved
loop-before-preserved g c =
    let i = c.loop-before.before in
    let parts = c.split_at in
    let more : c.args.last - i ≡ suc (c.args.last - (i + 1)) = omega (arith, c.loop-before-test.true) in
    amid_step (rows_of c.args.params.now (batches_from (i + 1 + 1) (c.args.last - (i + 1)) parts.result.1.now)) c.loop-before.invariant c.in_ok-put_batch.ensures
    (rows_step c.args.params.now (i + 1) (c.args.last - i) (c.args.last - (i + 1)) c.count_of-count.result parts.result.0.now parts.result.1.now c.loop-before.later.now
    more c.count_of-count.ensures.count parts.ensures.front parts.ensures.back)
