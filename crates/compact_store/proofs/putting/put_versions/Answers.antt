use Rattle.std.proofs.Common.{◌≡◌, ℕ, suc, ◌+◌, ◌-◌, subst, arith, Ok}
use Rattle.page_warehouse.specs.Batches.{batches_from}
use Rattle.compact_store.specs.Putting.{Puts}
use Rattle.page_warehouse.proofs.CutByVersion.{next_batch}
use Rattle.compact_store.proofs.Steps.{ends_there, goes_on, puts_none}
use Rattle.compact_store.proofs.putting.put_versions.Goals as goal

pub loop-before-preserved : goal.loop-before-preserved
loop-before-preserved g c =
    let parts = c.split_at in
    let i = c.loop-before.before in
    let more : c.args.last - i ≡ suc (c.args.last - (i + 1)) = omega (arith, c.loop-before-test.true) in
    goes_on g.E.Disk g.X.DomIndex _ _ _ _ _ _ _ c.put_batch.result c.loop-before.invariant
    (next_batch (i + 1) (c.args.last - i) (c.args.last - (i + 1)) c.count_of.result parts.result.0.now parts.result.1.now c.loop-before.later.now more c.count_of.ensures.count parts.ensures.front parts.ensures.back)
    c.put_batch.ensures c.in-Ok.is

pub returns-in-Err : goal.returns-in-Err
returns-in-Err g c =
    let parts = c.split_at in
    let i = c.loop-before.before in
    let more : c.args.last - i ≡ suc (c.args.last - (i + 1)) = omega (arith, c.loop-before-test.true) in
    ends_there g.E.Disk g.X.DomIndex _ _ _ _ _ _ _ c.put_batch.result c.loop-before.invariant
    (next_batch (i + 1) (c.args.last - i) (c.args.last - (i + 1)) c.count_of.result parts.result.0.now parts.result.1.now c.loop-before.later.now more c.count_of.ensures.count parts.ensures.front parts.ensures.back)
    c.put_batch.ensures c.in-Err.is

pub returns : goal.returns
returns g c =
    let none : 0 ≡ c.args.last - c.loop-before.before = omega (arith, c.loop-before-test.false) in
    c.loop-before.invariant (Ok c.loop-before.house)
    (subst (λ (n : ℕ). Puts g.E.Disk g.X.DomIndex (batches_from (c.loop-before.before + 1) n c.loop-before.later.now) c.loop-before.house (Ok c.loop-before.house)) none
    (puts_none g.E.Disk g.X.DomIndex c.loop-before.house))
