use Rattle.std.proofs.Common.{◌≡◌, ℕ, suc, ◌+◌, ◌-◌, subst, arith, Ok}
use Rattle.compact_store.specs.Cuts.{batches_by_size}
use Rattle.compact_store.specs.Putting.{Puts}
use Rattle.compact_store.proofs.Cutting.{by_size_step}
use Rattle.compact_store.proofs.Steps.{ends_there, goes_on, puts_none}
use Rattle.compact_store.proofs.putting.put_by_size.Goals as goal

pub loop-init : goal.loop-init
loop-init g c = λ r puts.
    subst (λ (n : ℕ). Puts g.E.Disk g.X.DomIndex (batches_by_size n c.args.events.now) c.args.house r) (let e : c.args.count - 0 ≡ c.args.count = omega arith in e) puts

pub loop-preserved : goal.loop-preserved
loop-preserved g c =
    let parts = c.split_at in
    let more : c.args.count - c.loop.counter ≡ suc (c.args.count - (c.loop.counter + 1)) = omega (arith, c.loop-test.true) in
    goes_on g.E.Disk g.X.DomIndex _ _ _ _ _ _ _ c.put_batch.result c.loop.invariant
    (by_size_step (c.args.count - c.loop.counter) (c.args.count - (c.loop.counter + 1)) c.min.result parts.result.0.now parts.result.1.now c.loop.later.now more c.min.ensures parts.ensures.front parts.ensures.back)
    c.put_batch.ensures c.in-Ok.is

pub returns-in-Err : goal.returns-in-Err
returns-in-Err g c =
    let parts = c.split_at in
    let more : c.args.count - c.loop.counter ≡ suc (c.args.count - (c.loop.counter + 1)) = omega (arith, c.loop-test.true) in
    ends_there g.E.Disk g.X.DomIndex _ _ _ _ _ _ _ c.put_batch.result c.loop.invariant
    (by_size_step (c.args.count - c.loop.counter) (c.args.count - (c.loop.counter + 1)) c.min.result parts.result.0.now parts.result.1.now c.loop.later.now more c.min.ensures parts.ensures.front parts.ensures.back)
    c.put_batch.ensures c.in-Err.is

pub returns : goal.returns
returns g c =
    let none : 0 ≡ c.args.count - c.loop.counter = omega (arith, c.loop-test.false) in
    c.loop.invariant (Ok c.loop.house)
    (subst (λ (n : ℕ). Puts g.E.Disk g.X.DomIndex (batches_by_size n c.loop.later.now) c.loop.house (Ok c.loop.house)) none (puts_none g.E.Disk g.X.DomIndex c.loop.house))
