use Rattle.sb_tree.proofs.Common.{◌^◌, ◌<◌, length, refl, arith, next_total}
use Rattle.sb_tree.proofs.InPlace.{one_begun, cut_here}
use Rattle.sb_tree.proofs.view.begun_on.Goals as goal

pub returns-then-e-version-clause-cut : goal.returns-then-e-version-clause-cut
returns-then-e-version-clause-cut c = cut_here c.args.view.now.entries.items c.loop-place.place c.args.version c.entry-e.result c.keeps_rules.ensures.entries.order
    (omega (arith, c.loop-place-test.true, c.len-count.ensures)) c.entry-e.ensures c.loop-place.invariant.begun c.if-e-version.true

pub loop-place-preserved : goal.loop-place-preserved
loop-place-preserved c =
    let lt : c.loop-place.place < length c.args.view.now.entries.items = omega (arith, c.loop-place-test.true, c.len-count.ensures) in
    record {
      begun = one_begun c.args.view.now.entries.items c.loop-place.place c.args.version c.entry-e.result lt c.entry-e.ensures c.loop-place.invariant.begun c.if-e-version.false;
      total = next_total (λ e. e.value) c.args.view.now.entries.items c.loop-place.place c.loop-place.total c.entry-e.result.value (2 ^ 128) c.entry-e.result lt c.entry-e.ensures refl c.loop-place.invariant.total;
    }
