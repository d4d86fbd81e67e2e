use Rattle.std.proofs.Common.{◌∙◌, nat_lt, sym, arith}
use Rattle.std.proofs.lemmas.Bool.{and_right}
use Rattle.mv_pages.specs.Alive.{is_alive}
use Rattle.mv_pages.proofs.Begun.{begins_above, none_beyond}
use Rattle.mv_pages.proofs.Beyond.{beyond_here, beyond_none, beyond_passed}
use Rattle.mv_pages.proofs.view.next_on.Goals as goal

pub loop-index-init : goal.loop-index-init
loop-index-init c = λ key begun. none_beyond key c.args.version c.args.begun c.args.view.now.entries.items begun

pub returns-then-is_alive : goal.returns-then-is_alive
returns-then-is_alive c = λ key begun.
    beyond_here key c.args.version c.args.view.now.entries.items c.loop-index.index c.entry-e.result (omega (arith, c.loop-index-test.true, c.len-index-end.ensures)) c.entry-e.ensures
    (c.loop-index.invariant key begun)
    (begins_above key c.args.begun c.loop-index.index c.args.view.now.entries.items c.entry-e.result begun c.loop-index.auto.index (omega (arith, c.loop-index-test.true, c.len-index-end.ensures)) c.entry-e.ensures)
    (sym c.is_alive.ensures ∙ c.if-is_alive.true)

pub loop-index-preserved : goal.loop-index-preserved
loop-index-preserved c = λ key begun.
    beyond_passed key c.args.version c.args.view.now.entries.items c.loop-index.index c.entry-e.result (omega (arith, c.loop-index-test.true, c.len-index-end.ensures)) c.entry-e.ensures
    (c.loop-index.invariant key begun) (and_right (nat_lt key c.entry-e.result.low) (is_alive c.args.version c.entry-e.result) (sym c.is_alive.ensures ∙ c.if-is_alive.false))

pub returns : goal.returns
returns c = λ key begun.
    beyond_none key c.args.version c.args.view.now.entries.items c.loop-index.index (omega (arith, c.loop-index-test.false, c.len-index-end.ensures)) (c.loop-index.invariant key begun)
