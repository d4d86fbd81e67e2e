use Rattle.std.proofs.Common.{[], false, pos, arith}
use Rattle.page_warehouse.specs.declared.event.Event.{Event}
use Rattle.image_check.proofs.Back.{back_step}
use Rattle.image_check.proofs.lives.rebuilt_lives.Goals as goal

-- an event of zeros
abbrev no_event : Event
no_event = record { event = 0; version = 0; add = false; object = record { id = 0; low = []; high = []; weight = pos 0; coeffs = [] } }

pub loop-left-preserved : goal.loop-left-preserved
loop-left-preserved c = record {
  within = omega (arith, c.loop-left.invariant.within);
  stands = back_step c.args.events.now c.loop-left.left no_event c.loop-left.counts c.go_back.new.counts c.loop-left.ends c.go_back.new.ends c.loop-left.lives.items c.go_back.new.lives.items
      (omega (arith, c.loop-left-test.true)) c.loop-left.invariant.within c.in_ok-go_back.ensures c.loop-left.invariant.stands;
}
