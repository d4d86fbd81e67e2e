use Rattle.std.proofs.Common.{arith}
use Rattle.std.proofs.lemmas.Option.{slice_get-get_or}
use Rattle.bw_types.specs.History.{changes}
use Rattle.bw_types.specs.declared.row.Row.TheVariants as row
use Rattle.warehouse.proofs.Entered.{follow_step, knows_on, ledger_step}
use Rattle.warehouse.proofs.Named.{events_step}
use Rattle.warehouse.proofs.Rows.{rest_room, row_room}
use Rattle.warehouse.proofs.apply.enter_all.Goals as goal

pub enter-requires-clause-events_room : goal.enter-requires-clause-events_room
enter-requires-clause-events_room c = row_room c.args.rows.now c.loop-row.row-index _ _ _ (omega arith) c.loop-row.invariant.events_room

pub enter-requires-clause-known : goal.enter-requires-clause-known
enter-requires-clause-known c = c.loop-row.invariant.known c.loop-row.row-index _ (slice_get-get_or c.args.rows.now c.loop-row.row-index _ (omega arith))

pub loop-row-preserved : goal.loop-row-preserved
loop-row-preserved c = record {
  room = omega arith;
  events_room = rest_room c.args.rows.now c.loop-row.row-index _ _ _ _ _ (omega arith) c.loop-row.invariant.events_room c.enter.ensures.events_len c.enter.ensures.events_capacity;
  known = λ k r at. knows_on c.loop-row.states c.enter.new.states r c.enter.ensures.known (c.loop-row.invariant.known k r at);
  ledger = λ h before may.
      ledger_step h (changes h) c.args.rows.now c.loop-row.row-index _ c.args.version c.enter.new.lives.items c.enter.new.states (omega arith)
      (c.enter.ensures.ledger h _ (c.loop-row.invariant.ledger h before may)
      (follow_step (changes h) c.args.rows.now c.loop-row.row-index _ (omega arith) (c.loop-row.invariant.follow h may)).0);
  objects = λ place o at. c.enter.ensures.objects place o (c.loop-row.invariant.objects place o at);
  events = λ named.
      let before = c.loop-row.invariant.events named in
      events_step c.loop-row.lives.items c.enter.new.lives.items c.loop-row.events.items c.enter.new.events.items _ c.args.rows.now c.loop-row.row-index _ (omega arith)
      c.enter.ensures.objects before.0 before.1 c.enter.ensures.events c.enter.ensures.named;
  follow = λ h may. (follow_step (changes h) c.args.rows.now c.loop-row.row-index (row.Withdraw 0) (omega arith) (c.loop-row.invariant.follow h may)).1;
}
