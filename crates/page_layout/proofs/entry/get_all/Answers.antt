use Rattle.std.proofs.Common.{arith}
use Rattle.page_layout.proofs.Rows.{next_so_far, next_typed, next_room, no_more}
use Rattle.page_layout.proofs.entry.get_all.Goals as goal

pub loop-preserved : goal.loop-preserved
loop-preserved g c = record {
  len = omega (arith, c.push.ensures.len, c.loop.invariant.len);
  typed = next_typed g.T.Entry.is_typed _ _ _ c.push.ensures.items c.loop.invariant.typed c.get.ensures.typed;
  room = next_room _ _ _ _ _ _ c.loop-test.true c.SIZE.ensures c.skip-rest.ensures.len c.loop.invariant.room;
  so_far = next_so_far _ _ _ _ _ _ _ _ _ _ _ c.loop-test.true c.SIZE.ensures c.push.ensures.items c.get.ensures.value c.skip-rest.ensures.value c.loop.invariant.so_far;
}

pub returns-clause-items : goal.returns-clause-items
returns-clause-items g c = no_more _ _ _ c.args.count c.loop.counter _ _ c.loop-test.false c.loop.invariant.so_far
