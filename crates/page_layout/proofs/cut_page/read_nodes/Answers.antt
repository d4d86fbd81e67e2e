use Rattle.std.proofs.Common.{refl, arith}
use Rattle.page_layout.specs.CutPage.{IsNodeTyped}
use Rattle.page_layout.proofs.Rows.{next_typed, next_room}
use Rattle.page_layout.proofs.Parting.{next_nodes, no_more_nodes}
use Rattle.page_layout.proofs.cut_page.read_nodes.Goals as goal

pub loop-preserved : goal.loop-preserved
loop-preserved c = record {
  len = omega (arith, c.push.ensures.len, c.loop.invariant.len);
  typed = next_typed IsNodeTyped _ _ _ c.push.ensures.items c.loop.invariant.typed c.node_at.ensures.typed;
  room = next_room 16 16 _ _ _ _ c.loop-test.true refl c.skip-firsts.ensures.len c.loop.invariant.room;
  so_far = next_nodes _ _ _ _ _ _ _ _ _ _ c.loop-test.true c.push.ensures.items c.node_at.ensures.value c.past_border-rest.ensures c.skip-firsts.ensures.value c.loop.invariant.so_far;
}

pub returns-clause-items : goal.returns-clause-items
returns-clause-items c = no_more_nodes _ c.args.count c.loop.counter _ _ _ c.loop-test.false c.loop.invariant.so_far
