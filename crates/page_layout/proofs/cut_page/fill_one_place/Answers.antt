use Rattle.std.proofs.Common.{arith}
use Rattle.page_layout.proofs.Parting.{no_place, fill_entry, fill_cut}
use Rattle.page_layout.proofs.cut_page.fill_one_place.Goals as goal
use Rattle.page_layout.proofs.cut_page.fill_one_place.Goals.{in-Entry, in-Cut}

pub returns-then-places-eq0 : goal.returns-then-places-eq0
returns-then-places-eq0 c = no_place _ _ _ _ c.loop-node-test.true c.if-places-eq0.true c.loop-node.invariant.rest

pub loop-node-preserved : goal.loop-node-preserved
loop-node-preserved c =
    let rest = c.loop-node.invariant.rest in
    elim c.match-node.branch [
      | in-Entry w ↦ record { few = omega (arith, w.places-is, c.loop-node.invariant.few); rest = rw w.places-is (fill_entry _ _ _ _ _ _ c.loop-node-test.true c.if-places-eq0.false w.in-Entry.is rest) }
      | in-Cut w ↦ record { few = omega (arith, w.places-is, c.loop-node.invariant.few); rest = rw w.places-is (fill_cut _ _ _ _ _ _ _ _ _ c.loop-node-test.true c.if-places-eq0.false w.in-Cut.is rest) }
    ]
