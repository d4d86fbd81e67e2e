use Rattle.std.proofs.Common.{refl, arith}
use Rattle.page_layout.proofs.Rows.{next_room}
use Rattle.page_layout.proofs.Following.{none_stand, first_kept, first_room, left_first, next_follows, left_next, left_none}
use Rattle.page_layout.proofs.Testing.{refused}
use Rattle.page_layout.proofs.entry.stand_in_order.Goals as goal

pub returns-then-count-eq0 : goal.returns-then-count-eq0
returns-then-count-eq0 g c = (λ _. none_stand _ _ _ _ _ _ c.if-count-eq0.true, λ _. refl)

pub returns-then-not-keeps : goal.returns-then-not-keeps
returns-then-not-keeps g c = refused _ c.if-not-keeps.true c.keeps.ensures.1
    (first_kept _ _ _ _ _ _ _ (omega (arith, c.if-count-eq0.false)) c.get-last.ensures.value)

pub loop-init : goal.loop-init
loop-init g c = record {
  room = first_room _ _ _ _ _ (omega (arith, c.if-count-eq0.false)) c.SIZE.ensures c.skip-rest.ensures.len c.requires.room;
  left = left_first _ _ _ _ _ _ _ _ _ (omega (arith, c.if-count-eq0.false)) c.get-last.ensures.value c.SIZE.ensures c.skip-rest.ensures.value (c.keeps.ensures.0 c.if-not-keeps.false);
}

pub returns-then-not-precedes : goal.returns-then-not-precedes
returns-then-not-precedes g c = refused _ c.if-not-precedes.true c.precedes.ensures.1
    (λ s. (next_follows _ _ _ _ _ _ c.loop.last _ c.loop.counter _ c.loop-test.true c.get-next.ensures.value c.loop.invariant.left s).0)

pub returns-then-not-keeps-2 : goal.returns-then-not-keeps-2
returns-then-not-keeps-2 g c = refused _ c.if-not-keeps-2.true c.keeps-in-loop.ensures.1
    (λ s. (next_follows _ _ _ _ _ _ c.loop.last _ c.loop.counter _ c.loop-test.true c.get-next.ensures.value c.loop.invariant.left s).1)

pub loop-preserved : goal.loop-preserved
loop-preserved g c = record {
  room = next_room _ _ _ _ _ _ c.loop-test.true c.SIZE-in-loop.ensures c.skip-rest-in-loop.ensures.len c.loop.invariant.room;
  left = left_next _ _ _ _ _ _ c.loop.last _ c.loop.counter _ _ _ c.loop-test.true c.get-next.ensures.value c.SIZE-in-loop.ensures c.skip-rest-in-loop.ensures.value (c.precedes.ensures.0 c.if-not-precedes.false) (c.keeps-in-loop.ensures.0 c.if-not-keeps-2.false) c.loop.invariant.left;
}

pub returns : goal.returns
returns g c = (λ _. left_none _ _ _ _ _ _ c.loop.last c.loop.counter c.loop.rest.now c.loop-test.false c.loop.invariant.left, λ _. refl)
