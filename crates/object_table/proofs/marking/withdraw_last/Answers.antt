use Rattle.object_table.proofs.Withdrawals.{withdraw_marked, withdraw_refused, none_refused, false_is}
use Rattle.object_table.proofs.marking.withdraw_last.Goals as goal

pub returns-then-begun-eq0-clause-refused : goal.returns-then-begun-eq0-clause-refused
returns-then-begun-eq0-clause-refused c = λ same can.
    none_refused c.args.objects.now.items c.as_slice.result.now c.args.id c.args.version c.begun_objects-begun.result c.key_of.result c.as_slice.ensures.value c.key_of.ensures c.requires.typed c.if-begun-eq0.true c.begun_objects-begun.ensures.later can

pub returns-then-not-can_withdraw-clause-refused : goal.returns-then-not-can_withdraw-clause-refused
returns-then-not-can_withdraw-clause-refused c = λ same can.
    withdraw_refused c.args.objects.now.items c.as_slice.result.now c.as_slice-2.result.now c.args.id c.args.version c.begun_objects-begun.result c.key_of.result _ c.can_withdraw.result c.as_slice.ensures.value c.as_slice-2.ensures.value c.key_of.ensures
    c.requires.order c.requires.typed c.if-begun-eq0.false c.begun_objects-begun.ensures.bound c.begun_objects-begun.ensures.begun c.begun_objects-begun.ensures.later c.can_withdraw.ensures (false_is c.can_withdraw.result c.if-not-can_withdraw.true) can

pub returns-clause-marked : goal.returns-clause-marked
returns-clause-marked c = λ same.
    withdraw_marked c.args.objects.now.items c.as_slice.result.now c.as_slice-2.result.now c.as_slice-3.result.now c.as_mut_slice.result.now c.args.id c.args.version c.args.event c.begun_objects-begun.result c.key_of.result _ _ c.withdrawn-life.result c.can_withdraw.result
    c.as_slice.ensures.value c.as_slice-2.ensures.value c.as_slice-3.ensures.value c.as_mut_slice.ensures.value c.key_of.ensures
    c.requires.order c.requires.typed c.if-begun-eq0.false c.begun_objects-begun.ensures.bound c.begun_objects-begun.ensures.begun c.begun_objects-begun.ensures.later c.can_withdraw.ensures c.if-not-can_withdraw.false c.withdrawn-life.ensures
