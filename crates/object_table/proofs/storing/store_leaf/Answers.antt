use Rattle.std.proofs.Common.{◌≡◌, length, refl, arith, rules}
use Rattle.object_table.proofs.Halving.{at_place, named_leaves, leaf_halves}
use Rattle.object_table.proofs.storing.store_leaf.Goals as goal

pub put_halves-requires-clause-rules : goal.put_halves-requires-clause-rules
put_halves-requires-clause-rules g c =
    leaf_halves c.args.objects.items c.as_slice-objects.result.now c.copied_objects.result.items c.copied_objects-2.result.items c.requires.rules
    (omega (arith, c.len.ensures.value, c.if-len-le14.false)) c.as_slice-objects.ensures.value c.copied_objects.ensures c.copied_objects-2.ensures

pub returns-clause-stored : goal.returns-clause-stored
returns-clause-stored g c = λ tells.
    let long : length c.args.objects.items ≡ 15 = omega (arith, c.len.ensures.value, c.if-len-le14.false, c.requires.rules.few) in (
      long,
      (_, _, at_place 7 c.as_slice-objects.result.now c.args.objects.items _ c.as_slice-objects.ensures.value (omega (arith, long)), refl, refl),
      named_leaves c.copied_objects.result c.copied_objects-2.result c.args.objects.items c.as_slice-objects.result.now _ _ c.args.page _ c.as_slice-objects.ensures.value c.copied_objects.ensures c.copied_objects-2.ensures (c.in_ok-child.ensures.stored tells),
    )

pub returns-clause-second : goal.returns-clause-second
returns-clause-second g c =
    let long : length c.args.objects.items ≡ 15 = omega (arith, c.len.ensures.value, c.if-len-le14.false, c.requires.rules.few) in
    (c.in_ok-child.ensures.number, search rules, (_, _, at_place 7 c.as_slice-objects.result.now c.args.objects.items _ c.as_slice-objects.ensures.value (omega (arith, long)), refl, refl), long)
