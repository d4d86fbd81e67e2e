use Rattle.std.proofs.Common.{◌≡◌, length, refl, arith, rules}
use Rattle.object_table.proofs.Halving.{taken_all, at_place, named_indexes, index_halves}
use Rattle.object_table.proofs.storing.store_index.Goals as goal

pub slice_bounds-copied_entries-end : goal.slice_bounds-copied_entries-end
slice_bounds-copied_entries-end g c = taken_all 100 c.as_slice-entries.result.now c.args.entries.items c.as_slice-entries.ensures.value (omega (arith, c.len.ensures.value, c.if-len-le200.false))

pub copied_entries-requires : goal.copied_entries-requires
copied_entries-requires g c = omega (arith, taken_all 100 c.as_slice-entries.result.now c.args.entries.items c.as_slice-entries.ensures.value (omega (arith, c.len.ensures.value, c.if-len-le200.false)))

pub put_halves-requires-clause-rules : goal.put_halves-requires-clause-rules
put_halves-requires-clause-rules g c =
    index_halves c.args.level c.args.entries.items c.as_slice-entries.result.now c.copied_entries.result.items c.copied_entries-2.result.items c.requires.rules
    (omega (arith, c.len.ensures.value, c.if-len-le200.false)) c.as_slice-entries.ensures.value c.copied_entries.ensures c.copied_entries-2.ensures

pub returns-clause-stored : goal.returns-clause-stored
returns-clause-stored g c = λ tells.
    let long : length c.args.entries.items ≡ 201 = omega (arith, c.len.ensures.value, c.if-len-le200.false, c.requires.rules.few) in (
      long,
      (_, _, at_place 100 c.as_slice-entries.result.now c.args.entries.items _ c.as_slice-entries.ensures.value (omega (arith, long)), refl, refl),
      named_indexes c.args.level c.copied_entries.result c.copied_entries-2.result c.args.entries.items c.as_slice-entries.result.now _ _ c.args.page _ c.as_slice-entries.ensures.value c.copied_entries.ensures c.copied_entries-2.ensures (c.in_ok-child.ensures.stored tells),
    )

pub returns-clause-second : goal.returns-clause-second
returns-clause-second g c =
    let long : length c.args.entries.items ≡ 201 = omega (arith, c.len.ensures.value, c.if-len-le200.false, c.requires.rules.few) in
    (c.in_ok-child.ensures.number, search rules, (_, _, at_place 100 c.as_slice-entries.result.now c.args.entries.items _ c.as_slice-entries.ensures.value (omega (arith, long)), refl, refl), long)
