use Rattle.std.proofs.Common.{◌≡◌, ◌-◌, ◌+◌, ◌≤◌, length, ap, arith}
use Rattle.std.proofs.lemmas.Bool.{ltb-true, lt-ltb}
use Rattle.object_table.specs.Keys.{low_key}
use Rattle.object_table.specs.Nodes.{entries_in}
use Rattle.object_table.proofs.Views.{begins_within, ends_within}
use Rattle.object_table.proofs.placed.begin_within.Goals as goal

pub returns-then-place-first : goal.returns-then-place-first
returns-then-place-first c =
    let es = entries_in c.args.node.now in
    let low : c.args.place.low ≤ low_key c.entry.result = omega (arith, c.if-place-first.true, c.low_key-first.ensures) in
    let end : c.entry_count-count.result - 1 + 1 ≡ length es = omega (arith, c.entry_count-count.ensures, c.if-count-eq0.false) in (
      λ t. (
        begins_within es c.args.place.low c.entry.result c.is_in_order.ensures.order c.entry.ensures low,
        ends_within es c.args.place.high (c.entry_count-count.result - 1) c.entry-2.result c.is_in_order.ensures.order end c.entry-2.ensures (omega (arith, ltb-true _ _ t, c.low_key-last.ensures)),
      ),
      λ p. lt-ltb _ _ (omega (arith, p.1 (c.entry_count-count.result - 1) c.entry-2.result (omega (arith, end)), ap low_key (c.entry-2.ensures c.entry-2.result), c.low_key-last.ensures)),
    )
