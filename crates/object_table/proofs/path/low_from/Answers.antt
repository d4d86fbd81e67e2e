use Rattle.std.proofs.Common.{◌<◌, length, sym, ap, ◌∙◌, arith}
use Rattle.object_table.specs.Keys.{low_key}
use Rattle.object_table.specs.Nodes.{entries_in}
use Rattle.object_table.proofs.Order.{first_low-at, first_low-past}
use Rattle.object_table.proofs.path.low_from.Goals as goal

pub returns-then-index-entry_count : goal.returns-then-index-entry_count
returns-then-index-entry_count c =
    sym (first_low-past (entries_in c.args.node.now) c.args.index c.args.high (omega (arith, c.if-index-entry_count.true, c.entry_count.ensures)))

pub returns : goal.returns
returns c =
    let within : c.args.index < length (entries_in c.args.node.now) = omega (arith, c.if-index-entry_count.false, c.entry_count.ensures) in
    c.low_key.ensures ∙ ap low_key (c.entry.ensures c.entry.result) ∙ sym (first_low-at (entries_in c.args.node.now) c.args.index c.args.high c.entry.result within)
