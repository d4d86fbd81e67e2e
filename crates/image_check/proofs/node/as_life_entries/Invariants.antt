use Rattle.std.proofs.Common.{◌≡◌, take, map}
use Rattle.object_table.specs.Nodes.{life_entry}
use Rattle.image_check.proofs.node.as_life_entries.Given as goal

abbrev pub invariant-loop-entry : goal.invariant-loop-entry
invariant-loop-entry l = l.copied.items ≡ map life_entry (take l.entry-index l.entries)
