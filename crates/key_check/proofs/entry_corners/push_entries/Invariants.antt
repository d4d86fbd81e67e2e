use Rattle.std.proofs.Common.{take}
use Rattle.key_check.specs.Cells.{Adds, entries_total}
use Rattle.key_check.proofs.entry_corners.push_entries.Given as goal

abbrev pub invariant-loop-e : goal.invariant-loop-e
invariant-loop-e l = Adds (entries_total l.piece (take l.e-index l.entries)) l.fn.corners.items l.corners.items
