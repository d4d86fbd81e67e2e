use Rattle.std.proofs.Common.{take}
use Rattle.mv_pages.specs.Edits.{IsPathIndex}
use Rattle.mv_pages.proofs.find.path_index.Given as goal

abbrev pub invariant-loop-i : goal.invariant-loop-i
invariant-loop-i l = IsPathIndex (take l.i l.entries) l.key l.version l.last
