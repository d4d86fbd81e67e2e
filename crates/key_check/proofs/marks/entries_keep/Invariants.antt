use Rattle.std.proofs.Common.{List, take}
use Rattle.bw_types.specs.declared.point.Point.{Point}
use Rattle.key_check.specs.Marks.{AreMarksOf, EntriesKept}
use Rattle.key_check.proofs.marks.entries_keep.Given as goal

abbrev pub invariant-loop-e : goal.invariant-loop-e
invariant-loop-e l = (points : List Point) → AreMarksOf points l.marks → EntriesKept points l.level (take l.e-index l.entries)
