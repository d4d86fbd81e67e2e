use Rattle.std.proofs.Common.{take}
use Rattle.key_check.specs.Levels.{AreWhole}
use Rattle.key_check.proofs.roots.top_of.Given as goal

abbrev pub invariant-loop-l : goal.invariant-loop-l
invariant-loop-l l = AreWhole l.top (take l.l-index l.rooted)
