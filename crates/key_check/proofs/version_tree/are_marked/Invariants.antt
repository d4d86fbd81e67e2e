use Rattle.std.proofs.Common.{take}
use Rattle.key_check.proofs.Deciding.{AreMarked}
use Rattle.key_check.proofs.version_tree.are_marked.Given as goal

abbrev pub invariant-loop-step : goal.invariant-loop-step
invariant-loop-step l = AreMarked l.points (take l.step-index l.steps)
