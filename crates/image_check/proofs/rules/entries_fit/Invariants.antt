use Rattle.std.proofs.Common.{take}
use Rattle.std.specs.List.{All}
use Rattle.corner_weights.specs.PlaneSums.{EnteredFits}
use Rattle.history_laws.specs.Entries.{entries_of}
use Rattle.corner_forest.specs.Stands.{HasSmallWeight}
use Rattle.image_check.proofs.rules.entries_fit.Given as goal

abbrev pub invariant-loop-life : goal.invariant-loop-life
invariant-loop-life l = record {
  fits : All (EnteredFits l.params) (entries_of (take l.life-index l.lives));
  small : All HasSmallWeight (entries_of (take l.life-index l.lives));
}
