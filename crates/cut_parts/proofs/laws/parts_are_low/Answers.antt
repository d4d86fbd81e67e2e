use Rattle.cut_parts.proofs.Depths.{gets_are_few, parts_are_counted, paths_are_short}
use Rattle.cut_parts.proofs.laws.parts_are_low.Goals as goal

pub returns-clause-counted : goal.returns-clause-counted
returns-clause-counted c = parts_are_counted

pub returns-clause-paths : goal.returns-clause-paths
returns-clause-paths c = paths_are_short

pub returns-clause-gets : goal.returns-clause-gets
returns-clause-gets c = gets_are_few
