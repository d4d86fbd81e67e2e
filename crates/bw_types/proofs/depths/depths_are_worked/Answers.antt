use Rattle.bw_types.specs.DepthLaws.{depths_worked, queries_worked, growth_worked}
use Rattle.bw_types.proofs.depths.depths_are_worked.Goals as goal

pub returns-clause-depths : goal.returns-clause-depths
returns-clause-depths c = depths_worked

pub returns-clause-queries : goal.returns-clause-queries
returns-clause-queries c = queries_worked

pub returns-clause-growth : goal.returns-clause-growth
returns-clause-growth c = growth_worked
