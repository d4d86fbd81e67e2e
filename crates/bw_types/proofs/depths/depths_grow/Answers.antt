use Rattle.bw_types.specs.DepthLaws.{depths_grow, queries_are_costs, building_grows, adding_grows}
use Rattle.bw_types.proofs.depths.depths_grow.Goals as goal

pub returns-clause-depths : goal.returns-clause-depths
returns-clause-depths c = depths_grow

pub returns-clause-queries : goal.returns-clause-queries
returns-clause-queries c = queries_are_costs

pub returns-clause-building : goal.returns-clause-building
returns-clause-building c = building_grows

pub returns-clause-adding : goal.returns-clause-adding
returns-clause-adding c = adding_grows
