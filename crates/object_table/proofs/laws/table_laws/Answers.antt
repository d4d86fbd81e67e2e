use Rattle.std.proofs.Common.{subst}
use Rattle.object_table.specs.Laws.{Ascend}
use Rattle.object_table.proofs.Ascending.{root_ascend}
use Rattle.object_table.proofs.FirstLives.{lives_are_first}
use Rattle.object_table.proofs.Low.{table_low}
use Rattle.object_table.proofs.Frames.{by_its_pages, root_there}
use Rattle.object_table.proofs.laws.table_laws.Goals as goal

pub returns-clause-by_its_pages : goal.returns-clause-by_its_pages
returns-clause-by_its_pages c = by_its_pages

pub returns-clause-in_map : goal.returns-clause-in_map
returns-clause-in_map c = λ form pages table lives s. root_there form table.levels pages table.root s.nodes

pub returns-clause-ascend : goal.returns-clause-ascend
returns-clause-ascend c = λ form pages table lives s. subst Ascend s.has (root_ascend form table.levels pages table.root s.nodes)

pub returns-clause-low : goal.returns-clause-low
returns-clause-low c = table_low

pub returns-clause-first_lives : goal.returns-clause-first_lives
returns-clause-first_lives c = lives_are_first
