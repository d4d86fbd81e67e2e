use Rattle.std.proofs.Common.{arith}
use Rattle.corner_forest.specs.Entries.{root_count}
use Rattle.corner_forest.proofs.ForestLaws.{empty_forest_stands, forest_by_its_pages, entry_stands_anywhere, forest_pages_there, trees_count}
use Rattle.corner_forest.proofs.Lists.{few_first_pages, no_first_pages}
use Rattle.corner_forest.proofs.laws.forest_laws.Goals as goal

pub returns-clause-empty : goal.returns-clause-empty
returns-clause-empty g c = empty_forest_stands g.X.DomIndex c.index_laws.ensures.empty

pub returns-clause-anywhere : goal.returns-clause-anywhere
returns-clause-anywhere g c = entry_stands_anywhere g.X.DomIndex c.index_laws.ensures.any_order

pub returns-clause-by_its_pages : goal.returns-clause-by_its_pages
returns-clause-by_its_pages g c = forest_by_its_pages g.X.DomIndex c.index_laws.ensures.by_its_pages c.index_laws.ensures.balance c.index_laws.ensures.in_map c.index_laws.ensures.once

pub returns-clause-in_map : goal.returns-clause-in_map
returns-clause-in_map g c = forest_pages_there g.X.DomIndex c.index_laws.ensures.by_its_pages c.index_laws.ensures.balance c.index_laws.ensures.in_map c.index_laws.ensures.once

pub returns-clause-first_pages : goal.returns-clause-first_pages
returns-clause-first_pages g c = λ params roots. (few_first_pages roots (root_count params), λ count all. no_first_pages roots (root_count params) (omega (arith, count)) all)

pub returns-clause-counted : goal.returns-clause-counted
returns-clause-counted g c = trees_count g.X.DomIndex c.index_laws.ensures.counted
