use Rattle.std.proofs.Common.{◌≡◌, take, IsTrue, IfSome}
use Rattle.page_layout.specs.Dated.{by_life_fits}
use Rattle.object_table.specs.Lives.{last_life}
use Rattle.object_table.specs.Nodes.{objects_in}
use Rattle.object_table.proofs.finding.last_of.Given as goal

abbrev pub invariant-loop-index : goal.invariant-loop-index
invariant-loop-index l = (l.last ≡ last_life l.id (take l.index (objects_in l.node))) × IfSome l.last (λ d. IsTrue (by_life_fits d))
