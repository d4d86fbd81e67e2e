use Rattle.std.proofs.Common.{◌≡◌, take}
use Rattle.object_table.specs.Nodes.{entries_in}
use Rattle.object_table.proofs.view.NodeView.entries.Given as goal

abbrev pub invariant-loop-place : goal.invariant-loop-place
invariant-loop-place l = l.entries.items ≡ take l.place (entries_in l.self)
