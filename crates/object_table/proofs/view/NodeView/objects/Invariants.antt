use Rattle.std.proofs.Common.{◌≡◌, take}
use Rattle.object_table.specs.Nodes.{objects_in}
use Rattle.object_table.proofs.view.NodeView.objects.Given as goal

abbrev pub invariant-loop-place : goal.invariant-loop-place
invariant-loop-place l = l.objects.items ≡ take l.place (objects_in l.self)
