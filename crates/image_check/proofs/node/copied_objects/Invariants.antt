use Rattle.std.proofs.Common.{◌≡◌, take}
use Rattle.image_check.proofs.node.copied_objects.Given as goal

abbrev pub invariant-loop-object : goal.invariant-loop-object
invariant-loop-object l = l.copied.items ≡ take l.object-index l.objects
