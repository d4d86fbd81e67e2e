use Rattle.std.proofs.Common.{◌≡◌, take}
use Rattle.mv_pages.specs.Alive.{path_child}
use Rattle.mv_pages.proofs.value.path_child.Given as goal

abbrev pub invariant-loop-e : goal.invariant-loop-e
invariant-loop-e l = l.child ≡ path_child (take l.e-index l.entries) l.key l.version
