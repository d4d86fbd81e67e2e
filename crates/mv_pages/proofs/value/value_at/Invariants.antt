use Rattle.std.proofs.Common.{◌≡◌, ◌%◌, ◌^◌, take}
use Rattle.mv_pages.specs.Alive.{value_of}
use Rattle.mv_pages.proofs.value.value_at.Given as goal

abbrev pub invariant-loop-e : goal.invariant-loop-e
invariant-loop-e l = l.total ≡ value_of (take l.e-index l.e-items) l.key l.version % 2 ^ 128
