use Rattle.std.proofs.Common.{◌≡◌, ◌%◌, ◌^◌, take}
use Rattle.std.specs.List.{sum_by}
use Rattle.page_layout.proofs.summed.total_of.Given as goal

abbrev pub invariant-loop-e : goal.invariant-loop-e
invariant-loop-e g l = l.total ≡ sum_by g.T.Summed.value_of (take l.e-index l.entries) % 2 ^ 128
