use Rattle.std.proofs.Common.{◌≡◌, ◌-◌, ◌^◌, min, length, take}
use Rattle.bw_types.specs.History.{flat}
use Rattle.session_book.proofs.refusals.flat_len.Given as goal

abbrev pub invariant-loop-row : goal.invariant-loop-row
invariant-loop-row l = l.len ≡ min (length (flat (take l.row-index l.rows))) (2 ^ 64 - 1)
