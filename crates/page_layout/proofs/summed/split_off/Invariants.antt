use Rattle.std.proofs.Common.{◌≡◌, take}
use Rattle.page_layout.proofs.summed.split_off.Given as goal

abbrev pub invariant-loop-entry : goal.invariant-loop-entry
invariant-loop-entry g l = l.second.items ≡ take l.entry-index l.entry-items
