use Rattle.std.specs.List.{AllAdjacentBelow}
use Rattle.page_layout.proofs.entry.each_precedes.Given as goal

abbrev pub invariant-loop-i : goal.invariant-loop-i
invariant-loop-i g l = AllAdjacentBelow g.T.Entry.precedes l.entries l.i
