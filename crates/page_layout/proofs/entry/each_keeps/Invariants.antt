use Rattle.std.proofs.Common.{ℕ, ◌<◌, get_or}
use Rattle.page_layout.proofs.entry.each_keeps.Given as goal

abbrev pub invariant-loop-entry : goal.invariant-loop-entry
invariant-loop-entry g l = (k : ℕ) (d : g.row.T.Denot) → k < l.entry-index → g.T.Entry.keeps l.level (get_or l.entries k d)
