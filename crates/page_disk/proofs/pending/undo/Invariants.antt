use Rattle.std.proofs.Common.{◌≡◌, reverse, vec_len}
use Rattle.page_disk.specs.History.{undone}
use Rattle.page_disk.proofs.pending.undo.Given as goal

-- what is still to be undone
abbrev pub invariant-loop-entry : goal.invariant-loop-entry
invariant-loop-entry l = undone l.pages.items (reverse l.log.items) ≡ undone l.fn.pages.items (reverse l.fn.log.items)

abbrev pub decreases-loop-entry : goal.decreases-loop-entry
decreases-loop-entry l = vec_len l.log
