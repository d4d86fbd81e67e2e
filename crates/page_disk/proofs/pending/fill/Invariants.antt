use Rattle.std.proofs.Common.{◌≡◌, length, reverse, vec_len}
use Rattle.page_disk.specs.Crash.{full_of}
use Rattle.page_disk.specs.History.{refilled}
use Rattle.page_disk.proofs.pending.fill.Given as goal

-- what is still to be filled
abbrev pub invariant-loop-entry : goal.invariant-loop-entry
invariant-loop-entry l = refilled l.len (full_of l.byte) l.pages.items (reverse l.log.items)
    ≡ refilled (length l.fn.pages.items) (full_of l.byte) l.fn.pages.items (reverse l.fn.log.items)

abbrev pub decreases-loop-entry : goal.decreases-loop-entry
decreases-loop-entry l = vec_len l.log
