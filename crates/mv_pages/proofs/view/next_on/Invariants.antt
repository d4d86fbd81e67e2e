use Rattle.std.proofs.Common.{◌≡◌, ℕ, false, take}
use Rattle.std.specs.List.{All}
use Rattle.mv_pages.specs.Alive.{IsBegunCount, is_beyond}
use Rattle.mv_pages.proofs.view.next_on.Given as goal

abbrev pub invariant-loop-index : goal.invariant-loop-index
invariant-loop-index l = (key : ℕ) → IsBegunCount l.view.entries.items key l.begun → All (λ e. is_beyond key l.version e ≡ false) (take l.index l.view.entries.items)
