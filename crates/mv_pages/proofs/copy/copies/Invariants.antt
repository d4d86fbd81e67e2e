use Rattle.std.proofs.Common.{◌≡◌, ◌≤◌, take, length}
use Rattle.mv_pages.specs.Copies.{copies}
use Rattle.mv_pages.proofs.copy.copies.Given as goal

abbrev pub invariant-loop-e : goal.invariant-loop-e
invariant-loop-e l = record { items : l.copies.items ≡ copies (take l.e-index l.entries) l.version; few : length l.copies.items ≤ l.e-index }
