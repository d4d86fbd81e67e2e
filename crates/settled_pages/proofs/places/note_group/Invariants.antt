use Rattle.std.proofs.Common.{◌≡◌, ◌+◌, ◌++◌, drop}
use Rattle.settled_pages.specs.Places.{places_from}
use Rattle.settled_pages.proofs.places.note_group.Given as goal

abbrev pub invariant-loop-i : goal.invariant-loop-i
invariant-loop-i l = l.places.items ++ places_from (l.at + l.i) (drop l.i l.homes) ≡ l.fn.places.items ++ places_from l.at l.homes
