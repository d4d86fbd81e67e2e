use Rattle.std.proofs.Common.{◌≡◌, false, take}
use Rattle.std.specs.List.{All}
use Rattle.mv_pages.specs.Alive.{is_alive}
use Rattle.mvsb_tree.proofs.place.none_begins_below.Given as goal

abbrev pub invariant-loop-index : goal.invariant-loop-index
invariant-loop-index l = All (λ f. is_alive l.place.version f ≡ false) (take l.index l.view.entries.items)
