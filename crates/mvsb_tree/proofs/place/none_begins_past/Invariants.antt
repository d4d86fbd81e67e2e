use Rattle.std.proofs.Common.{◌≡◌, ◌≤◌, false, length, drop}
use Rattle.std.specs.List.{All}
use Rattle.mv_pages.specs.Alive.{is_alive}
use Rattle.mvsb_tree.proofs.place.none_begins_past.Given as goal

abbrev pub invariant-loop-rest : goal.invariant-loop-rest
invariant-loop-rest l = record {
  fits : l.rest ≤ length l.view.entries.items;
  dead : All (λ f. is_alive l.place.version f ≡ false) (drop l.rest l.view.entries.items);
}

abbrev pub decreases-loop-rest : goal.decreases-loop-rest
decreases-loop-rest l = l.rest
