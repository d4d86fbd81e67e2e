use Rattle.redo_journal.proofs.Common.{◌≡◌, ◌≤◌, ◌+◌, ◌*◌, IsTrue, length, max, Image, WentOn, coming, image_list, AtNewest, BodyPends, KeepsGate}
use Rattle.redo_journal.proofs.BodyLemmas.{WritesGroups}
use Rattle.redo_journal.specs.Lengths.{head_count, journal_length}
use Rattle.redo_journal.proofs.RestLemmas.{BodyGoes}
use Rattle.redo_journal.proofs.committing.write_groups.Given as goal

abbrev pub invariant-loop-left : goal.invariant-loop-left
invariant-loop-left g l =
    let disk = g.D.Disk in
    record {
      count : l.left ≡ length (coming l.rest);
      named : coming l.homes ≡ coming l.rest;
      behind : 1 ≤ l.at;
      counted : l.at + (head_count l.left + l.left) ≡ journal_length (length (image_list l.fn.images));
      far : l.at + 2 * l.left ≤ 1 + 2 * length (image_list l.fn.images);
      groups : WritesGroups (disk.tells l.fn.disk) (image_list l.fn.images) (disk.image l.disk).journal l.at (coming l.rest);
      room : IsTrue (disk.tells l.fn.disk) → l.at ≤ length (disk.image l.disk).journal;
      longest : IsTrue (disk.tells l.fn.disk) → length (disk.image l.disk).journal ≡ max (length (disk.image l.fn.disk).journal) l.at;
      kept : IsTrue (disk.tells l.fn.disk) → KeepsGate (disk.image l.fn.disk) (disk.image l.disk);
      pends : (start : Image) → AtNewest (BodyPends start) (disk.moments l.fn.disk) → BodyGoes start (disk.moments l.fn.disk) (disk.moments l.disk);
      went : WentOn disk 0 l.fn.disk l.disk;
    }

abbrev pub decreases-loop-left : goal.decreases-loop-left
decreases-loop-left g l = l.left
