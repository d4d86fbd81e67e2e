use Rattle.redo_journal.proofs.Common.{◌≡◌, ◌≤◌, ◌+◌, ◌-◌, IsTrue, length, take, drop, Image, WentOn, coming, AtNewest, BodyPends, bytes_of, with_row}
use Rattle.redo_journal.proofs.RestLemmas.{BodyGoes}
use Rattle.redo_journal.proofs.committing.write_images.Given as goal

abbrev pub invariant-loop-i : goal.invariant-loop-i
invariant-loop-i g l =
    let disk = g.D.Disk in
    record {
      left : l.count ≤ l.i + length (coming l.images);
      rest : drop (l.count - l.i) (coming l.images) ≡ drop l.count (coming l.fn.images);
      room : IsTrue (disk.tells l.disk) → l.at + l.i ≤ length (disk.image l.disk).journal;
      pages : IsTrue (disk.tells l.disk) → (disk.image l.disk).pages ≡ (disk.image l.fn.disk).pages;
      journal : IsTrue (disk.tells l.disk) → with_row (disk.image l.disk).journal (l.at + l.i) (bytes_of (take (l.count - l.i) (coming l.images)))
          ≡ with_row (disk.image l.fn.disk).journal l.at (bytes_of (take l.count (coming l.fn.images)));
      pends : (start : Image) → AtNewest (BodyPends start) (disk.moments l.fn.disk) → BodyGoes start (disk.moments l.fn.disk) (disk.moments l.disk);
      went : WentOn disk 0 l.fn.disk l.disk;
    }
