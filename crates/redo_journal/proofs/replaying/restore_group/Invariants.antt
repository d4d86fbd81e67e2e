use Rattle.redo_journal.proofs.Common.{◌≡◌, ◌+◌, ◌≤◌, IsTrue, IsSome, length, drop, All, PageMap, Image, AtNewest, HomesPend, AreWritable, with_images, images_at}
use Rattle.redo_journal.proofs.RestLemmas.{HomesGo}
use Rattle.redo_journal.proofs.replaying.restore_group.Given as goal

abbrev pub invariant-loop-i : goal.invariant-loop-i
invariant-loop-i g l =
    let disk = g.D.Disk in
    let told : Type 0 = IsTrue (disk.tells l.fn.disk) in
    let journal = (disk.image l.fn.disk).journal in
    record {
      placed : told → with_images (disk.image l.disk).pages (images_at journal (l.at + l.i) (drop l.i l.homes))
          ≡ with_images (disk.image l.fn.disk).pages (images_at journal l.at l.homes);
      writable : told → AreWritable (length (disk.image l.disk).pages) (drop l.i l.homes);
      journal : told → (disk.image l.disk).journal ≡ journal;
      pends : (images : PageMap) (start : Image) → All (λ home. IsSome (images home)) l.homes → AtNewest (HomesPend images start) (disk.moments l.fn.disk)
          → HomesGo images start (disk.moments l.fn.disk) (disk.moments l.disk);
      faults : disk.faults l.disk ≡ disk.faults l.fn.disk;
      reads : disk.reads l.disk ≤ disk.reads l.fn.disk + l.i;
      rise : disk.reads l.fn.disk ≤ disk.reads l.disk;
      tells : disk.tells l.disk ≡ disk.tells l.fn.disk;
    }
