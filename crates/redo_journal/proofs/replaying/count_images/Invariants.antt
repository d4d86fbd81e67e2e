use Rattle.redo_journal.proofs.Common.{◌≡◌, ℕ, ◌+◌, ◌-◌, ◌<◌, ◌≤◌, IsTrue, length, ImageList, HoldsGroups, BreaksAt}
use Rattle.redo_journal.proofs.replaying.count_images.Given as goal

abbrev pub invariant-groups : goal.invariant-groups
invariant-groups g l =
    let disk = g.D.Disk in
    let journal = (disk.image l.fn.disk).journal in
    record {
      behind : 1 ≤ l.at;
      within : l.at ≤ l.end + 1;
      fewer : l.count < l.at;
      holds : IsTrue (disk.tells l.fn.disk) → (images : ImageList) → HoldsGroups l.len journal l.at l.last images
          → (all : ImageList) × HoldsGroups l.len journal 1 0 all × (length all ≡ l.count + length images);
      breaks : IsTrue (disk.tells l.fn.disk) → (page : ℕ) → BreaksAt l.len journal l.at l.last page → BreaksAt l.len journal 1 0 page;
      faults : disk.faults l.disk ≡ disk.faults l.fn.disk;
      reads : disk.reads l.disk + 1 ≤ disk.reads l.fn.disk + l.at;
      rise : disk.reads l.fn.disk ≤ disk.reads l.disk;
      tells : disk.tells l.disk ≡ disk.tells l.fn.disk;
      image : disk.image l.disk ≡ disk.image l.fn.disk;
      moments : disk.moments l.disk ≡ disk.moments l.fn.disk;
    }

abbrev pub decreases-groups : goal.decreases-groups
decreases-groups g l = l.end + 1 - l.at
