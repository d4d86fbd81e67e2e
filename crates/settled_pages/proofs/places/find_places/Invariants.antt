use Rattle.std.proofs.Common.{◌≡◌, ℕ, ◌+◌, ◌-◌, ◌≤◌, ◌++◌, IsTrue}
use Rattle.redo_journal.specs.Groups.{BreaksAt, HoldsGroups, last_of}
use Rattle.redo_journal.specs.Placing.{Ascend, ImageList}
use Rattle.settled_pages.specs.Places.{AreBefore, homes_in, images_in}
use Rattle.settled_pages.proofs.places.find_places.Given as goal

abbrev pub invariant-groups : goal.invariant-groups
invariant-groups g l =
    let disk = g.D.Disk in
    let journal = (disk.image l.fn.disk).journal in
    record {
      behind : 1 ≤ l.at;
      within : l.at ≤ l.end + 1;
      holds : IsTrue (disk.tells l.fn.disk) → (images : ImageList) → HoldsGroups l.len journal l.at l.last images
          → HoldsGroups l.len journal 1 0 (images_in journal l.places.items ++ images);
      breaks : IsTrue (disk.tells l.fn.disk) → (page : ℕ) → BreaksAt l.len journal l.at l.last page → BreaksAt l.len journal 1 0 page;
      before : AreBefore l.end l.places.items;
      ascends : Ascend 0 (homes_in l.places.items);
      last_is : l.last ≡ last_of 0 (homes_in l.places.items);
      faults : disk.faults l.disk ≡ disk.faults l.fn.disk;
      reads : disk.reads l.disk + 1 ≤ disk.reads l.fn.disk + l.at;
      rise : disk.reads l.fn.disk ≤ disk.reads l.disk;
      tells : disk.tells l.disk ≡ disk.tells l.fn.disk;
      image : disk.image l.disk ≡ disk.image l.fn.disk;
      moments : disk.moments l.disk ≡ disk.moments l.fn.disk;
    }

abbrev pub decreases-groups : goal.decreases-groups
decreases-groups g l = l.end + 1 - l.at
