use Rattle.redo_journal.proofs.Common.{◌≡◌, ◌+◌, ◌-◌, ◌<◌, ◌≤◌, IsTrue, length, AtNewest, HomesPend, ImageList, map_of, HoldsGroups}
use Rattle.redo_journal.proofs.ReplayLemmas.{IsRestoring}
use Rattle.redo_journal.proofs.RestLemmas.{HomesGo}
use Rattle.redo_journal.proofs.replaying.restore_groups.Given as goal

abbrev pub invariant-groups : goal.invariant-groups
invariant-groups g l =
    let disk = g.D.Disk in
    let told : Type 0 = IsTrue (disk.tells l.fn.disk) in
    let start = disk.image l.fn.disk in
    let now = disk.image l.disk in
    record {
      behind : 1 ≤ l.at;
      within : l.at ≤ l.end + 1;
      low : told → l.last < length now.pages;
      longer : told → l.len ≤ length now.pages;
      journal : told → now.journal ≡ start.journal;
      rest : told → (all : ImageList) → HoldsGroups l.len start.journal 1 0 all → IsRestoring l.len now.journal start.pages now.pages l.at l.last all;
      pends : (all : ImageList) → (told → HoldsGroups l.len start.journal 1 0 all)
          → AtNewest (HomesPend (map_of all) start) (disk.moments l.fn.disk) → HomesGo (map_of all) start (disk.moments l.fn.disk) (disk.moments l.disk);
      faults : disk.faults l.disk ≡ disk.faults l.fn.disk;
      reads : disk.reads l.disk + 1 ≤ disk.reads l.fn.disk + l.at;
      rise : disk.reads l.fn.disk ≤ disk.reads l.disk;
      tells : disk.tells l.disk ≡ disk.tells l.fn.disk;
    }

abbrev pub decreases-groups : goal.decreases-groups
decreases-groups g l = l.end + 1 - l.at
