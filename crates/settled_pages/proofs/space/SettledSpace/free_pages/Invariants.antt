use Rattle.std.proofs.Common.{◌≡◌, ◌+◌, ◌-◌, ◌≤◌, IsTrue, length}
use Rattle.settled_pages.specs.Looked.{bytes_of, disk_of, looked_at}
use Rattle.settled_pages.proofs.ChainLemmas.{IsWalked}
use Rattle.settled_pages.proofs.space.SettledSpace.free_pages.Given as goal

abbrev pub invariant-loop-page : goal.invariant-loop-page
invariant-loop-page g l =
    let disk = g.D.Disk in
    let start = l.fn.self in
    record {
      walked : IsTrue (disk.tells (disk_of start)) → IsWalked (bytes_of start) start.meta.now.allotted start.meta.now.free l.page l.pages.items;
      few : length l.pages.items ≤ start.meta.now.allotted;
      looked : looked_at l.self ≡ looked_at start;
      faults : disk.faults (disk_of l.self) ≡ disk.faults (disk_of start);
      reads : disk.reads (disk_of l.self) ≤ disk.reads (disk_of start) + length l.pages.items;
      rise : disk.reads (disk_of start) ≤ disk.reads (disk_of l.self);
    }

abbrev pub decreases-loop-page : goal.decreases-loop-page
decreases-loop-page g l = l.fn.self.meta.now.allotted - length l.pages.items
