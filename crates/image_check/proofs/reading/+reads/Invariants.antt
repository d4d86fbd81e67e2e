use Rattle.std.proofs.Common.{◌+◌, ◌*◌, IsTrue, take, drop, length}
use Rattle.object_table.specs.Stands.{first_low}
use Rattle.image_check.specs.Passing.{Passed, ReadsSeen}
use Rattle.image_check.specs.Reading.{EntriesStand, entry_lives, entry_pages}
use Rattle.image_check.proofs.reading.+reads.Given as goal

abbrev pub decreases-read_below : goal.decreases-read_below
decreases-read_below g l = 2 * l.level

abbrev pub decreases-read_entries : goal.decreases-read_entries
decreases-read_entries g l = 2 * l.level + 1

abbrev pub invariant-read_entries-loop-index : goal.invariant-read_entries-loop-index
invariant-read_entries-loop-index g l = record {
  passed : IsTrue (g.P.Pages.tells l.fn.pages) → Passed (EntriesStand l.form l.level (g.P.Pages.map l.fn.pages) (take l.index l.entries) (first_low (drop l.index l.entries) l.high))
      (entry_pages l.form l.level (g.P.Pages.map l.fn.pages) (take l.index l.entries)) (entry_lives l.form l.level (g.P.Pages.map l.fn.pages) (take l.index l.entries))
      l.fn.lives.items l.lives.items l.fn.seen.keys l.seen.keys;
  reads : ReadsSeen g.P.Pages (length l.fn.seen.keys) (length l.seen.keys) l.fn.pages l.pages;
}
