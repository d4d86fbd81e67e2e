use Rattle.redo_journal.proofs.Common.{◌≡◌, ℕ, IsTrue, IsSome, length, WentOn, coming, image_list, homes_of, map_of, with_images, AreWritable}
use Rattle.redo_journal.proofs.RestLemmas.{HomesGo}
use Rattle.redo_journal.proofs.committing.write_homes.Given as goal

abbrev pub invariant-loop-home : goal.invariant-loop-home
invariant-loop-home g l =
    let disk = g.D.Disk in
    let told : Type 0 = IsTrue (disk.tells l.fn.disk) in
    let start = disk.image l.fn.disk in
    let now = disk.image l.disk in
    let all = image_list l.fn.images in
    record {
      placed : told → with_images now.pages (coming l.rest) ≡ with_images start.pages all;
      writable : told → AreWritable (length now.pages) (homes_of (coming l.rest));
      among : (page : ℕ) → IsSome (map_of (coming l.rest) page) → IsSome (map_of all page);
      journal : told → now.journal ≡ start.journal;
      goes : HomesGo (map_of all) start (disk.moments l.fn.disk) (disk.moments l.disk);
      went : WentOn disk 0 l.fn.disk l.disk;
    }

abbrev pub decreases-loop-home : goal.decreases-loop-home
decreases-loop-home g l = length (coming l.rest)
