-- What the check of a space knows of it.
use Rattle.std.specs.Prelude.{◌≡◌, length}
use Rattle.page_disk.specs.declared.disk.Disk.{Ghosts}
use Rattle.redo_journal.specs.Settled.{SettlesTo}
use Rattle.page_space.specs.Space.{HoldsSpace}
use Rattle.corner_forest.specs.Entries.{root_count}
use Rattle.settled_pages.specs.Looked.{IsInOrder, disk_of, map_of, meta_of, pages_of, params_of}
use Rattle.settled_pages.specs.Shown.{pages_shown}
use Rattle.settled_pages.specs.declared.space.SettledSpace.{SettledSpace}

module _ {D : Type 0} {g : Ghosts D} where
  -- The space is the one that its disk holds, in the pages that the disk stands for. Its free pages are in order where they are so there, and it has as many roots as the params ask for.
  pub record IsShown (it : SettledSpace D g) : Type 0 where
    pub settles : SettlesTo (g.image (disk_of it)) (pages_shown (g.image (disk_of it)) (pages_of it))
    pub space : HoldsSpace (g.image (disk_of it)) (params_of it) (meta_of it) (map_of it) (IsInOrder it)
    pub roots : length (meta_of it).roots.items ≡ root_count (params_of it)
