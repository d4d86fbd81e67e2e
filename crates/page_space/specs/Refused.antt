-- A disk that was opened or refused.
use Rattle.std.specs.Prelude.{Result, Ok, Err}
use Rattle.page_disk.specs.declared.disk.Disk.{Ghosts}
use Rattle.page_space.specs.declared.space.Space.{Space}
use Rattle.page_space.specs.declared.refusal.OpenRefused.{OpenRefused}

module _ {D : Type 0} {g : Ghosts D} where
  -- the disk after an opening
  abbrev pub opened_disk : Result (Space D g) (OpenRefused D) → D
  opened_disk (Ok space) = space.disk
  opened_disk (Err refused) = refused.disk
