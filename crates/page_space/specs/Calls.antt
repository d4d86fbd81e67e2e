-- What the calls on a stage leave as they found it.
use Rattle.std.specs.Prelude.{◌≡◌}
use Rattle.page_disk.specs.declared.disk.Disk.{Ghosts}
use Rattle.page_space.specs.declared.staged.Staged.{Staged}
use Rattle.page_space.specs.Shown.{staged_bytes, staged_meta}

-- The changes so far stay: the images, with them the bytes at each page, and the meta page as it is to be.
pub record KeepsChanges {D : Type 0} {g : Ghosts D} (old new : Staged D g) : Type 0 where
  pub images : new.images ≡ old.images
  pub bytes : staged_bytes new ≡ staged_bytes old
  pub meta : staged_meta new ≡ staged_meta old
