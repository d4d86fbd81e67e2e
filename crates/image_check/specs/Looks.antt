-- What a check leaves as it found it.
use Rattle.std.specs.Prelude.{◌≡◌, ◌≤◌, Result, Err}
use Rattle.ports.specs.Count.{Rose}
use Rattle.page_disk.specs.declared.disk.Disk.{Ghosts}
use Rattle.page_checks.specs.declared.fault.CheckFault.{CheckFault}
use Rattle.page_checks.specs.declared.fault.CheckFault.TheVariants.{Disk}

-- The disk was read, and is as it was: no call wrote or made a sync. There is no answer for the disk only where the count of its faults rose.
pub record OnlyLooks {D T : Type 0} (g : Ghosts D) (old new : D) (result : Result T CheckFault) : Type 0 where
  pub tells : g.tells new ≡ g.tells old
  pub image : g.image new ≡ g.image old
  pub moments : g.moments new ≡ g.moments old
  pub reads : g.reads old ≤ g.reads new
  pub faults : g.faults old ≤ g.faults new
  pub disk : result ≡ Err Disk → Rose (g.faults old) (g.faults new)
