-- What a check leaves as it found it.
use Rattle.std.specs.Prelude.{◌≡◌, ◌≤◌, Result, Err}
use Rattle.ports.specs.Count.{Rose}
use Rattle.ports.specs.declared.pages.Pages.{Ghosts}
use Rattle.page_checks.specs.declared.fault.CheckFault.{CheckFault}
use Rattle.page_checks.specs.declared.fault.CheckFault.TheVariants.{Disk}

-- The pages were read, and are as they were.
pub record AreAsBefore {P : Type 0} (g : Ghosts P) (old new : P) : Type 0 where
  pub tells : g.tells new ≡ g.tells old
  pub map : g.map new ≡ g.map old
  pub base : g.base new ≡ g.base old
  pub limit : g.limit new ≡ g.limit old
  pub allotted : g.allotted new ≡ g.allotted old
  pub chain : g.chain new ≡ g.chain old
  pub free_in_order : g.free_in_order old → g.free_in_order new
  pub gets : g.gets old ≤ g.gets new
  pub faults : g.faults old ≤ g.faults new

-- A check reads pages and changes none. It comes to no answer for the disk only where the count of faults rose.
pub record OnlyChecks {P T : Type 0} (g : Ghosts P) (old new : P) (result : Result T CheckFault) : Type 0 where
  pub read : AreAsBefore g old new
  pub disk : result ≡ Err Disk → Rose (g.faults old) (g.faults new)
