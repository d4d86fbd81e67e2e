-- What calls on a disk that is only read leave as they found it.
use Rattle.std.specs.Prelude.{◌≡◌, ℕ, ◌+◌, ◌≤◌, Bool, IsTrue, Result}
use Rattle.page_disk.specs.Calls.{RisesWhere}
use Rattle.page_disk.specs.declared.disk.Disk.{Ghosts}

-- A call that changes nothing. Of a disk that tells its image it reads at most so many pages.
pub record OnlyReadsAsTold {D T E : Type 0} (g : Ghosts D) (of_device : E → Bool) (most : ℕ) (old new : D) (result : Result T E) : Type 0 where
  pub tells : g.tells new ≡ g.tells old
  pub image : g.image new ≡ g.image old
  pub moments : g.moments new ≡ g.moments old
  pub reads : g.reads old ≤ g.reads new
  pub at_most : IsTrue (g.tells old) → g.reads new ≤ g.reads old + most
  pub faults : RisesWhere of_device result (g.faults old) (g.faults new)
