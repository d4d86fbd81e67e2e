-- What calls on a disk leave as they found it, and what their failures tell.
use Rattle.std.specs.Prelude.{◌≡◌, ℕ, ◌+◌, ◌≤◌, Bool, true, IsTrue, Result, Ok, Err}
use Rattle.std.specs.Bool.{MatchBool}
use Rattle.ports.specs.Count.{Rose}
use Rattle.page_disk.specs.declared.disk.Disk.{Ghosts}

-- Each error is one of the device.
abbrev pub any_error : {E : Type 0} → E → Bool
any_error error = true

-- The count of faults rises where the answer is an error of the device, as the test tells it, and else it
-- stays.
abbrev pub RisesWhere : {T E : Type 0} → (E → Bool) → Result T E → ℕ → ℕ → Type 0
RisesWhere of_device (Ok value) old new = new ≡ old
RisesWhere of_device (Err fault) old new = MatchBool (of_device fault) (Rose old new × (old ≤ new)) (new ≡ old)

-- Calls that read at most so many pages, and changed nothing. None failed.
pub record WasRead {D : Type 0} (g : Ghosts D) (most : ℕ) (old new : D) : Type 0 where
  pub tells : g.tells new ≡ g.tells old
  pub image : g.image new ≡ g.image old
  pub moments : g.moments new ≡ g.moments old
  pub reads : g.reads old ≤ g.reads new
  pub at_most : g.reads new ≤ g.reads old + most
  pub faults : g.faults new ≡ g.faults old

-- A call that reads at most so many pages, and changes nothing.
pub record OnlyReads {D T E : Type 0} (g : Ghosts D) (of_device : E → Bool) (most : ℕ) (old new : D) (result : Result T E) : Type 0 where
  pub tells : g.tells new ≡ g.tells old
  pub image : g.image new ≡ g.image old
  pub moments : g.moments new ≡ g.moments old
  pub reads : g.reads old ≤ g.reads new
  pub at_most : g.reads new ≤ g.reads old + most
  pub faults : RisesWhere of_device result (g.faults old) (g.faults new)

-- Calls that may write, and read at most so many pages. None failed.
pub record WentOn {D : Type 0} (g : Ghosts D) (most : ℕ) (old new : D) : Type 0 where
  pub tells : g.tells new ≡ g.tells old
  pub reads : g.reads old ≤ g.reads new
  pub at_most : g.reads new ≤ g.reads old + most
  pub faults : g.faults new ≡ g.faults old

-- A call that may write, and reads at most so many pages.
pub record Writes {D T E : Type 0} (g : Ghosts D) (of_device : E → Bool) (most : ℕ) (old new : D) (result : Result T E) : Type 0 where
  pub tells : g.tells new ≡ g.tells old
  pub reads : g.reads old ≤ g.reads new
  pub at_most : g.reads new ≤ g.reads old + most
  pub faults : RisesWhere of_device result (g.faults old) (g.faults new)

-- A call that may write. Of a disk that tells its image it reads at most so many pages.
pub record WritesAsTold {D T E : Type 0} (g : Ghosts D) (of_device : E → Bool) (most : ℕ) (old new : D) (result : Result T E) : Type 0 where
  pub tells : g.tells new ≡ g.tells old
  pub reads : g.reads old ≤ g.reads new
  pub at_most : IsTrue (g.tells old) → g.reads new ≤ g.reads old + most
  pub faults : RisesWhere of_device result (g.faults old) (g.faults new)
