-- What a commit and a query leave of a house. Each record is given the words of the house that it speaks of.
use Rattle.std.specs.Prelude.{◌≡◌, ◌⊎◌, ℕ, ◌+◌, ◌≤◌, Bool, true, List}
use Rattle.bw_types.specs.History.{History, last_version}
use Rattle.bw_types.specs.declared.params.Params.{Params}
use Rattle.bw_types.specs.declared.row.Row.{Row}
use Rattle.ports.specs.Count.{Rose}
use Rattle.warehouse.specs.Committed.{IfDisk, device_out, with_batch}
use Rattle.warehouse.specs.Crashes.{OnlyLeaves}
use Rattle.warehouse.specs.declared.committed.Committed.{Committed}

-- The house is as before: it stands for each history that it stood for, in the form of before where that was the present one, and
-- reads, crashes and the limit of pages find nothing else.
pub record IsAsBefore {H D I M : Type 0} (params_of : H → Params) (device_of : H → D) (stands_for : Bool → D → Params → History → Type 0)
    (has_new_form : D → Type 0) (tells_of : D → Bool) (image_of : D → I) (moments_of : D → M) (charge_of : D → ℕ)
    (old new : H) : Type 0 where
  pub params : params_of new ≡ params_of old
  pub stands : (whole : Bool) (h : History) → stands_for whole (device_of old) (params_of old) h
      → stands_for whole (device_of new) (params_of old) h
  pub current : has_new_form (device_of old) → has_new_form (device_of new)
  pub tells : tells_of (device_of new) ≡ tells_of (device_of old)
  pub image : image_of (device_of new) ≡ image_of (device_of old)
  pub moments : moments_of (device_of new) ≡ moments_of (device_of old)
  pub charge : charge_of (device_of new) ≡ charge_of (device_of old)

-- The batch of rows is the last one of the history now, with this number, and a crash from now on loses none of it. The pages that
-- count against the limit rose by no more than the batch needs.
pub record IsPutLast {H D I M : Type 0} (params_of : H → Params) (device_of : H → D) (stands_for : Bool → D → Params → History → Type 0)
    (moments_of : D → M) (may_leave : M → I → Type 0) (holds : I → Params → History → Type 0)
    (charge_of : D → ℕ) (need_of : Params → History → List Row → ℕ) (rose_within : D → Params → History → List Row → D → Type 0)
    (h : History) (rows : List Row) (old new : H) (number : ℕ) : Type 0 where
  pub version : number ≡ last_version h + 1
  pub stands : stands_for true (device_of new) (params_of old) (with_batch h rows)
  pub settled : (x : I) → may_leave (moments_of (device_of new)) x → holds x (params_of old) (with_batch h rows)
  pub charge : charge_of (device_of new) ≤ charge_of (device_of old) + need_of (params_of old) h rows
  pub rises : rose_within (device_of old) (params_of old) h rows (device_of new)

-- What a crash may leave at each moment of a call, and now, is what it might have left before, or it has the one or the other history.
pub record CrashLeavesEither {I M : Type 0} (clock : M → ℕ) (since : M → ℕ → I → Type 0) (now : M → I → Type 0)
    (holds : I → Params → History → Type 0) (params : Params) (h h' : History) (old new : M) : Type 0 where
  pub any_moment : OnlyLeaves clock since (λ x. holds x params h ⊎ holds x params h') old new
  pub lost : ((x : I) → now old x → holds x params h) → (x : I) → now new x → holds x params h ⊎ holds x params h'

-- Whatever the answer, the device tells what it holds or not as before, it failed at least once more where that is the answer, and no
-- failure is forgotten.
pub record DeviceGoesOn {H D : Type 0} (device_of : H → D) (tells_of : D → Bool) (faults_of : D → ℕ) (before : D)
    (result : Committed H D) : Type 0 where
  pub tells : tells_of (device_out device_of result) ≡ tells_of before
  pub disk : IfDisk result (Rose (faults_of before) (faults_of (device_out device_of result)))
  pub never_fall : faults_of before ≤ faults_of (device_out device_of result)
