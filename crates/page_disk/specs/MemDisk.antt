-- What a `MemDisk` shows.
use Rattle.std.specs.Prelude.{◌≡◌, ℕ, ◌+◌, ◌-◌, ◌^◌, min, ◌||◌, Bool, IsTrue, IsErr, is_ok, is_err, if◌then◌else◌, List, Result}
use Rattle.page_disk.specs.declared.disk.Failed.{Failed}
use Rattle.page_disk.specs.declared.plan.Plan.{Plan}
use Rattle.page_disk.specs.declared.mem_disk.MemDisk.{MemDisk}
use Rattle.page_disk.specs.CallPlan.{CallPlan, call_fails}
use Rattle.page_disk.specs.Image.{Image}
use Rattle.page_disk.specs.Moment.{Moment}
use Rattle.page_disk.specs.History.{area_moments, side_by_side}

abbrev pub image_of : MemDisk → Image
image_of disk = record { pages = disk.pages.pages.items; journal = disk.journal.pages.items }

abbrev pub moments_of : MemDisk → List Moment
moments_of disk = side_by_side
    (area_moments disk.pages.pages.items disk.pages.log.items)
    (area_moments disk.journal.pages.items disk.journal.log.items)

-- how many calls are on record
abbrev pub call_count : MemDisk → ℕ
call_count disk = disk.calls

abbrev pub read_count : MemDisk → ℕ
read_count disk = disk.reads

abbrev pub fault_count : MemDisk → ℕ
fault_count disk = disk.faults

abbrev pub shown_plan : Plan → CallPlan
shown_plan plan = record {
  failing = plan.failing.items;
  failing_from = plan.failing_from;
  last = plan.last;
  last_from = plan.last_from;
}

-- which calls fail
abbrev pub plan_of : MemDisk → CallPlan
plan_of disk = shown_plan disk.plan

-- the number of the next call
abbrev pub next_call : MemDisk → ℕ
next_call disk = min (disk.calls + 1) (2 ^ 64 - 1)

-- whether the next call is planned to fail
abbrev pub next_fails : MemDisk → Bool
next_fails disk = call_fails (shown_plan disk.plan) (min (disk.calls + 1) (2 ^ 64 - 1))

-- A call that needs no memory is on record, and failed exactly where it was to fail.
pub record FailsWhere {T : Type 0} (fails : Bool) (old new : MemDisk) (result : Result T Failed) : Type 0 where
  pub failed : is_err result ≡ fails
  pub calls : call_count new ≡ next_call old
  pub plan : plan_of new ≡ plan_of old

-- A call failed where it was planned so. It is on record, save where it was not to fail and found no memory.
pub record FailsAsPlanned {T : Type 0} (old new : MemDisk) (result : Result T Failed) : Type 0 where
  pub failed : IsTrue (next_fails old) → IsErr result
  pub calls : call_count new ≡ (if is_ok result || next_fails old then next_call old else call_count old)
  pub plan : plan_of new ≡ plan_of old
