-- What calls on pages and on stages leave as they found it, and what their refusals tell.
use Rattle.std.specs.Prelude.{◌≡◌, ℕ, ◌+◌, ◌≤◌, ◌<◌, false, IsTrue, None, Result, Err}
use Rattle.ports.specs.declared.page.PageFault.{PageFault}
use Rattle.ports.specs.declared.page.PageFault.TheVariants as page_fault
use Rattle.ports.specs.declared.page.StageFault.{StageFault}
use Rattle.ports.specs.declared.page.StageFault.TheVariants.{Disk, PageLimit}
use Rattle.ports.specs.declared.pages.Pages.{Ghosts}
use Rattle.ports.specs.Frame.{KeepsPages, names_page}
use Rattle.ports.specs.Count.{Rose}

-- The pages were read, by at most so many gets, and are as they were.
pub record WasRead {P : Type 0} (g : Ghosts P) (most : ℕ) (old new : P) : Type 0 where
  pub tells : g.tells new ≡ g.tells old
  pub map : g.map new ≡ g.map old
  pub base : g.base new ≡ g.base old
  pub limit : g.limit new ≡ g.limit old
  pub allotted : g.allotted new ≡ g.allotted old
  pub chain : g.chain new ≡ g.chain old
  pub free_in_order : g.free_in_order old → g.free_in_order new
  pub gets : g.gets old ≤ g.gets new
  pub at_most : g.gets new ≤ g.gets old + most
  pub faults : g.faults old ≤ g.faults new

-- A call reads at most so many pages and changes none. It is refused for the disk only where the count
-- of faults rose.
pub record OnlyReads {P T : Type 0} (g : Ghosts P) (most : ℕ) (old new : P) (result : Result T PageFault) : Type 0 where
  pub read : WasRead g most old new
  pub disk : result ≡ Err page_fault.Disk → Rose (g.faults old) (g.faults new)

-- This page was given out, is in the map no more, and can never be given out again.
pub record IsForgotten {P : Type 0} (g : Ghosts P) (stage : P) (page : ℕ) : Type 0 where
  pub from_three : 3 ≤ page
  pub given_out : page < g.allotted stage
  pub gone : g.map stage page ≡ None
  pub unchained : names_page (g.chain stage) page ≡ false

-- The stage went on over its base, and at most so many page numbers more are given out. No page is
-- forgotten that was not before.
pub record WentOn {P : Type 0} (g : Ghosts P) (most : ℕ) (old new : P) : Type 0 where
  pub tells : g.tells new ≡ g.tells old
  pub base : g.base new ≡ g.base old
  pub limit : g.limit new ≡ g.limit old
  pub free_in_order : IsTrue (g.tells old) → g.free_in_order old → g.free_in_order new
  pub none_forgotten : IsTrue (g.tells old) → g.free_in_order old → (page : ℕ) → IsForgotten g new page → IsForgotten g old page
  pub allotted : g.allotted old ≤ g.allotted new
  pub at_most : g.allotted new ≤ g.allotted old + most
  pub gets : g.gets old ≤ g.gets new
  pub faults : g.faults old ≤ g.faults new

-- A call changes a stage, and gives out at most so many page numbers more. It is refused for the disk
-- only where the count of faults rose, and for the limit only where as many numbers are given out as
-- that allows; it tells them, and would have given out one more.
pub record Changes {P T : Type 0} (g : Ghosts P) (most : ℕ) (old new : P) (result : Result T StageFault) : Type 0 where
  pub went_on : WentOn g most old new
  pub disk : result ≡ Err Disk → Rose (g.faults old) (g.faults new)
  pub page_limit : (n : ℕ) → result ≡ Err (PageLimit n) → (n ≡ g.limit old) × (g.allotted new ≡ n) × (n < g.allotted old + most)

-- The same, and no page leaves the map.
pub record Grows {P T : Type 0} (g : Ghosts P) (most : ℕ) (old new : P) (result : Result T StageFault) : Type 0 where
  pub went_on : WentOn g most old new
  pub keeps : IsTrue (g.tells old) → KeepsPages (g.map old) (g.map new)
  pub disk : result ≡ Err Disk → Rose (g.faults old) (g.faults new)
  pub page_limit : (n : ℕ) → result ≡ Err (PageLimit n) → (n ≡ g.limit old) × (g.allotted new ≡ n) × (n < g.allotted old + most)
