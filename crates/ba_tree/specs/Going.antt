-- A call that changes a stage on pages that are as they should be.
use Rattle.std.specs.Prelude.{◌≢◌, ℕ, Result, Err}
use Rattle.ports.specs.Calls.{Changes}
use Rattle.ports.specs.declared.page.StageFault.{StageFault}
use Rattle.ports.specs.declared.page.StageFault.TheVariants.{Damaged}
use Rattle.ports.specs.declared.pages.Pages.{Ghosts}

-- It gives out at most so many page numbers, and calls no page damaged where the free pages are in order.
pub record GoesWell {P T : Type 0} (g : Ghosts P) (most : ℕ) (old new : P) (result : Result T StageFault) : Type 0 where
  pub changes : Changes g most old new result
  pub sound : g.free_in_order old → (page : ℕ) → result ≢ Err (Damaged page)
