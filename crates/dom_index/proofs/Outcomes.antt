-- What a call on a stage leaves, where another call ends with its result.
use Rattle.std.proofs.Common.{◌≡◌, ℕ, Result, Ok, Err}
use Rattle.ports.specs.Calls.{Changes, Grows}
use Rattle.ports.specs.declared.page.StageFault.{StageFault}
use Rattle.ports.specs.declared.page.StageFault.TheVariants.{Disk, PageLimit}
use Rattle.ports.specs.declared.pages.Pages.{Ghosts}
use Rattle.dom_index.proofs.Exits.{exit_error}

pub changes_to_refusal : {P T U : Type 0} (g : Ghosts P) (most : ℕ) (old new : P) (r : Result T StageFault) (q : Result U StageFault) (fault : StageFault)
    → ((y : StageFault) × (q ≡ Err y) × (y ≡ fault)) → r ≡ Err fault → Grows g most old new r → Changes g most old new q
changes_to_refusal g most old new r q fault told is grows = record {
  went_on = grows.went_on;
  disk = λ e. let same = exit_error q fault Disk told e in let asked : r ≡ Err Disk = cc in grows.disk asked;
  page_limit = λ n e. let same = exit_error q fault (PageLimit n) told e in let asked : r ≡ Err (PageLimit n) = cc in grows.page_limit n asked;
}

pub changes_to_end : {P T : Type 0} (g : Ghosts P) (most : ℕ) (old new : P) (r : Result T StageFault) → Grows g most old new r → Changes {T = Unit {0}} g most old new (Ok tt)
changes_to_end g most old new r grows = record {
  went_on = grows.went_on;
  disk = λ e. cc;
  page_limit = λ n e. cc;
}
