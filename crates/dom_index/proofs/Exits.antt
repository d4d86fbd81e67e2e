-- The error at the exit of a `?`.
use Rattle.std.proofs.Common.{◌≡◌, ℕ, Result, Err}
use Rattle.ports.specs.Faults.{HandsOn}
use Rattle.ports.specs.declared.page.PageFault.{PageFault}
use Rattle.ports.specs.declared.page.PageFault.TheVariants as page_fault
use Rattle.ports.specs.declared.page.StageFault.{StageFault}
use Rattle.ports.specs.declared.page.StageFault.TheVariants.{Damaged}

pub exit_error : {T E : Type 0} (r : Result T E) (told asked : E) → ((y : E) × (r ≡ Err y) × (y ≡ told)) → r ≡ Err asked → told ≡ asked
exit_error r told asked p e =
    let first = p.1 in
    let second = p.2 in
    cc

pub same_damaged : {T : Type 0} (a b : ℕ) → ◌≡◌ {A = Result T StageFault} (Err (Damaged a)) (Err (Damaged b)) → a ≡ b
same_damaged a b e = cc

pub read_damaged : {T : Type 0} (r : Result T StageFault) (fault : PageFault) (p : ℕ) → ((y : StageFault) × (r ≡ Err y) × HandsOn fault y) → r ≡ Err (Damaged p)
    → fault ≡ page_fault.Damaged p
read_damaged r fault p told e =
    let first = told.1 in
    told.2.damaged p cc
