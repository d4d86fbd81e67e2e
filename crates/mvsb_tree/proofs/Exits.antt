-- The error at the exit of a `?`.
use Rattle.std.proofs.Common.{◌≡◌, ℕ, Result, Ok, Err}
use Rattle.std.specs.Result.{IfOk, OnOk}
use Rattle.ports.specs.Faults.{HandsOn}
use Rattle.ports.specs.declared.page.PageFault.{PageFault}
use Rattle.ports.specs.declared.page.PageFault.TheVariants as page_fault
use Rattle.ports.specs.declared.page.StageFault.{StageFault}
use Rattle.ports.specs.declared.page.StageFault.TheVariants.{Damaged}

pub exit_error : {T E : Type 0} (r : Result T E) (told asked : E) → ((y : E) × (r ≡ Err y) × (y ≡ told)) → r ≡ Err asked → told ≡ asked
exit_error r told asked p e =
    let first = p.1 in
    let second = p.2 in
    cc

pub read_damaged : {T : Type 0} (r : Result T StageFault) (fault : PageFault) (p : ℕ) → ((y : StageFault) × (r ≡ Err y) × HandsOn fault y) → r ≡ Err (Damaged p)
    → fault ≡ page_fault.Damaged p
read_damaged r fault p told e =
    let first = told.1 in
    told.2.damaged p cc

pub err_same : {T : Type 0} (a b : ℕ) → ◌≡◌ {A = Result T PageFault} (Err (page_fault.Damaged a)) (Err (page_fault.Damaged b)) → a ≡ b
err_same a b e = cc

pub err_same_staged : {T : Type 0} (a b : ℕ) → ◌≡◌ {A = Result T StageFault} (Err (Damaged a)) (Err (Damaged b)) → a ≡ b
err_same_staged a b e = cc

pub both_ok : {T E : Type 0} (P Q : Type 0) (r : Result T E) → OnOk r P → OnOk r Q → OnOk r (P × Q)
both_ok P Q (Ok x) p q = (p, q)
both_ok P Q (Err e) p q = tt

pub both_if : {T E : Type 0} (P Q : T → Type 0) (r : Result T E) → IfOk r P → IfOk r Q → IfOk r (λ x. P x × Q x)
both_if P Q (Ok x) p q = (p, q)
both_if P Q (Err e) p q = tt

-- What holds of an answer holds as what follows from it.
pub map_ok : {T E : Type 0} {P Q : T → Type 0} (r : Result T E) → ((x : T) → P x → Q x) → IfOk r P → IfOk r Q
map_ok (Ok x) f p = f x p
map_ok (Err e) f p = tt
