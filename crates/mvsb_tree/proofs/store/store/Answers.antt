use Rattle.std.proofs.Common.{Err, ap}
use Rattle.std.proofs.lemmas.Result.{err_from_is_err_and}
use Rattle.ports.specs.declared.page.StageFault.TheVariants.{Damaged}
use Rattle.mvsb_tree.proofs.Exits.{exit_error}
use Rattle.mvsb_tree.proofs.store.store.Goals as goal

pub returns-in_err-replaced-clause-damaged : goal.returns-in_err-replaced-clause-damaged
returns-in_err-replaced-clause-damaged g c = λ p e tells placed. (
    let told = err_from_is_err_and c.from_residual-in_err-replaced.result c.from_residual-in_err-replaced.ensures.1 in
    let same = exit_error c.from_residual-in_err-replaced.result c.in_err-replaced.field-0.0 (Damaged p) told e in
    c.in_err-replaced.ensures.damaged p (ap Err same) tells placed)
