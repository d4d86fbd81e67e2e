use Rattle.redo_journal.proofs.Common.{sym, ◌∙◌}
use Rattle.redo_journal.proofs.RestLemmas.{created_stretch}
use Rattle.redo_journal.proofs.creation.create.Goals as goal

pub returns-in_err-open_creation-clause-any_moment : goal.returns-in_err-open_creation-clause-any_moment
returns-in_err-open_creation-clause-any_moment g c =
    created_stretch c.prepare.ensures.any_moment
    (c.open_creation.ensures.any_moment _ _ (λ h. c.in_ok-prepare.ensures.written (sym c.prepare.ensures.writes.tells ∙ h)))

pub returns-clause-any_moment : goal.returns-clause-any_moment
returns-clause-any_moment g c =
    created_stretch c.prepare.ensures.any_moment
    (c.open_creation.ensures.any_moment _ _ (λ h. c.in_ok-prepare.ensures.written (sym c.prepare.ensures.writes.tells ∙ h)))
