use Rattle.redo_journal.proofs.Common.{◌∙◌}
use Rattle.redo_journal.proofs.GateLemmas.{shut_after}
use Rattle.redo_journal.proofs.creation.close_pages.Goals as goal

pub returns-in_ok-sync-clause-shut : goal.returns-in_ok-sync-clause-shut
returns-in_ok-sync-clause-shut g c = λ told.
    shut_after _ c.gate_page.ensures (c.in_ok-write.ensures.ok (c.len.ensures.tells ∙ told)) c.sync.ensures.image
