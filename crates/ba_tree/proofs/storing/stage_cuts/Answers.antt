use Rattle.std.proofs.Common.{◌≡◌, ◌∙◌, sym}
use Rattle.ba_tree.proofs.storing.stage_cuts.Goals as goal

pub returns-in-Err-Damaged-clause-well : goal.returns-in-Err-Damaged-clause-well
returns-in-Err-Damaged-clause-well g c = λ tells nodes held. absurd ((c.read_cuts.ensures.damaged c.in-Err-Damaged.damaged cc).1 tells nodes held)

pub returns-in-Err-Damaged-clause-damaged : goal.returns-in-Err-Damaged-clause-damaged
returns-in-Err-Damaged-clause-damaged g c = λ damaged e.
    let why = c.read_cuts.ensures.damaged c.in-Err-Damaged.damaged cc in
    let same : c.in-Err-Damaged.damaged ≡ damaged = cc in
    (sym same ∙ why.0, why.1)
