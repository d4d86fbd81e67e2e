use Rattle.cut_parts.proofs.Held.{cuts_held, no_cuts_held}
use Rattle.cut_parts.proofs.reading.view_cuts.Goals as goal

pub returns-in-Err-clause-damaged : goal.returns-in-Err-clause-damaged
returns-in-Err-clause-damaged g c = λ p is_fault.
    let told = c.in-Err.ensures.damaged p is_fault in
    (told.0, λ tells nodes held. no_cuts_held (g.P.Pages.map c.args.pages.now) c.args.page nodes (told.1 tells) held)

pub returns-in-Ok-clause-found : goal.returns-in-Ok-clause-found
returns-in-Ok-clause-found g c = λ tells.
    cuts_held (g.P.Pages.map c.args.pages.now) c.args.page c.in-Ok.cuts (c.in-Ok.ensures.found tells) c.in-Ok.ensures.spells
