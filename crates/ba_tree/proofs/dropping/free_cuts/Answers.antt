use Rattle.std.proofs.Common.{◌≡◌, ap, sym, Err, ◌∙◌}
use Rattle.ports.specs.declared.page.PageFault.{PageFault}
use Rattle.ba_tree.proofs.dropping.free_cuts.Goals as goal

pub returns-in-Err-Damaged-clause-sound : goal.returns-in-Err-Damaged-clause-sound
returns-in-Err-Damaged-clause-sound g c = λ nodes damaged tells holds e.
    let why = c.read_cuts.ensures.damaged c.in-Err-Damaged.damaged (c.in-Err-Damaged.is ∙ ap (λ (fault : PageFault). Err fault) c.in-Err-Damaged.field-0-is) in
    why.1 tells nodes holds

pub returns-in-Err-Damaged-clause-damaged : goal.returns-in-Err-Damaged-clause-damaged
returns-in-Err-Damaged-clause-damaged g c = λ damaged e.
    let why = c.read_cuts.ensures.damaged c.in-Err-Damaged.damaged (c.in-Err-Damaged.is ∙ ap (λ (fault : PageFault). Err fault) c.in-Err-Damaged.field-0-is) in
    let same : damaged ≡ c.args.page = (let is : c.in-Err-Damaged.damaged ≡ damaged = cc in sym is ∙ why.0) in
    (same, why.1)
