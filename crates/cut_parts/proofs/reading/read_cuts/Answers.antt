use Rattle.std.proofs.Common.{◌≡◌, List, Err, sym, ap, subst}
use Rattle.ports.specs.Pages.{PageMap}
use Rattle.ports.specs.declared.page.PageFault.{PageFault}
use Rattle.ports.specs.declared.page.PageFault.TheVariants.{Damaged}
use Rattle.page_layout.specs.declared.cut_page.CutNode.{CutNode}
use Rattle.cut_parts.specs.Spelling.{HoldsCuts}
use Rattle.cut_parts.specs.Nodes.{AreNodes}
use Rattle.cut_parts.proofs.Held.{AreSoMany, cuts_are_nodes, cuts_held, no_cuts_held, so_many_nodes}
use Rattle.cut_parts.proofs.reading.read_cuts.Goals as goal

pub returns-in-Err-clause-damaged : goal.returns-in-Err-clause-damaged
returns-in-Err-clause-damaged g c = λ p is_fault.
    let same : c.in-Err.fault ≡ Damaged p = cc in
    let told = c.in-Err.ensures.damaged p (ap (λ (fault : PageFault). Err fault) same) in
    (told.0, λ tells nodes held. no_cuts_held (g.P.Pages.map c.args.pages.now) c.args.page nodes (told.1 tells) held)

pub returns-in-Ok-clause-found : goal.returns-in-Ok-clause-found
returns-in-Ok-clause-found g c = λ tells.
    let m : PageMap = g.P.Pages.map c.args.pages.now in
    subst (λ (ns : List CutNode). HoldsCuts m c.args.page ns) (sym c.fill.ensures) (cuts_held m c.args.page c.in-Ok.view (c.in-Ok.ensures.found tells) c.in-Ok.ensures.spells)

pub returns-in-Ok-clause-nodes : goal.returns-in-Ok-clause-nodes
returns-in-Ok-clause-nodes g c =
    subst AreNodes (sym c.fill.ensures) (cuts_are_nodes c.in-Ok.view c.in-Ok.ensures.spells.rules c.in-Ok.ensures.spells.typed)

pub returns-in-Ok-clause-many : goal.returns-in-Ok-clause-many
returns-in-Ok-clause-many g c = subst AreSoMany (sym c.fill.ensures) (so_many_nodes c.in-Ok.view c.in-Ok.ensures.spells.rules)
