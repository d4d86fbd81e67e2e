use Rattle.std.proofs.Common.{Ok, ap, sym, ◌∙◌, subst}
use Rattle.ports.specs.Pages.{PageMap}
use Rattle.key_check.specs.Cells.{Adds}
use Rattle.key_check.specs.Levels.{PiecesStand, pieces_total}
use Rattle.key_check.proofs.RootPieces.{roots_add, roots_found}
use Rattle.key_check.proofs.roots.walk_roots.Goals as goal

pub returns-clause-stands : goal.returns-clause-stands
returns-clause-stands g c = λ done tells a.
    let m : PageMap = g.P.Pages.map c.args.pages.now in
    let nodes = c.args.nodes.now in
    let rooted = c.in-Some.rooted.items in
    let read = c.in_ok-rooted.ensures.reads.read in
    let p = c.in_ok-rooted.ensures.pushes c.in-Some.rooted (ap Ok c.in-Some.is) tells a nodes in
    (roots_found m nodes c.args.count c.args.steps.now rooted p).0 (subst (λ (x : PageMap). PiecesStand x nodes rooted) read.map (c.walk_levels.ensures.stands done (read.tells ∙ tells)))

pub returns-clause-totals : goal.returns-clause-totals
returns-clause-totals g c = λ done tells a.
    let m : PageMap = g.P.Pages.map c.args.pages.now in
    let nodes = c.args.nodes.now in
    let rooted = c.in-Some.rooted.items in
    let read = c.in_ok-rooted.ensures.reads.read in
    let p = c.in_ok-rooted.ensures.pushes c.in-Some.rooted (ap Ok c.in-Some.is) tells a nodes in
    roots_add m nodes c.args.count c.args.steps.now rooted c.args.corners.now.items c.walk_levels.new.corners.items p
    (subst (λ (x : PageMap). Adds (pieces_total x rooted) c.args.corners.now.items c.walk_levels.new.corners.items) read.map (c.walk_levels.ensures.totals done (read.tells ∙ tells)))

pub returns-clause-refused : goal.returns-clause-refused
returns-clause-refused g c = λ done tells a keeps.
    let m : PageMap = g.P.Pages.map c.args.pages.now in
    let nodes = c.args.nodes.now in
    let rooted = c.in-Some.rooted.items in
    let read = c.in_ok-rooted.ensures.reads.read in
    let p = c.in_ok-rooted.ensures.pushes c.in-Some.rooted (ap Ok c.in-Some.is) tells a nodes in
    c.walk_levels.ensures.refused done (read.tells ∙ tells)
    (subst (λ (x : PageMap). PiecesStand x nodes rooted) (sym read.map) ((roots_found m nodes c.args.count c.args.steps.now rooted p).1 keeps))
