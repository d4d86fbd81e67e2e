use Rattle.std.proofs.Common.{◌≡◌, ◌∷◌, [], ◌∙◌, ap, Err, subst, arith}
use Rattle.ports.specs.Pages.{PageMap}
use Rattle.ports.specs.declared.page.StageFault.{StageFault}
use Rattle.ports.specs.declared.page.StageFault.TheVariants.{Damaged}
use Rattle.page_layout.specs.declared.cut_page.CutNode.TheVariants.{Entry}
use Rattle.cut_parts.specs.Damage.{BeforePage}
use Rattle.cut_parts.specs.Reach.{LeadsFrom}
use Rattle.ba_tree.specs.Additions.{IsAddedAs, nodes_after}
use Rattle.ba_tree.specs.declared.change.Change.{Change}
use Rattle.ba_tree.proofs.Naming.{given_out, one_names}
use Rattle.ba_tree.proofs.Pieces.{new_home}
use Rattle.ba_tree.proofs.tree.root_add.Goals as goal

pub returns-in-Ok-clause-added : goal.returns-in-Ok-clause-added
returns-in-Ok-clause-added g c = λ tells part begins take.
    let b = g.B.BorderTree in
    let p = c.args.point.now in
    let m0 : PageMap = g.S.Pages.map c.args.stage.now in
    let m1 : PageMap = g.S.Pages.map c.page_add.new.stage in
    let up = c.in-Ok-Raised in
    let told = up.ensures.changes.went_on.tells ∙ tells in
    let made = c.in-Ok.ensures.made told in
    let grown : IsAddedAs b m0 m1 c.args.count part p (up.cut ∷ Entry up.low ∷ Entry up.high ∷ []) =
    subst (λ (change : Change). IsAddedAs b m0 m1 c.args.count part p (nodes_after change c.args.root)) up.field-0-is (up.ensures.added tells part begins take) in
    new_home b c.border_laws.ensures.laws m0 m1 (g.S.Pages.map c.new_root.new.stage) c.args.count c.in-Ok.first part p (up.cut ∷ Entry up.low ∷ Entry up.high ∷ []) (omega arith) grown made.0 made.1

pub returns-in-Err-clause-damaged : goal.returns-in-Err-clause-damaged
returns-in-Err-clause-damaged g c = λ damaged e tells.
    let is : c.in-Err.fault ≡ Damaged damaged = cc in
    c.page_add.ensures.damaged damaged (c.in-Err.is ∙ ap (λ (fault : StageFault). Err fault) is) tells

pub returns-in-Ok-clause-named : goal.returns-in-Ok-clause-named
returns-in-Ok-clause-named g c = λ tells some beside.
    let b = g.B.BorderTree in
    let m0 : PageMap = g.S.Pages.map c.args.stage.now in
    let m1 : PageMap = g.S.Pages.map c.page_add.new.stage in
    let up = c.in-Ok-Raised in
    let made = c.in-Ok.ensures.made (up.ensures.changes.went_on.tells ∙ tells) in
    absurd (given_out (LeadsFrom b c.args.point.now m0 c.args.count (BeforePage c.args.root)) m0 m1 (g.S.Pages.map c.new_root.new.stage) (c.in-Ok.first ∷ []) c.in-Ok.first
    (up.ensures.apart tells) made.1 (one_names c.in-Ok.first) some beside)
