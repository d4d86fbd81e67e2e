use Rattle.std.proofs.Common.{◌∙◌, ◌<◌, [], List, ℕ, sym, subst, arith}
use Rattle.ports.specs.Frame.{AreInMap, Replaces}
use Rattle.ports.specs.Pages.{PageMap}
use Rattle.page_layout.specs.Footprint.{NamesNoneTwice}
use Rattle.cut_parts.proofs.Trees.{own_pages}
use Rattle.ba_tree.proofs.Cuts.{counted_has_part}
use Rattle.ba_tree.proofs.Gone.{there_pages}
use Rattle.ba_tree.proofs.dropping.drop_tree.Goals as goal

pub returns-in-Err-clause-sound : goal.returns-in-Err-clause-sound
returns-in-Err-clause-sound g c = λ points page tells stands e.
    let b = g.B.BorderTree in
    let m : PageMap = g.S.Pages.map c.args.stage.now in
    let some : 0 < c.args.tree.now.count = omega (arith, c.if-tree-eq0.false) in
    let k = counted_has_part b m c.args.tree.now points some stands in
    let pages = own_pages b m c.args.tree.now points k.0 some k.1 in
    c.drop_page.ensures.sound k.0 page tells k.1.begins k.1.stood (subst NamesNoneTwice pages stands.once) (c.in-Err.is ∙ e)

pub returns-in-Ok-clause-dropped : goal.returns-in-Ok-clause-dropped
returns-in-Ok-clause-dropped g c = λ tells points stands.
    let b = g.B.BorderTree in
    let m : PageMap = g.S.Pages.map c.args.stage.now in
    let some : 0 < c.args.tree.now.count = omega (arith, c.if-tree-eq0.false) in
    let k = counted_has_part b m c.args.tree.now points some stands in
    let pages = own_pages b m c.args.tree.now points k.0 some k.1 in
    subst (λ (ps : List ℕ). Replaces ps [] m (g.S.Pages.map c.drop_page.new.stage)) (sym pages)
    (c.in-Ok.ensures.dropped tells k.0 k.1.begins k.1.stood (subst NamesNoneTwice pages stands.once))

pub returns-in-Err-clause-damaged : goal.returns-in-Err-clause-damaged
returns-in-Err-clause-damaged g c = λ page e tells first freed lost.
    (omega (arith, c.if-tree-eq0.false), c.drop_page.ensures.damaged page (c.in-Err.is ∙ e) tells first freed lost)

pub returns-in-Ok-clause-gone : goal.returns-in-Ok-clause-gone
returns-in-Ok-clause-gone g c = λ tells first freed lost.
    let b = g.B.BorderTree in
    let m : PageMap = g.S.Pages.map c.args.stage.now in
    let tree = c.args.tree.now in
    let k = c.in-Ok.ensures.gone tells first freed lost in
    let pages = there_pages b first tree (omega (arith, c.if-tree-eq0.false)) k.is in (
      subst (λ (ps : List ℕ). AreInMap m ps) (sym pages) k.there,
      subst (λ (ps : List ℕ). Replaces ps [] m (g.S.Pages.map c.drop_page.new.stage)) (sym pages) k.change,
    )

pub returns-in-Ok-clause-there : goal.returns-in-Ok-clause-there
returns-in-Ok-clause-there g c = λ tells first freed lost some. c.in-Ok.ensures.gone tells first freed lost
