use Rattle.std.proofs.Common.{arith, ◌≡◌, List, Ok, ap, sym, ◌∙◌, subst}
use Rattle.ports.specs.Pages.{PageMap}
use Rattle.page_layout.specs.declared.mv_node.MvEntry.{MvEntry}
use Rattle.mvsb_tree.specs.Steps.{entries_on}
use Rattle.key_check.specs.Cells.{NodeStandsThroughout}
use Rattle.key_check.specs.Levels.{StandsThere, total_there}
use Rattle.key_check.specs.Pieces.{StandsThroughout}
use Rattle.key_check.proofs.Descending.{leaves_index, leaves_leaf, leaves_pushed, lower, node_there}
use Rattle.key_check.proofs.PieceNodes.{node_entries}
use Rattle.key_check.proofs.Pushing.{pushes_one, whole_one}
use Rattle.key_check.proofs.piece_walk.walk_piece.Goals as goal

pub returns-then-l-level-clause-leaves : goal.returns-then-l-level-clause-leaves
returns-then-l-level-clause-leaves g c = λ _ tells.
    let m : PageMap = g.P.Pages.map c.args.pages.now in
    let l = c.args.l in
    leaves_pushed m c.args.nodes.now (StandsThere m c.args.nodes.now l) (total_there m l) c.args.below.now.items c.push_leveled.new.pieces.items c.args.corners.now.items
    (pushes_one m c.args.nodes.now c.args.below.now.items c.push_leveled.new.pieces.items l c.in_ok-push_leveled.ensures.items)

pub returns-in_default-clause-refused : goal.returns-in_default-clause-refused
returns-in_default-clause-refused g c = λ _ tells s.
    let m : PageMap = g.P.Pages.map c.args.pages.now in
    c.in_ok-node.ensures.none (ap Ok c.in_default.is) tells (node_there m c.args.nodes.now c.args.level c.args.l c.if-l-level.false c.requires.whole s)

pub returns-then-level-eq1-clause-leaves : goal.returns-then-level-eq1-clause-leaves
returns-then-level-eq1-clause-leaves g c = λ _ tells.
    let m : PageMap = g.P.Pages.map c.args.pages.now in
    let l = c.args.l in
    let es : List MvEntry = c.as_slice-entries.result.now in
    let head = c.in_ok-node.ensures.some c.in-Some.node (ap Ok c.in-Some.is) tells in
    let on : entries_on m l.piece.page ≡ es = node_entries m l.piece.page c.in-Some.node es head.1 c.as_slice-entries.ensures.value in
    leaves_leaf m c.args.nodes.now l es c.args.below.now.items c.args.corners.now.items c.push_entries.new.corners.items (c.if-l-level.false ∙ c.if-level-eq1.true) on
    (subst (λ n. NodeStandsThroughout n m c.args.nodes.now l.piece) c.if-level-eq1.true head.0) c.in_ok-push_entries.ensures

pub returns-clause-leaves : goal.returns-clause-leaves
returns-clause-leaves g c = λ _ tells.
    let m : PageMap = g.P.Pages.map c.args.pages.now in
    let l = c.args.l in
    let es : List MvEntry = c.as_slice-entries.result.now in
    let head = c.in_ok-node.ensures.some c.in-Some.node (ap Ok c.in-Some.is) tells in
    let cut : StandsThroughout c.in-Some.node.entries.items l.piece = c.in_ok-node.ensures.cut c.in-Some.node (ap Ok c.in-Some.is) in
    let stands : StandsThroughout es l.piece = subst (λ (xs : List MvEntry). StandsThroughout xs l.piece) (sym c.as_slice-entries.ensures.value) cut in
    let on : entries_on m l.piece.page ≡ es = node_entries m l.piece.page c.in-Some.node es head.1 c.as_slice-entries.ensures.value in
    let some = c.requires.some in
    let more = c.if-level-eq1.false in
    leaves_index m c.args.nodes.now c.args.level l es c.args.below.now.items c.push_children.new.below.items c.args.corners.now.items c.push_entries.new.corners.items
    c.if-l-level.false (omega (arith, some, more)) c.requires.whole on stands head.0 c.in_ok-push_entries.ensures (c.in_ok-push_children.ensures.pushes m c.args.nodes.now)

pub returns-then-l-level-clause-whole : goal.returns-then-l-level-clause-whole
returns-then-l-level-clause-whole g c = λ _ w.
    whole_one _ c.args.below.now.items c.push_leveled.new.pieces.items c.args.l c.in_ok-push_leveled.ensures.items w (lower c.args.level c.args.l c.if-l-level.true c.requires.whole)
