use Rattle.std.proofs.Common.{◌≡◌, List, [], Ok, ap, sym, subst}
use Rattle.std.specs.Global.{Vec}
use Rattle.std.proofs.lemmas.List.Elements.{All-nil}
use Rattle.ports.specs.Pages.{PageMap}
use Rattle.key_check.specs.Levels.{Leaves, PiecesStand, StandsThere, pieces_total}
use Rattle.key_check.specs.declared.leveled.Leveled.{Leveled}
use Rattle.key_check.proofs.Descending.{leaves_merged}
use Rattle.key_check.proofs.piece_walk.pieces_below.Goals as goal

pub returns-then-branch-clause-leaves : goal.returns-then-branch-clause-leaves
returns-then-branch-clause-leaves g c = λ below is tells.
    let m : PageMap = g.P.Pages.map c.args.pages.now in
    let nodes = c.args.nodes.now in
    let old = c.args.corners.now.items in
    let new = c.walk_pieces.new.corners.items in
    let e : c.walk_pieces.new.below ≡ below = cc in
    let p = c.in_ok-merged.ensures c.args.level c.requires.whole in
    let walked = c.in_ok-walk_pieces.ensures.leaves (ap Ok c.if-branch.true) tells in
    let named = subst (λ (xs : List Leveled). Leaves (PiecesStand m nodes xs) (pieces_total m xs) m nodes c.new-below.result.items c.walk_pieces.new.below.items old new) c.as_slice.ensures.value walked in
    let begun = subst (λ (xs : List Leveled). Leaves (PiecesStand m nodes c.in_ok-merged.merged.items) (pieces_total m c.in_ok-merged.merged.items) m nodes xs c.walk_pieces.new.below.items old new) c.new-below.ensures.items named in
    subst (λ (b : Vec Leveled). Leaves (PiecesStand m nodes c.args.pieces.items) (pieces_total m c.args.pieces.items) m nodes [] b.items old new) e
    (leaves_merged m nodes c.args.pieces.items c.in_ok-merged.merged.items c.walk_pieces.new.below.items old new (p.1 m nodes) begun)

pub returns-clause-refused : goal.returns-clause-refused
returns-clause-refused g c = λ _ tells s.
    let m : PageMap = g.P.Pages.map c.args.pages.now in
    let nodes = c.args.nodes.now in
    let p = c.in_ok-merged.ensures c.args.level c.requires.whole in
    c.in_ok-walk_pieces.ensures.refused (ap Ok c.if-branch.false) tells (subst (PiecesStand m nodes) (sym c.as_slice.ensures.value) ((p.1 m nodes).whole (All-nil (StandsThere m nodes)) s))
