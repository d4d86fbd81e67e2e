use Rattle.std.proofs.Common.{rules, Ok, None, get_or, ap, sym, ◌∙◌, subst}
use Rattle.std.proofs.lemmas.List.Elements.{All-get_or}
use Rattle.ports.specs.Pages.{PageMap}
use Rattle.key_check.specs.Levels.{Leaves, StandsThere, total_there}
use Rattle.key_check.specs.declared.leveled.Leveled.{Leveled}
use Rattle.key_check.proofs.Descending.{leaves_all, leaves_more}
use Rattle.key_check.proofs.piece_walk.walk_pieces.Goals as goal

abbrev none : Leveled
none = record { level = 0; piece = record { page = 0; from = 0; to = 0; low = 0; high = None; least = 0 } }

pub loop-l-preserved : goal.loop-l-preserved
loop-l-preserved g c =
    let m : PageMap = g.P.Pages.map c.args.pages.now in
    let l : Leveled = get_or c.args.pieces.now c.loop-l.l-index none in
    let read = c.loop-l.invariant.read in
    record {
      whole = λ w. c.in_ok-walk_piece.ensures.whole (ap Ok c.if-not-branch.false) (c.loop-l.invariant.whole w);
      leaves = λ tells. leaves_more m c.args.nodes.now c.args.pieces.now c.args.below.now.items c.loop-l.below.items c.walk_piece.new.below.items
          c.args.corners.now.items c.loop-l.corners.items c.walk_piece.new.corners.items c.loop-l.l-index none c.loop-l-test.true (c.loop-l.invariant.leaves tells)
          (subst (λ (x : PageMap). Leaves (StandsThere x c.args.nodes.now l) (total_there x l) x c.args.nodes.now c.loop-l.below.items c.walk_piece.new.below.items c.loop-l.corners.items c.walk_piece.new.corners.items) read.map
          (c.in_ok-walk_piece.ensures.leaves (ap Ok c.if-not-branch.false) (read.tells ∙ tells)));
      read = search rules;
    }

pub returns-clause-leaves : goal.returns-clause-leaves
returns-clause-leaves g c = λ _ tells.
    leaves_all (g.P.Pages.map c.args.pages.now) c.args.nodes.now c.args.pieces.now c.args.below.now.items c.loop-l.below.items c.args.corners.now.items c.loop-l.corners.items c.loop-l.l-index
    c.loop-l-test.false (c.loop-l.invariant.leaves tells)

pub returns-then-not-branch-clause-refused : goal.returns-then-not-branch-clause-refused
returns-then-not-branch-clause-refused g c = λ _ tells s.
    let m : PageMap = g.P.Pages.map c.args.pages.now in
    let l : Leveled = get_or c.args.pieces.now c.loop-l.l-index none in
    let read = c.loop-l.invariant.read in
    c.in_ok-walk_piece.ensures.refused (ap Ok c.if-not-branch.true) (read.tells ∙ tells)
    (subst (λ (x : PageMap). StandsThere x c.args.nodes.now l) (sym read.map) (All-get_or (StandsThere m c.args.nodes.now) c.args.pieces.now c.loop-l.l-index none c.loop-l-test.true s))
