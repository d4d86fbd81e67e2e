use Rattle.std.proofs.Common.{◌≡◌, ℕ, false, length, List, [], Ok, ap, sym, ◌∙◌, subst}
use Rattle.std.proofs.lemmas.Bool.{eq-eqb, false≢true}
use Rattle.ports.specs.Pages.{PageMap}
use Rattle.key_check.specs.Cells.{Adds}
use Rattle.key_check.specs.Levels.{AreWhole, PiecesStand, pieces_total}
use Rattle.key_check.specs.declared.leveled.Leveled.{Leveled}
use Rattle.key_check.proofs.Descending.{below_add, below_of, below_stand, none_left}
use Rattle.key_check.proofs.piece_walk.+walk_levels.Goals as goal

pub returns-then-level-eq0-clause-refused : goal.returns-then-level-eq0-clause-refused
returns-then-level-eq0-clause-refused g t c = λ done _ s.
    let m : PageMap = g.P.Pages.map c.args.pages.now in
    let pieces : List Leveled = c.args.pieces.items in
    let none : pieces ≡ [] = none_left m c.args.nodes.now pieces (subst (λ (n : ℕ). AreWhole n pieces) c.if-level-eq0.true c.requires.whole) s in
    let some : c.is_empty.result ≡ false = cc in
    false≢true (sym some ∙ c.is_empty.ensures ∙ eq-eqb _ 0 (c.args.pieces.ok.0 ∙ ap length none))

pub returns-clause-stands : goal.returns-clause-stands
returns-clause-stands g t c = λ done tells.
    let m : PageMap = g.P.Pages.map c.args.pages.now in
    let nodes = c.args.nodes.now in
    let below = c.in-Some.below.items in
    let read = c.in_ok-below.ensures.reads.read in
    let leaves = c.in_ok-below.ensures.leaves c.in-Some.below (ap Ok c.in-Some.is) tells in
    below_stand m nodes c.args.pieces.items below c.args.corners.now.items c.pieces_below.new.corners.items leaves
    (subst (λ (x : PageMap). PiecesStand x nodes below) read.map (c.walk_levels.ensures.stands done (read.tells ∙ tells)))

pub returns-clause-totals : goal.returns-clause-totals
returns-clause-totals g t c = λ done tells.
    let m : PageMap = g.P.Pages.map c.args.pages.now in
    let nodes = c.args.nodes.now in
    let below = c.in-Some.below.items in
    let read = c.in_ok-below.ensures.reads.read in
    let leaves = c.in_ok-below.ensures.leaves c.in-Some.below (ap Ok c.in-Some.is) tells in
    below_add m nodes c.args.pieces.items below c.args.corners.now.items c.pieces_below.new.corners.items c.walk_levels.new.corners.items leaves
    (subst (λ (x : PageMap). Adds (pieces_total x below) c.pieces_below.new.corners.items c.walk_levels.new.corners.items) read.map (c.walk_levels.ensures.totals done (read.tells ∙ tells)))

pub returns-clause-refused : goal.returns-clause-refused
returns-clause-refused g t c = λ done tells s.
    let m : PageMap = g.P.Pages.map c.args.pages.now in
    let nodes = c.args.nodes.now in
    let below = c.in-Some.below.items in
    let read = c.in_ok-below.ensures.reads.read in
    let leaves = c.in_ok-below.ensures.leaves c.in-Some.below (ap Ok c.in-Some.is) tells in
    c.walk_levels.ensures.refused done (read.tells ∙ tells)
    (subst (λ (x : PageMap). PiecesStand x nodes below) (sym read.map) (below_of m nodes c.args.pieces.items below c.args.corners.now.items c.pieces_below.new.corners.items leaves s))
