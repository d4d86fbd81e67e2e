use Rattle.std.proofs.Common.{List, [], None, subst}
use Rattle.std.proofs.lemmas.List.{take_all}
use Rattle.std.proofs.lemmas.List.Elements.{All-get_or}
use Rattle.key_check.specs.Levels.{IsWhole, PiecesStand, Pushes, pieces_total}
use Rattle.key_check.specs.declared.leveled.Leveled.{Leveled}
use Rattle.key_check.proofs.Pushing.{so_far}
use Rattle.key_check.proofs.merging.merge_in_order.Goals as goal

abbrev none : Leveled
none = record { level = 0; piece = record { page = 0; from = 0; to = 0; low = 0; high = None; least = 0 } }

pub loop-l-preserved : goal.loop-l-preserved
loop-l-preserved c = λ level w.
    let i = c.loop-l.invariant level w in
    let p = c.in_ok-put_piece.ensures level i.0 (All-get_or (IsWhole level) c.args.pieces.now c.loop-l.l-index none c.loop-l-test.true w) in
    (p.0, λ m nodes. so_far m nodes c.args.pieces.now [] c.loop-l.merged.items c.put_piece.new.merged.items c.loop-l.l-index none c.loop-l-test.true (i.1 m nodes) (p.1 m nodes))

pub returns : goal.returns
returns c = λ level w.
    let i = c.loop-l.invariant level w in
    (i.0, λ m nodes. subst (λ (xs : List Leveled). Pushes (PiecesStand m nodes xs) (pieces_total m xs) m nodes [] c.loop-l.merged.items) (take_all c.loop-l.l-index c.args.pieces.now c.loop-l-test.false) (i.1 m nodes))
