-- The word, the object and the line feed.
use Rattle.std.specs.Prelude.{codes}
use Rattle.history_text.specs.Rows.{object_text}
use Rattle.history_text.proofs.Gathered.{failed_gives, gave_then, gives_then, stopped_more, stopped_then}
use Rattle.history_text.proofs.printing.put_change.Goals as goal

pub returns-in_err-put_piece : goal.returns-in_err-put_piece
returns-in_err-put_piece g c =
    failed_gives c.from_residual.result c.from_residual.ensures.0
    (stopped_more (stopped_more c.in_err-put_piece.ensures (object_text c.args.params.now c.args.object.now)) (codes "\n"))

pub returns-in_err-put_object : goal.returns-in_err-put_object
returns-in_err-put_object g c =
    failed_gives c.from_residual-in_err-put_object.result c.from_residual-in_err-put_object.ensures.0
    (stopped_more (stopped_then c.in_ok-put_piece.ensures c.in_err-put_object.ensures) (codes "\n"))

pub returns : goal.returns
returns g c = gives_then c.put_piece-2.result _ _ (gave_then c.in_ok-put_piece.ensures c.in_ok-put_object.ensures) c.put_piece-2.ensures
