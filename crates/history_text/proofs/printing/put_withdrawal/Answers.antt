-- The word, the id and the line feed.
use Rattle.std.specs.Prelude.{◌++◌, codes}
use Rattle.std.specs.Fmt.{decimal}
use Rattle.history_text.proofs.Gathered.{failed_gives, gave_then, gives_then, stopped_more, stopped_then}
use Rattle.history_text.proofs.printing.put_withdrawal.Goals as goal

pub returns-in_err-put_piece : goal.returns-in_err-put_piece
returns-in_err-put_piece g c =
    failed_gives c.from_residual.result c.from_residual.ensures.0 (stopped_more c.in_err-put_piece.ensures (decimal c.args.id ++ codes "\n"))

pub returns-in_err-put_id : goal.returns-in_err-put_id
returns-in_err-put_id g c =
    failed_gives c.from_residual-in_err-put_id.result c.from_residual-in_err-put_id.ensures.0
    (stopped_more (stopped_then c.in_ok-put_piece.ensures c.in_err-put_id.ensures) (codes "\n"))

pub returns : goal.returns
returns g c = gives_then c.put_piece-2.result _ _ (gave_then c.in_ok-put_piece.ensures c.in_ok-put_id.ensures) c.put_piece-2.ensures
