-- The comma and then the number.
use Rattle.std.proofs.Common.{ap, ◌∙◌, w64}
use Rattle.std.proofs.lemmas.Int.{to_z-of_z}
use Rattle.std.specs.Fmt.{signed_decimal}
use Rattle.history_text.proofs.Gathered.{failed_gives, gives_same, gives_then, stopped_more}
use Rattle.history_text.proofs.printing.put_field.Goals as goal

pub returns-in_err-put_piece : goal.returns-in_err-put_piece
returns-in_err-put_piece g c = failed_gives c.from_residual.result c.from_residual.ensures.0 (stopped_more c.in_err-put_piece.ensures (signed_decimal c.args.number))

pub returns : goal.returns
returns g c = gives_then c.put_piece-2.result _ _ c.in_ok-put_piece.ensures
    (gives_same c.put_piece-2.result _ _ (c.as_bytes.ensures.value ∙ c.format.ensures.text ∙ ap signed_decimal (to_z-of_z w64 c.args.number c.ranges.number)) c.put_piece-2.ensures)
