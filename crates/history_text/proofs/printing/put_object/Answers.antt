-- One field after the other.
use Rattle.std.proofs.Common.{ℕ, ap, take, rules, w64, FitsSigned}
use Rattle.std.proofs.lemmas.Int.{to_z-of_z}
use Rattle.std.specs.Fmt.{decimal}
use Rattle.std.specs.List.{flat_map, range_with_len}
use Rattle.bw_types.specs.Fits.{coefficient_count}
use Rattle.history_text.specs.Rows.{ends_text, field}
use Rattle.history_text.proofs.Gathered.{failed_gives, gave_same, gave_then, gives_same, gives_then, stopped_more, stopped_same, stopped_then}
use Rattle.history_text.proofs.printing.put_object.Goals as goal

pub returns-in_err-put_piece : goal.returns-in_err-put_piece
returns-in_err-put_piece g c =
    let o = c.args.object.now in
    failed_gives c.from_residual.result c.from_residual.ensures.0
    (stopped_more (stopped_more (stopped_more (stopped_more c.in_err-put_piece.ensures (decimal o.id))
    (flat_map (ends_text c.args.params.now o) (range_with_len 0 c.args.params.now.dims))) (field o.weight)) (flat_map field (take (coefficient_count c.args.params.now) o.coeffs)))

pub returns-in_err-put_id : goal.returns-in_err-put_id
returns-in_err-put_id g c =
    let o = c.args.object.now in
    failed_gives c.from_residual-in_err-put_id.result c.from_residual-in_err-put_id.ensures.0
    (stopped_more (stopped_more (stopped_more (stopped_then c.in_ok-put_piece.ensures c.in_err-put_id.ensures)
    (flat_map (ends_text c.args.params.now o) (range_with_len 0 c.args.params.now.dims))) (field o.weight)) (flat_map field (take (coefficient_count c.args.params.now) o.coeffs)))

pub returns-in_err-put_ends : goal.returns-in_err-put_ends
returns-in_err-put_ends g c =
    let o = c.args.object.now in
    failed_gives c.from_residual-in_err-put_ends.result c.from_residual-in_err-put_ends.ensures.0
    (stopped_more (stopped_more (stopped_then (gave_then c.in_ok-put_piece.ensures c.in_ok-put_id.ensures) c.in_err-put_ends.ensures)
    (field o.weight)) (flat_map field (take (coefficient_count c.args.params.now) o.coeffs)))

pub returns-in_err-put_field : goal.returns-in_err-put_field
returns-in_err-put_field g c =
    let o = c.args.object.now in
    let fits : FitsSigned w64 o.weight = search rules in
    failed_gives c.from_residual-in_err-put_field.result c.from_residual-in_err-put_field.ensures.0
    (stopped_more (stopped_then (gave_then (gave_then c.in_ok-put_piece.ensures c.in_ok-put_id.ensures) c.in_ok-put_ends.ensures)
    (stopped_same (ap field (to_z-of_z w64 o.weight fits)) c.in_err-put_field.ensures))
    (flat_map field (take (coefficient_count c.args.params.now) o.coeffs)))

pub returns : goal.returns
returns g c =
    let fits : FitsSigned w64 c.args.object.now.weight = search rules in
    gives_then c.put_fields.result _ _
    (gave_then (gave_then (gave_then c.in_ok-put_piece.ensures c.in_ok-put_id.ensures) c.in_ok-put_ends.ensures)
    (gave_same (ap field (to_z-of_z w64 c.args.object.now.weight fits)) c.in_ok-put_field.ensures))
    (gives_same c.put_fields.result _ _ (ap (λ (n : ℕ). flat_map field (take n c.args.object.now.coeffs)) c.coefficient_count.ensures.count) c.put_fields.ensures)
