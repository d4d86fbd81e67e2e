-- The two ends of one dimension after the other.
use Rattle.std.proofs.Common.{◌≡◌, ℕ, ◌+◌, ◌-◌, ◌<◌, ap, arith, get_or}
use Rattle.std.specs.List.{flat_map, range_with_len}
use Rattle.bw_types.specs.Fits.{coordinate}
use Rattle.history_text.specs.Rows.{ends_text, field}
use Rattle.history_text.proofs.FieldSteps.{texts_range}
use Rattle.history_text.proofs.Gathered.{amid_start, amid_step, amid_stopped, failed_gives, gave_then, stopped_more, stopped_then}
use Rattle.history_text.proofs.printing.put_ends.Goals as goal

pub loop-dimension-init : goal.loop-dimension-init
loop-dimension-init g c =
    let none : c.args.params.now.dims ≡ c.args.params.now.dims - 0 = omega arith in
    amid_start (ap (λ (n : ℕ). flat_map (ends_text c.args.params.now c.args.object.now) (range_with_len 0 n)) none)

pub returns-in_err-put_coordinate : goal.returns-in_err-put_coordinate
returns-in_err-put_coordinate g c =
    let i = c.loop-dimension.dimension in
    let below : i < c.args.params.now.dims = omega (arith, c.from-dimension-end.ensures, c.loop-dimension-test.true) in
    failed_gives c.from_residual.result c.from_residual.ensures.0
    (amid_stopped (flat_map (ends_text c.args.params.now c.args.object.now) (range_with_len (i + 1) (c.args.params.now.dims - (i + 1)))) c.loop-dimension.invariant
    (stopped_more c.in_err-put_coordinate.ensures (field (coordinate c.args.params.now (get_or c.args.object.now.high i 0))))
    (texts_range (ends_text c.args.params.now c.args.object.now) i c.args.params.now.dims below))

pub returns-in_err-put_coordinate-2 : goal.returns-in_err-put_coordinate-2
returns-in_err-put_coordinate-2 g c =
    let i = c.loop-dimension.dimension in
    let below : i < c.args.params.now.dims = omega (arith, c.from-dimension-end.ensures, c.loop-dimension-test.true) in
    failed_gives c.from_residual-in_err-put_coordinate-2.result c.from_residual-in_err-put_coordinate-2.ensures.0
    (amid_stopped (flat_map (ends_text c.args.params.now c.args.object.now) (range_with_len (i + 1) (c.args.params.now.dims - (i + 1)))) c.loop-dimension.invariant
    (stopped_then c.in_ok-put_coordinate.ensures c.in_err-put_coordinate-2.ensures)
    (texts_range (ends_text c.args.params.now c.args.object.now) i c.args.params.now.dims below))

pub loop-dimension-preserved : goal.loop-dimension-preserved
loop-dimension-preserved g c =
    let i = c.loop-dimension.dimension in
    let below : i < c.args.params.now.dims = omega (arith, c.from-dimension-end.ensures, c.loop-dimension-test.true) in
    amid_step (flat_map (ends_text c.args.params.now c.args.object.now) (range_with_len (i + 1) (c.args.params.now.dims - (i + 1)))) c.loop-dimension.invariant
    (gave_then c.in_ok-put_coordinate.ensures c.in_ok-put_coordinate-2.ensures)
    (texts_range (ends_text c.args.params.now c.args.object.now) i c.args.params.now.dims below)
