use Rattle.std.proofs.Common.{ℕ, refl, slice_index, arith}
use Rattle.grid_report.specs.Corners.{corner_line}
use Rattle.grid_report.proofs.CornerNumbers.{lines-within, number-next, number-none}
use Rattle.grid_report.proofs.sums.corner_number.Goals as goal

pub loop-i-init : goal.loop-i-init
loop-i-init c = number-none (λ i. slice_index c.args.lines.now i) (λ i. corner_line c.args.subset i (slice_index c.args.cell.now i))

pub overflow_mul-number : goal.overflow_mul-number
overflow_mul-number c =
    let n = λ (i : ℕ). slice_index c.args.lines.now i in
    let cell = λ (i : ℕ). slice_index c.args.cell.now i in
    let index = λ (i : ℕ). corner_line c.args.subset i (cell i) in
    let next = number-next n index c.args.dims c.loop-i.i c.loop-i.number (index c.loop-i.i) (lines-within c.args.dims c.args.subset n cell c.requires.within) (omega arith) refl c.loop-i.invariant in
    record { fits = omega (arith, next.1, c.requires.few) }

pub overflow_add-number : goal.overflow_add-number
overflow_add-number c =
    let n = λ (i : ℕ). slice_index c.args.lines.now i in
    let cell = λ (i : ℕ). slice_index c.args.cell.now i in
    let index = λ (i : ℕ). corner_line c.args.subset i (cell i) in
    let next = number-next n index c.args.dims c.loop-i.i c.loop-i.number c.corner_line.result (lines-within c.args.dims c.args.subset n cell c.requires.within) (omega arith) c.corner_line.ensures c.loop-i.invariant in
    record { fits = omega (arith, next.1, c.requires.few) }

pub loop-i-preserved : goal.loop-i-preserved
loop-i-preserved c =
    let n = λ (i : ℕ). slice_index c.args.lines.now i in
    let cell = λ (i : ℕ). slice_index c.args.cell.now i in
    let index = λ (i : ℕ). corner_line c.args.subset i (cell i) in
    (number-next n index c.args.dims c.loop-i.i c.loop-i.number c.corner_line.result (lines-within c.args.dims c.args.subset n cell c.requires.within) (omega arith) c.corner_line.ensures c.loop-i.invariant).0
