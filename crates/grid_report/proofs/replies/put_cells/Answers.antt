use Rattle.std.proofs.Common.{◌≡◌, ◌++◌, ◌∙◌, ◌≤◌, SFits, take, ap, ap₂, pos, slice_index, get_or, length, rules, arith, to_z-of_z, min}
use Rattle.std.specs.Int.{w128}
use Rattle.std.specs.List.{flat_map, range_with_len}
use Rattle.grid_report.specs.GridReplies.{cell_text}
use Rattle.grid_report.specs.Indexes.{indexes_of}
use Rattle.grid_report.proofs.CellLines.{all-cells, cell_at}
use Rattle.grid_report.proofs.Pieces.{number-more}
use Rattle.grid_report.proofs.replies.put_cells.Goals as goal

pub indexes-at-requires : goal.indexes-at-requires
indexes-at-requires c = record { dims = omega arith; number = omega (arith, c.element_count-count.ensures, c.min-number-end.ensures) }

pub loop-number-preserved : goal.loop-number-preserved
loop-number-preserved c =
    let p = c.args.params.now in
    let g = c.args.grid.now in
    let value = get_or c.args.values.now c.loop-number.number (pos 0) in
    let fits : SFits w128 value = search rules in
    let taken : take c.from.result c.indexes-at.result ≡ indexes_of p.dims (λ i. slice_index g.cells i) c.loop-number.number = ap (λ d. take d c.indexes-at.result) c.from.ensures ∙ c.indexes-at.ensures in
    number-more (cell_at p g c.args.values.now) c.loop-number.number c.args.text.now.items c.loop-number.text.items c.put_cell.new.text.items c.loop-number.invariant
    (c.in_ok-put_cell.ensures ∙ ap (λ t. c.loop-number.text.items ++ t) (ap₂ cell_text taken (to_z-of_z fits)))

pub returns : goal.returns
returns c =
    let p = c.args.params.now in
    let g = c.args.grid.now in
    let size : p.dims ≤ length g.cells = omega arith in
    let all : c.loop-number.number ≡ min c.element_count-count.result (length c.args.values.now) = omega (arith, c.min-number-end.ensures, c.loop-number.auto.number-end, c.loop-number-test.false) in
    c.loop-number.invariant
    ∙ ap (λ n. c.args.text.now.items ++ flat_map (cell_at p g c.args.values.now) (range_with_len 0 n)) (all ∙ ap (λ m. min m (length c.args.values.now)) c.element_count-count.ensures)
    ∙ ap (λ t. c.args.text.now.items ++ t) (all-cells p g c.args.values.now size)
