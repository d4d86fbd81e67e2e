use Rattle.std.proofs.Common.{SFits, rules, to_z-of_z, ◌≡◌, ◌+◌, ◌<◌, ◌≤◌, ◌∙◌, ℕ, length, map, ap, slice_index, arith}
use Rattle.std.specs.Int.{w128}
use Rattle.std.specs.List.{range_with_len}
use Rattle.grid_report.specs.Grids.{cell_count}
use Rattle.grid_report.specs.Indexes.{indexes_of}
use Rattle.grid_report.proofs.CellSums.{cell-within, corner-count, value-taken, value_by_numbers, values-are}
use Rattle.grid_report.proofs.Fitting.{fitted}
use Rattle.grid_report.proofs.Maps.{range-more}
use Rattle.grid_report.proofs.Products.{product-order}
use Rattle.grid_report.proofs.sums.cell_values.Goals as goal

pub overflow_cast-number-end : goal.overflow_cast-number-end
overflow_cast-number-end c =
    let p = c.args.params.now in
    let g = c.args.grid.now in
    let few = (fitted p g c.requires.fits).corners in
    let fewer = product-order (λ i. slice_index g.cells i) (λ i. slice_index g.cells i + 1) p.dims (λ k. omega arith) in
    record { fits = omega (arith, few, fewer, c.element_count-number-end.ensures) }

pub cell_value-requires : goal.cell_value-requires
cell_value-requires c =
    let p = c.args.params.now in
    let g = c.args.grid.now in
    let lines = c.line_counts-lines.result in
    let room : p.dims ≤ length g.cells = omega arith in
    let below : c.loop-number.number < cell_count p g = omega (arith, c.element_count-number-end.ensures) in
    record {
      dims = omega arith;
      within = cell-within p g lines room c.line_counts-lines.ensures c.indexes-cell.result c.loop-number.number below c.indexes-cell.ensures;
      all = c.requires.all ∙ corner-count p g lines room c.line_counts-lines.ensures;
    }

pub loop-number-preserved : goal.loop-number-preserved
loop-number-preserved c =
    let p = c.args.params.now in
    let g = c.args.grid.now in
    let lines = c.line_counts-lines.result in
    let corners = c.args.corners.now in
    let value = λ (q : ℕ). value_by_numbers p.dims lines corners (indexes_of p.dims (λ i. slice_index g.cells i) q) in
    let here : c.cell_value.result ≡ value c.loop-number.number =
    c.cell_value.ensures ∙ value-taken p.dims lines corners c.indexes-cell.result ∙ ap (value_by_numbers p.dims lines corners) c.indexes-cell.ensures in
    let fits : SFits w128 c.cell_value.result = search rules in
    range-more value c.loop-number.number c.loop-number.values.items c.push.new.self.items _ c.loop-number.invariant (to_z-of_z fits ∙ here) c.in_ok-push.ensures.items

pub returns : goal.returns
returns c = λ below all.
    let p = c.args.params.now in
    let g = c.args.grid.now in
    let lines = c.line_counts-lines.result in
    let corners = c.args.corners.now in
    let value = λ (q : ℕ). value_by_numbers p.dims lines corners (indexes_of p.dims (λ i. slice_index g.cells i) q) in
    let room : p.dims ≤ length g.cells = omega arith in
    let end : c.loop-number.number ≡ cell_count p g = omega (arith, c.element_count-number-end.ensures) in
    c.loop-number.invariant ∙ ap (λ n. map value (range_with_len 0 n)) end ∙ values-are p g lines room c.line_counts-lines.ensures corners below all
