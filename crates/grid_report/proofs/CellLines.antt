-- The lines of all cells, number by number.
use Rattle.std.proofs.Common.{◌≡◌, ℕ, ◌+◌, ◌≤◌, List, length, map, min, get_or, sym, ap, ◌∙◌, ℤ, pos, slice_index, arith}
use Rattle.std.proofs.lemmas.List.Folds.{flat_map-map}
use Rattle.std.specs.List.{flat_map, range_with_len, zip}
use Rattle.bw_types.specs.declared.params.Params.{Params}
use Rattle.grid_report.specs.Grids.{cell_count, cells_of}
use Rattle.grid_report.specs.GridReplies.{cell_text, cells_text}
use Rattle.grid_report.specs.Indexes.{indexes_of}
use Rattle.grid_report.specs.declared.asked.Grid.{Grid}
use Rattle.grid_report.proofs.InOrder.{lists-in-order}
use Rattle.grid_report.proofs.Maps.{flat_map-same}
use Rattle.grid_report.proofs.Pieces.{pair_at, zip-range}

-- the line of the cell with a number
abbrev pub cell_at : Params → Grid → List ℤ → ℕ → List ℕ
cell_at params g values q = cell_text (indexes_of params.dims (λ i. slice_index g.cells i) q) (get_or values q (pos 0))

pub all-cells : (params : Params) (g : Grid) (values : List ℤ) → params.dims ≤ length g.cells
    → flat_map (cell_at params g values) (range_with_len 0 (min (cell_count params g) (length values))) ≡ cells_text (cells_of params g) values
all-cells params g values h =
    let at = indexes_of params.dims (λ i. slice_index g.cells i) in
    let line = λ (p : List ℕ × ℤ). cell_text p.0 p.1 in
    let pairs : zip (cells_of params g) values ≡ map (pair_at at 0 values (pos 0)) (range_with_len 0 (min (cell_count params g) (length values))) =
    ap (λ cells. zip cells values) (lists-in-order params.dims g.cells h) ∙ zip-range at 0 (cell_count params g) values (pos 0) in
    sym (ap (flat_map line) pairs
    ∙ flat_map-map line (pair_at at 0 values (pos 0)) (range_with_len 0 (min (cell_count params g) (length values)))
    ∙ flat_map-same (λ q. line (pair_at at 0 values (pos 0) q)) (cell_at params g values) (λ q. let same : 0 + q ≡ q = omega arith in ap (λ k. cell_text (at k) (get_or values q (pos 0))) same) (range_with_len 0 (min (cell_count params g) (length values))))
