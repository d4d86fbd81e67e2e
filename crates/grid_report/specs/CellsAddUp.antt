-- The cells of a grid fill the box between its first lines and its last ones.
use Rattle.std.specs.Prelude.{◌≡◌, ℕ, ◌≤◌, length, slice_index}
use Rattle.bw_types.specs.Answers.{integral_at}
use Rattle.bw_types.specs.History.{History}
use Rattle.bw_types.specs.Tally.{int_sum_by}
use Rattle.bw_types.specs.declared.params.Params.{Params}
use Rattle.bw_types.specs.declared.query.Kind.TheVariants.{Integral}
use Rattle.bw_types.specs.declared.query.Query.{Query}
use Rattle.corner_weights.specs.Corners.{of_first_dimensions}
use Rattle.grid_report.specs.Grids.{line_at, grid_integrals}
use Rattle.grid_report.specs.declared.asked.Grid.{Grid}

-- the box of the whole grid, from the first line to the last one in each dimension, as an integral over it is asked
abbrev pub grid_query : Params → Grid → Query
grid_query params g = record {
  kind = Integral;
  low = of_first_dimensions params.dims (λ i. line_at g i 0);
  high = of_first_dimensions params.dims (λ i. line_at g i (slice_index g.cells i));
}

-- The integrals over the cells add up to the integral over the whole grid. It takes no more than a number of cells for each dimension:
-- a step or a number of cells may be 0, and lines may be out of range.
abbrev pub CellsAddUp : Type 0
CellsAddUp = (params : Params) (h : History) (version : ℕ) (g : Grid) → params.dims ≤ length g.cells
    → int_sum_by (λ x. x) (grid_integrals params h version g) ≡ integral_at params h version (grid_query params g)
