-- Grids of cells, and the integrals over them.
use Rattle.std.specs.Prelude.{ℕ, ◌+◌, ◌*◌, Bool, ◌&&◌, nat_le, List, [], ◌∷◌, map, take, is_some, ℤ, slice_index}
use Rattle.std.specs.List.{flat_map, range_with_len}
use Rattle.bw_types.specs.Answers.{integral_at}
use Rattle.bw_types.specs.Fits.{greatest_number}
use Rattle.bw_types.specs.History.{History}
use Rattle.bw_types.specs.Tally.{each_below, product_below}
use Rattle.bw_types.specs.declared.params.Params.{Params}
use Rattle.bw_types.specs.declared.query.Kind.TheVariants.{Integral}
use Rattle.bw_types.specs.declared.query.Query.{Query}
use Rattle.corner_weights.specs.Corners.{of_first_dimensions}
use Rattle.grid_report.specs.declared.asked.Grid.{Grid}

-- the stored number at which line k of the grid stands in dimension i: a cell lies between two lines
abbrev pub line_at : Grid → ℕ → ℕ → ℕ
line_at g i k = slice_index g.low i + slice_index g.step i * k

-- how many cells the grid has, and how many corners: one more in each dimension
abbrev pub cell_count : Params → Grid → ℕ
cell_count params g = product_below params.dims (λ i. slice_index g.cells i)

abbrev pub grid_corners : Params → Grid → ℕ
grid_corners params g = product_below params.dims (λ i. slice_index g.cells i + 1)

-- the most corners of a grid
abbrev pub most_corners : ℕ
most_corners = 4096

-- The grid keeps the rules: there is a degree, a cell and a step at least in each dimension, the last line is in range, and the corners are
-- not too many.
abbrev pub grid_fits : Params → Grid → Bool
grid_fits params g =
    is_some params.degree
    && each_below params.dims (λ i. nat_le 1 (slice_index g.step i) && nat_le 1 (slice_index g.cells i) && nat_le (line_at g i (slice_index g.cells i)) (greatest_number params))
    && nat_le (grid_corners params g) most_corners

-- all lists of numbers that are below those of a list, the last number running fastest
abbrev pub lists_below : List ℕ → List (List ℕ)
lists_below [] = [] ∷ []
lists_below (n ∷ ns) = flat_map (λ j. map (λ js. j ∷ js) (lists_below ns)) (range_with_len 0 n)

-- the cells, each by its index in each dimension
abbrev pub cells_of : Params → Grid → List (List ℕ)
cells_of params g = lists_below (take params.dims g.cells)

-- the box of a cell, as an integral over it is asked
abbrev pub cell_query : Params → Grid → List ℕ → Query
cell_query params g js = record {
  kind = Integral;
  low = of_first_dimensions params.dims (λ i. line_at g i (slice_index js i));
  high = of_first_dimensions params.dims (λ i. line_at g i (slice_index js i + 1));
}

-- the integral over each cell at a version
abbrev pub grid_integrals : Params → History → ℕ → Grid → List ℤ
grid_integrals params h version g = map (λ js. integral_at params h version (cell_query params g js)) (cells_of params g)
