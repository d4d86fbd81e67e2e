-- The corners of a grid, and what they give each of its cells.
use Rattle.std.specs.Prelude.{ℕ, ◌+◌, ◌^◌, if◌then◌else◌, List, map, take, ℤ, slice_index}
use Rattle.bw_types.specs.Residues.{signed_of}
use Rattle.bw_types.specs.declared.params.Params.{Params}
use Rattle.corner_weights.specs.Corners.{of_first_dimensions}
use Rattle.corner_weights.specs.Subsets.{is_in_subset, residue_signed_by}
use Rattle.corner_weights.specs.Sums.{residue_sum_below}
use Rattle.corner_weights.specs.Integrals.{query_corner}
use Rattle.grid_report.specs.Grids.{cell_query, line_at, lists_below}
use Rattle.grid_report.specs.declared.asked.Grid.{Grid}

-- the corners, each by the number of its line in each dimension
abbrev pub corners_of : Params → Grid → List (List ℕ)
corners_of params g = lists_below (map (λ n. n + 1) (take params.dims g.cells))

-- the corner in stored numbers, 0 past the dimensions
abbrev pub corner_at : Params → Grid → List ℕ → List ℕ
corner_at params g ks = of_first_dimensions params.dims (λ i. line_at g i (slice_index ks i))

-- the line of a cell's corner: the low end in the subset, the high end elsewhere
abbrev pub corner_line : ℕ → ℕ → ℕ → ℕ
corner_line subset i j = if is_in_subset i subset then j else j + 1

-- the signed number that the residues at the corners of a cell's box come to, each with the sign of its subset
abbrev pub value_by_corners : (List ℕ → ℕ) → Params → Grid → List ℕ → ℤ
value_by_corners below params g js = signed_of (residue_sum_below (2 ^ params.dims) (λ subset. residue_signed_by subset (below (query_corner (cell_query params g js) subset))))
