-- The value of a cell by its corners, where these have the residues of the integrals below them, is the integral over the cell.
use Rattle.std.proofs.Common.{◌≡◌, ℕ, ◌+◌, ◌^◌, ◌<◌, ◌≤◌, List, length, map, sym, ap, ◌∙◌, ℤ, nat_abs, slice_index, arith}
use Rattle.std.proofs.lemmas.Int.{ints}
use Rattle.std.specs.List.{range_with_len}
use Rattle.bw_types.specs.Answers.{integral_at}
use Rattle.bw_types.specs.Below.{below_at}
use Rattle.bw_types.specs.Fits.{IsInRange}
use Rattle.bw_types.specs.History.{History}
use Rattle.bw_types.specs.ResidueLaws.{signed_of_residue}
use Rattle.bw_types.specs.Residues.{residue, signed_of}
use Rattle.bw_types.specs.declared.params.Params.{Params}
use Rattle.corner_weights.specs.SumLaws.{residue_keeps_sign, residue_of_sum_below, sum_below_of_equal}
use Rattle.corner_weights.specs.Subsets.{residue_signed_by, signed_by}
use Rattle.corner_weights.specs.Sums.{int_sum_below, residue_sum_below}
use Rattle.history_laws.specs.Bounds.{HasRoom, IntegralsAreBounded}
use Rattle.corner_weights.specs.Integrals.{IntegralByCorners, query_corner}
use Rattle.grid_report.specs.Corners.{corner_at, corners_of, value_by_corners}
use Rattle.grid_report.specs.Grids.{cell_count, cell_query, cells_of, grid_integrals}
use Rattle.grid_report.specs.Indexes.{indexes_of}
use Rattle.grid_report.specs.declared.asked.Grid.{Grid}
use Rattle.grid_report.proofs.CornerPoints.{cell-fits}
use Rattle.grid_report.proofs.Fitting.{Fitted}
use Rattle.grid_report.proofs.IndexSteps.{index-below}
use Rattle.grid_report.proofs.InOrder.{lists-in-order}
use Rattle.grid_report.proofs.Maps.{map-map, map-range}

-- a number of 127 bits and a sign is read from its residue
read-signed : (x : ℤ) → nat_abs x < 2 ^ 127 → signed_of (residue x) ≡ x
read-signed x h = signed_of_residue x (omega (arith, ints)) (omega (arith, ints))

-- signed residues add up to the residue of the signed sum
residues-of_sum : (n : ℕ) (f : ℕ → ℤ) → residue_sum_below n (λ k. residue_signed_by k (residue (f k))) ≡ residue (int_sum_below n (λ k. signed_by k (f k)))
residues-of_sum n f =
    sum_below_of_equal n (λ k. residue_signed_by k (residue (f k))) (λ k. residue (signed_by k (f k))) (λ k lt. sym (residue_keeps_sign k (f k)))
    ∙ sym (residue_of_sum_below n (λ k. signed_by k (f k)))

module _ (by_corners : IntegralByCorners) (bounded : IntegralsAreBounded) (params : Params) (in_range : IsInRange params) (h : History) (room : HasRoom params h) (version : ℕ) (g : Grid) (fits : Fitted params g) where
  one-cell : (js : List ℕ) → ((i : ℕ) → i < params.dims → slice_index js i < slice_index g.cells i)
      → value_by_corners (λ at. residue (below_at params h version at)) params g js ≡ integral_at params h version (cell_query params g js)
  one-cell js within =
      let q = cell_query params g js in
      let most = bounded params h version q in
      let mass = room.mass in
      ap signed_of (residues-of_sum (2 ^ params.dims) (λ k. below_at params h version (query_corner q k))
      ∙ ap residue (by_corners params h version q in_range (cell-fits params g js in_range.dims fits within)))
      ∙ read-signed (integral_at params h version q) (omega arith)

  all-integrals : params.dims ≤ length g.cells → map (value_by_corners (λ at. residue (below_at params h version at)) params g) (cells_of params g) ≡ grid_integrals params h version g
  all-integrals long =
      let n = λ (i : ℕ). slice_index g.cells i in
      let at = indexes_of params.dims n in
      let value = value_by_corners (λ at. residue (below_at params h version at)) params g in
      let integral = λ (js : List ℕ). integral_at params h version (cell_query params g js) in
      let cells = lists-in-order params.dims g.cells long in
      ap (map value) cells
      ∙ map-map value at (range_with_len 0 (cell_count params g))
      ∙ map-range (λ q. value (at q)) (λ q. integral (at q)) 0 0 (cell_count params g) (λ q lt. let begin : 0 + q ≡ q = omega arith in one-cell (at (0 + q)) (index-below params.dims n (0 + q) (rw begin lt)))
      ∙ sym (map-map integral at (range_with_len 0 (cell_count params g)))
      ∙ ap (map integral) (sym cells)

  -- the same from corners and cells under params that are equal
  pub integrals-given : (other : Params) (corners : List ℕ) (values : List ℤ) → other ≡ params → params.dims ≤ length g.cells
      → corners ≡ map (λ ks. residue (below_at params h version (corner_at params g ks))) (corners_of params g)
      → ((below : List ℕ → ℕ) → corners ≡ map (λ ks. below (corner_at other g ks)) (corners_of other g) → values ≡ map (value_by_corners below other g) (cells_of other g))
      → values ≡ grid_integrals params h version g
  integrals-given other corners values same long are given =
      let below = λ (at : List ℕ). residue (below_at params h version at) in
      given below (are ∙ ap (λ (p : Params). map (λ ks. below (corner_at p g ks)) (corners_of p g)) (sym same))
      ∙ ap (λ (p : Params). map (value_by_corners below p g) (cells_of p g)) same
      ∙ all-integrals long
