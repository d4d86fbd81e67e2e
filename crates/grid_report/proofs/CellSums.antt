-- The value of a cell is made of the residues at the corners of its box, wherever these stand in the list of all corners.
use Rattle.std.proofs.Common.{◌≡◌, ℕ, ◌+◌, ◌^◌, ◌<◌, ◌≤◌, true, false, if◌then◌else◌, List, length, take, map, get_or, refl, sym, ap, ◌∙◌, ℤ, nat_lt, slice_index, inl, inr, arith}
use Rattle.std.proofs.lemmas.Bool.{cases_lt, lt-ltb, le-ltb}
use Rattle.std.proofs.lemmas.List.{get_or-map, get_or-take, length-map, length-take, length-take-le}
use Rattle.std.proofs.lemmas.List.FromFn.{get_or-map-range_with_len}
use Rattle.std.specs.List.{range_with_len}
use Rattle.bw_types.specs.Residues.{signed_of}
use Rattle.bw_types.specs.Tally.{product_below}
use Rattle.bw_types.specs.declared.params.Params.{Params}
use Rattle.corner_weights.specs.Subsets.{is_in_subset, residue_signed_by}
use Rattle.corner_weights.specs.SumLaws.{sum_below_of_equal}
use Rattle.corner_weights.specs.Sums.{residue_sum_below}
use Rattle.corner_weights.specs.Integrals.{query_corner}
use Rattle.grid_report.specs.Corners.{corner_at, corner_line, corners_of, value_by_corners}
use Rattle.grid_report.specs.Grids.{cell_count, cell_query, cells_of, grid_corners, line_at, lists_below}
use Rattle.grid_report.specs.Indexes.{indexes_of, number_of}
use Rattle.grid_report.specs.declared.asked.Grid.{Grid}
use Rattle.grid_report.proofs.CornerNumbers.{indexes-of_number, lines-within, number-below, number-same}
use Rattle.grid_report.proofs.IndexSteps.{index-below}
use Rattle.grid_report.proofs.InOrder.{lists-in-order}
use Rattle.grid_report.proofs.Maps.{map-map, map-range}
use Rattle.grid_report.proofs.Products.{product-same}

-- the value of the cell with these indexes, by the numbers of its corners
abbrev pub value_by_numbers : ℕ → List ℕ → List ℕ → List ℕ → ℤ
value_by_numbers dims lines corners js =
    signed_of (residue_sum_below (2 ^ dims) (λ subset. residue_signed_by subset (slice_index corners (number_of dims (λ i. slice_index lines i) (λ i. corner_line subset i (slice_index js i))))))

-- only the indexes in these dimensions count
pub value-taken : (dims : ℕ) (lines corners js : List ℕ) → value_by_numbers dims lines corners js ≡ value_by_numbers dims lines corners (take dims js)
value-taken dims lines corners js =
    let number = λ (ks : List ℕ) (subset : ℕ). number_of dims (λ i. slice_index lines i) (λ i. corner_line subset i (slice_index ks i)) in
    let same = λ (subset : ℕ). number-same dims (λ i. slice_index lines i) (λ i. corner_line subset i (slice_index js i)) (λ i. corner_line subset i (slice_index (take dims js) i)) (λ i lt. ap (corner_line subset i) (sym (get_or-take dims js i 0 lt))) in
    ap signed_of (sum_below_of_equal (2 ^ dims)
    (λ subset. residue_signed_by subset (slice_index corners (number js subset)))
    (λ subset. residue_signed_by subset (slice_index corners (number (take dims js) subset)))
    (λ subset lt. ap (λ k. residue_signed_by subset (slice_index corners k)) (same subset)))

-- an end of a cell's corner is that of its box
end-same : (dims i subset : ℕ) (line : ℕ → ℕ) (js : List ℕ)
    → (if nat_lt i dims then line (slice_index (map (λ k. corner_line subset k (slice_index js k)) (range_with_len 0 dims)) i) else 0)
    ≡ (if is_in_subset i subset then (if nat_lt i dims then line (slice_index js i) else 0) else (if nat_lt i dims then line (slice_index js i + 1) else 0))
end-same dims i subset line js =
    elim (cases_lt i dims) [
      | inl in_grid ↦
          let test : nat_lt i dims ≡ true = lt-ltb i dims in_grid in
          let begin : 0 + i ≡ i = omega arith in
          let at : slice_index (map (λ k. corner_line subset k (slice_index js k)) (range_with_len 0 dims)) i ≡ corner_line subset i (slice_index js i) = get_or-map-range_with_len (λ k. corner_line subset k (slice_index js k)) 0 dims i i 0 in_grid begin in
          rw (test, at) (elim (is_in_subset i subset) as (λ b. line (if b then slice_index js i else slice_index js i + 1) ≡ (if b then line (slice_index js i) else line (slice_index js i + 1))) [ true ↦ refl | false ↦ refl ])
      | inr past ↦
          let test : nat_lt i dims ≡ false = le-ltb i dims past in
          rw test (elim (is_in_subset i subset) as (λ b. ◌≡◌ {A = ℕ} 0 (if b then 0 else 0)) [ true ↦ refl | false ↦ refl ])
    ]

-- only the lines in these dimensions count
stored-taken : (dims i : ℕ) (line : ℕ → ℕ) (ks : List ℕ) → (if nat_lt i dims then line (slice_index ks i) else 0) ≡ (if nat_lt i dims then line (slice_index (take dims ks) i) else 0)
stored-taken dims i line ks =
    elim (cases_lt i dims) [
      | inl in_grid ↦ ap (λ k. if nat_lt i dims then line k else 0) (sym (get_or-take dims ks i 0 in_grid))
      | inr past ↦ let test : nat_lt i dims ≡ false = le-ltb i dims past in rw test refl
    ]

pub corner-taken : (params : Params) (g : Grid) (ks : List ℕ) → corner_at params g ks ≡ corner_at params g (take params.dims ks)
corner-taken params g ks =
    let same = λ (i : ℕ). stored-taken params.dims i (line_at g i) ks in
    rw (same 0, same 1, same 2) refl

-- a corner of a cell is that of its box
point-same : (params : Params) (g : Grid) (js : List ℕ) (subset : ℕ)
    → corner_at params g (map (λ k. corner_line subset k (slice_index js k)) (range_with_len 0 params.dims)) ≡ query_corner (cell_query params g js) subset
point-same params g js subset =
    let end = λ (i : ℕ). end-same params.dims i subset (line_at g i) js in
    rw (end 0, end 1, end 2) refl

module _ (params : Params) (g : Grid) (lines : List ℕ) (room : params.dims ≤ length g.cells) (are : take params.dims lines ≡ map (λ n. n + 1) (take params.dims g.cells)) where
  long : params.dims ≤ length lines
  long =
      let same = ap length are in
      omega (arith, same, length-take params.dims lines, length-map (take params.dims g.cells) (λ n. n + 1), length-take params.dims g.cells)

  -- there is one line more than cells
  pub line-is : (i : ℕ) → i < params.dims → slice_index lines i ≡ slice_index g.cells i + 1
  line-is i lt =
      let taken = length-take-le params.dims g.cells room in
      sym (get_or-take params.dims lines i 0 lt) ∙ ap (λ ks. get_or ks i 0) are ∙ get_or-map (λ n. n + 1) (take params.dims g.cells) i 0 0 (omega arith) ∙ ap (λ k. k + 1) (get_or-take params.dims g.cells i 0 lt)

  -- so there are as many corners as these numbers of lines have elements
  pub corner-count : grid_corners params g ≡ product_below params.dims (λ i. slice_index lines i)
  corner-count = product-same (λ i. slice_index g.cells i + 1) (λ i. slice_index lines i) params.dims (λ i lt. sym (line-is i lt))

  -- the lines of a cell's corners are lines of the grid
  pub cell-within : (js : List ℕ) (number : ℕ) → number < cell_count params g → take params.dims js ≡ indexes_of params.dims (λ i. slice_index g.cells i) number
      → (i : ℕ) → i < params.dims → slice_index js i + 1 < slice_index lines i
  cell-within js number h taken i lt =
      let at : slice_index js i ≡ slice_index (indexes_of params.dims (λ i. slice_index g.cells i) number) i = sym (get_or-take params.dims js i 0 lt) ∙ ap (λ ks. slice_index ks i) taken in
      let below = index-below params.dims (λ i. slice_index g.cells i) number h i lt in
      let line = line-is i lt in
      omega arith

  -- the corners, number by number
  pub corners-are : (f : List ℕ → ℕ) → map (λ q. f (indexes_of params.dims (λ i. slice_index lines i) q)) (range_with_len 0 (product_below params.dims (λ i. slice_index lines i))) ≡ map f (corners_of params g)
  corners-are f =
      let at = indexes_of params.dims (λ i. slice_index lines i) in
      sym (map-map f at (range_with_len 0 (product_below params.dims (λ i. slice_index lines i))))
      ∙ ap (map f) (sym (lists-in-order params.dims lines long) ∙ ap lists_below are)

  -- their lines are lines of the grid
  pub corner-within : (ks : List ℕ) (number : ℕ) → number < product_below params.dims (λ i. slice_index lines i) → take params.dims ks ≡ indexes_of params.dims (λ i. slice_index lines i) number
      → (i : ℕ) → i < params.dims → slice_index ks i ≤ slice_index g.cells i
  corner-within ks number h taken i lt =
      let at : slice_index ks i ≡ slice_index (indexes_of params.dims (λ i. slice_index lines i) number) i = sym (get_or-take params.dims ks i 0 lt) ∙ ap (λ ks. slice_index ks i) taken in
      let below = index-below params.dims (λ i. slice_index lines i) number h i lt in
      let line = line-is i lt in
      omega arith

  -- what stands in the list of all corners under the number of a corner
  corner-found : (corners : List ℕ) (below : List ℕ → ℕ) → corners ≡ map (λ ks. below (corner_at params g ks)) (corners_of params g)
      → (k : ℕ) → k < product_below params.dims (λ i. slice_index lines i) → slice_index corners k ≡ below (corner_at params g (indexes_of params.dims (λ i. slice_index lines i) k))
  corner-found corners below all k lt =
      let f = λ (ks : List ℕ). below (corner_at params g ks) in
      let at = indexes_of params.dims (λ i. slice_index lines i) in
      let begin : 0 + k ≡ k = omega arith in
      ap (λ xs. get_or xs k 0) (all ∙ sym (corners-are f)) ∙ get_or-map-range_with_len (λ q. f (at q)) 0 (product_below params.dims (λ i. slice_index lines i)) k k 0 lt begin

  -- the cell's corner of a subset there
  cell-corner : (corners : List ℕ) (below : List ℕ → ℕ) → corners ≡ map (λ ks. below (corner_at params g ks)) (corners_of params g)
      → (js : List ℕ) → ((i : ℕ) → i < params.dims → slice_index js i < slice_index g.cells i) → (subset : ℕ)
      → slice_index corners (number_of params.dims (λ i. slice_index lines i) (λ i. corner_line subset i (slice_index js i))) ≡ below (query_corner (cell_query params g js) subset)
  cell-corner corners below all js cells subset =
      let n = λ (i : ℕ). slice_index lines i in
      let index = λ (i : ℕ). corner_line subset i (slice_index js i) in
      let inside = lines-within params.dims subset n (λ i. slice_index js i) (λ i lt. let cell = cells i lt in let line = line-is i lt in omega arith) in
      corner-found corners below all (number_of params.dims n index) (number-below params.dims n index inside)
      ∙ ap (λ ks. below (corner_at params g ks)) (indexes-of_number params.dims n index inside)
      ∙ ap below (point-same params g js subset)

  -- so the value by numbers is the one by corners
  pub value-is : (corners : List ℕ) (below : List ℕ → ℕ) → corners ≡ map (λ ks. below (corner_at params g ks)) (corners_of params g)
      → (js : List ℕ) → ((i : ℕ) → i < params.dims → slice_index js i < slice_index g.cells i)
      → value_by_numbers params.dims lines corners js ≡ value_by_corners below params g js
  value-is corners below all js cells =
      ap signed_of (sum_below_of_equal (2 ^ params.dims)
      (λ subset. residue_signed_by subset (slice_index corners (number_of params.dims (λ i. slice_index lines i) (λ i. corner_line subset i (slice_index js i)))))
      (λ subset. residue_signed_by subset (below (query_corner (cell_query params g js) subset)))
      (λ subset lt. ap (residue_signed_by subset) (cell-corner corners below all js cells subset)))

  -- and the values of all cells
  pub values-are : (corners : List ℕ) (below : List ℕ → ℕ) → corners ≡ map (λ ks. below (corner_at params g ks)) (corners_of params g)
      → map (λ q. value_by_numbers params.dims lines corners (indexes_of params.dims (λ i. slice_index g.cells i) q)) (range_with_len 0 (cell_count params g)) ≡ map (value_by_corners below params g) (cells_of params g)
  values-are corners below all =
      let n = λ (i : ℕ). slice_index g.cells i in
      let at = indexes_of params.dims n in
      map-range (λ q. value_by_numbers params.dims lines corners (at q)) (λ q. value_by_corners below params g (at q)) 0 0 (cell_count params g)
      (λ q lt. let begin : 0 + q ≡ q = omega arith in value-is corners below all (at (0 + q)) (index-below params.dims n (0 + q) (rw begin lt)))
      ∙ sym (map-map (value_by_corners below params g) at (range_with_len 0 (cell_count params g)))
      ∙ ap (map (value_by_corners below params g)) (sym (lists-in-order params.dims g.cells room))

-- the same under params that are equal
pub corner-total : (p q : Params) (g : Grid) (lines : List ℕ) (count : ℕ) → p.dims ≤ length g.cells → take p.dims lines ≡ map (λ n. n + 1) (take p.dims g.cells) → p ≡ q → count ≡ product_below p.dims (λ i. slice_index lines i)
    → count ≡ grid_corners q g
corner-total p q g lines count room are same is = is ∙ sym (corner-count p g lines room are) ∙ ap (λ (p : Params). grid_corners p g) same
