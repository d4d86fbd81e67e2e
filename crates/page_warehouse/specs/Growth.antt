-- How many page numbers one change more gives out in the trees.
use Rattle.std.specs.Prelude.{ℕ, ◌+◌, ◌*◌, ◌≤◌}
use Rattle.bw_types.specs.Depths.{added_pages}
use Rattle.bw_types.specs.declared.params.Params.{Params}
use Rattle.corner_weights.specs.Planes.{plane_count}
use Rattle.corner_forest.specs.Entries.{corner_count}
use Rattle.corner_forest.specs.Enters.{entry_growth}

-- the most for one entry, where there are so many with it: an addition in each tree by subset, and in each plane one for each
-- corner
abbrev pub most_growth : Params → ℕ → ℕ
most_growth params entries =
    corner_count params * added_pages params.dims entries
    + plane_count params * (corner_count params * added_pages params.dims (entries * corner_count params))

abbrev pub GrowthIsBounded : Type 0
GrowthIsBounded = (params : Params) (entries most : ℕ) → entries + 1 ≤ most → entry_growth params entries ≤ most_growth params most
