-- Regions of keys, in so many dimensions.
use Rattle.std.specs.Prelude.{ℕ, ◌<◌, ◌≤◌, List, slice_index, slice_set}
use Rattle.bw_types.specs.declared.region.Region.{Region}

-- The region holds the keys: in each dimension the key is from the low on and before the high.
pub record Holds (dims : ℕ) (region : Region) (keys : List ℕ) : Type 0 where
  pub from_low : (dimension : ℕ) → dimension < dims → slice_index region.low dimension ≤ slice_index keys dimension
  pub before_high : (dimension : ℕ) → dimension < dims → slice_index keys dimension < slice_index region.high dimension

-- the part of the region whose keys of the dimension are below the key
abbrev pub below_cut : Region → ℕ → ℕ → Region
below_cut region dimension key = record { low = region.low; high = slice_set region.high dimension key }

-- the part of the region whose keys of the dimension are from the key on
abbrev pub above_cut : Region → ℕ → ℕ → Region
above_cut region dimension key = record { low = slice_set region.low dimension key; high = region.high }

-- The key lies strictly inside the region in the dimension.
pub record IsInside (region : Region) (dimension key : ℕ) : Type 0 where
  pub after_low : slice_index region.low dimension < key
  pub before_high : key < slice_index region.high dimension
