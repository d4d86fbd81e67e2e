-- The regions of a part's cuts and leaves.
use Rattle.std.specs.Prelude.{ℕ, ◌≤◌, length}
use Rattle.std.specs.List.{All}
use Rattle.bw_types.specs.Regions.{Holds}
use Rattle.bw_types.specs.declared.region.Region.{Region}
use Rattle.bw_types.specs.Regions.{IsInside, above_cut, below_cut}
use Rattle.cut_parts.specs.Parts.{Part, Leaf, Split, HasShape, IsParted, points_of}

-- Each cut lies strictly inside its region, and the points of each leaf lie in the leaf's.
abbrev pub LiesInRegions : ℕ → Part → Region → Type 0
LiesInRegions dims (Leaf page points) region = All (λ p. Holds dims region p.keys) points
LiesInRegions dims (Split home dimension key low border low_side high_side) region =
    IsInside region dimension key
    × LiesInRegions dims low_side (below_cut region dimension key)
    × LiesInRegions dims high_side (above_cut region dimension key)

-- Where the points of a part lie in a region and are parted by its cuts, the cuts and leaves lie in their regions.
abbrev pub RegionsFollow : Type 0
RegionsFollow = (dims n : ℕ) (part : Part) (region : Region) → HasShape n part → IsParted dims part → dims ≤ length region.low → dims ≤ length region.high
    → All (λ p. Holds dims region p.keys) (points_of part) → LiesInRegions dims part region
