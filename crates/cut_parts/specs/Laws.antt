-- What holds of parts.
use Rattle.std.specs.Prelude.{◌≡◌, ℕ, suc, ◌+◌, ◌%◌, ◌^◌, ◌<◌, ◌≤◌, List, ◌++◌, length, false, slice_index, IsPermutation}
use Rattle.std.specs.List.{All}
use Rattle.bw_types.specs.Without.{keys_without, without_dimension}
use Rattle.bw_types.specs.Dominance.{dominance_sum, is_dominated}
use Rattle.bw_types.specs.declared.point.Point.{Point}
use Rattle.bw_types.specs.declared.tree.Tree.{Tree}
use Rattle.cut_parts.specs.Borders.{MayBeBuilt}
use Rattle.bw_types.specs.Depths.{IsCost, depth, reads_within}
use Rattle.cut_parts.specs.Parts.{Part, BordersCost, BordersTell, HasShape, IsParted, border_points, cuts_on_path, gets_of, points_of, value_of}

-- From below a cut no point of its high side is dominated; from the cut on a point of its low side is exactly where it is without the cut's dimension.
abbrev pub HighSideIsBeyond : Type 0
HighSideIsBeyond = (dims dimension key version : ℕ) (keys : List ℕ) (p : Point) → dimension < dims → dims ≤ length keys → dims ≤ length p.keys
    → slice_index keys dimension < key → key ≤ slice_index p.keys dimension → is_dominated dims keys version p ≡ false

abbrev pub LowSideGoesWithout : Type 0
LowSideGoesWithout = (dims dimension key version : ℕ) (keys : List ℕ) (p : Point) → dimension < suc dims → suc dims ≤ length keys
    → suc dims ≤ length p.keys → key ≤ slice_index keys dimension → slice_index p.keys dimension < key
    → is_dominated (suc dims) keys version p ≡ is_dominated dims (keys_without dimension keys) version (without_dimension dimension p)

-- At keys below a cut in its dimension, the dominance sum of its points is that of its low side.
abbrev pub SumBelowCut : Type 0
SumBelowCut = (dims dimension key version : ℕ) (keys : List ℕ) (low high : List Point) → dimension < dims → dims ≤ length keys
    → All (λ p. dims ≤ length p.keys) high → All (λ p. key ≤ slice_index p.keys dimension) high → slice_index keys dimension < key
    → dominance_sum dims (low ++ high) keys version ≡ dominance_sum dims low keys version

-- From the cut on it is that of the low side without the cut's dimension, and that of the high side.
abbrev pub SumFromCut : Type 0
SumFromCut = (dims dimension key version : ℕ) (keys : List ℕ) (low high : List Point) → dimension < suc dims → suc dims ≤ length keys
    → All (λ p. suc dims ≤ length p.keys) low → All (λ p. slice_index p.keys dimension < key) low → key ≤ slice_index keys dimension
    → dominance_sum (suc dims) (low ++ high) keys version
    ≡ (dominance_sum dims (border_points dimension low) (keys_without dimension keys) version + dominance_sum (suc dims) high keys version) % 2 ^ 128

-- The dominance sum of two lists end to end is that of each.
abbrev pub SumByParts : Type 0
SumByParts = (dims version : ℕ) (keys : List ℕ) (low high : List Point)
    → dominance_sum dims (low ++ high) keys version ≡ (dominance_sum dims low keys version + dominance_sum dims high keys version) % 2 ^ 128

-- Where the borders tell the dominance sums of their points, the value of a part is that of its points.
abbrev pub ValuesAreSums : Type 0
ValuesAreSums = (dims : ℕ) (border_value : Tree → List ℕ → ℕ → ℕ) (part : Part) (keys : List ℕ) (version : ℕ)
    → IsParted (suc dims) part → BordersTell (suc dims) border_value part → suc dims ≤ length keys → dims ≤ 2
    → value_of (suc dims) border_value part keys version ≡ dominance_sum (suc dims) (points_of part) keys version

-- The number of points that the cuts tell is that of the points.
abbrev pub PartsAreCounted : Type 0
PartsAreCounted = (part : Part) (n : ℕ) → HasShape n part → n ≡ length (points_of part)

-- A part of n points has at most depth n cuts on a path.
abbrev pub PathsAreShort : Type 0
PathsAreShort = (part : Part) (n : ℕ) → HasShape n part → cuts_on_path part ≤ depth n

-- The value of a part is read from no more pages than are stated, where that of each border is.
abbrev pub GetsAreFew : Type 0
GetsAreFew = (cost : ℕ → ℕ) (border_gets : Tree → List ℕ → ℕ) (part : Part) (n : ℕ) (keys : List ℕ) → IsCost cost → HasShape n part
    → BordersCost border_gets cost part → gets_of border_gets part keys ≤ reads_within cost n n

-- Points may be built in any order.
abbrev pub AnyOrderMayBeBuilt : Type 0
AnyOrderMayBeBuilt = (dims : ℕ) (points others : List Point) → IsPermutation points others → MayBeBuilt dims points → MayBeBuilt dims others

-- Where points may be built, so may those of a border, and of each of two parts.
abbrev pub BorderMayBeBuilt : Type 0
BorderMayBeBuilt = (dims dimension : ℕ) (points : List Point) → dimension < suc dims → suc dims ≤ 3 → MayBeBuilt (suc dims) points
    → MayBeBuilt dims (border_points dimension points)

abbrev pub SidesMayBeBuilt : Type 0
SidesMayBeBuilt = (dims : ℕ) (lows highs : List Point) → MayBeBuilt dims (lows ++ highs) → MayBeBuilt dims lows × MayBeBuilt dims highs
