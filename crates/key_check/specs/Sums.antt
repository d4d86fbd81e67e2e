-- The sum of the weights of corners at a key and a version.
use Rattle.std.specs.Prelude.{◌≡◌, ℕ, ◌+◌, ◌*◌, ◌%◌, ◌^◌, ◌<◌, Bool, ◌&&◌, nat_le, if◌then◌else◌, List, [], ◌∷◌, slice_index}
use Rattle.std.specs.List.{sum_by}
use Rattle.bw_types.specs.Dominance.{dominance_sum}
use Rattle.bw_types.specs.Residues.{opposite_residue}
use Rattle.bw_types.specs.declared.point.Point.{Point}
use Rattle.key_check.specs.declared.corner.Corner.{Corner}

-- the corner counts there: its version is at most the one given, and its key too
abbrev pub counts_at : ℕ → ℕ → Corner → Bool
counts_at key version c = nat_le c.version version && nat_le c.key key

-- what the corner adds there
abbrev pub weight_at : ℕ → ℕ → Corner → ℕ
weight_at key version c = if counts_at key version c then c.weight else 0

-- the sum of the corners that count there, modulo 2^128
abbrev pub corner_sum : List Corner → ℕ → ℕ → ℕ
corner_sum corners key version = sum_by (weight_at key version) corners % 2 ^ 128

-- The sum is 0 at each key and version.
abbrev pub Vanish : List Corner → Type 0
Vanish corners = (key version : ℕ) → key < 2 ^ 64 → version < 2 ^ 32 → corner_sum corners key version ≡ 0

-- The sum of the corners is that of the points at each key and version.
abbrev pub SumOverKeys : List Corner → List Point → Type 0
SumOverKeys corners points = (key version : ℕ) → key < 2 ^ 64 → version < 2 ^ 32 → corner_sum corners key version ≡ dominance_sum 1 points (key ∷ []) version

-- The sum of the corners, which count from key 0 on, is that of the points at each version.
abbrev pub SumOverVersions : List Corner → List Point → Type 0
SumOverVersions corners points = (version : ℕ) → version < 2 ^ 32 → corner_sum corners 0 version ≡ dominance_sum 0 points [] version

-- the corner's place in the order by versions, and by keys within a version
abbrev pub rank : Corner → ℕ
rank c = c.version * 2 ^ 64 + c.key

-- the corner of a point, with the opposite weight; its key is the first of the point's, or 0
abbrev pub opposite_corner : Bool → Point → Corner
opposite_corner keyed p = record { version = p.version; key = if keyed then slice_index p.keys 0 else 0; weight = opposite_residue p.weight }

-- The numbers are those of their types.
abbrev pub IsTyped : Corner → Type 0
IsTyped c = (c.version < 2 ^ 32) × (c.key < 2 ^ 64) × (c.weight < 2 ^ 128)
