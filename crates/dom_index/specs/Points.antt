-- Points as an index is handed them.
use Rattle.std.specs.Prelude.{◌≡◌, ℕ, ◌-◌, ◌^◌, ◌<◌, ◌≤◌, ◌⊎◌, ◌==◌, Bool, not, IsTrue, List, length, take, slice_index}
use Rattle.std.specs.List.{All}
use Rattle.bw_types.specs.Tally.{each_below}
use Rattle.bw_types.specs.declared.point.Point.{Point}
use Rattle.bw_types.specs.declared.tree.Tree.{Tree}

-- Each of the first keys is below 2^64 - 2^32, where the regions of trees end.
abbrev pub AreKeysBelow : ℕ → List ℕ → Type 0
AreKeysBelow dims keys = All (λ key. key < 2 ^ 64 - 2 ^ 32) (take dims keys)

-- the two points have different keys in each of the first dimensions
abbrev pub keys_differ : ℕ → Point → Point → Bool
keys_differ dims p q = each_below dims (λ i. not (slice_index p.keys i == slice_index q.keys i))

-- The point may be added to the points: it shares a key in a dimension with none of them, is no earlier than
-- any of them, and they are fewer than 2^31.
pub record IsNewPoint (dims : ℕ) (points : List Point) (p : Point) : Type 0 where
  pub apart : All (λ q. IsTrue (keys_differ dims q p)) points
  pub last : All (λ q. q.version ≤ p.version) points
  pub few : length points < 2 ^ 31

-- The tree has no points, or is one page that takes one more.
abbrev pub HasRoom : Tree → Type 0
HasRoom tree = (tree.levels ≡ 0) ⊎ ((tree.levels ≡ 1) × (tree.count < 64))
