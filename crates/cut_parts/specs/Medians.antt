-- Points in the order of their keys.
use Rattle.std.specs.Prelude.{◌≡◌, ℕ, ◌<◌, List, length, slice_index, slice_index_or}
use Rattle.std.specs.List.{AllPairs}
use Rattle.bw_types.specs.declared.point.Point.{Point}

-- the point's key of the dimension
abbrev pub key_of : ℕ → Point → ℕ
key_of dimension point = slice_index point.keys dimension

-- No two of the points have the same key of the dimension.
abbrev pub KeysDiffer : ℕ → List Point → Type 0
KeysDiffer dimension points = (i j : ℕ) (none : Point) → i < length points → j < length points → key_of dimension (slice_index_or points i none) ≡ key_of dimension (slice_index_or points j none) → i ≡ j

-- Of any two of the points the earlier has the smaller key of the dimension.
abbrev pub AreAscending : ℕ → List Point → Type 0
AreAscending dimension points = AllPairs (λ point later. key_of dimension point < key_of dimension later) points

-- The key is that of the point at the half, rounded down, so each point before it has a smaller key and no point after it has.
pub record IsMedian (dimension : ℕ) (points : List Point) (half key : ℕ) : Type 0 where
  pub here : (none : Point) → key ≡ key_of dimension (slice_index_or points half none)
  pub before : (i : ℕ) (none : Point) → i < half → key_of dimension (slice_index_or points i none) < key
  pub after : (i : ℕ) (none : Point) → half < i → i < length points → key < key_of dimension (slice_index_or points i none)
