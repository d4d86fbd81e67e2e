-- In which dimension points lie widest.
use Rattle.std.specs.Prelude.{ℕ, ◌-◌, ◌<◌, ◌≤◌, List, [], ◌∷◌, max, min}
use Rattle.bw_types.specs.declared.point.Point.{Point}
use Rattle.cut_parts.specs.Medians.{key_of}

-- the greatest of the points' keys of the dimension; 0 where there is no point
abbrev pub greatest_key : ℕ → List Point → ℕ
greatest_key dimension [] = 0
greatest_key dimension (p ∷ points) = max (key_of dimension p) (greatest_key dimension points)

-- the least of them; 0 where there is no point
abbrev pub least_key : ℕ → List Point → ℕ
least_key dimension [] = 0
least_key dimension (p ∷ []) = key_of dimension p
least_key dimension (p ∷ q ∷ points) = min (key_of dimension p) (least_key dimension (q ∷ points))

-- how far the points lie apart in the dimension: their greatest key less their least
abbrev pub spread : ℕ → List Point → ℕ
spread dimension points = greatest_key dimension points - least_key dimension points

-- In none of the first dimensions do the points lie farther apart than in this one, and in each dimension before it less far.
pub record IsWidest (dims : ℕ) (points : List Point) (dimension : ℕ) : Type 0 where
  pub widest : (other : ℕ) → other < dims → spread other points ≤ spread dimension points
  pub first : (other : ℕ) → other < dimension → spread other points < spread dimension points
