-- Points without one of their dimensions.
use Rattle.std.specs.Prelude.{ℕ, List, [], ◌∷◌, ◌++◌}
use Rattle.std.specs.List.{remove}
use Rattle.bw_types.specs.declared.point.Point.{Point}

-- the keys without that of a dimension: those after it close up, and the last one is 0
abbrev pub keys_without : ℕ → List ℕ → List ℕ
keys_without dimension keys = remove keys dimension ++ (0 ∷ [])

-- the point with these keys, of the same version and weight
abbrev pub without_dimension : ℕ → Point → Point
without_dimension dimension p = record p { keys = keys_without dimension p.keys }
