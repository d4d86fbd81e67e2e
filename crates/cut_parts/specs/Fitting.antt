-- Points that a tree may be built of, each for itself.
use Rattle.std.specs.Prelude.{◌≡◌, ℕ, ◌-◌, ◌^◌, ◌<◌, length}
use Rattle.bw_types.specs.declared.point.Point.{Point}
use Rattle.dom_index.specs.Points.{AreKeysBelow}

-- The point's keys, of which there are three, are below the end of regions, and its version below the last.
abbrev pub IsPointBelow : ℕ → Point → Type 0
IsPointBelow dims p = AreKeysBelow dims p.keys × (p.version < 2 ^ 32 - 1) × (length p.keys ≡ 3)
