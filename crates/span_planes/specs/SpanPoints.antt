-- The points of the trees of spans: an object has one in each of the trees of its subset of the dimensions, with its weight in the one and
-- with its weight times its version in the other.
use Rattle.std.specs.Prelude.{ℕ, ◌*◌, List, map, pos, ◌*ℤ◌}
use Rattle.bw_types.specs.Residues.{residue}
use Rattle.bw_types.specs.declared.params.Params.{Params}
use Rattle.bw_types.specs.declared.point.Point.{Point}
use Rattle.corner_weights.specs.Entries.{Entry, corner_point}
use Rattle.corner_forest.specs.Entries.{corner_count, entered_residue}
use Rattle.corner_weights.specs.PlaneSums.{Entered}

-- the weight of the entry, and the opposite where it takes an object out, modulo 2^128
abbrev pub plain_weight : Entered → ℕ
plain_weight e = entered_residue e.minus (residue e.object.weight)

-- the same times the version from which it counts
abbrev pub dated_weight : Entered → ℕ
dated_weight e = entered_residue e.minus (residue (pos e.version *ℤ e.object.weight))

-- the entry as an object with a weight
abbrev pub weighed : (Entered → ℕ) → Entered → Entry
weighed weight e = record { object = e.object; number = e.event; version = e.version; weight = weight e }

-- the points of the entries in the tree of a subset
abbrev pub span_points : Params → (Entered → ℕ) → List Entered → ℕ → List Point
span_points params weight entries subset = map (λ e. corner_point params.dims subset (weighed weight e)) entries

-- how many trees there are
abbrev pub span_roots : Params → ℕ
span_roots params = 2 * corner_count params
