-- How many pages a query reads at most.
use Rattle.std.specs.Prelude.{ℕ, ◌*◌, length}
use Rattle.bw_types.specs.History.{History, changes}
use Rattle.bw_types.specs.declared.params.Params.{Params}
use Rattle.bw_types.specs.declared.query.Kind.{Kind}
use Rattle.bw_types.specs.declared.query.Kind.TheVariants.{Sum, Count, Integral}
use Rattle.bw_types.specs.declared.query.Query.{Query}
use Rattle.corner_forest.specs.Entries.{corner_count}
use Rattle.corner_weights.specs.Planes.{plane_count}

-- One sum a corner, or for an integral one sum a corner and plane, over trees of so many entries. A plane has a point for each
-- corner of an entry.
abbrev pub kind_cost : (ℕ → ℕ → ℕ) → Params → ℕ → Kind → ℕ
kind_cost cost params entries Sum = corner_count params * cost params.dims entries
kind_cost cost params entries Count = corner_count params * cost params.dims entries
kind_cost cost params entries Integral = corner_count params * (plane_count params * cost params.dims (entries * corner_count params))

-- the most reads of a query on a history, from its adds and withdrawals, where a sum over trees of some dimensions and points has this cost
abbrev pub query_cost : (ℕ → ℕ → ℕ) → Params → History → Query → ℕ
query_cost cost params h q = kind_cost cost params (length (changes h)) q.kind

-- the most reads of the integral below a corner: one sum a plane
abbrev pub below_cost : (ℕ → ℕ → ℕ) → Params → History → ℕ
below_cost cost params h = plane_count params * cost params.dims (length (changes h) * corner_count params)
