-- What is asked of a forest: sums over its entries.
use Rattle.std.specs.Prelude.{ℕ, if◌then◌else◌, List, ℤ, pos, ◌*ℤ◌}
use Rattle.bw_types.specs.Meets.{meets}
use Rattle.bw_types.specs.Tally.{int_sum_by}
use Rattle.bw_types.specs.declared.object.Object.{Object}
use Rattle.bw_types.specs.declared.params.Params.{Params}
use Rattle.bw_types.specs.declared.query.Query.{Query}
use Rattle.corner_weights.specs.PlaneSums.{Entered, counts_at}

-- what an object gives where it meets the query
abbrev pub where_met : Params → Query → ℤ → Object → ℤ
where_met params q given o = if meets params.dims q o then given else pos 0

-- the total weight at a version of the entries whose objects meet the query: an entry that takes its object out counts
-- with the opposite sign
abbrev pub sum_of : Params → List Entered → ℕ → Query → ℤ
sum_of params entries version q = int_sum_by (λ e. counts_at version e *ℤ where_met params q e.object.weight e.object) entries

-- their number
abbrev pub count_of : Params → List Entered → ℕ → Query → ℤ
count_of params entries version q = int_sum_by (λ e. counts_at version e *ℤ where_met params q (pos 1) e.object) entries
