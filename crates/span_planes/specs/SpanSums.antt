-- Sums over all versions of a span.
use Rattle.std.specs.Prelude.{ℕ, zero, suc, ◌+◌, ◌-◌, ℤ, pos, ◌-ℤ◌, ◌*ℤ◌}
use Rattle.std.specs.List.{range_with_len}
use Rattle.bw_types.specs.Answers.{sum_at}
use Rattle.bw_types.specs.History.{History}
use Rattle.bw_types.specs.Tally.{int_sum_by}
use Rattle.bw_types.specs.declared.params.Params.{Params}
use Rattle.bw_types.specs.declared.query.Query.{Query}
use Rattle.corner_weights.specs.PlaneSums.{Entered, counts_at}
use Rattle.corner_forest.specs.Answers.{where_met}
use Rattle.history_laws.specs.Entries.{history_entries}

-- the sum of the answers of all versions from the first to the last
abbrev pub span_sum : Params → History → ℕ → ℕ → Query → ℤ
span_sum params h first last q = int_sum_by (λ version. sum_at params h version q) (range_with_len first (last + 1 - first))

-- the sum at a version with each entry weighed by the version from which it counts
abbrev pub dated_sum : Params → History → ℕ → Query → ℤ
dated_sum params h version q =
    int_sum_by (λ (e : Entered). counts_at version e *ℤ (pos e.version *ℤ where_met params q e.object.weight e.object)) (history_entries h)

-- The sum of the answers up to a version, that one too: an entry counts in as many of them as there are from its own on.
abbrev pub sum_up_to : Params → History → ℕ → Query → ℤ
sum_up_to params h version q = pos (version + 1) *ℤ sum_at params h version q -ℤ dated_sum params h version q

-- the same before a version: nothing before the first
abbrev pub sum_before : Params → History → ℕ → Query → ℤ
sum_before params h zero q = pos 0
sum_before params h (suc version) q = sum_up_to params h version q
