-- The answers of a history as sums over its entries.
use Rattle.std.specs.Prelude.{◌≡◌, ℕ, if◌then◌else◌, ℤ, pos, ◌*ℤ◌}
use Rattle.bw_types.specs.Answers.{sum_at, count_at, integral_at}
use Rattle.bw_types.specs.History.{History, live}
use Rattle.bw_types.specs.Meets.{meets}
use Rattle.bw_types.specs.Tally.{int_sum_by}
use Rattle.bw_types.specs.declared.object.Object.{Object}
use Rattle.bw_types.specs.declared.params.Params.{Params}
use Rattle.bw_types.specs.declared.query.Query.{Query}
use Rattle.corner_weights.specs.PlaneSums.{Entered, counts_at}
use Rattle.corner_weights.specs.PlaneSums.{integral_at as entered_integral_at}
use Rattle.history_laws.specs.Entries.{history_entries}

-- the sum over the entries of a number of their objects, each with its sign at the version
abbrev pub signed_sum : (Object → ℤ) → History → ℕ → ℤ
signed_sum f h version = int_sum_by (λ (e : Entered). counts_at version e *ℤ f e.object) (history_entries h)

-- At each version the entries add up to the objects that are live there.
abbrev pub EntriesCountLive : Type 0
EntriesCountLive = (f : Object → ℤ) (h : History) (version : ℕ) → signed_sum f h version ≡ int_sum_by f (live h version)

abbrev pub SumByEntries : Type 0
SumByEntries = (params : Params) (h : History) (version : ℕ) (q : Query)
    → signed_sum (λ o. if meets params.dims q o then o.weight else pos 0) h version ≡ sum_at params h version q

abbrev pub CountByEntries : Type 0
CountByEntries = (params : Params) (h : History) (version : ℕ) (q : Query)
    → signed_sum (λ o. if meets params.dims q o then pos 1 else pos 0) h version ≡ count_at params h version q

abbrev pub IntegralByEntries : Type 0
IntegralByEntries = (params : Params) (h : History) (version : ℕ) (q : Query)
    → entered_integral_at params q version (history_entries h) ≡ integral_at params h version q
