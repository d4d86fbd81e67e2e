-- What a query answers on a history at a version.
use Rattle.std.specs.Prelude.{ℕ, ℤ, pos, length}
use Rattle.std.specs.List.{filter}
use Rattle.bw_types.specs.Tally.{int_sum_by}
use Rattle.bw_types.specs.Meets.{meets}
use Rattle.bw_types.specs.History.{History, live}
use Rattle.bw_types.specs.Integral.{integral_over}
use Rattle.bw_types.specs.declared.params.Params.{Params}
use Rattle.bw_types.specs.declared.query.Query.{Query}
use Rattle.bw_types.specs.declared.query.Kind.{Kind}
use Rattle.bw_types.specs.declared.query.Kind.TheVariants as kind

-- the total weight of the live objects that meet the box
abbrev pub sum_at : Params → History → ℕ → Query → ℤ
sum_at params h version q = int_sum_by (λ o. o.weight) (filter (meets params.dims q) (live h version))

-- the number of the live objects that meet the box
abbrev pub count_at : Params → History → ℕ → Query → ℤ
count_at params h version q = pos (length (filter (meets params.dims q) (live h version)))

-- the integral of the live objects over the box, times 6 for each dimension
abbrev pub integral_at : Params → History → ℕ → Query → ℤ
integral_at params h version q = int_sum_by (integral_over params q) (live h version)

-- the answer of this kind
abbrev pub answer_of : Kind → Params → History → ℕ → Query → ℤ
answer_of kind.Sum = sum_at
answer_of kind.Count = count_at
answer_of kind.Integral = integral_at

-- the answer to a query
abbrev pub answer : Params → History → ℕ → Query → ℤ
answer params h version q = answer_of q.kind params h version q
