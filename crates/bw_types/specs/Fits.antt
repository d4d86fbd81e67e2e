-- Which params, objects, rows and queries keep the rules.
use Rattle.std.specs.Prelude.{◌≡◌, ℕ, ◌+◌, ◌^◌, ◌≤◌, ◌⊎◌, Bool, true, ◌&&◌, List, drop, ℤ, pos, ◌-ℤ◌, IfSome, is_some, nat_abs, slice_index, nat_le, ◌==◌, if◌then◌else◌}
use Rattle.std.specs.List.{list_all}
use Rattle.std.specs.Option.{option_map_or}
use Rattle.bw_types.specs.Tally.{each_below}
use Rattle.bw_types.specs.declared.params.Params.{Params}
use Rattle.bw_types.specs.declared.object.Object.{Object}
use Rattle.bw_types.specs.declared.row.Row.{Row}
use Rattle.bw_types.specs.declared.row.Row.TheVariants.{Add, Withdraw, Move}
use Rattle.bw_types.specs.declared.query.Query.{Query}
use Rattle.bw_types.specs.declared.query.Kind.{Kind}
use Rattle.bw_types.specs.declared.query.Kind.TheVariants.{Sum, Count, Integral}

-- each field of the params is in its range
pub record IsInRange (params : Params) : Type 0 where
  pub some_dims : 1 ≤ params.dims
  pub dims : params.dims ≤ 3
  pub degree : IfSome params.degree (λ g. g ≤ 2)
  pub some_events : 1 ≤ params.events
  pub events : params.events ≤ 268435456
  pub some_pages : 3 ≤ params.pages
  pub pages : params.pages ≤ 4294967295
  pub origin : (params.origin ≡ 0) ⊎ (params.origin ≡ 2147483647)

-- the coordinate of a stored number
abbrev pub coordinate : Params → ℕ → ℤ
coordinate params number = pos number -ℤ pos params.origin

-- the greatest stored number: the greatest coordinate is 4294967294, or 2147483646 in a signed warehouse
abbrev pub greatest_number : Params → ℕ
greatest_number params = if params.origin == 0 then 4294967294 else 4294967293

-- in each dimension the low end is at most the high one, and that is in range
abbrev pub ends_fit : Params → List ℕ → List ℕ → Bool
ends_fit params low high =
    each_below params.dims (λ i. nat_le (slice_index low i) (slice_index high i) && nat_le (slice_index high i) (greatest_number params))

-- how many coefficients an object has
abbrev pub coefficient_count : Params → ℕ
coefficient_count params = option_map_or (λ g. (g + 1) ^ params.dims) params.degree 0

-- the object keeps the rules of a warehouse with these params
abbrev pub object_fits : Params → Object → Bool
object_fits params o =
    ends_fit params o.low o.high
    && (list_all (λ x. x == 0) (drop params.dims o.low) && list_all (λ x. x == 0) (drop params.dims o.high))
    && list_all (λ c. nat_abs c == 0) (drop (coefficient_count params) o.coeffs)

-- the row keeps the rules: a withdrawal always does
abbrev pub row_fits : Params → Row → Bool
row_fits params (Add o) = object_fits params o
row_fits params (Withdraw id) = true
row_fits params (Move o) = object_fits params o

-- an integral is asked only where there is a degree
abbrev pub can_ask : Params → Kind → Bool
can_ask params Sum = true
can_ask params Count = true
can_ask params Integral = is_some params.degree

-- the query keeps the rules
abbrev pub query_fits : Params → Query → Bool
query_fits params q = ends_fit params q.low q.high && can_ask params q.kind
