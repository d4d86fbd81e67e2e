-- Which boxes meet.
use Rattle.std.specs.Prelude.{ℕ, Bool, ◌&&◌, slice_index, nat_le}
use Rattle.bw_types.specs.Tally.{each_below}
use Rattle.bw_types.specs.declared.object.Object.{Object}
use Rattle.bw_types.specs.declared.query.Query.{Query}

-- in each dimension neither box lies wholly beyond the other; boxes that touch meet
abbrev pub meets : ℕ → Query → Object → Bool
meets dims q o =
    each_below dims (λ i. nat_le (slice_index o.low i) (slice_index q.high i) && nat_le (slice_index q.low i) (slice_index o.high i))
