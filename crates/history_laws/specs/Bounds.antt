-- How great the answers of a history can be.
use Rattle.std.specs.Prelude.{ℕ, ◌*◌, ◌^◌, ◌<◌, ◌≤◌, length, nat_abs}
use Rattle.std.specs.List.{All}
use Rattle.bw_types.specs.Answers.{sum_at, count_at, integral_at}
use Rattle.bw_types.specs.History.{History, changes, event_count}
use Rattle.bw_types.specs.Lawful.{IsLawful}
use Rattle.bw_types.specs.Mass.{mass_limit}
use Rattle.bw_types.specs.Refusals.{total_mass}
use Rattle.bw_types.specs.declared.change.Change.{Change}
use Rattle.bw_types.specs.declared.change.Change.TheVariants as change
use Rattle.bw_types.specs.declared.params.Params.{Params}
use Rattle.bw_types.specs.declared.query.Query.{Query}

-- the weight that a change adds has 64 bits
abbrev pub HasSmallWeight : Change → Type 0
HasSmallWeight (change.Add o) = nat_abs o.weight ≤ 2 ^ 63
HasSmallWeight (change.Withdraw id) = Unit {0}

-- no sum is greater than the weights of all changes
abbrev pub SumsAreBounded : Type 0
SumsAreBounded = (params : Params) (h : History) (version : ℕ) (q : Query) → All HasSmallWeight (changes h)
    → nat_abs (sum_at params h version q) ≤ length (changes h) * 2 ^ 63

-- no count is greater than the number of changes
abbrev pub CountsAreBounded : Type 0
CountsAreBounded = (params : Params) (h : History) (version : ℕ) (q : Query) → nat_abs (count_at params h version q) ≤ length (changes h)

-- no integral is greater than the mass of all objects that were added
abbrev pub IntegralsAreBounded : Type 0
IntegralsAreBounded = (params : Params) (h : History) (version : ℕ) (q : Query) → nat_abs (integral_at params h version q) ≤ total_mass params (changes h)

-- a lawful history has no more events than the params allow, and less mass than the limit
pub record HasRoom (params : Params) (h : History) : Type 0 where
  pub events : event_count h ≤ params.events
  pub mass : total_mass params (changes h) < mass_limit

abbrev pub LawfulHasRoom : Type 0
LawfulHasRoom = (params : Params) (h : History) → IsLawful params h → HasRoom params h
