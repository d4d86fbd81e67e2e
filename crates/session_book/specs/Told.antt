-- What is told of a history: the lives of its ids, its events and its mass.
use Rattle.std.specs.Prelude.{◌≡◌, ℕ, ◌^◌, ◌<◌, List, if◌then◌else◌}
use Rattle.bw_types.specs.History.{History, changes, event_count}
use Rattle.bw_types.specs.Refusals.{is_live, was_added, total_mass}
use Rattle.bw_types.specs.declared.params.Params.{Params}
use Rattle.bw_types.specs.declared.change.Change.{Change}
use Rattle.session_book.specs.declared.seen.Life.{Life}
use Rattle.session_book.specs.declared.seen.Life.TheVariants.{Never, Live, Withdrawn}

-- what the changes say of an id
abbrev pub life_in : List Change → ℕ → Life
life_in cs id = if is_live id cs then Live else (if was_added id cs then Withdrawn else Never)

-- what is told of each id is what the changes say of it
abbrev pub TellsLives : (ℕ → Life) → List Change → Type 0
TellsLives told cs = (id : ℕ) → id < 2 ^ 64 → told id ≡ life_in cs id

-- these lives, this number of events and this total mass are those of the history
pub record IsToldOf (params : Params) (told : ℕ → Life) (events mass : ℕ) (h : History) : Type 0 where
  pub lives : TellsLives told (changes h)
  pub all_events : events ≡ event_count h
  pub all_mass : mass ≡ total_mass params (changes h)

-- a life after a withdrawal
abbrev pub ended : Life → Life
ended Never = Never
ended Live = Withdrawn
ended Withdrawn = Withdrawn
