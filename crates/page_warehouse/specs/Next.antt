-- What a change that comes next in a lawful batch does to the lives and to the entries of the history.
use Rattle.std.specs.Prelude.{◌≡◌, ℕ, ◌+◌, ◌^◌, ◌<◌, true, false, IsTrue, Some, List, [], ◌∷◌, ◌++◌, length}
use Rattle.std.specs.Option.{option_map_or}
use Rattle.bw_types.specs.Fits.{IsInRange, object_fits}
use Rattle.bw_types.specs.History.{History}
use Rattle.bw_types.specs.Lawful.{IsLawful, IsLawfulBatch}
use Rattle.bw_types.specs.Lives.{lives}
use Rattle.bw_types.specs.declared.change.Change.{Change}
use Rattle.bw_types.specs.declared.change.Change.TheVariants as change
use Rattle.bw_types.specs.declared.dated.Dated.{Dated}
use Rattle.bw_types.specs.declared.object.Object.{Object}
use Rattle.bw_types.specs.declared.params.Params.{Params}
use Rattle.corner_weights.specs.PlaneSums.{Entered}
use Rattle.corner_forest.specs.Enters.{entry_of}
use Rattle.corner_forest.specs.Entries.{IsNextEntry}
use Rattle.object_table.specs.Edits.{with_withdrawal, withdrawn_at}
use Rattle.object_table.specs.Lives.{last_life}
use Rattle.history_laws.specs.Entries.{begun_entry, ended_entry, history_entries}
use Rattle.page_warehouse.specs.Begun.{begun_life, next_event, next_version, with_changes}

-- Each front of a lawful batch is lawful, so the history with it is.
abbrev pub FrontsAreLawful : Type 0
FrontsAreLawful = (params : Params) (h : History) (done later : List Change) → IsLawful params h → IsLawfulBatch params h (done ++ later)
    → IsLawfulBatch params h done × IsLawful params (with_changes h done)

-- A lawful history has fewer lives than 2^28.
abbrev pub LivesAreFew : Type 0
LivesAreFew = (params : Params) (h : History) → IsInRange params → IsLawful params h → length (lives h) < 2 ^ 28

-- An add that comes next puts one life last, numbered after the last one of its id, and one entry.
pub record AddGoesOn (params : Params) (h : History) (done : List Change) (o : Object) : Type 0 where
  pub fits : IsTrue (object_fits params o)
  pub number : (begun_life h done o).life ≡ 1 + option_map_or (λ (d : Dated). d.life) (last_life o.id (lives (with_changes h done))) 0
  pub small : (begun_life h done o).life < 2 ^ 28
  pub lives : lives (with_changes h (done ++ change.Add o ∷ [])) ≡ lives (with_changes h done) ++ begun_life h done o ∷ []
  pub entries : history_entries (with_changes h (done ++ change.Add o ∷ [])) ≡ history_entries (with_changes h done) ++ begun_entry (begun_life h done o) ∷ []
  pub next : IsNextEntry params (history_entries (with_changes h done)) (entry_of o false (next_event h done) (next_version h))

abbrev pub AddsGoOn : Type 0
AddsGoOn = (params : Params) (h : History) (done later : List Change) (o : Object) → IsInRange params → IsLawful params h
    → IsLawfulBatch params h (done ++ change.Add o ∷ later) → AddGoesOn params h done o

-- A withdrawal that comes next ends the last life of its id, and puts one entry somewhere between the others.
pub record WithdrawalGoesOn (params : Params) (h : History) (done : List Change) (id : ℕ) : Type 0 where
  pub last : Dated
  pub found : last_life id (lives (with_changes h done)) ≡ Some last
  pub lives_on : last.withdrawn ≡ 0
  pub earlier : last.added < next_version h
  pub fits : IsTrue (object_fits params last.object)
  pub lives : lives (with_changes h (done ++ change.Withdraw id ∷ [])) ≡ with_withdrawal id (next_version h) (next_event h done) (lives (with_changes h done))
  pub before : List Entered
  pub after : List Entered
  pub entries : history_entries (with_changes h done) ≡ before ++ after
  pub entries_then : history_entries (with_changes h (done ++ change.Withdraw id ∷ []))
      ≡ before ++ ended_entry (withdrawn_at (next_version h) (next_event h done) last) ∷ after
  pub next : IsNextEntry params (history_entries (with_changes h done)) (entry_of last.object true (next_event h done) (next_version h))

abbrev pub WithdrawalsGoOn : Type 0
WithdrawalsGoOn = (params : Params) (h : History) (done later : List Change) (id : ℕ) → IsInRange params → IsLawful params h
    → IsLawfulBatch params h (done ++ change.Withdraw id ∷ later) → WithdrawalGoesOn params h done id
