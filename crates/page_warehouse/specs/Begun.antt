-- A batch that has begun: the history with the changes of it so far as its last batch.
use Rattle.std.specs.Prelude.{◌≡◌, ℕ, ◌+◌, List, [], ◌∷◌, ◌++◌, length}
use Rattle.std.specs.List.{count_by}
use Rattle.bw_types.specs.History.{History, adds, changes, last_version}
use Rattle.bw_types.specs.Lives.{lives}
use Rattle.bw_types.specs.declared.change.Change.{Change}
use Rattle.bw_types.specs.declared.dated.Dated.{Dated}
use Rattle.bw_types.specs.declared.object.Object.{Object}
use Rattle.history_laws.specs.Entries.{history_entries}

-- the history with these changes as its last batch
abbrev pub with_changes : History → List Change → History
with_changes h done = h ++ done ∷ []

-- the version of the batch
abbrev pub next_version : History → ℕ
next_version h = last_version h + 1

-- the event number of the change that comes next
abbrev pub next_event : History → List Change → ℕ
next_event h done = length (changes h) + length done

-- the life that an add of the object begins
abbrev pub begun_life : History → List Change → Object → Dated
begun_life h done o = record {
  object = o;
  life = 1 + count_by (adds o.id) (changes h ++ done);
  added = next_version h;
  add_event = next_event h done;
  withdrawn = 0;
  withdraw_event = 0;
}

-- An empty batch changes neither lives nor entries.
pub record BeginsAlike (h : History) : Type 0 where
  pub changes : changes (with_changes h []) ≡ changes h
  pub lives : lives (with_changes h []) ≡ lives h
  pub entries : history_entries (with_changes h []) ≡ history_entries h

abbrev pub BatchesBeginAlike : Type 0
BatchesBeginAlike = (h : History) → BeginsAlike h
