-- The lives of the ids of a history, with the versions and event numbers of their ends.
use Rattle.std.specs.Prelude.{ℕ, ◌+◌, List, [], ◌∷◌, ◌++◌, length, Option}
use Rattle.std.specs.List.{find, count_by}
use Rattle.std.specs.Option.{option_map_or}
use Rattle.bw_types.specs.History.{History, adds, withdraws}
use Rattle.bw_types.specs.declared.change.Change.{Change}
use Rattle.bw_types.specs.declared.change.Change.TheVariants as change
use Rattle.bw_types.specs.declared.object.Object.{Object}
use Rattle.bw_types.specs.declared.dated.Dated.{Dated}

-- an add or a withdrawal with its version and its event number
pub record Numbered : Type 0 where
  pub version : ℕ
  pub event : ℕ
  pub change : Change

-- the changes of one batch, the first of them having this event number
abbrev pub numbered_batch : ℕ → ℕ → List Change → List Numbered
numbered_batch version event [] = []
numbered_batch version event (c ∷ cs) = record { version = version; event = event; change = c } ∷ numbered_batch version (event + 1) cs

-- the changes of the batches, the first of which makes this version and begins with this event number
abbrev pub numbered_from : ℕ → ℕ → History → List Numbered
numbered_from version event [] = []
numbered_from version event (batch ∷ batches) = numbered_batch version event batch ++ numbered_from (version + 1) (event + length batch) batches

-- all adds and withdrawals with their versions, from 1 on, and event numbers, from 0 on
abbrev pub numbered : History → List Numbered
numbered h = numbered_from 1 0 h

-- the first withdrawal of the id
abbrev pub withdrawal_of : ℕ → List Numbered → Option Numbered
withdrawal_of id ns = find (λ n. withdraws id n.change) ns

-- the life that the add n of the object begins, after the earlier changes, and that the first later withdrawal of its id ends
abbrev pub life_of : List Numbered → Numbered → Object → List Numbered → Dated
life_of earlier n o later = record {
  object = o;
  life = 1 + count_by (λ m. adds o.id m.change) earlier;
  added = n.version;
  add_event = n.event;
  withdrawn = option_map_or (λ w. w.version) (withdrawal_of o.id later) 0;
  withdraw_event = option_map_or (λ w. w.event) (withdrawal_of o.id later) 0;
}

-- the life that this change begins, if it is an add
abbrev pub begun_life : List Numbered → Numbered → Change → List Numbered → List Dated
begun_life earlier n (change.Add o) later = life_of earlier n o later ∷ []
begun_life earlier n (change.Withdraw id) later = []

-- the lives that begin with the changes of the list, which follows the earlier ones
abbrev pub lives_after : List Numbered → List Numbered → List Dated
lives_after earlier [] = []
lives_after earlier (n ∷ later) = begun_life earlier n n.change later ++ lives_after (earlier ++ n ∷ []) later

-- all lives of a history, in order of adding
abbrev pub lives : History → List Dated
lives h = lives_after [] (numbered h)
