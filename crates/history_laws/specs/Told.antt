-- The history that the rows of a table of lives tell.
use Rattle.std.specs.Prelude.{ℕ, ◌==◌, nat_le, List, [], ◌∷◌, map, if◌then◌else◌}
use Rattle.std.specs.List.{filter, flat_map, range_with_len}
use Rattle.bw_types.specs.History.{History}
use Rattle.bw_types.specs.Lives.{Numbered}
use Rattle.bw_types.specs.declared.change.Change.{Change}
use Rattle.bw_types.specs.declared.change.Change.TheVariants as change
use Rattle.bw_types.specs.declared.dated.Dated.{Dated}

-- the add that a row names
abbrev pub add_in : Dated → Numbered
add_in d = record { version = d.added; event = d.add_event; change = change.Add d.object }

-- the withdrawal that it names where there was one
abbrev pub end_in : Dated → Numbered
end_in d = record { version = d.withdrawn; event = d.withdraw_event; change = change.Withdraw d.object.id }

-- the changes that a row names
abbrev pub named_by : Dated → List Numbered
named_by d = add_in d ∷ (if d.withdrawn == 0 then [] else end_in d ∷ [])

-- the changes with one more, which stands before the first whose event number is not below its own
abbrev pub with_change : Numbered → List Numbered → List Numbered
with_change n [] = n ∷ []
with_change n (m ∷ ms) = if nat_le n.event m.event then n ∷ m ∷ ms else m ∷ with_change n ms

-- the changes ordered by event number
abbrev pub by_event : List Numbered → List Numbered
by_event [] = []
by_event (n ∷ ns) = with_change n (by_event ns)

-- those of the changes that made this version
abbrev pub batch_of : List Numbered → ℕ → List Change
batch_of ns version = map (λ n. n.change) (filter (λ n. n.version == version) ns)

-- the history that the rows tell: the changes that they name, ordered by event number and cut into batches by version, from version 1 up to the last
abbrev pub told : List Dated → ℕ → History
told kept last = map (batch_of (by_event (flat_map named_by kept))) (range_with_len 1 last)
