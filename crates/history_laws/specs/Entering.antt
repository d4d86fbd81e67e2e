-- The entries of lives when one begins or ends.
use Rattle.std.specs.Prelude.{◌≡◌, ◌≢◌, ℕ, List, [], ◌∷◌, ◌++◌, length, IsPermutation}
use Rattle.bw_types.specs.History.{History, changes}
use Rattle.bw_types.specs.Lawful.{IsLawful}
use Rattle.bw_types.specs.declared.params.Params.{Params}
use Rattle.bw_types.specs.declared.dated.Dated.{Dated}
use Rattle.history_laws.specs.Entries.{begun_entry, ended_entry, entries_of, history_entries}

-- A life more, not ended yet, is one entry more.
abbrev pub EntriesGrowByAdd : Type 0
EntriesGrowByAdd = (ds : List Dated) (d : Dated) → d.withdrawn ≡ 0 → entries_of (ds ++ d ∷ []) ≡ entries_of ds ++ begun_entry d ∷ []

-- Where one life of a list ends, the entries are those of before and the one of its end.
abbrev pub EntriesGrowByEnd : Type 0
EntriesGrowByEnd = (before after : List Dated) (d : Dated) (version event : ℕ) → d.withdrawn ≡ 0 → version ≢ 0
    → IsPermutation (entries_of (before ++ record d { withdrawn = version; withdraw_event = event } ∷ after))
    (ended_entry (record d { withdrawn = version; withdraw_event = event }) ∷ entries_of (before ++ d ∷ after))

-- A lawful history has as many entries as adds and withdrawals.
abbrev pub EntriesAreChanges : Type 0
EntriesAreChanges = (params : Params) (h : History) → IsLawful params h → length (history_entries h) ≡ length (changes h)
