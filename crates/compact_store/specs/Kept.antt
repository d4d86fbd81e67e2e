-- A history without what was withdrawn before a version.
use Rattle.std.specs.Prelude.{◌≡◌, ◌≤◌, ℕ, ◌-◌, ◌*◌, List, ◌++◌, drop, map, take}
use Rattle.std.specs.List.{Contains, range_with_len}
use Rattle.bw_types.specs.Answers.{answer}
use Rattle.bw_types.specs.History.{History, changes, last_version, live}
use Rattle.bw_types.specs.Lawful.{IsLawful}
use Rattle.bw_types.specs.declared.change.Change.{Change}
use Rattle.bw_types.specs.declared.change.Change.TheVariants as change
use Rattle.bw_types.specs.declared.params.Params.{Params}
use Rattle.bw_types.specs.declared.query.Query.{Query}

-- the most adds of a batch of a history that is kept
abbrev pub most_adds : ℕ
most_adds = 4096

-- batch k, counted from 1: adds of the objects that are live at the version, 4096 of them after those of the batches before
abbrev pub kept_batch : History → ℕ → ℕ → List Change
kept_batch h version k = map change.Add (take most_adds (drop (most_adds * (k - 1)) (live h version)))

-- the history from this version on, with as many batches: those up to the version add what is live there, and the later ones are as they were
abbrev pub kept : History → ℕ → History
kept h version = map (kept_batch h version) (range_with_len 1 version) ++ drop version h

-- A history that is kept from one of its versions on is lawful, and has as many versions.
abbrev pub KeptIsLawful : Type 0
KeptIsLawful = (params : Params) (h : History) (version : ℕ) → IsLawful params h → version ≤ last_version h
    → IsLawful params (kept h version) × (last_version (kept h version) ≡ last_version h)

-- From that version on the same objects are live, in the same order, and each query is answered the same.
abbrev pub KeptAnswersAlike : Type 0
KeptAnswersAlike = (params : Params) (h : History) (version later : ℕ) (q : Query) → IsLawful params h → version ≤ later → later ≤ last_version h
    → (live (kept h version) later ≡ live h later) × (answer params (kept h version) later q ≡ answer params h later q)

-- Each change that is kept is one of the history.
abbrev pub KeptHasNoMore : Type 0
KeptHasNoMore = (h : History) (version : ℕ) (c : Change) → Contains (changes (kept h version)) c → Contains (changes h) c
