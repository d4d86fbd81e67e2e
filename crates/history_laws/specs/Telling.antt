-- What the lives of a lawful history tell.
use Rattle.std.specs.Prelude.{◌≡◌, List, IsPermutation}
use Rattle.std.specs.List.{flat_map}
use Rattle.std.specs.List.Sorted.{IsNonDecreasingBy}
use Rattle.bw_types.specs.History.{History, last_version}
use Rattle.bw_types.specs.Lawful.{IsLawful}
use Rattle.bw_types.specs.Lives.{Numbered, numbered, lives}
use Rattle.bw_types.specs.declared.dated.Dated.{Dated}
use Rattle.bw_types.specs.declared.params.Params.{Params}
use Rattle.history_laws.specs.Told.{named_by, told}

-- the lives of a lawful history, in any order, tell that history
abbrev pub TableTellsHistory : Type 0
TableTellsHistory = (params : Params) (h : History) (kept : List Dated) → IsLawful params h → IsPermutation kept (lives h) → told kept (last_version h) ≡ h

-- lawful histories with the same lives and the same last version are the same
abbrev pub OneHistoryIsTold : Type 0
OneHistoryIsTold = (params : Params) (h k : History) (kept : List Dated) → IsLawful params h → IsLawful params k
    → IsPermutation kept (lives h) → IsPermutation kept (lives k) → last_version h ≡ last_version k → h ≡ k

-- the changes that the lives of a lawful history name, the lives in any order, are its changes where they stand by event number
abbrev pub LivesNameChanges : Type 0
LivesNameChanges = (params : Params) (h : History) (kept : List Dated) (ns : List Numbered) → IsLawful params h → IsPermutation kept (lives h)
    → IsPermutation (flat_map named_by kept) ns → IsNonDecreasingBy (λ n. n.event) ns → ns ≡ numbered h
