-- The history whose changes lives name.
use Rattle.std.specs.Prelude.{◌≡◌, ℕ, List, IsPermutation}
use Rattle.std.specs.List.{flat_map}
use Rattle.bw_types.specs.History.{History, last_version}
use Rattle.bw_types.specs.Lawful.{IsLawful}
use Rattle.bw_types.specs.Lives.{lives, numbered}
use Rattle.bw_types.specs.declared.params.Params.{Params}
use Rattle.bw_types.specs.declared.dated.Dated.{Dated}
use Rattle.history_laws.specs.Told.{named_by}

-- The adds and withdrawals that the lives name are those of the history, with their versions and event numbers, and it has this last version.
pub record IsToldBy (h : History) (kept : List Dated) (last : ℕ) : Type 0 where
  pub all : IsPermutation (flat_map named_by kept) (numbered h)
  pub version : last_version h ≡ last

-- The history is lawful and has these lives, in any order, and this last version.
pub record HasLives (params : Params) (h : History) (kept : List Dated) (last : ℕ) : Type 0 where
  pub lawful : IsLawful params h
  pub all : IsPermutation kept (lives h)
  pub version : last_version h ≡ last
