-- Where the entries of a node are cut at a version.
use Rattle.std.specs.Prelude.{ℕ, ◌<◌, ◌≤◌, List, length, take, drop}
use Rattle.std.specs.List.{All}
use Rattle.page_layout.specs.declared.sb_node.SbEntry.{SbEntry}

-- Each of the entries begins at or below the version.
abbrev pub HaveBegun : ℕ → List SbEntry → Type 0
HaveBegun version entries = All (λ e. e.low ≤ version) entries

-- Each of the entries begins above the version.
abbrev pub BeginLater : ℕ → List SbEntry → Type 0
BeginLater version entries = All (λ e. version < e.low) entries

-- The first `count` entries have begun at the version, and the others have not.
pub record IsCut (entries : List SbEntry) (count version : ℕ) : Type 0 where
  pub bound : count ≤ length entries
  pub begun : HaveBegun version (take count entries)
  pub later : BeginLater version (drop count entries)
