-- The laws of the crates below that a change more stands on.
use Rattle.history_laws.specs.Entering.{EntriesAreChanges, EntriesGrowByAdd}
use Rattle.history_laws.specs.Alone.{OneOpenLife}
use Rattle.history_laws.specs.Bounds.{LawfulHasRoom}
use Rattle.history_laws.specs.Growing.{LivesGrow, NumbersGrow}
use Rattle.history_laws.specs.Lawful.{LawfulGrows, StagingChangesNoRefusal}
use Rattle.history_laws.specs.Living.{LastLivesTell, LivesTellIds}
use Rattle.object_table.specs.Laws.{NoLastNoLife}

pub record Facts : Type 0 where
  pub staging : StagingChangesNoRefusal
  pub lawful : LawfulGrows
  pub room : LawfulHasRoom
  pub one : OneOpenLife
  pub lives : LivesGrow
  pub numbers : NumbersGrow
  pub count : EntriesAreChanges
  pub add : EntriesGrowByAdd
  pub live : LivesTellIds
  pub last : LastLivesTell
  pub nothing : NoLastNoLife
