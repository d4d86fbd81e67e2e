use Rattle.corner_weights.specs.EntryLaws.{entries_dominated_at_corner, entries_at_missing_corner}
use Rattle.corner_weights.proofs.meeting.entries_count_at_corners.Goals as goal

pub returns-clause-at_corner : goal.returns-clause-at_corner
returns-clause-at_corner c = entries_dominated_at_corner

pub returns-clause-without_corner : goal.returns-clause-without_corner
returns-clause-without_corner c = entries_at_missing_corner
