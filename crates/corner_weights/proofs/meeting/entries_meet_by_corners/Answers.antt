use Rattle.corner_weights.specs.EntryLaws.{entries_meet_by_corners, sums_meet_by_corners}
use Rattle.corner_weights.proofs.meeting.entries_meet_by_corners.Goals as goal

pub returns-clause-entries : goal.returns-clause-entries
returns-clause-entries c = entries_meet_by_corners

pub returns-clause-sums : goal.returns-clause-sums
returns-clause-sums c = sums_meet_by_corners
