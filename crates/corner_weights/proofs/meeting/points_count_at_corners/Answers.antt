use Rattle.corner_weights.specs.MeetingLaws.{point_counts_at_corner, nothing_counts_without_corner}
use Rattle.corner_weights.proofs.meeting.points_count_at_corners.Goals as goal

pub returns-clause-at_corner : goal.returns-clause-at_corner
returns-clause-at_corner c = point_counts_at_corner

pub returns-clause-without_corner : goal.returns-clause-without_corner
returns-clause-without_corner c = nothing_counts_without_corner
