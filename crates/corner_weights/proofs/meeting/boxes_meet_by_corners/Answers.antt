use Rattle.corner_weights.specs.MeetingLaws.{boxes_meet_by_corners, weights_meet_by_corners, residues_meet_by_corners}
use Rattle.corner_weights.proofs.meeting.boxes_meet_by_corners.Goals as goal

pub returns-clause-boxes : goal.returns-clause-boxes
returns-clause-boxes c = boxes_meet_by_corners

pub returns-clause-weights : goal.returns-clause-weights
returns-clause-weights c = weights_meet_by_corners

pub returns-clause-residues : goal.returns-clause-residues
returns-clause-residues c = residues_meet_by_corners
