use Rattle.corner_weights.specs.SumLaws.{residue_keeps_sign, residue_of_sum_below}
use Rattle.corner_weights.proofs.meeting.residues_follow_corners.Goals as goal

pub returns-clause-sign : goal.returns-clause-sign
returns-clause-sign c = residue_keeps_sign

pub returns-clause-sum : goal.returns-clause-sum
returns-clause-sum c = residue_of_sum_below
