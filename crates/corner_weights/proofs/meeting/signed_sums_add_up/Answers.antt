use Rattle.corner_weights.specs.SumLaws.{sign_of_residue_sum, sign_of_nothing, sum_below_of_sums, sum_below_of_nothing, sum_below_of_equal}
use Rattle.corner_weights.proofs.meeting.signed_sums_add_up.Goals as goal

pub returns-clause-sign : goal.returns-clause-sign
returns-clause-sign c = sign_of_residue_sum

pub returns-clause-sign_of_nothing : goal.returns-clause-sign_of_nothing
returns-clause-sign_of_nothing c = sign_of_nothing

pub returns-clause-sums : goal.returns-clause-sums
returns-clause-sums c = sum_below_of_sums

pub returns-clause-sum_of_nothing : goal.returns-clause-sum_of_nothing
returns-clause-sum_of_nothing c = sum_below_of_nothing

pub returns-clause-equal : goal.returns-clause-equal
returns-clause-equal c = sum_below_of_equal
