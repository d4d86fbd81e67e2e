use Rattle.cut_parts.proofs.Sums.{high_side_is_beyond, low_side_goes_without, sum_below_cut, sum_by_parts, sum_from_cut}
use Rattle.cut_parts.proofs.laws.cuts_part.Goals as goal

pub returns-clause-high : goal.returns-clause-high
returns-clause-high c = high_side_is_beyond

pub returns-clause-low : goal.returns-clause-low
returns-clause-low c = low_side_goes_without

pub returns-clause-below : goal.returns-clause-below
returns-clause-below c = sum_below_cut

pub returns-clause-from : goal.returns-clause-from
returns-clause-from c = sum_from_cut

pub returns-clause-parts : goal.returns-clause-parts
returns-clause-parts c = sum_by_parts
