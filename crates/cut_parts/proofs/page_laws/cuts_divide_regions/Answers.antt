use Rattle.cut_parts.proofs.Dividing.{one_is_cut, part_lies_inside, regions_lie_within, sides_have_regions, sides_lie_inside}
use Rattle.cut_parts.proofs.page_laws.cuts_divide_regions.Goals as goal

pub returns-clause-replaced : goal.returns-clause-replaced
returns-clause-replaced c = one_is_cut

pub returns-clause-split : goal.returns-clause-split
returns-clause-split c = λ region dimension key count border lows highs are. (
  sides_have_regions region dimension key lows highs are,
  λ inside. sides_lie_inside region dimension key lows highs are inside.1,
)

pub returns-clause-inside : goal.returns-clause-inside
returns-clause-inside c = part_lies_inside

pub returns-clause-within : goal.returns-clause-within
returns-clause-within c = regions_lie_within
