use Rattle.std.proofs.Common.{sym, ◌∙◌}
use Rattle.corner_weights.proofs.CornerSums.{at_high, at_low}
use Rattle.corner_weights.proofs.powers.power_at.Goals as goal

pub returns-then-is_in_subset : goal.returns-then-is_in_subset
returns-then-is_in_subset c = λ params o are.
    at_high params o c.args.powers.now c.args.subset c.args.i c.args.e are c.requires.dimension c.requires.exponent (sym c.is_in_subset.ensures ∙ c.if-is_in_subset.true)

pub returns-else-is_in_subset : goal.returns-else-is_in_subset
returns-else-is_in_subset c = λ params o are.
    at_low params o c.args.powers.now c.args.subset c.args.i c.args.e are c.requires.dimension c.requires.exponent (sym c.is_in_subset.ensures ∙ c.if-is_in_subset.false)
