use Rattle.cut_parts.proofs.BorderPoints.{border_may, left_may, right_may}
use Rattle.cut_parts.proofs.Orders.{may_in_any_order}
use Rattle.cut_parts.proofs.laws.points_may_be_built.Goals as goal

pub returns-clause-order : goal.returns-clause-order
returns-clause-order c = may_in_any_order

pub returns-clause-border : goal.returns-clause-border
returns-clause-border c = border_may

pub returns-clause-sides : goal.returns-clause-sides
returns-clause-sides c = λ dims lows highs may. (left_may dims lows highs may, right_may dims lows highs may)
