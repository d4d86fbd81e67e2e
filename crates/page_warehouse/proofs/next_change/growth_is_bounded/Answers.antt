use Rattle.page_warehouse.proofs.Growth.{growth_bounded}
use Rattle.page_warehouse.proofs.next_change.growth_is_bounded.Goals as goal

pub returns : goal.returns
returns c = growth_bounded c.depths_grow.ensures.adding
