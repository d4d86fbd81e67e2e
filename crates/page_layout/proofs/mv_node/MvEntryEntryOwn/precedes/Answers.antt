use Rattle.page_layout.proofs.Ascending.{digits_decide}
use Rattle.page_layout.proofs.mv_node.MvEntryEntryOwn.precedes.Goals as goal

pub returns : goal.returns
returns c = rw (c.order.ensures.value, c.order-2.ensures.value) (digits_decide _ _ _ _ c.order.ensures.start_fits c.order-2.ensures.start_fits)
