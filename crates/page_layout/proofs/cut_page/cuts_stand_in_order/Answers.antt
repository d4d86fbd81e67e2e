use Rattle.page_layout.specs.CutParting.{pre_order_is_tested}
use Rattle.page_layout.proofs.cut_page.cuts_stand_in_order.Goals as goal

pub returns : goal.returns
returns c = pre_order_is_tested
