use Rattle.object_table.proofs.AnyOrder.{last_in_any_order, withdrawn_in_any_order}
use Rattle.object_table.proofs.LastAfter.{last_is_greatest, no_last_no_life, entered_is_last, entered_is_more, withdrawn_is_last}
use Rattle.object_table.proofs.laws.last_life_laws.Goals as goal

pub returns-clause-greatest : goal.returns-clause-greatest
returns-clause-greatest c = last_is_greatest

pub returns-clause-none : goal.returns-clause-none
returns-clause-none c = no_last_no_life

pub returns-clause-entered : goal.returns-clause-entered
returns-clause-entered c = entered_is_last

pub returns-clause-more : goal.returns-clause-more
returns-clause-more c = entered_is_more

pub returns-clause-withdrawn : goal.returns-clause-withdrawn
returns-clause-withdrawn c = withdrawn_is_last

pub returns-clause-in_any_order : goal.returns-clause-in_any_order
returns-clause-in_any_order c = last_in_any_order

pub returns-clause-withdrawn_in_any_order : goal.returns-clause-withdrawn_in_any_order
returns-clause-withdrawn_in_any_order c = withdrawn_in_any_order
