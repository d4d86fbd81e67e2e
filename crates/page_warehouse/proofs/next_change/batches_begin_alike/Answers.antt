use Rattle.page_warehouse.proofs.Numbers.{begins_alike}
use Rattle.page_warehouse.proofs.next_change.batches_begin_alike.Goals as goal

pub returns : goal.returns
returns c = begins_alike c.lives_grow_by_changes.ensures.numbers
