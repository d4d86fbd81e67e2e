use Rattle.std.proofs.lemmas.Map.Iter.{rest_more}
use Rattle.std.specs.Map.Iter.{deref_pair}
use Rattle.redo_journal.proofs.ImageLemmas.{above_in_boxes, once_in_boxes}
use Rattle.redo_journal.proofs.in_order.InOrder.next.Goals as goal

pub returns-in-Some-clause-once : goal.returns-in-Some-clause-once
returns-in-Some-clause-once c =
    once_in_boxes (rest_more deref_pair c.args.self.now.rest c.next.new.self c.next.result (c.in-Some.page, c.in-Some.image) c.in-Some.is c.next.ensures.steps)
    c.args.self.now.ordered

pub returns-in-Some-clause-ascends : goal.returns-in-Some-clause-ascends
returns-in-Some-clause-ascends c =
    above_in_boxes (rest_more deref_pair c.args.self.now.rest c.next.new.self c.next.result (c.in-Some.page, c.in-Some.image) c.in-Some.is c.next.ensures.steps)
    c.args.self.now.ordered
