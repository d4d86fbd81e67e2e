use Rattle.redo_journal.proofs.Common.{sym, subst, IsTrue, ascends, unboxed, homes_of}
use Rattle.redo_journal.proofs.ImageLemmas.{BoxList, boxes_ascend, image_map-is}
use Rattle.redo_journal.proofs.images.Images.in_order.Goals as goal

pub invariant_of-result : goal.invariant_of-result
invariant_of-result c = record {
  ordered = subst (λ (s : BoxList). IsTrue (ascends (homes_of (unboxed s)))) (sym c.iter.ensures.rest)
      (boxes_ascend c.args.self.now.pages.entries c.len.ensures.ordered);
}

pub returns-clause-map : goal.returns-clause-map
returns-clause-map c = sym (image_map-is c.args.self.now)
