use Rattle.redo_journal.proofs.Common.{List, ℕ, subst, nat_cmp, IsStrictlySortedBy}
use Rattle.redo_journal.proofs.ImageLemmas.{keys_in_boxes, images_ascend}
use Rattle.redo_journal.proofs.committing.are_ordered.Goals as goal

pub returns : goal.returns
returns c = images_ascend c.args.images.now
    (subst (λ (s : List ℕ). IsStrictlySortedBy nat_cmp s) (keys_in_boxes c.args.images.now.pages.entries) c.len.ensures.ordered) c.requires
