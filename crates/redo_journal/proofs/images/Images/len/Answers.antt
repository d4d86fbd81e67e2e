use Rattle.redo_journal.proofs.Common.{◌∙◌, sym}
use Rattle.redo_journal.proofs.ImageLemmas.{length-unboxed}
use Rattle.redo_journal.proofs.images.Images.len.Goals as goal

pub returns-clause-all : goal.returns-clause-all
returns-clause-all c = c.len.ensures.len ∙ sym (length-unboxed c.args.self.now.pages.entries)
