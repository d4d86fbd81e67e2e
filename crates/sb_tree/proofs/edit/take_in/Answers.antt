use Rattle.sb_tree.proofs.Common.{ℕ, List, sym, ◌∙◌, arith, SbEntry}
use Rattle.sb_tree.proofs.EditLemmas.{takes_in_new}
use Rattle.sb_tree.proofs.Order.{ascends}
use Rattle.sb_tree.proofs.edit.take_in.Goals.{else-begun-gt0-via-then-begun-gt0+else-as_slice-begun, else-begun-gt0-via-else-begun-gt0}
use Rattle.sb_tree.proofs.edit.take_in.Goals as goal

pub returns : goal.returns
returns c =
    let es : List SbEntry = c.args.entries.now.items in
    let k : ℕ = c.begun_count-begun.result in
    elim c.else-begun-gt0.branch [
      | else-begun-gt0-via-then-begun-gt0+else-as_slice-begun w ↦
          takes_in_new es c.insert.new.self.items c.as_slice.result.now k c.args.version c.args.value (record { low = 0; value = 0; child = 0 }) c.as_slice.ensures.value (ascends es c.requires.order) c.begun_count-begun.ensures
          (λ some. rw (w.as_slice-then-begun-gt0.ensures.value ∙ sym c.as_slice.ensures.value) at w.if-as_slice-begun.false) c.insert.ensures.items
      | else-begun-gt0-via-else-begun-gt0 w ↦
          takes_in_new es c.insert.new.self.items c.as_slice.result.now k c.args.version c.args.value (record { low = 0; value = 0; child = 0 }) c.as_slice.ensures.value (ascends es c.requires.order) c.begun_count-begun.ensures
          (λ some. absurd (omega (arith, some, w.if-begun-gt0.false))) c.insert.ensures.items
    ]
