use Rattle.std.proofs.Common.{sym, ◌∙◌}
use Rattle.page_layout.specs.declared.mv_node.MvEntry.{MvEntry}
use Rattle.mv_pages.proofs.Found.{index_here, index_passed}
use Rattle.mv_pages.proofs.find.path_index.Goals.{then-reaches, else-reaches}
use Rattle.mv_pages.proofs.find.path_index.Goals as goal

none : MvEntry
none = record { low = 0; start = 0; end = 0; value = 0; child = 0 }

pub loop-i-preserved : goal.loop-i-preserved
unfolding none
loop-i-preserved c = elim c.if-reaches.branch [
  | then-reaches w ↦ index_here c.args.key c.args.version c.args.entries.now c.loop-i.i none c.if-reaches.last c.loop-i-test.true (sym c.reaches.ensures ∙ w.if-reaches.true) w.last-is
  | else-reaches w ↦
      index_passed c.args.key c.args.version c.args.entries.now c.loop-i.i none c.loop-i.last c.if-reaches.last c.loop-i-test.true c.loop-i.invariant (sym c.reaches.ensures ∙ w.if-reaches.false) w.last-is
]
