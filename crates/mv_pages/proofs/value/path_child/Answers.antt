use Rattle.std.proofs.Common.{sym, ◌∙◌}
use Rattle.page_layout.specs.declared.mv_node.MvEntry.{MvEntry}
use Rattle.mv_pages.proofs.Paths.{path-reached, path-passed}
use Rattle.mv_pages.proofs.value.path_child.Goals.{then-reaches, else-reaches}
use Rattle.mv_pages.proofs.value.path_child.Goals as goal

none : MvEntry
none = record { low = 0; start = 0; end = 0; value = 0; child = 0 }

pub loop-e-preserved : goal.loop-e-preserved
unfolding none
loop-e-preserved c = elim c.if-reaches.branch [
  | then-reaches w ↦ path-reached c.args.entries.now c.loop-e.e-index none c.args.key c.args.version c.loop-e.child c.if-reaches.child c.loop-e-test.true c.loop-e.invariant (sym c.reaches.ensures ∙ w.if-reaches.true) w.child-is
  | else-reaches w ↦ path-passed c.args.entries.now c.loop-e.e-index none c.args.key c.args.version c.loop-e.child c.if-reaches.child c.loop-e-test.true c.loop-e.invariant (sym c.reaches.ensures ∙ w.if-reaches.false) w.child-is
]
