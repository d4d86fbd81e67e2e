use Rattle.std.proofs.Common.{◌<◌, length, Some, IsTrue, IfSome, Option, subst, sym, ap, ◌∙◌, arith}
use Rattle.bw_types.specs.declared.dated.Dated.{Dated}
use Rattle.page_layout.specs.Dated.{by_life_fits}
use Rattle.object_table.specs.Nodes.{objects_in}
use Rattle.object_table.proofs.Views.{any_of, last_more, last_same}
use Rattle.object_table.proofs.finding.last_of.Goals.{then-object_id-id, else-object_id-id}
use Rattle.object_table.proofs.finding.last_of.Goals as goal

pub loop-index-preserved : goal.loop-index-preserved
loop-index-preserved c =
    let ds = objects_in c.args.node.now in
    let lt : c.loop-index.index < length ds = omega (arith, c.loop-index-test.true, c.object_count-index-end.ensures) in
    let d = any_of ds c.loop-index.index lt in
    elim c.if-object_id-id.branch [
      | then-object_id-id w ↦ (
        w.last-is ∙ ap Some (w.object.ensures d) ∙ sym (last_more c.args.id ds c.loop-index.index d lt (sym (c.object_id.ensures d) ∙ w.if-object_id-id.true)),
        subst (λ (o : Option Dated). IfSome o (λ x. IsTrue (by_life_fits x))) (sym w.last-is) (subst (λ (x : Dated). IsTrue (by_life_fits x)) (sym (w.object.ensures d)) (c.requires c.loop-index.index d lt)),
      )
      | else-object_id-id w ↦ (
        w.last-is ∙ c.loop-index.invariant.0 ∙ sym (last_same c.args.id ds c.loop-index.index d lt (λ same. w.if-object_id-id.false (c.object_id.ensures d ∙ same))),
        subst (λ (o : Option Dated). IfSome o (λ x. IsTrue (by_life_fits x))) (sym w.last-is) c.loop-index.invariant.1,
      )
    ]
