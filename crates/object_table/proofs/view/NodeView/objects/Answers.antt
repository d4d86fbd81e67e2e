use Rattle.std.proofs.Common.{◌<◌, ◌++◌, [], ◌∷◌, length, take, List, sym, ap, ◌∙◌, arith}
use Rattle.std.proofs.lemmas.List.{take_more}
use Rattle.bw_types.specs.declared.dated.Dated.{Dated}
use Rattle.object_table.specs.Nodes.{objects_in}
use Rattle.object_table.proofs.view.NodeView.objects.Goals as goal

pub loop-place-preserved : goal.loop-place-preserved
loop-place-preserved c =
    let xs = objects_in c.args.self.now in
    let lt : c.loop-place.place < length xs = omega (arith, c.loop-place-test.true, c.object_count-place-end.ensures) in
    c.push.ensures.items ∙ ap (λ (ys : List Dated). ys ++ (c.object.result ∷ [])) c.loop-place.invariant
    ∙ ap (λ (x : Dated). take c.loop-place.place xs ++ (x ∷ [])) (c.object.ensures c.object.result) ∙ sym (take_more xs c.loop-place.place c.object.result lt)
