use Rattle.std.proofs.Common.{◌<◌, ◌++◌, [], ◌∷◌, length, take, List, sym, ap, ◌∙◌, arith}
use Rattle.std.proofs.lemmas.List.{take_more}
use Rattle.page_layout.specs.declared.life_node.LifeEntry.{LifeEntry}
use Rattle.object_table.specs.Nodes.{entries_in}
use Rattle.object_table.proofs.view.NodeView.entries.Goals as goal

pub loop-place-preserved : goal.loop-place-preserved
loop-place-preserved c =
    let xs = entries_in c.args.self.now in
    let lt : c.loop-place.place < length xs = omega (arith, c.loop-place-test.true, c.entry_count-place-end.ensures) in
    c.push.ensures.items ∙ ap (λ (ys : List LifeEntry). ys ++ (c.entry.result ∷ [])) c.loop-place.invariant
    ∙ ap (λ (x : LifeEntry). take c.loop-place.place xs ++ (x ∷ [])) (c.entry.ensures c.entry.result) ∙ sym (take_more xs c.loop-place.place c.entry.result lt)
