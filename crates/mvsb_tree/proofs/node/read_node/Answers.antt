use Rattle.std.proofs.Common.{◌≡◌, ◌+◌, ◌<◌, ◌≤◌, ◌∷◌, ◌++◌, ◌∙◌, ℕ, suc, List, [], length, take, sym, ap, arith}
use Rattle.std.proofs.Math.Seq.{take-suc}
use Rattle.std.proofs.lemmas.List.{length-take-le}
use Rattle.page_layout.specs.declared.mv_node.MvEntry.{MvEntry}
use Rattle.mvsb_tree.proofs.node.read_node.Goals as goal

pub push-requires : goal.push-requires
push-requires c =
    let items : List MvEntry = c.args.view.now.entries.items in
    let within : c.loop-index.index < length items = omega (arith, c.loop-index-test.true, c.len-index-end.ensures) in
    let here : length c.loop-index.node.entries.items ≡ c.loop-index.index =
    ap length c.loop-index.invariant.entries ∙ length-take-le c.loop-index.index items (omega arith) in
    let few : length items ≤ 96 = c.keeps_rules.ensures.few in
    let room : length c.loop-index.node.entries.items < 100 = omega arith in
    (omega arith, room)

pub loop-index-preserved : goal.loop-index-preserved
loop-index-preserved c =
    let items : List MvEntry = c.args.view.now.entries.items in
    let index : ℕ = c.loop-index.index in
    let lt : index < length items = omega (arith, c.loop-index-test.true, c.len-index-end.ensures) in
    let next : index + 1 ≡ suc index = omega arith in
    let one : take (index + 1) items ≡ take index items ++ c.entry.result ∷ [] =
    ap (λ (n : ℕ). take n items) next ∙ take-suc items index c.entry.result lt ∙ ap (λ (x : MvEntry). take index items ++ x ∷ []) (sym (c.entry.ensures c.entry.result)) in
    record {
      entries = c.push.ensures.items ∙ ap (λ (xs : List MvEntry). xs ++ c.entry.result ∷ []) c.loop-index.invariant.entries ∙ sym one;
      level = c.loop-index.invariant.level;
      place = c.loop-index.invariant.place;
      before = c.loop-index.invariant.before;
    }
