use Rattle.std.proofs.Common.{◌≡◌, ◌+◌, ◌≤◌, ◌++◌, ◌∷◌, ◌∙◌, ℕ, List, [], length, drop, sym, ap, subst, arith, append_assoc, length-append}
use Rattle.std.proofs.lemmas.List.{append-nil}
use Rattle.page_layout.specs.declared.cut_page.CutNode.{CutNode}
use Rattle.cut_parts.specs.Places.{IsPlace}
use Rattle.cut_parts.proofs.Stepping.{few_before, no_more_nodes}
use Rattle.cut_parts.proofs.nodes.fill.Goals as goal

pub push-requires : goal.push-requires
push-requires c =
    let nodes : List CutNode = c.args.cuts.now.nodes.items in
    let items : List CutNode = c.loop-place.page.nodes.items in
    let few = few_before c.args.cuts.now _ _ c.keeps_rules.ensures c.loop-place.invariant.at in
    let whole : length (items ++ drop c.loop-place.place nodes) ≡ length nodes = ap (λ (ns : List CutNode). length ns) c.loop-place.invariant.whole in
    omega (arith, few.1, whole, length-append items (drop c.loop-place.place nodes))

pub loop-place-preserved : goal.loop-place-preserved
loop-place-preserved c =
    let nodes : List CutNode = c.args.cuts.now.nodes.items in
    let items : List CutNode = c.loop-place.page.nodes.items in
    let node : CutNode = c.node_at-node.result.0 in
    let behind : List CutNode = drop (c.loop-place.place + 1) nodes in
    let first : drop c.loop-place.place nodes ≡ node ∷ behind = c.node_at-node.ensures.node ∙ ap (λ (n : ℕ). node ∷ drop n nodes) c.node_at-node.ensures.next in
    record {
      at = subst (λ (n : ℕ). IsPlace nodes n c.node_at-node.result.1.before) c.node_at-node.ensures.next c.node_at-node.ensures.place;
      whole = ap (λ (ns : List CutNode). ns ++ behind) c.push.ensures.items
          ∙ append_assoc items (node ∷ []) behind
          ∙ ap (λ (ns : List CutNode). items ++ ns) (sym first)
          ∙ c.loop-place.invariant.whole;
    }

pub returns : goal.returns
returns c =
    let nodes : List CutNode = c.args.cuts.now.nodes.items in
    let items : List CutNode = c.loop-place.page.nodes.items in
    let past : length nodes ≤ c.loop-place.place = omega (arith, c.loop-place-test.false, c.node_count-place-end.ensures) in
    sym (append-nil items) ∙ ap (λ (ns : List CutNode). items ++ ns) (sym (no_more_nodes nodes c.loop-place.place past)) ∙ c.loop-place.invariant.whole
