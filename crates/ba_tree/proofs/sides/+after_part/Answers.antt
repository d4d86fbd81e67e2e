use Rattle.std.proofs.Common.{◌≡◌, ◌++◌, ◌∷◌, List, ap, rules, ◌∙◌}
use Rattle.cut_parts.specs.Spelling.{nodes_of}
use Rattle.page_layout.specs.declared.cut_page.CutNode.TheVariants.{Entry, Cut}
use Rattle.cut_parts.proofs.PartNodes.{IsCutOf, cut_of, entry_of}
use Rattle.page_layout.specs.declared.cut_page.CutNode.{CutNode}
use Rattle.cut_parts.specs.Damage.{after_parts}
use Rattle.ba_tree.proofs.There.{after_more}
use Rattle.ba_tree.proofs.sides.+after_part.Goals as goal

pub returns-in-Entry-clause-part : goal.returns-in-Entry-clause-part
returns-in-Entry-clause-part t c = λ part rest nodes_are.
    let begun : Entry c.in-Entry.child ∷ c.in-Some.rest.now ≡ c.args.nodes.now = search rules in
    (entry_of part c.in-Entry.child c.in-Some.rest.now rest (begun ∙ nodes_are)).1

pub returns-in-Cut-clause-part : goal.returns-in-Cut-clause-part
returns-in-Cut-clause-part t c = λ part rest nodes_are.
    let begun : Cut c.in-Cut.dimension c.in-Cut.key c.in-Cut.low c.in-Cut.border ∷ c.in-Some.rest.now ≡ c.args.nodes.now = search rules in
    let cut : IsCutOf part c.in-Cut.dimension c.in-Cut.key c.in-Cut.low c.in-Cut.border c.in-Some.rest.now rest =
    cut_of part c.in-Cut.dimension c.in-Cut.key c.in-Cut.low c.in-Cut.border c.in-Some.rest.now rest (begun ∙ nodes_are) in
    c.after_part-in-Cut.ensures.part cut.high_side rest (c.after_part.ensures.part cut.low_side (nodes_of cut.high_side ++ rest) cut.nodes_are)

pub returns-in-Cut-clause-after : goal.returns-in-Cut-clause-after
returns-in-Cut-clause-after t c =
    let begun : Cut c.in-Cut.dimension c.in-Cut.key c.in-Cut.low c.in-Cut.border ∷ c.in-Some.rest.now ≡ c.args.nodes.now = search rules in
    c.after_part-in-Cut.ensures.after ∙ ap (λ (ns : List CutNode). after_parts 1 ns) c.after_part.ensures.after ∙ after_more 1 c.in-Some.rest.now
    ∙ ap (λ (ns : List CutNode). after_parts 1 ns) begun
