use Rattle.std.proofs.Common.{arith, refl, ap}
use Rattle.page_layout.specs.CutPage.{cut_one}
use Rattle.page_layout.specs.declared.cut_page.CutNode.{CutNode}
use Rattle.page_layout.specs.declared.cut_page.CutNode.TheVariants.{Entry}
use Rattle.cut_parts.proofs.Stepping.{cut_of_step, cut_with_border, entry_of_step, few_before, first_node, next_place}
use Rattle.cut_parts.proofs.nodes.node_at.Goals as goal

none : CutNode
none = Entry 0

pub overflow_add-next : goal.overflow_add-next
overflow_add-next c =
    let few = few_before c.args.cuts.now _ _ c.keeps_rules.ensures c.requires.place in
    omega (arith, c.requires.within, few.1)

pub overflow_add-result : goal.overflow_add-result
overflow_add-result c =
    let few = few_before c.args.cuts.now _ _ c.keeps_rules.ensures c.requires.place in
    omega (arith, few.0)

pub returns-in-Leads-clause-node : goal.returns-in-Leads-clause-node
returns-in-Leads-clause-node c =
    first_node c.args.cuts.now.nodes.items c.args.at.place _ none _ c.requires.within refl (entry_of_step _ c.in-Leads.child (c.in-Leads.ensures none))

pub returns-in-Leads-clause-place : goal.returns-in-Leads-clause-place
returns-in-Leads-clause-place c =
    let no_cut = ap cut_one (entry_of_step _ c.in-Leads.child (c.in-Leads.ensures none)) in
    next_place c.args.cuts.now.nodes.items c.args.at.place c.args.at.before _ c.args.at.before none c.requires.place c.requires.within refl
    (omega (arith, no_cut))

pub returns-in-Parts-clause-node : goal.returns-in-Parts-clause-node
returns-in-Parts-clause-node c =
    let is_cut = cut_of_step _ c.in-Parts.dimension c.in-Parts.key c.in-Parts.low (c.in-Parts.ensures none) in
    first_node c.args.cuts.now.nodes.items c.args.at.place _ none _ c.requires.within refl
    (cut_with_border _ c.in-Parts.dimension c.in-Parts.key c.in-Parts.low c.border.result (c.in-Parts.ensures none) (c.border.ensures none is_cut))

pub returns-in-Parts-clause-place : goal.returns-in-Parts-clause-place
returns-in-Parts-clause-place c =
    let is_cut = cut_of_step _ c.in-Parts.dimension c.in-Parts.key c.in-Parts.low (c.in-Parts.ensures none) in
    next_place c.args.cuts.now.nodes.items c.args.at.place c.args.at.before _ _ none c.requires.place c.requires.within refl
    (omega (arith, is_cut))
