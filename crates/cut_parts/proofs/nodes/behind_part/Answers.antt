use Rattle.std.proofs.Common.{List, length, ◌<◌, arith, refl, ap}
use Rattle.page_layout.specs.CutPage.{cut_one}
use Rattle.page_layout.specs.declared.cut_page.CutNode.{CutNode}
use Rattle.page_layout.specs.declared.cut_page.CutNode.TheVariants.{Entry}
use Rattle.cut_parts.proofs.Stepping.{cut_of_step, entry_of_step, few_before, next_place, past_cut, past_entry}
use Rattle.cut_parts.proofs.nodes.behind_part.Goals as goal
use Rattle.cut_parts.proofs.nodes.behind_part.Goals.{in-Leads, in-Parts}

none : CutNode
none = Entry 0

pub overflow_add-parts : goal.overflow_add-parts
overflow_add-parts c =
    let few = few_before c.args.cuts.now _ _ c.keeps_rules.ensures c.loop-parts.invariant.at in
    omega (arith, few.1, c.loop-parts.invariant.few, c.loop-parts.invariant.at.within)

pub overflow_add-before : goal.overflow_add-before
overflow_add-before c =
    let few = few_before c.args.cuts.now _ _ c.keeps_rules.ensures c.loop-parts.invariant.at in
    omega (arith, few.0)

pub loop-parts-preserved : goal.loop-parts-preserved
loop-parts-preserved c =
    let inv = c.loop-parts.invariant in
    let nodes : List CutNode = c.args.cuts.now.nodes.items in
    let place = c.loop-parts.place in
    let lt : place < length nodes = omega (arith, c.if-place-count.true, c.node_count-count.ensures) in
    elim c.match-step.branch [
      | in-Leads w ↦
          let is_entry = entry_of_step _ w.in-Leads.child (w.in-Leads.ensures none) in
          record {
            few = omega (arith, w.parts-is, inv.few);
            at = next_place nodes place c.loop-parts.before _ _ none inv.at lt refl (omega (arith, w.before-is, ap cut_one is_entry));
            rest = rw w.parts-is (past_entry nodes _ place c.loop-parts.parts none w.in-Leads.child lt (omega (arith, c.loop-parts-test.true)) is_entry inv.rest);
          }
      | in-Parts w ↦
          let is_cut = cut_of_step _ w.in-Parts.dimension w.in-Parts.key w.in-Parts.low (w.in-Parts.ensures none) in
          record {
            few = omega (arith, w.parts-is, inv.few);
            at = next_place nodes place c.loop-parts.before _ _ none inv.at lt refl (omega (arith, w.before-is, is_cut));
            rest = rw w.parts-is (past_cut nodes _ place c.loop-parts.parts _ none lt (omega (arith, c.loop-parts-test.true)) refl is_cut inv.rest);
          }
    ]
