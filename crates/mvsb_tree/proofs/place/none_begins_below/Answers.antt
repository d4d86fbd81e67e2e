use Rattle.std.proofs.Common.{◌≡◌, false, List, sym, ◌∙◌, subst, arith, take_all}
use Rattle.std.specs.List.{All}
use Rattle.std.proofs.lemmas.List.Elements.{All-more}
use Rattle.page_layout.specs.declared.mv_node.MvEntry.{MvEntry}
use Rattle.mv_pages.specs.Alive.{is_alive}
use Rattle.mv_pages.proofs.Order.{ordered}
use Rattle.mvsb_tree.specs.Damage.{not_below}
use Rattle.mvsb_tree.proofs.Within.{dead_pass, first_decides, none_alive}
use Rattle.mvsb_tree.proofs.place.none_begins_below.Goals as goal

pub returns-then-is_alive : goal.returns-then-is_alive
returns-then-is_alive c =
    let es : List MvEntry = c.args.view.now.entries.items in
    first_decides c.args.place es (ordered es c.keeps_rules.ensures.entries.order) c.loop-index.index c.entry-e.result
    (omega (arith, c.loop-index-test.true, c.len-index-end.ensures)) c.entry-e.ensures (sym c.is_alive.ensures ∙ c.if-is_alive.true) c.loop-index.invariant

pub loop-index-preserved : goal.loop-index-preserved
loop-index-preserved c =
    All-more (λ f. is_alive c.args.place.version f ≡ false) c.args.view.now.entries.items c.loop-index.index c.entry-e.result
    (omega (arith, c.loop-index-test.true, c.len-index-end.ensures)) c.loop-index.invariant
    (subst (λ (f : MvEntry). is_alive c.args.place.version f ≡ false) (c.entry-e.ensures c.entry-e.result) (sym c.is_alive.ensures ∙ c.if-is_alive.false))

pub returns : goal.returns
returns c =
    let es : List MvEntry = c.args.view.now.entries.items in
    none_alive (not_below c.args.place) c.args.place.version es
    (subst (All (λ f. is_alive c.args.place.version f ≡ false)) (take_all c.loop-index.index es (omega (arith, c.loop-index-test.false, c.len-index-end.ensures))) c.loop-index.invariant)
    (λ f dead. dead_pass c.args.place.version f _ dead)
