use Rattle.std.proofs.Common.{rules, ◌≡◌, ◌<◌, ◌≤◌, ◌%◌, ◌^◌, ℕ, List, cond, length, sym, ap, ◌∙◌, subst, arith}
use Rattle.std.proofs.lemmas.List.Elements.{All-more}
use Rattle.page_layout.specs.Totals.{next_total}
use Rattle.page_layout.specs.declared.mv_node.MvEntry.{MvEntry}
use Rattle.mv_pages.specs.Alive.{counted, reaches}
use Rattle.mv_pages.proofs.Begun.{all_begun, begun_count, begun_value, reaches_begun}
use Rattle.mv_pages.proofs.Order.{ordered}
use Rattle.mv_pages.proofs.view.begun_on.Goals as goal

pub returns-then-key-e-clause-count : goal.returns-then-key-e-clause-count
returns-then-key-e-clause-count c =
    let es : List MvEntry = c.args.view.now.entries.items in
    begun_count c.args.key c.args.version es (ordered es c.keeps_rules.ensures.entries.order) c.loop-index.index c.entry-e.result
    (omega (arith, c.loop-index-test.true, c.len-index-end.ensures)) c.entry-e.ensures c.if-key-e.true c.loop-index.invariant.below

pub returns-then-key-e-clause-value : goal.returns-then-key-e-clause-value
returns-then-key-e-clause-value c =
    let es : List MvEntry = c.args.view.now.entries.items in
    c.loop-index.invariant.value ∙ ap (λ (n : ℕ). n % 2 ^ 128) (begun_value c.args.key c.args.version es (ordered es c.keeps_rules.ensures.entries.order) c.loop-index.index c.entry-e.result
    (omega (arith, c.loop-index-test.true, c.len-index-end.ensures)) c.entry-e.ensures c.if-key-e.true)

pub loop-index-preserved : goal.loop-index-preserved
loop-index-preserved c =
    let es : List MvEntry = c.args.view.now.entries.items in
    let e : MvEntry = c.entry-e.result in
    let index : ℕ = c.loop-index.index in
    let within : index < length es = omega (arith, c.loop-index-test.true, c.len-index-end.ensures) in
    let here : reaches c.args.key c.args.version e ≡ c.lives.result = reaches_begun c.args.key c.args.version e c.if-key-e.false ∙ sym c.lives.ensures in
    record {
      below = All-more (λ f. f.low ≤ c.args.key) es index e within c.loop-index.invariant.below (subst (λ (f : MvEntry). f.low ≤ c.args.key) (c.entry-e.ensures e) c.if-key-e.false);
      value = next_total (counted c.args.key c.args.version) es index c.loop-index.value c.worth-value.result (2 ^ 128) e within c.entry-e.ensures
          (c.worth-value.ensures ∙ sym (ap (λ b. cond b e.value 0) here)) c.loop-index.invariant.value;
    }

pub returns-clause-count : goal.returns-clause-count
returns-clause-count c = all_begun c.args.key c.args.view.now.entries.items c.len.result (omega (arith, c.len.ensures)) (search rules)
