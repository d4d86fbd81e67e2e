use Rattle.std.proofs.Common.{rules, ℕ, ◌+◌, ◌*◌, length, if◌then◌else◌, sym, subst, arith}
use Rattle.std.proofs.lemmas.Result.{err_from_is_err_and}
use Rattle.bw_types.specs.History.{changes, flat}
use Rattle.ports.specs.Pages.{PageMap}
use Rattle.page_space.specs.Shown.{staged_map}
use Rattle.corner_forest.specs.Enters.{first_pages}
use Rattle.page_warehouse.specs.Begun.{with_changes}
use Rattle.page_warehouse.specs.Entering.{PagesKeep}
use Rattle.page_warehouse.specs.Needs.{changes_need}
use Rattle.page_warehouse.proofs.Stages.{changes_then, not_damaged, ok_anyway, refused}
use Rattle.page_warehouse.proofs.Steps.{keeps_refused, keeps_then}
use Rattle.page_warehouse.proofs.drafting.draft.Goals as goal

pub returns-in_err-end-clause-keeps_on : goal.returns-in_err-end-clause-keeps_on
returns-in_err-end-clause-keeps_on g c = λ tells h lawful batch ver ev keep.
    let p = err_from_is_err_and c.from_residual.result c.from_residual.ensures.1 in
    let n : ℕ = (if c.args.by_ids then 8 * c.args.roots.now.table.count else 0) + changes_need c.args.roots.now.forest.params (length (changes h)) (length (flat c.args.rows.now)) in
    let Q = PagesKeep g.X.DomIndex (staged_map c.enter_batch.new.stage) c.enter_batch.new.roots (with_changes h (flat c.args.rows.now)) in
    keeps_refused _ n n c.args.stage.now c.enter_batch.new.stage c.from_residual.result c.in_err-end.field-0.0 Q Q p (omega arith)
    (c.in_err-end.ensures.keeps_on tells h lawful batch (omega (arith, ver)) ev keep)

pub set-requires : goal.set-requires
set-requires g c = record {
  lives = omega arith;
  table = search rules;
  few = search rules;
  roots = search rules;
}

pub returns-clause-keeps_on : goal.returns-clause-keeps_on
returns-clause-keeps_on g c = λ tells h lawful batch ver ev keep.
    let n : ℕ = (if c.args.by_ids then 8 * c.args.roots.now.table.count else 0) + changes_need c.args.roots.now.forest.params (length (changes h)) (length (flat c.args.rows.now)) in
    let on = c.in_ok-end.ensures.keeps_on tells h lawful batch (omega (arith, ver)) ev keep in
    let R = PagesKeep g.X.DomIndex (staged_map c.set.new.stage) c.enter_batch.new.roots (with_changes h (flat c.args.rows.now)) in
    keeps_then _ n 0 n c.args.stage.now c.enter_batch.new.stage c.set.new.stage c.set.result R tells on.changes.went_on (omega arith)
    (record {
      changes = c.set.ensures.changes;
      sound = λ order page asked. not_damaged c.set.result c.set.ensures.err page asked;
      left = ok_anyway c.set.result R (subst (λ (m : PageMap). PagesKeep g.X.DomIndex m c.enter_batch.new.roots (with_changes h (flat c.args.rows.now))) (sym c.set.ensures.map) on.left);
    })

pub returns-in_err-end-clause-small : goal.returns-in_err-end-clause-small
returns-in_err-end-clause-small g c = λ tells h lawful batch ver ev keep stay.
    let p = err_from_is_err_and c.from_residual.result c.from_residual.ensures.1 in
    let n : ℕ = (if c.args.by_ids then 8 * c.args.roots.now.table.count else 0) + (8 * length (flat c.args.rows.now) + first_pages c.args.roots.now.forest.params c.args.roots.now.forest.roots.items) in
    refused _ n c.args.stage.now c.enter_batch.new.stage c.from_residual.result c.in_err-end.field-0.0 p
    (c.in_err-end.ensures.small tells h lawful batch (omega (arith, ver)) ev keep stay)

pub returns-clause-small : goal.returns-clause-small
returns-clause-small g c = λ tells h lawful batch ver ev keep stay.
    let n : ℕ = (if c.args.by_ids then 8 * c.args.roots.now.table.count else 0) + (8 * length (flat c.args.rows.now) + first_pages c.args.roots.now.forest.params c.args.roots.now.forest.roots.items) in
    let on = c.in_ok-end.ensures.small tells h lawful batch (omega (arith, ver)) ev keep stay in
    changes_then _ n 0 n c.args.stage.now c.enter_batch.new.stage c.set.new.stage c.set.result on.went_on c.set.ensures.changes (omega arith)
