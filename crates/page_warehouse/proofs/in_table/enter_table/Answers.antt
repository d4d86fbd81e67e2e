use Rattle.std.proofs.Common.{rules, ◌≡◌, ℕ, ◌+◌, ◌*◌, ◌<◌, ◌≤◌, List, ◌++◌, length, IsTrue, take, take_all, drop, get_or, sym, ◌∙◌, ap, subst, arith}
use Rattle.std.proofs.lemmas.Result.{err_from_is_err_and}
use Rattle.std.specs.List.{All}
use Rattle.bw_types.specs.History.{flat, flat_row}
use Rattle.bw_types.specs.Lawful.{IsLawful, IsLawfulBatch}
use Rattle.bw_types.specs.declared.change.Change.{Change}
use Rattle.bw_types.specs.declared.params.Params.{Params}
use Rattle.bw_types.specs.declared.row.Row.{Row}
use Rattle.corner_forest.specs.declared.forest.Forest.{Forest}
use Rattle.ports.specs.Calls.{WentOn}
use Rattle.page_warehouse.specs.Begun.{with_changes}
use Rattle.page_warehouse.specs.Entering.{PagesWait}
use Rattle.page_warehouse.specs.Waiting.{CanWait}
use Rattle.page_warehouse.proofs.Rows.{batch-at, blank_row, flat-more, length-at, length-more}
use Rattle.page_warehouse.proofs.Stages.{went_then}
use Rattle.page_warehouse.proofs.Steps.{keeps_refused, keeps_then}
use Rattle.page_warehouse.proofs.in_table.enter_table.Goals as goal

pub enter_row-requires-clause-event : goal.enter_row-requires-clause-event
enter_row-requires-clause-event g c =
    let within : c.loop-row.row-index < length c.args.rows.now = omega (arith, c.loop-row-test.true) in
    let parts = length-at c.args.rows.now c.loop-row.row-index blank_row within in
    omega (arith, parts, c.requires.event, c.loop-row.invariant.event)

pub enter_row-requires-clause-waiting : goal.enter_row-requires-clause-waiting
enter_row-requires-clause-waiting g c = subst (λ (f : Forest). All (CanWait f.params) c.loop-row.waiting.items) (sym c.loop-row.invariant.trees) c.loop-row.invariant.can

pub returns-in_err-event-clause-keeps_on : goal.returns-in_err-event-clause-keeps_on
returns-in_err-event-clause-keeps_on g c = λ tells h lawful batch ver ev keep.
    let rows : List Row = c.args.rows.now in
    let i : ℕ = c.loop-row.row-index in
    let within : i < length rows = omega (arith, c.loop-row-test.true) in
    let params : Params = c.args.roots.now.forest.params in
    let done : List Change = flat (take i rows) in
    let this : List Change = flat_row (get_or rows i blank_row) in
    let later : List Change = flat (drop (i + 1) rows) in
    let parts = length-at rows i blank_row within in
    let so_far = c.loop-row.invariant.told tells h lawful batch ver ev keep in
    let told = subst IsTrue (sym so_far.went.tells) tells in
    let same : c.loop-row.roots.forest ≡ c.args.roots.now.forest = c.loop-row.invariant.trees in
    let here = subst (λ (f : Forest). IsLawful f.params h) (sym same) lawful in
    let there = subst (λ (f : Forest). IsLawfulBatch f.params h (done ++ (this ++ later))) (sym same) (batch-at params h rows i blank_row within batch) in
    let p = err_from_is_err_and c.from_residual.result c.from_residual.ensures.1 in
    let on = c.in_err-event.ensures.keeps_on told h done later here there ver (omega (arith, c.loop-row.invariant.event, ev)) so_far.wait in
    let left : List Change → Type 0 = λ cs. PagesWait g.X.DomIndex (g.S.Pages.map c.enter_row.new.stage) c.enter_row.new.roots c.args.version (with_changes h cs) c.enter_row.new.waiting.items in
    keeps_then g.S.Pages (8 * length done) (8 * length this) (8 * length (flat rows)) c.args.stage.now c.loop-row.stage c.enter_row.new.stage c.from_residual.result (left (flat rows)) tells so_far.went (omega (arith, parts))
    (keeps_refused g.S.Pages (8 * length this) (8 * length this) c.loop-row.stage c.enter_row.new.stage c.from_residual.result c.in_err-event.field-0.0 (left (done ++ this)) (left (flat rows)) p (omega arith) on)

pub loop-row-preserved : goal.loop-row-preserved
loop-row-preserved g c = record {
  trees = c.enter_row.ensures.trees ∙ c.loop-row.invariant.trees;
  fits = search rules;
  event =
      let within : c.loop-row.row-index < length c.args.rows.now = omega (arith, c.loop-row-test.true) in
      let parts = length-more c.args.rows.now c.loop-row.row-index blank_row within in
      omega (arith, parts, c.in_ok-event.ensures.event, c.loop-row.invariant.event);
  can = subst (λ (f : Forest). All (CanWait f.params) c.enter_row.new.waiting.items) c.loop-row.invariant.trees c.in_ok-event.ensures.waiting.0;
  many =
      let within : c.loop-row.row-index < length c.args.rows.now = omega (arith, c.loop-row-test.true) in
      let parts = length-more c.args.rows.now c.loop-row.row-index blank_row within in
      let more = c.in_ok-event.ensures.waiting.1 in
      omega (arith, parts, more, c.loop-row.invariant.many);
  went = search rules;
  told = λ tells h lawful batch ver ev keep.
      let rows : List Row = c.args.rows.now in
      let i : ℕ = c.loop-row.row-index in
      let within : i < length rows = omega (arith, c.loop-row-test.true) in
      let params : Params = c.args.roots.now.forest.params in
      let done : List Change = flat (take i rows) in
      let this : List Change = flat_row (get_or rows i blank_row) in
      let later : List Change = flat (drop (i + 1) rows) in
      let parts = length-at rows i blank_row within in
      let so_far = c.loop-row.invariant.told tells h lawful batch ver ev keep in
      let told = subst IsTrue (sym so_far.went.tells) tells in
      let same : c.loop-row.roots.forest ≡ c.args.roots.now.forest = c.loop-row.invariant.trees in
      let here = subst (λ (f : Forest). IsLawful f.params h) (sym same) lawful in
      let there = subst (λ (f : Forest). IsLawfulBatch f.params h (done ++ (this ++ later))) (sym same) (batch-at params h rows i blank_row within batch) in
      let on = c.in_ok-event.ensures.keeps_on told h done later here there ver (omega (arith, c.loop-row.invariant.event, ev)) so_far.wait in
      let longer = length-more rows i blank_row within in
      record {
        went = went_then g.S.Pages (8 * length done) (8 * length this) (8 * length (flat (take (i + 1) rows))) c.args.stage.now c.loop-row.stage c.enter_row.new.stage so_far.went on.changes.went_on (omega (arith, longer));
        wait = subst (λ (l : List Change). PagesWait g.X.DomIndex (g.S.Pages.map c.enter_row.new.stage) c.enter_row.new.roots c.args.version (with_changes h l) c.enter_row.new.waiting.items) (sym (flat-more rows i blank_row within)) on.left;
      };
}

pub returns-clause-keeps_on : goal.returns-clause-keeps_on
returns-clause-keeps_on g c = λ tells h lawful batch ver ev keep.
    let rows : List Row = c.args.rows.now in
    let i : ℕ = c.loop-row.row-index in
    let past : length rows ≤ i = omega (arith, c.loop-row-test.false) in
    let whole : flat (take i rows) ≡ flat rows = ap flat (take_all i rows past) in
    let so_far = c.loop-row.invariant.told tells h lawful batch ver ev keep in
    record {
      changes = record {
        went_on = subst (λ (l : List Change). WentOn g.S.Pages (8 * length l) c.args.stage.now c.loop-row.stage) whole so_far.went;
        disk = λ e. cc;
        page_limit = λ n e. cc;
      };
      sound = λ order page asked. cc;
      left = subst (λ (l : List Change). PagesWait g.X.DomIndex (g.S.Pages.map c.loop-row.stage) c.loop-row.roots c.args.version (with_changes h l) c.loop-row.waiting.items) whole so_far.wait;
    }
