use Rattle.std.proofs.Common.{◌≡◌, ℕ, ◌+◌, ◌*◌, List, length, IsTrue, Ok, Err, sym, ◌∙◌, ap, subst, arith}
use Rattle.std.proofs.lemmas.Result.{err_from_is_err_and}
use Rattle.std.specs.List.{All}
use Rattle.bw_types.specs.History.{History, changes, flat}
use Rattle.bw_types.specs.declared.change.Change.{Change}
use Rattle.corner_forest.specs.declared.forest.Forest.{Forest}
use Rattle.corner_forest.specs.Enters.{first_pages}
use Rattle.page_warehouse.specs.Begun.{with_changes}
use Rattle.page_warehouse.specs.Growth.{most_growth}
use Rattle.page_warehouse.specs.Entering.{PagesKeep, PagesWait}
use Rattle.page_warehouse.specs.Needs.{StayOnePage}
use Rattle.page_warehouse.specs.Waiting.{CanWait}
use Rattle.corner_forest.specs.declared.entry.Entry.{Entry as Waiting}
use Rattle.page_warehouse.proofs.Next.{entries_then}
use Rattle.page_warehouse.proofs.Rows.{for_both}
use Rattle.page_warehouse.proofs.Stages.{changes_then, refused, went_then}
use Rattle.page_warehouse.proofs.Steps.{keeps_ok, keeps_refused, keeps_then, widened}
use Rattle.page_warehouse.proofs.entering.enter_rows.Goals as goal

pub enter_trees-requires-clause-waiting : goal.enter_trees-requires-clause-waiting
enter_trees-requires-clause-waiting g c =
    subst (λ (l : List Waiting). All (CanWait c.enter_table.new.roots.forest.params) l) (sym c.as_slice.ensures.value)
    (subst (λ (f : Forest). All (CanWait f.params) c.enter_table.new.waiting.items) (sym c.enter_table.ensures.trees) c.in_ok-end.ensures.waiting.0)

pub returns-in_err-end-clause-keeps_on : goal.returns-in_err-end-clause-keeps_on
returns-in_err-end-clause-keeps_on g c = λ tells h lawful batch ver ev keep.
    let p = err_from_is_err_and c.from_residual.result c.from_residual.ensures.1 in
    let k : ℕ = length (flat c.args.rows.now) in
    let each : ℕ = most_growth c.args.roots.now.forest.params (length (changes h) + k) in
    let enough = for_both k each in
    let Q = PagesWait g.X.DomIndex (g.S.Pages.map c.enter_table.new.stage) c.enter_table.new.roots c.args.version (with_changes h (flat c.args.rows.now)) c.enter_table.new.waiting.items in
    let R = PagesKeep g.X.DomIndex (g.S.Pages.map c.enter_table.new.stage) c.enter_table.new.roots (with_changes h (flat c.args.rows.now)) in
    keeps_refused g.S.Pages (8 * k) (k * (8 + each)) c.args.stage.now c.enter_table.new.stage c.from_residual.result c.in_err-end.field-0.0 Q R p (omega (arith, enough))
    (c.in_err-end.ensures.keeps_on tells h lawful batch ver ev keep)

pub returns-in_err-enter_trees-clause-keeps_on : goal.returns-in_err-enter_trees-clause-keeps_on
returns-in_err-enter_trees-clause-keeps_on g c = λ tells h lawful batch ver ev keep.
    let params = c.args.roots.now.forest.params in
    let batch_of : List Change = flat c.args.rows.now in
    let k : ℕ = length batch_of in
    let most : ℕ = length (changes h) + k in
    let grown : History = with_changes h batch_of in
    let first = c.in_ok-end.ensures.keeps_on tells h lawful batch ver ev keep in
    let told = subst IsTrue (sym first.changes.went_on.tells) tells in
    let same : c.enter_table.new.roots.forest ≡ c.args.roots.now.forest = c.enter_table.ensures.trees in
    let slice : c.as_slice.result.now ≡ c.enter_table.new.waiting.items = c.as_slice.ensures.value in
    let wait = subst (λ (l : List Waiting). PagesWait g.X.DomIndex (g.S.Pages.map c.enter_table.new.stage) c.enter_table.new.roots c.args.version grown l) (sym slice) first.left in
    let count = entries_then c.entries_are_changes.ensures c.changes_go_on.ensures.fronts params h batch_of lawful batch in
    let each : ℕ = most_growth params most in
    let here : ℕ = length c.as_slice.result.now * most_growth c.enter_table.new.roots.forest.params most in
    let many = ap length slice ∙ c.in_ok-end.ensures.waiting.1 in
    let much : most_growth c.enter_table.new.roots.forest.params most ≡ each = ap (λ (f : Forest). most_growth f.params most) same in
    let all : here ≡ k * each = λ i. many i * much i in
    let R = PagesKeep g.X.DomIndex (g.S.Pages.map c.enter_trees.new.stage) c.enter_trees.new.roots grown in
    let on = c.in_err-enter_trees.ensures.keeps_on told grown most (omega (arith, count)) wait in
    let p = err_from_is_err_and c.from_residual-in_err-enter_trees.result c.from_residual-in_err-enter_trees.ensures.1 in
    keeps_then g.S.Pages (8 * k) (k * each) (k * (8 + each)) c.args.stage.now c.enter_table.new.stage c.enter_trees.new.stage c.from_residual-in_err-enter_trees.result R tells first.changes.went_on (for_both k each)
    (keeps_refused g.S.Pages here (k * each) c.enter_table.new.stage c.enter_trees.new.stage c.from_residual-in_err-enter_trees.result c.in_err-enter_trees.field-0.0 R R p (omega (arith, all)) on)

pub returns-clause-keeps_on : goal.returns-clause-keeps_on
returns-clause-keeps_on g c = λ tells h lawful batch ver ev keep.
    let params = c.args.roots.now.forest.params in
    let batch_of : List Change = flat c.args.rows.now in
    let k : ℕ = length batch_of in
    let most : ℕ = length (changes h) + k in
    let grown : History = with_changes h batch_of in
    let first = c.in_ok-end.ensures.keeps_on tells h lawful batch ver ev keep in
    let told = subst IsTrue (sym first.changes.went_on.tells) tells in
    let same : c.enter_table.new.roots.forest ≡ c.args.roots.now.forest = c.enter_table.ensures.trees in
    let slice : c.as_slice.result.now ≡ c.enter_table.new.waiting.items = c.as_slice.ensures.value in
    let wait = subst (λ (l : List Waiting). PagesWait g.X.DomIndex (g.S.Pages.map c.enter_table.new.stage) c.enter_table.new.roots c.args.version grown l) (sym slice) first.left in
    let count = entries_then c.entries_are_changes.ensures c.changes_go_on.ensures.fronts params h batch_of lawful batch in
    let each : ℕ = most_growth params most in
    let here : ℕ = length c.as_slice.result.now * most_growth c.enter_table.new.roots.forest.params most in
    let many = ap length slice ∙ c.in_ok-end.ensures.waiting.1 in
    let much : most_growth c.enter_table.new.roots.forest.params most ≡ each = ap (λ (f : Forest). most_growth f.params most) same in
    let all : here ≡ k * each = λ i. many i * much i in
    let R = PagesKeep g.X.DomIndex (g.S.Pages.map c.enter_trees.new.stage) c.enter_trees.new.roots grown in
    let on = c.in_ok-enter_trees.ensures.keeps_on told grown most (omega (arith, count)) wait in
    keeps_then g.S.Pages (8 * k) (k * each) (k * (8 + each)) c.args.stage.now c.enter_table.new.stage c.enter_trees.new.stage (Ok c.in_ok-end.end) R tells first.changes.went_on (for_both k each)
    (keeps_ok g.S.Pages here (k * each) c.enter_table.new.stage c.enter_trees.new.stage tt c.in_ok-end.end R R (omega (arith, all)) (λ r. r) on)

pub returns-in_err-end-clause-small : goal.returns-in_err-end-clause-small
returns-in_err-end-clause-small g c = λ tells h lawful batch ver ev keep stay.
    let p = err_from_is_err_and c.from_residual.result c.from_residual.ensures.1 in
    let k : ℕ = length (flat c.args.rows.now) in
    let fp : ℕ = first_pages c.args.roots.now.forest.params c.args.roots.now.forest.roots.items in
    let on = c.in_err-end.ensures.keeps_on tells h lawful batch ver ev keep in
    refused g.S.Pages (8 * k + fp) c.args.stage.now c.enter_table.new.stage c.from_residual.result c.in_err-end.field-0.0 p
    (widened g.S.Pages (8 * k) (8 * k + fp) c.args.stage.now c.enter_table.new.stage (Err c.in_err-end.field-0.0) (omega arith) on.changes)

pub returns-in_err-enter_trees-clause-small : goal.returns-in_err-enter_trees-clause-small
returns-in_err-enter_trees-clause-small g c = λ tells h lawful batch ver ev keep stay.
    let params = c.args.roots.now.forest.params in
    let batch_of : List Change = flat c.args.rows.now in
    let k : ℕ = length batch_of in
    let most : ℕ = length (changes h) + k in
    let grown : History = with_changes h batch_of in
    let first = c.in_ok-end.ensures.keeps_on tells h lawful batch ver ev keep in
    let told = subst IsTrue (sym first.changes.went_on.tells) tells in
    let same : c.enter_table.new.roots.forest ≡ c.args.roots.now.forest = c.enter_table.ensures.trees in
    let slice : c.as_slice.result.now ≡ c.enter_table.new.waiting.items = c.as_slice.ensures.value in
    let wait = subst (λ (l : List Waiting). PagesWait g.X.DomIndex (g.S.Pages.map c.enter_table.new.stage) c.enter_table.new.roots c.args.version grown l) (sym slice) first.left in
    let count = entries_then c.entries_are_changes.ensures c.changes_go_on.ensures.fronts params h batch_of lawful batch in
    let fp : ℕ = first_pages params c.args.roots.now.forest.roots.items in
    let fp1 : ℕ = first_pages c.enter_table.new.roots.forest.params c.enter_table.new.roots.forest.roots.items in
    let fps : fp1 ≡ fp = ap (λ (f : Forest). first_pages f.params f.roots.items) same in
    let stay1 = subst (λ (f : Forest). StayOnePage f.params most f.roots.items) (sym same) stay in
    let on = c.in_err-enter_trees.ensures.small told grown most (omega (arith, count)) wait stay1 in
    let p = err_from_is_err_and c.from_residual-in_err-enter_trees.result c.from_residual-in_err-enter_trees.ensures.1 in
    changes_then g.S.Pages (8 * k) fp1 (8 * k + fp) c.args.stage.now c.enter_table.new.stage c.enter_trees.new.stage c.from_residual-in_err-enter_trees.result first.changes.went_on
    (refused g.S.Pages fp1 c.enter_table.new.stage c.enter_trees.new.stage c.from_residual-in_err-enter_trees.result c.in_err-enter_trees.field-0.0 p on) (omega (arith, fps))

pub returns-clause-small : goal.returns-clause-small
returns-clause-small g c = λ tells h lawful batch ver ev keep stay.
    let params = c.args.roots.now.forest.params in
    let batch_of : List Change = flat c.args.rows.now in
    let k : ℕ = length batch_of in
    let most : ℕ = length (changes h) + k in
    let grown : History = with_changes h batch_of in
    let first = c.in_ok-end.ensures.keeps_on tells h lawful batch ver ev keep in
    let told = subst IsTrue (sym first.changes.went_on.tells) tells in
    let same : c.enter_table.new.roots.forest ≡ c.args.roots.now.forest = c.enter_table.ensures.trees in
    let slice : c.as_slice.result.now ≡ c.enter_table.new.waiting.items = c.as_slice.ensures.value in
    let wait = subst (λ (l : List Waiting). PagesWait g.X.DomIndex (g.S.Pages.map c.enter_table.new.stage) c.enter_table.new.roots c.args.version grown l) (sym slice) first.left in
    let count = entries_then c.entries_are_changes.ensures c.changes_go_on.ensures.fronts params h batch_of lawful batch in
    let fp : ℕ = first_pages params c.args.roots.now.forest.roots.items in
    let fp1 : ℕ = first_pages c.enter_table.new.roots.forest.params c.enter_table.new.roots.forest.roots.items in
    let fps : fp1 ≡ fp = ap (λ (f : Forest). first_pages f.params f.roots.items) same in
    let stay1 = subst (λ (f : Forest). StayOnePage f.params most f.roots.items) (sym same) stay in
    let on = c.in_ok-enter_trees.ensures.small told grown most (omega (arith, count)) wait stay1 in
    record {
      went_on = went_then g.S.Pages (8 * k) fp1 (8 * k + fp) c.args.stage.now c.enter_table.new.stage c.enter_trees.new.stage first.changes.went_on on.went_on (omega (arith, fps));
      disk = λ e. cc;
      page_limit = λ n e. cc;
    }
