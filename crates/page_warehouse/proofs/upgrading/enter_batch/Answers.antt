use Rattle.std.proofs.Common.{◌≡◌, ℕ, ◌+◌, ◌*◌, ◌≤◌, Bool, true, List, length, IsTrue, if◌then◌else◌, sym, subst, arith}
use Rattle.bw_types.specs.History.{changes, flat}
use Rattle.bw_types.specs.Lawful.{IsLawful, IsLawfulBatch}
use Rattle.bw_types.specs.declared.params.Params.{Params}
use Rattle.bw_types.specs.declared.tree.Tree.{Tree}
use Rattle.ports.specs.Calls.{Changes}
use Rattle.corner_forest.specs.Enters.{first_pages}
use Rattle.corner_forest.specs.declared.forest.Forest.{Forest}
use Rattle.page_warehouse.specs.Begun.{with_changes}
use Rattle.page_warehouse.specs.Entering.{FormKeeps, PagesKeep}
use Rattle.page_warehouse.specs.Needs.{StayOnePage, changes_need}
use Rattle.page_warehouse.proofs.Stages.{changes_then}
use Rattle.page_warehouse.proofs.Steps.{keeps_then}
use Rattle.page_warehouse.proofs.upgrading.enter_batch.Goals as goal

pub returns-clause-keeps_on : goal.returns-clause-keeps_on
returns-clause-keeps_on g c = λ tells h lawful batch ver ev keep.
    let params : Params = c.args.roots.now.forest.params in
    let earlier : ℕ = length (changes h) in
    let n : ℕ = length (flat c.args.rows.now) in
    let old : ℕ = 8 * c.args.roots.now.table.count in
    let yes : c.args.by_ids ≡ true = c.if-not-by_ids.false in
    let here = subst (λ (b : Bool). FormKeeps g.X.DomIndex b (g.S.Pages.map c.args.stage.now) c.args.roots.now h) yes keep in
    let first = c.in_ok-renew_table.ensures.keeps_on tells h lawful here in
    let told = subst IsTrue (sym first.changes.went_on.tells) tells in
    let same : c.renew_table.new.roots.forest.params ≡ params = c.renew_table.ensures.roots.0 in
    let next = c.enter_rows-2.ensures.keeps_on told h (subst (λ (q : Params). IsLawful q h) (sym same) lawful) (subst (λ (q : Params). IsLawfulBatch q h (flat c.args.rows.now)) (sym same) batch) ver ev first.left in
    let most : old + changes_need c.renew_table.new.roots.forest.params earlier n ≤ (if c.args.by_ids then old else 0) + changes_need params earlier n =
    subst (λ (b : Bool). old + changes_need c.renew_table.new.roots.forest.params earlier n ≤ (if b then old else 0) + changes_need params earlier n) (sym yes)
    (subst (λ (q : Params). old + changes_need q earlier n ≤ old + changes_need params earlier n) (sym same) (omega arith)) in
    keeps_then g.S.Pages old (changes_need c.renew_table.new.roots.forest.params earlier n) ((if c.args.by_ids then old else 0) + changes_need params earlier n) c.args.stage.now c.renew_table.new.stage c.enter_rows-2.new.stage c.enter_rows-2.result
    (PagesKeep g.X.DomIndex (g.S.Pages.map c.enter_rows-2.new.stage) c.enter_rows-2.new.roots (with_changes h (flat c.args.rows.now))) tells first.changes.went_on most next

pub returns-clause-small : goal.returns-clause-small
returns-clause-small g c = λ tells h lawful batch ver ev keep stay.
    let params : Params = c.args.roots.now.forest.params in
    let items : List Tree = c.args.roots.now.forest.roots.items in
    let m : ℕ = length (changes h) + length (flat c.args.rows.now) in
    let n : ℕ = 8 * length (flat c.args.rows.now) + first_pages params items in
    let old : ℕ = 8 * c.args.roots.now.table.count in
    let yes : c.args.by_ids ≡ true = c.if-not-by_ids.false in
    let here = subst (λ (b : Bool). FormKeeps g.X.DomIndex b (g.S.Pages.map c.args.stage.now) c.args.roots.now h) yes keep in
    let first = c.in_ok-renew_table.ensures.keeps_on tells h lawful here in
    let told = subst IsTrue (sym first.changes.went_on.tells) tells in
    let same : c.renew_table.new.roots.forest ≡ c.args.roots.now.forest = c.renew_table.ensures.trees in
    let next = c.enter_rows-2.ensures.small told h (subst (λ (f : Forest). IsLawful f.params h) (sym same) lawful) (subst (λ (f : Forest). IsLawfulBatch f.params h (flat c.args.rows.now)) (sym same) batch) ver ev first.left
    (subst (λ (f : Forest). StayOnePage f.params m f.roots.items) (sym same) stay) in
    let most : old + n ≤ (if c.args.by_ids then old else 0) + n = subst (λ (b : Bool). old + n ≤ (if b then old else 0) + n) (sym yes) (omega arith) in
    changes_then g.S.Pages old n ((if c.args.by_ids then old else 0) + n) c.args.stage.now c.renew_table.new.stage c.enter_rows-2.new.stage c.enter_rows-2.result first.changes.went_on
    (subst (λ (f : Forest). Changes g.S.Pages (8 * length (flat c.args.rows.now) + first_pages f.params f.roots.items) c.renew_table.new.stage c.enter_rows-2.new.stage c.enter_rows-2.result) same next) most
