use Rattle.std.proofs.Common.{◌≡◌, ◌+◌, ◌*◌, List, [], ◌∷◌, ◌++◌, length, IsTrue, Ok, sym, ap, subst, arith}
use Rattle.std.proofs.lemmas.Result.{err_from_is_err_and}
use Rattle.bw_types.specs.History.{flat_row}
use Rattle.bw_types.specs.Lawful.{IsLawfulBatch}
use Rattle.bw_types.specs.declared.change.Change.{Change}
use Rattle.bw_types.specs.declared.change.Change.TheVariants as change
use Rattle.page_warehouse.specs.Begun.{with_changes}
use Rattle.page_warehouse.specs.Entering.{KeepsOn, PagesWait}
use Rattle.page_warehouse.proofs.Steps.{batch_on, event_on, keeps_ok, keeps_refused, keeps_then, waits_on}
use Rattle.page_warehouse.proofs.in_table.enter_row.Goals as goal

pub returns-in_err-add_object-in-Add-clause-keeps_on : goal.returns-in_err-add_object-in-Add-clause-keeps_on
returns-in_err-add_object-in-Add-clause-keeps_on g c = λ tells h done later lawful batch ver ev wait.
    let is_flat : flat_row c.args.row.now ≡ change.Add c.in-Add.object ∷ [] = ap flat_row c.in-Add.is in
    let p = err_from_is_err_and c.from_residual.result c.from_residual.ensures.1 in
    subst (λ (cs : List Change). IsLawfulBatch c.args.roots.now.forest.params h (done ++ (cs ++ later)) → KeepsOn g.S.Pages (8 * length cs) c.args.stage.now c.add_object.new.stage c.from_residual.result (PagesWait g.X.DomIndex (g.S.Pages.map c.add_object.new.stage) c.add_object.new.roots c.args.version (with_changes h (done ++ cs)) c.add_object.new.waiting.items)) (sym is_flat)
    (λ batch. keeps_refused g.S.Pages 8 8 c.args.stage.now c.add_object.new.stage c.from_residual.result c.in_err-add_object-in-Add.field-0.0 (PagesWait g.X.DomIndex (g.S.Pages.map c.add_object.new.stage) c.add_object.new.roots c.args.version (with_changes h (done ++ change.Add c.in-Add.object ∷ [])) c.add_object.new.waiting.items) (PagesWait g.X.DomIndex (g.S.Pages.map c.add_object.new.stage) c.add_object.new.roots c.args.version (with_changes h (done ++ change.Add c.in-Add.object ∷ [])) c.add_object.new.waiting.items) p (omega arith)
    (c.in_err-add_object-in-Add.ensures.keeps_on tells h done later lawful batch ver ev wait)) batch

pub returns-in_ok-add_object-in-Add-clause-keeps_on : goal.returns-in_ok-add_object-in-Add-clause-keeps_on
returns-in_ok-add_object-in-Add-clause-keeps_on g c = λ tells h done later lawful batch ver ev wait.
    let is_flat : flat_row c.args.row.now ≡ change.Add c.in-Add.object ∷ [] = ap flat_row c.in-Add.is in
    subst (λ (cs : List Change). IsLawfulBatch c.args.roots.now.forest.params h (done ++ (cs ++ later)) → KeepsOn g.S.Pages (8 * length cs) c.args.stage.now c.add_object.new.stage (Ok (c.args.event + 1)) (PagesWait g.X.DomIndex (g.S.Pages.map c.add_object.new.stage) c.add_object.new.roots c.args.version (with_changes h (done ++ cs)) c.add_object.new.waiting.items)) (sym is_flat)
    (λ batch. keeps_ok g.S.Pages 8 8 c.args.stage.now c.add_object.new.stage c.in_ok-add_object-in-Add.field-0 (c.args.event + 1) (PagesWait g.X.DomIndex (g.S.Pages.map c.add_object.new.stage) c.add_object.new.roots c.args.version (with_changes h (done ++ change.Add c.in-Add.object ∷ [])) c.add_object.new.waiting.items) (PagesWait g.X.DomIndex (g.S.Pages.map c.add_object.new.stage) c.add_object.new.roots c.args.version (with_changes h (done ++ change.Add c.in-Add.object ∷ [])) c.add_object.new.waiting.items) (omega arith) (λ k. k)
    (c.in_ok-add_object-in-Add.ensures.keeps_on tells h done later lawful batch ver ev wait)) batch

pub returns-in_err-withdraw_id-in-Withdraw-clause-keeps_on : goal.returns-in_err-withdraw_id-in-Withdraw-clause-keeps_on
returns-in_err-withdraw_id-in-Withdraw-clause-keeps_on g c = λ tells h done later lawful batch ver ev wait.
    let is_flat : flat_row c.args.row.now ≡ change.Withdraw c.in-Withdraw.id ∷ [] = ap flat_row c.in-Withdraw.is in
    let p = err_from_is_err_and c.from_residual-in_err-withdraw_id-in-Withdraw.result c.from_residual-in_err-withdraw_id-in-Withdraw.ensures.1 in
    subst (λ (cs : List Change). IsLawfulBatch c.args.roots.now.forest.params h (done ++ (cs ++ later)) → KeepsOn g.S.Pages (8 * length cs) c.args.stage.now c.withdraw_id.new.stage c.from_residual-in_err-withdraw_id-in-Withdraw.result (PagesWait g.X.DomIndex (g.S.Pages.map c.withdraw_id.new.stage) c.args.roots.now c.args.version (with_changes h (done ++ cs)) c.withdraw_id.new.waiting.items)) (sym is_flat)
    (λ batch. keeps_refused g.S.Pages 8 8 c.args.stage.now c.withdraw_id.new.stage c.from_residual-in_err-withdraw_id-in-Withdraw.result c.in_err-withdraw_id-in-Withdraw.field-0.0 (PagesWait g.X.DomIndex (g.S.Pages.map c.withdraw_id.new.stage) c.args.roots.now c.args.version (with_changes h (done ++ change.Withdraw c.in-Withdraw.id ∷ [])) c.withdraw_id.new.waiting.items) (PagesWait g.X.DomIndex (g.S.Pages.map c.withdraw_id.new.stage) c.args.roots.now c.args.version (with_changes h (done ++ change.Withdraw c.in-Withdraw.id ∷ [])) c.withdraw_id.new.waiting.items) p (omega arith)
    (c.in_err-withdraw_id-in-Withdraw.ensures.keeps_on tells h done later lawful batch ver ev wait)) batch

pub returns-in_ok-withdraw_id-in-Withdraw-clause-keeps_on : goal.returns-in_ok-withdraw_id-in-Withdraw-clause-keeps_on
returns-in_ok-withdraw_id-in-Withdraw-clause-keeps_on g c = λ tells h done later lawful batch ver ev wait.
    let is_flat : flat_row c.args.row.now ≡ change.Withdraw c.in-Withdraw.id ∷ [] = ap flat_row c.in-Withdraw.is in
    subst (λ (cs : List Change). IsLawfulBatch c.args.roots.now.forest.params h (done ++ (cs ++ later)) → KeepsOn g.S.Pages (8 * length cs) c.args.stage.now c.withdraw_id.new.stage (Ok (c.args.event + 1)) (PagesWait g.X.DomIndex (g.S.Pages.map c.withdraw_id.new.stage) c.args.roots.now c.args.version (with_changes h (done ++ cs)) c.withdraw_id.new.waiting.items)) (sym is_flat)
    (λ batch. keeps_ok g.S.Pages 8 8 c.args.stage.now c.withdraw_id.new.stage c.in_ok-withdraw_id-in-Withdraw.field-0 (c.args.event + 1) (PagesWait g.X.DomIndex (g.S.Pages.map c.withdraw_id.new.stage) c.args.roots.now c.args.version (with_changes h (done ++ change.Withdraw c.in-Withdraw.id ∷ [])) c.withdraw_id.new.waiting.items) (PagesWait g.X.DomIndex (g.S.Pages.map c.withdraw_id.new.stage) c.args.roots.now c.args.version (with_changes h (done ++ change.Withdraw c.in-Withdraw.id ∷ [])) c.withdraw_id.new.waiting.items) (omega arith) (λ k. k)
    (c.in_ok-withdraw_id-in-Withdraw.ensures.keeps_on tells h done later lawful batch ver ev wait)) batch

pub returns-in_err-withdraw_id-in-Move-clause-keeps_on : goal.returns-in_err-withdraw_id-in-Move-clause-keeps_on
returns-in_err-withdraw_id-in-Move-clause-keeps_on g c = λ tells h done later lawful batch ver ev wait.
    let is_flat : flat_row c.args.row.now ≡ change.Withdraw c.in-Move.object.id ∷ change.Add c.in-Move.object ∷ [] = ap flat_row c.in-Move.is in
    let p = err_from_is_err_and c.from_residual-in_err-withdraw_id-in-Move.result c.from_residual-in_err-withdraw_id-in-Move.ensures.1 in
    let left : List Change → Type 0 = λ cs. PagesWait g.X.DomIndex (g.S.Pages.map c.withdraw_id-in-Move.new.stage) c.args.roots.now c.args.version (with_changes h (done ++ cs)) c.withdraw_id-in-Move.new.waiting.items in
    subst (λ (cs : List Change). IsLawfulBatch c.args.roots.now.forest.params h (done ++ (cs ++ later)) → KeepsOn g.S.Pages (8 * length cs) c.args.stage.now c.withdraw_id-in-Move.new.stage c.from_residual-in_err-withdraw_id-in-Move.result (left cs)) (sym is_flat)
    (λ batch. keeps_refused g.S.Pages 8 16 c.args.stage.now c.withdraw_id-in-Move.new.stage c.from_residual-in_err-withdraw_id-in-Move.result c.in_err-withdraw_id-in-Move.field-0.0
    (left (change.Withdraw c.in-Move.object.id ∷ [])) (left (change.Withdraw c.in-Move.object.id ∷ change.Add c.in-Move.object ∷ [])) p (omega arith)
    (c.in_err-withdraw_id-in-Move.ensures.keeps_on tells h done (change.Add c.in-Move.object ∷ later) lawful batch ver ev wait)) batch

pub returns-in_err-add_object-in-Move-clause-keeps_on : goal.returns-in_err-add_object-in-Move-clause-keeps_on
returns-in_err-add_object-in-Move-clause-keeps_on g c = λ tells h done later lawful batch ver ev wait.
    let params = c.args.roots.now.forest.params in
    let is_flat : flat_row c.args.row.now ≡ change.Withdraw c.in-Move.object.id ∷ change.Add c.in-Move.object ∷ [] = ap flat_row c.in-Move.is in
    let done1 : List Change = done ++ change.Withdraw c.in-Move.object.id ∷ [] in
    let p = err_from_is_err_and c.from_residual-in_err-add_object-in-Move.result c.from_residual-in_err-add_object-in-Move.ensures.1 in
    let left : List Change → Type 0 = λ cs. PagesWait g.X.DomIndex (g.S.Pages.map c.add_object-in-Move.new.stage) c.add_object-in-Move.new.roots c.args.version (with_changes h cs) c.add_object-in-Move.new.waiting.items in
    subst (λ (cs : List Change). IsLawfulBatch params h (done ++ (cs ++ later)) → KeepsOn g.S.Pages (8 * length cs) c.args.stage.now c.add_object-in-Move.new.stage c.from_residual-in_err-add_object-in-Move.result (left (done ++ cs))) (sym is_flat)
    (λ batch.
    let first = c.in_ok-withdraw_id-in-Move.ensures.keeps_on tells h done (change.Add c.in-Move.object ∷ later) lawful batch ver ev wait in
    let told = subst IsTrue (sym first.changes.went_on.tells) tells in
    let next = c.in_err-add_object-in-Move.ensures.keeps_on told h done1 later lawful (batch_on params h done (change.Add c.in-Move.object ∷ later) (change.Withdraw c.in-Move.object.id) batch)
    ver (event_on h done (change.Withdraw c.in-Move.object.id) c.args.event ev) first.left in
    keeps_then g.S.Pages 8 8 16 c.args.stage.now c.withdraw_id-in-Move.new.stage c.add_object-in-Move.new.stage c.from_residual-in_err-add_object-in-Move.result (left (done ++ change.Withdraw c.in-Move.object.id ∷ change.Add c.in-Move.object ∷ [])) tells first.changes.went_on (omega arith)
    (keeps_refused g.S.Pages 8 8 c.withdraw_id-in-Move.new.stage c.add_object-in-Move.new.stage c.from_residual-in_err-add_object-in-Move.result c.in_err-add_object-in-Move.field-0.0
    (left (done1 ++ change.Add c.in-Move.object ∷ [])) (left (done ++ change.Withdraw c.in-Move.object.id ∷ change.Add c.in-Move.object ∷ [])) p (omega arith) next)) batch

pub returns-in_ok-add_object-in-Move-clause-keeps_on : goal.returns-in_ok-add_object-in-Move-clause-keeps_on
returns-in_ok-add_object-in-Move-clause-keeps_on g c = λ tells h done later lawful batch ver ev wait.
    let params = c.args.roots.now.forest.params in
    let is_flat : flat_row c.args.row.now ≡ change.Withdraw c.in-Move.object.id ∷ change.Add c.in-Move.object ∷ [] = ap flat_row c.in-Move.is in
    let done1 : List Change = done ++ change.Withdraw c.in-Move.object.id ∷ [] in
    let left : List Change → Type 0 = λ cs. PagesWait g.X.DomIndex (g.S.Pages.map c.add_object-in-Move.new.stage) c.add_object-in-Move.new.roots c.args.version (with_changes h cs) c.add_object-in-Move.new.waiting.items in
    subst (λ (cs : List Change). IsLawfulBatch params h (done ++ (cs ++ later)) → KeepsOn g.S.Pages (8 * length cs) c.args.stage.now c.add_object-in-Move.new.stage (Ok (c.args.event + 2)) (left (done ++ cs))) (sym is_flat)
    (λ batch.
    let first = c.in_ok-withdraw_id-in-Move.ensures.keeps_on tells h done (change.Add c.in-Move.object ∷ later) lawful batch ver ev wait in
    let told = subst IsTrue (sym first.changes.went_on.tells) tells in
    let next = c.in_ok-add_object-in-Move.ensures.keeps_on told h done1 later lawful (batch_on params h done (change.Add c.in-Move.object ∷ later) (change.Withdraw c.in-Move.object.id) batch)
    ver (event_on h done (change.Withdraw c.in-Move.object.id) c.args.event ev) first.left in
    keeps_then g.S.Pages 8 8 16 c.args.stage.now c.withdraw_id-in-Move.new.stage c.add_object-in-Move.new.stage (Ok (c.args.event + 2)) (left (done ++ change.Withdraw c.in-Move.object.id ∷ change.Add c.in-Move.object ∷ [])) tells first.changes.went_on (omega arith)
    (keeps_ok g.S.Pages 8 8 c.withdraw_id-in-Move.new.stage c.add_object-in-Move.new.stage c.in_ok-add_object-in-Move.field-0 (c.args.event + 2)
    (left (done1 ++ change.Add c.in-Move.object ∷ [])) (left (done ++ change.Withdraw c.in-Move.object.id ∷ change.Add c.in-Move.object ∷ [])) (omega arith)
    (waits_on g.X.DomIndex (g.S.Pages.map c.add_object-in-Move.new.stage) c.add_object-in-Move.new.roots c.args.version h done (change.Withdraw c.in-Move.object.id) (change.Add c.in-Move.object) c.add_object-in-Move.new.waiting.items) next)) batch
