use Rattle.std.proofs.Common.{◌-◌, inl, inr, IsTrue, ◌∷◌, ◌++◌, take, drop, Option, Err, arith, rules, ap, ◌∙◌, refl}
use Rattle.std.proofs.lemmas.Result.{err_from_is_err_and, IfOk-weaker}
use Rattle.ports.specs.declared.page.StageFault.TheVariants.{Damaged}
use Rattle.page_layout.specs.declared.life_node.LifeEntry.{LifeEntry}
use Rattle.object_table.specs.declared.form.Form.TheVariants.{ByLives}
use Rattle.object_table.specs.Damage.{HaveNot}
use Rattle.object_table.specs.Keys.{key}
use Rattle.object_table.specs.Nodes.{entries_in}
use Rattle.object_table.specs.Stored.{IsStored, IsSecondOf, IsPutInLeaf, index_of, leaf_of, entry_name, object_name}
use Rattle.object_table.proofs.Exits.{exit_error, read_damaged}
use Rattle.object_table.proofs.Reading.{begun_at}
use Rattle.object_table.proofs.Stepping.{leaf_seen, into_leaf, leaf_second, leaf_full, leaf_result, leaf_apart, has_damaged, none_damaged}
use Rattle.object_table.proofs.IndexStep.{index_seen, second_is, full_is, step_bounds, with_rules, index_second, index_full, index_none, index_some, index_damaged, stored_others, index_others}
use Rattle.object_table.proofs.entering.+enter_below.Goals as goal

pub returns-in_err-node-clause-damaged : goal.returns-in_err-node-clause-damaged
returns-in_err-node-clause-damaged g t c = λ damaged e tells.
    let p = err_from_is_err_and c.from_residual.result c.from_residual.ensures.1 in
    let same = read_damaged c.from_residual.result c.in_err-node.field-0.0 damaged p e in
    let why = c.in_err-node.ensures.damaged damaged (ap Err same) in
    inl (none_damaged (HaveNot (key c.args.dated.now)) (g.S.Pages.map c.args.stage.now) c.args.level c.args.page damaged c.args.place c.requires.level (why.1 tells) why.0)

pub enter_leaf-requires-clause-typed : goal.enter_leaf-requires-clause-typed
enter_leaf-requires-clause-typed g t c =
    let f = c.in_ok-node.ensures.fits in
    let r = leaf_seen c.args.level c.args.place c.in_ok-node.node f.0 c.objects.result.items c.if-level-eq1.true f.1 c.objects.ensures in
    (r.typed, c.requires.typed)

pub overflow_sub-begun : goal.overflow_sub-begun
overflow_sub-begun g t c =
    let f = c.in_ok-node.ensures.fits in
    begun_at ByLives c.args.level c.args.place c.in_ok-node.node f.0 c.begun_count-begun.result (omega (arith, c.requires.level, c.if-level-eq1.false)) f.1 c.begun_count-begun.ensures

pub enter_below-requires : goal.enter_below-requires
enter_below-requires g t c κs within =
    let f = c.in_ok-node.ensures.fits in
    let r = index_seen c.args.level c.args.place c.in_ok-node.node f.0 (entries_in c.in_ok-node.node) c.begun_count-begun.result c.step_to-step.result
    (omega (arith, c.requires.level, c.if-level-eq1.false)) f.1 refl c.begun_count-begun.ensures c.step_to-step.ensures c.requires.place.1 in
    let b = step_bounds c.args.level c.args.place f.0 (entries_in c.in_ok-node.node) (entries_in c.in_ok-node.node) c.begun_count-begun.result c.step_to-step.result r in
    (omega (arith, c.decreases, c.requires.level), (within, (omega (arith, r.fits.fits.rules.low_level), (c.requires.rules, (c.requires.typed, (b.0, b.1, b.2 ∙ c.requires.place.2))))))

pub returns-in_err-enter_below-clause-damaged : goal.returns-in_err-enter_below-clause-damaged
returns-in_err-enter_below-clause-damaged g t c = λ damaged e tells.
    let f = c.in_ok-node.ensures.fits in
    let p = err_from_is_err_and c.from_residual-in_err-enter_below.result c.from_residual-in_err-enter_below.ensures.1 in
    let same = exit_error c.from_residual-in_err-enter_below.result c.in_err-enter_below.field-0.0 (Damaged damaged) p e in
    let r = index_seen c.args.level c.args.place c.in_ok-node.node f.0 (entries_in c.in_ok-node.node) c.begun_count-begun.result c.step_to-step.result
    (omega (arith, c.requires.level, c.if-level-eq1.false)) f.1 refl c.begun_count-begun.ensures c.step_to-step.ensures c.requires.place.1 in
    elim (c.in_err-enter_below.ensures.damaged damaged (ap Err same) (c.view_node.ensures.reads.read.tells ∙ tells)) [
      | inl why ↦
          inl (index_damaged (HaveNot (key c.args.dated.now)) (g.S.Pages.map c.args.stage.now) (g.S.Pages.map c.view_node.new.pages) c.args.level c.args.page damaged c.args.place f.0
          (entries_in c.in_ok-node.node) (entries_in c.in_ok-node.node) c.begun_count-begun.result c.step_to-step.result c.view_node.ensures.reads.read.map (f.2 tells) r why)
      | inr unordered ↦ inr (λ ordered. unordered (c.view_node.ensures.reads.read.free_in_order ordered))
    ]

pub enter_entry-requires-clause-rules : goal.enter_entry-requires-clause-rules
enter_entry-requires-clause-rules g t c =
    let f = c.in_ok-node.ensures.fits in
    let r = index_seen c.args.level c.args.place c.in_ok-node.node f.0 c.entries.result.items c.begun_count-begun.result c.step_to-step.result
    (omega (arith, c.requires.level, c.if-level-eq1.false)) f.1 c.entries.ensures c.begun_count-begun.ensures c.step_to-step.ensures c.requires.place.1 in
    with_rules c.args.level c.args.place f.0 c.entries.result.items (entries_in c.in_ok-node.node) c.begun_count-begun.result c.step_to-step.result c.in-Some.second r
    (second_is c.in_ok-enter_below.field-0 c.in-Some.second c.step_to-step.result.place.low c.step_to-step.result.place.high c.in-Some.is c.in_ok-enter_below.ensures.second)

pub returns-then-level-eq1-clause-entered : goal.returns-then-level-eq1-clause-entered
returns-then-level-eq1-clause-entered g t c =
    let f = c.in_ok-node.ensures.fits in
    let r = leaf_seen c.args.level c.args.place c.in_ok-node.node f.0 c.objects.result.items c.if-level-eq1.true f.1 c.objects.ensures in
    IfOk-weaker c.enter_leaf.result _ _ (λ (second : Option LifeEntry) (stored : IsPutInLeaf c.objects.result.items c.args.dated.now (g.S.Pages.tells c.view_node.new.pages) (g.S.Pages.map c.view_node.new.pages) (g.S.Pages.map c.enter_leaf.new.stage) c.args.page second) tells least s once.
    leaf_result c.args.level (g.S.Pages.map c.args.stage.now) (g.S.Pages.map c.view_node.new.pages) (g.S.Pages.map c.enter_leaf.new.stage) c.args.page least c.args.place f.0 c.args.dated.now c.objects.result.items stored.new second c.view_node.ensures.reads.read.map (f.2 tells) r
    (into_leaf c.args.place c.args.dated.now c.objects.result.items stored.new stored.put c.requires.rules c.requires.typed c.requires.place) s once (stored.stored (c.view_node.ensures.reads.read.tells ∙ tells))) c.enter_leaf.ensures.stored

pub returns-then-level-eq1-clause-second : goal.returns-then-level-eq1-clause-second
returns-then-level-eq1-clause-second g t c =
    let f = c.in_ok-node.ensures.fits in
    let r = leaf_seen c.args.level c.args.place c.in_ok-node.node f.0 c.objects.result.items c.if-level-eq1.true f.1 c.objects.ensures in
    IfOk-weaker c.enter_leaf.result _ _ (λ (second : Option LifeEntry) (stored : IsPutInLeaf c.objects.result.items c.args.dated.now (g.S.Pages.tells c.view_node.new.pages) (g.S.Pages.map c.view_node.new.pages) (g.S.Pages.map c.enter_leaf.new.stage) c.args.page second).
    leaf_second c.args.level c.args.place f.0 c.args.dated.now c.objects.result.items stored.new second r (into_leaf c.args.place c.args.dated.now c.objects.result.items stored.new stored.put c.requires.rules c.requires.typed c.requires.place) stored.second_is) c.enter_leaf.ensures.stored

pub returns-then-level-eq1-clause-full : goal.returns-then-level-eq1-clause-full
returns-then-level-eq1-clause-full g t c =
    let f = c.in_ok-node.ensures.fits in
    let r = leaf_seen c.args.level c.args.place c.in_ok-node.node f.0 c.objects.result.items c.if-level-eq1.true f.1 c.objects.ensures in
    IfOk-weaker c.enter_leaf.result _ _ (λ (second : Option LifeEntry) (stored : IsPutInLeaf c.objects.result.items c.args.dated.now (g.S.Pages.tells c.view_node.new.pages) (g.S.Pages.map c.view_node.new.pages) (g.S.Pages.map c.enter_leaf.new.stage) c.args.page second) tells.
    leaf_full c.args.level (g.S.Pages.map c.args.stage.now) c.args.page c.args.place f.0 c.args.dated.now c.objects.result.items stored.new second (f.2 tells) r (into_leaf c.args.place c.args.dated.now c.objects.result.items stored.new stored.put c.requires.rules c.requires.typed c.requires.place) stored.second_is) c.enter_leaf.ensures.stored

pub returns-then-level-eq1-clause-apart : goal.returns-then-level-eq1-clause-apart
returns-then-level-eq1-clause-apart g t c =
    let f = c.in_ok-node.ensures.fits in
    let r = leaf_seen c.args.level c.args.place c.in_ok-node.node f.0 c.objects.result.items c.if-level-eq1.true f.1 c.objects.ensures in
    IfOk-weaker c.enter_leaf.result _ _ (λ (second : Option LifeEntry) (stored : IsPutInLeaf c.objects.result.items c.args.dated.now (g.S.Pages.tells c.view_node.new.pages) (g.S.Pages.map c.view_node.new.pages) (g.S.Pages.map c.enter_leaf.new.stage) c.args.page second) tells.
    leaf_apart c.args.level (g.S.Pages.map c.args.stage.now) (g.S.Pages.map c.view_node.new.pages) (g.S.Pages.map c.enter_leaf.new.stage) c.args.page c.args.place f.0 c.objects.result.items r c.view_node.ensures.reads.read.map
    (stored_others leaf_of object_name 14 7 c.args.page stored.new (g.S.Pages.map c.view_node.new.pages) (g.S.Pages.map c.enter_leaf.new.stage) second (stored.stored (c.view_node.ensures.reads.read.tells ∙ tells)))) c.enter_leaf.ensures.stored

pub returns-then-level-eq1-clause-damaged : goal.returns-then-level-eq1-clause-damaged
returns-then-level-eq1-clause-damaged g t c = λ damaged e tells.
    let f = c.in_ok-node.ensures.fits in
    let r = leaf_seen c.args.level c.args.place c.in_ok-node.node f.0 c.objects.result.items c.if-level-eq1.true f.1 c.objects.ensures in
    elim (c.enter_leaf.ensures.damaged damaged e (c.view_node.ensures.reads.read.tells ∙ tells)) [
      | inl why ↦ inl (has_damaged (HaveNot (key c.args.dated.now)) (g.S.Pages.map c.args.stage.now) c.args.level c.args.page damaged c.args.place f.0 c.objects.result.items (f.2 tells) r why.1 why.0)
      | inr unordered ↦ inr (λ ordered. unordered (c.view_node.ensures.reads.read.free_in_order ordered))
    ]

pub returns-in-None-clause-entered : goal.returns-in-None-clause-entered
returns-in-None-clause-entered g t c = λ tells least s once.
    let f = c.in_ok-node.ensures.fits in
    let r = index_seen c.args.level c.args.place c.in_ok-node.node f.0 (entries_in c.in_ok-node.node) c.begun_count-begun.result c.step_to-step.result
    (omega (arith, c.requires.level, c.if-level-eq1.false)) f.1 refl c.begun_count-begun.ensures c.step_to-step.ensures c.requires.place.1 in
    index_none c.args.level (g.S.Pages.map c.args.stage.now) (g.S.Pages.map c.view_node.new.pages) (g.S.Pages.map c.enter_below.new.stage) c.args.page least c.args.place f.0 c.args.dated.now (entries_in c.in_ok-node.node) (entries_in c.in_ok-node.node) c.begun_count-begun.result c.step_to-step.result c.in_ok-enter_below.field-0
    c.view_node.ensures.reads.read.map (f.2 tells) r c.requires.place.2 c.in-None.is (c.in_ok-enter_below.ensures.entered (c.view_node.ensures.reads.read.tells ∙ tells)) s once

pub returns-in-None-clause-apart : goal.returns-in-None-clause-apart
returns-in-None-clause-apart g t c = λ tells.
    let f = c.in_ok-node.ensures.fits in
    let r = index_seen c.args.level c.args.place c.in_ok-node.node f.0 (entries_in c.in_ok-node.node) c.begun_count-begun.result c.step_to-step.result
    (omega (arith, c.requires.level, c.if-level-eq1.false)) f.1 refl c.begun_count-begun.ensures c.step_to-step.ensures c.requires.place.1 in
    index_others c.args.level (g.S.Pages.map c.args.stage.now) (g.S.Pages.map c.view_node.new.pages) (g.S.Pages.map c.enter_below.new.stage) (g.S.Pages.map c.enter_below.new.stage) c.args.page c.args.place f.0 (entries_in c.in_ok-node.node) (entries_in c.in_ok-node.node) c.begun_count-begun.result c.step_to-step.result c.view_node.ensures.reads.read.map (f.2 tells) r (c.in_ok-enter_below.ensures.apart (c.view_node.ensures.reads.read.tells ∙ tells)) (λ p o h. refl)

pub returns-in-Some-clause-entered : goal.returns-in-Some-clause-entered
returns-in-Some-clause-entered g t c =
    let f = c.in_ok-node.ensures.fits in
    let r = index_seen c.args.level c.args.place c.in_ok-node.node f.0 c.entries.result.items c.begun_count-begun.result c.step_to-step.result
    (omega (arith, c.requires.level, c.if-level-eq1.false)) f.1 c.entries.ensures c.begun_count-begun.ensures c.step_to-step.ensures c.requires.place.1 in
    IfOk-weaker c.enter_entry.result _ _ (λ (second : Option LifeEntry) (stored : IsTrue (g.S.Pages.tells c.enter_below.new.stage) → IsStored (index_of c.args.level) entry_name 200 100 (take c.begun_count-begun.result c.entries.result.items ++ (c.in-Some.second ∷ drop c.begun_count-begun.result c.entries.result.items)) (g.S.Pages.map c.enter_below.new.stage) (g.S.Pages.map c.enter_entry.new.stage) c.args.page second) tells least s once.
    index_some c.args.level (g.S.Pages.map c.args.stage.now) (g.S.Pages.map c.view_node.new.pages) (g.S.Pages.map c.enter_below.new.stage) (g.S.Pages.map c.enter_entry.new.stage) c.args.page least c.args.place f.0 c.args.dated.now c.entries.result.items (entries_in c.in_ok-node.node) c.begun_count-begun.result c.step_to-step.result c.in_ok-enter_below.field-0 c.in-Some.second second
    c.view_node.ensures.reads.read.map (f.2 tells) r c.requires.place.2 c.in-Some.is (c.in_ok-enter_below.ensures.entered (c.view_node.ensures.reads.read.tells ∙ tells)) (second_is c.in_ok-enter_below.field-0 c.in-Some.second c.step_to-step.result.place.low c.step_to-step.result.place.high c.in-Some.is c.in_ok-enter_below.ensures.second) (stored (c.enter_below.ensures.grows.went_on.tells ∙ c.view_node.ensures.reads.read.tells ∙ tells)) s once) c.enter_entry.ensures.stored

pub returns-in-Some-clause-apart : goal.returns-in-Some-clause-apart
returns-in-Some-clause-apart g t c =
    let f = c.in_ok-node.ensures.fits in
    let r = index_seen c.args.level c.args.place c.in_ok-node.node f.0 c.entries.result.items c.begun_count-begun.result c.step_to-step.result
    (omega (arith, c.requires.level, c.if-level-eq1.false)) f.1 c.entries.ensures c.begun_count-begun.ensures c.step_to-step.ensures c.requires.place.1 in
    IfOk-weaker c.enter_entry.result _ _ (λ (second : Option LifeEntry) (stored : IsTrue (g.S.Pages.tells c.enter_below.new.stage) → IsStored (index_of c.args.level) entry_name 200 100 (take c.begun_count-begun.result c.entries.result.items ++ (c.in-Some.second ∷ drop c.begun_count-begun.result c.entries.result.items)) (g.S.Pages.map c.enter_below.new.stage) (g.S.Pages.map c.enter_entry.new.stage) c.args.page second) tells.
    index_others c.args.level (g.S.Pages.map c.args.stage.now) (g.S.Pages.map c.view_node.new.pages) (g.S.Pages.map c.enter_below.new.stage) (g.S.Pages.map c.enter_entry.new.stage) c.args.page c.args.place f.0 c.entries.result.items (entries_in c.in_ok-node.node) c.begun_count-begun.result c.step_to-step.result c.view_node.ensures.reads.read.map (f.2 tells) r (c.in_ok-enter_below.ensures.apart (c.view_node.ensures.reads.read.tells ∙ tells))
    (stored_others (index_of c.args.level) entry_name 200 100 c.args.page (take c.begun_count-begun.result c.entries.result.items ++ (c.in-Some.second ∷ drop c.begun_count-begun.result c.entries.result.items)) (g.S.Pages.map c.enter_below.new.stage) (g.S.Pages.map c.enter_entry.new.stage) second (stored (c.enter_below.ensures.grows.went_on.tells ∙ c.view_node.ensures.reads.read.tells ∙ tells)))) c.enter_entry.ensures.stored

pub returns-in-Some-clause-second : goal.returns-in-Some-clause-second
returns-in-Some-clause-second g t c =
    let f = c.in_ok-node.ensures.fits in
    let r = index_seen c.args.level c.args.place c.in_ok-node.node f.0 c.entries.result.items c.begun_count-begun.result c.step_to-step.result
    (omega (arith, c.requires.level, c.if-level-eq1.false)) f.1 c.entries.ensures c.begun_count-begun.ensures c.step_to-step.ensures c.requires.place.1 in
    IfOk-weaker c.enter_entry.result _ _ (λ (second : Option LifeEntry) (is : IsSecondOf entry_name 200 100 (take c.begun_count-begun.result c.entries.result.items ++ (c.in-Some.second ∷ drop c.begun_count-begun.result c.entries.result.items)) second).
    index_second c.args.level c.args.place f.0 c.entries.result.items (entries_in c.in_ok-node.node) c.begun_count-begun.result c.step_to-step.result c.in-Some.second second r (second_is c.in_ok-enter_below.field-0 c.in-Some.second c.step_to-step.result.place.low c.step_to-step.result.place.high c.in-Some.is c.in_ok-enter_below.ensures.second) is) c.enter_entry.ensures.second

pub returns-in-Some-clause-full : goal.returns-in-Some-clause-full
returns-in-Some-clause-full g t c =
    let f = c.in_ok-node.ensures.fits in
    let r = index_seen c.args.level c.args.place c.in_ok-node.node f.0 c.entries.result.items c.begun_count-begun.result c.step_to-step.result
    (omega (arith, c.requires.level, c.if-level-eq1.false)) f.1 c.entries.ensures c.begun_count-begun.ensures c.step_to-step.ensures c.requires.place.1 in
    IfOk-weaker c.enter_entry.result _ _ (λ (second : Option LifeEntry) (is : IsSecondOf entry_name 200 100 (take c.begun_count-begun.result c.entries.result.items ++ (c.in-Some.second ∷ drop c.begun_count-begun.result c.entries.result.items)) second) tells.
    index_full c.args.level (g.S.Pages.map c.args.stage.now) c.args.page c.args.place f.0 c.entries.result.items (entries_in c.in_ok-node.node) c.begun_count-begun.result c.step_to-step.result c.in-Some.second second (f.2 tells) r is
    (full_is c.in_ok-enter_below.field-0 c.in-Some.second (c.args.level - 1) (g.S.Pages.map c.args.stage.now) (g.S.Pages.map c.view_node.new.pages) c.step_to-step.result.child c.step_to-step.result.place.sought c.in-Some.is c.view_node.ensures.reads.read.map (c.in_ok-enter_below.ensures.full (c.view_node.ensures.reads.read.tells ∙ tells)))) c.enter_entry.ensures.second

pub returns-in-Some-clause-grows : goal.returns-in-Some-clause-grows
returns-in-Some-clause-grows g t c =
    let read = c.view_node.ensures.reads.read in
    let rec = c.enter_below.ensures.grows in
    let put = c.enter_entry.ensures.grows in
    record {
      went_on = record {
        tells = put.went_on.tells ∙ rec.went_on.tells ∙ read.tells;
        base = put.went_on.base ∙ rec.went_on.base ∙ read.base;
        limit = put.went_on.limit ∙ rec.went_on.limit ∙ read.limit;
        free_in_order = search rules;
        none_forgotten = search rules;
        allotted = omega (arith, put.went_on.allotted, rec.went_on.allotted, read.allotted);
        at_most = omega (arith, put.went_on.at_most, rec.went_on.at_most, read.allotted, c.requires.level);
        gets = omega (arith, put.went_on.gets, rec.went_on.gets, read.gets);
        faults = omega (arith, put.went_on.faults, rec.went_on.faults, read.faults);
      };
      keeps = search rules;
      disk = search rules;
      page_limit = λ n e. let d = put.page_limit n e in (d.0 ∙ rec.went_on.limit ∙ read.limit, d.1, omega (arith, d.2, rec.went_on.at_most, read.allotted, c.requires.level));
    }
