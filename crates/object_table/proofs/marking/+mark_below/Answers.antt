use Rattle.std.proofs.Common.{◌-◌, IsTrue, Err, arith, ap, ◌∙◌, refl}
use Rattle.std.proofs.lemmas.Result.{err_from_is_err_and, IfOk-weaker}
use Rattle.object_table.specs.declared.form.Form.TheVariants.{ByLives}
use Rattle.object_table.specs.Edits.{CanWithdraw}
use Rattle.object_table.specs.Lives.{pages_below}
use Rattle.object_table.specs.Nodes.{entries_in}
use Rattle.object_table.specs.Stored.{IsMarkedInLeaf, OthersStay, leaf_of}
use Rattle.object_table.proofs.Exits.{read_damaged}
use Rattle.object_table.proofs.Reading.{begun_at}
use Rattle.object_table.proofs.Stepping.{leaf_seen, leaf_apart, has_damaged, none_damaged}
use Rattle.object_table.proofs.IndexStep.{index_seen, step_bounds, index_damaged, index_others, whole_others}
use Rattle.object_table.proofs.MarkSteps.{mark_leaf_result, mark_index_result}
use Rattle.object_table.proofs.marking.+mark_below.Goals as goal

pub returns-in_err-node-clause-damaged : goal.returns-in_err-node-clause-damaged
returns-in_err-node-clause-damaged g t c = λ damaged e tells.
    let p = err_from_is_err_and c.from_residual.result c.from_residual.ensures.1 in
    let same = read_damaged c.from_residual.result c.in_err-node.field-0.0 damaged p e in
    let why = c.in_err-node.ensures.damaged damaged (ap Err same) in
    none_damaged (CanWithdraw c.args.id c.args.version) (g.S.Pages.map c.args.stage.now) c.args.level c.args.page damaged c.args.place c.requires.level (why.1 tells) why.0

pub overflow_sub-begun : goal.overflow_sub-begun
overflow_sub-begun g t c =
    let f = c.in_ok-node.ensures.fits in
    begun_at ByLives c.args.level c.args.place c.in_ok-node.node f.0 c.begun_count-begun.result (omega (arith, c.requires.level, c.if-level-eq1.false)) f.1 c.begun_count-begun.ensures

pub mark_below-requires : goal.mark_below-requires
mark_below-requires g t c κs within =
    let f = c.in_ok-node.ensures.fits in
    let r = index_seen c.args.level c.args.place c.in_ok-node.node f.0 (entries_in c.in_ok-node.node) c.begun_count-begun.result c.step_to-step.result
    (omega (arith, c.requires.level, c.if-level-eq1.false)) f.1 refl c.begun_count-begun.ensures c.step_to-step.ensures c.requires.place.0 in
    let b = step_bounds c.args.level c.args.place f.0 (entries_in c.in_ok-node.node) (entries_in c.in_ok-node.node) c.begun_count-begun.result c.step_to-step.result r in
    (omega (arith, c.decreases, c.requires.level), (within, (omega (arith, r.fits.fits.rules.low_level), (b.1, b.2 ∙ c.requires.place.1))))

pub returns-then-level-eq1-clause-marked : goal.returns-then-level-eq1-clause-marked
returns-then-level-eq1-clause-marked g t c =
    let f = c.in_ok-node.ensures.fits in
    let r = leaf_seen c.args.level c.args.place c.in_ok-node.node f.0 c.objects.result.items c.if-level-eq1.true f.1 c.objects.ensures in
    IfOk-weaker c.mark_leaf.result _ _ (λ u (stored : IsMarkedInLeaf c.objects.result.items c.args.id c.args.version c.args.event (g.S.Pages.tells c.view_node.new.pages) (g.S.Pages.map c.view_node.new.pages) (g.S.Pages.map c.mark_leaf.new.stage) c.args.page) tells least s once.
    mark_leaf_result c.args.level (g.S.Pages.map c.args.stage.now) (g.S.Pages.map c.view_node.new.pages) (g.S.Pages.map c.mark_leaf.new.stage) c.args.page least c.args.id c.args.version c.args.event c.args.place f.0 c.objects.result.items stored.new c.view_node.ensures.reads.read.map (f.2 tells) r
    stored.marked (omega (arith, c.ranges.version.fits)) (omega (arith, c.ranges.event.fits)) s (stored.stored (c.view_node.ensures.reads.read.tells ∙ tells))) c.mark_leaf.ensures.stored

pub returns-then-level-eq1-clause-apart : goal.returns-then-level-eq1-clause-apart
returns-then-level-eq1-clause-apart g t c =
    let f = c.in_ok-node.ensures.fits in
    let r = leaf_seen c.args.level c.args.place c.in_ok-node.node f.0 c.objects.result.items c.if-level-eq1.true f.1 c.objects.ensures in
    IfOk-weaker c.mark_leaf.result _ _ (λ u (stored : IsMarkedInLeaf c.objects.result.items c.args.id c.args.version c.args.event (g.S.Pages.tells c.view_node.new.pages) (g.S.Pages.map c.view_node.new.pages) (g.S.Pages.map c.mark_leaf.new.stage) c.args.page) tells.
    leaf_apart c.args.level (g.S.Pages.map c.args.stage.now) (g.S.Pages.map c.view_node.new.pages) (g.S.Pages.map c.mark_leaf.new.stage) c.args.page c.args.place f.0 c.objects.result.items r c.view_node.ensures.reads.read.map (whole_others (leaf_of stored.new) c.args.page (g.S.Pages.map c.view_node.new.pages) (g.S.Pages.map c.mark_leaf.new.stage) (stored.stored (c.view_node.ensures.reads.read.tells ∙ tells)))) c.mark_leaf.ensures.stored

pub returns-then-level-eq1-clause-damaged : goal.returns-then-level-eq1-clause-damaged
returns-then-level-eq1-clause-damaged g t c = λ damaged e tells.
    let f = c.in_ok-node.ensures.fits in
    let r = leaf_seen c.args.level c.args.place c.in_ok-node.node f.0 c.objects.result.items c.if-level-eq1.true f.1 c.objects.ensures in
    let why = c.mark_leaf.ensures.damaged damaged e (c.view_node.ensures.reads.read.tells ∙ tells) in
    has_damaged (CanWithdraw c.args.id c.args.version) (g.S.Pages.map c.args.stage.now) c.args.level c.args.page damaged c.args.place f.0 c.objects.result.items (f.2 tells) r why.1 why.0

pub returns-clause-marked : goal.returns-clause-marked
returns-clause-marked g t c =
    let f = c.in_ok-node.ensures.fits in
    let r = index_seen c.args.level c.args.place c.in_ok-node.node f.0 (entries_in c.in_ok-node.node) c.begun_count-begun.result c.step_to-step.result
    (omega (arith, c.requires.level, c.if-level-eq1.false)) f.1 refl c.begun_count-begun.ensures c.step_to-step.ensures c.requires.place.0 in
    IfOk-weaker c.mark_below.result _ _ (λ u call tells least s once.
    mark_index_result c.args.level (g.S.Pages.map c.args.stage.now) (g.S.Pages.map c.view_node.new.pages) (g.S.Pages.map c.mark_below.new.stage) c.args.page least c.args.id c.args.version c.args.event c.args.place f.0 (entries_in c.in_ok-node.node) (entries_in c.in_ok-node.node) c.begun_count-begun.result c.step_to-step.result c.view_node.ensures.reads.read.map (f.2 tells) r c.requires.place.1 (call (c.view_node.ensures.reads.read.tells ∙ tells)) s once) c.mark_below.ensures.marked

pub returns-clause-apart : goal.returns-clause-apart
returns-clause-apart g t c =
    let f = c.in_ok-node.ensures.fits in
    let r = index_seen c.args.level c.args.place c.in_ok-node.node f.0 (entries_in c.in_ok-node.node) c.begun_count-begun.result c.step_to-step.result
    (omega (arith, c.requires.level, c.if-level-eq1.false)) f.1 refl c.begun_count-begun.ensures c.step_to-step.ensures c.requires.place.0 in
    IfOk-weaker c.mark_below.result _ _ (λ u (call : IsTrue (g.S.Pages.tells c.view_node.new.pages) → OthersStay (pages_below ByLives (c.args.level - 1) (g.S.Pages.map c.view_node.new.pages) c.step_to-step.result.child) (g.S.Pages.map c.view_node.new.pages) (g.S.Pages.map c.mark_below.new.stage)) tells.
    index_others c.args.level (g.S.Pages.map c.args.stage.now) (g.S.Pages.map c.view_node.new.pages) (g.S.Pages.map c.mark_below.new.stage) (g.S.Pages.map c.mark_below.new.stage) c.args.page c.args.place f.0 (entries_in c.in_ok-node.node) (entries_in c.in_ok-node.node) c.begun_count-begun.result c.step_to-step.result c.view_node.ensures.reads.read.map (f.2 tells) r (call (c.view_node.ensures.reads.read.tells ∙ tells)) (λ p o h. refl)) c.mark_below.ensures.apart

pub returns-clause-damaged : goal.returns-clause-damaged
returns-clause-damaged g t c = λ damaged e tells.
    let f = c.in_ok-node.ensures.fits in
    let r = index_seen c.args.level c.args.place c.in_ok-node.node f.0 (entries_in c.in_ok-node.node) c.begun_count-begun.result c.step_to-step.result
    (omega (arith, c.requires.level, c.if-level-eq1.false)) f.1 refl c.begun_count-begun.ensures c.step_to-step.ensures c.requires.place.0 in
    index_damaged (CanWithdraw c.args.id c.args.version) (g.S.Pages.map c.args.stage.now) (g.S.Pages.map c.view_node.new.pages) c.args.level c.args.page damaged c.args.place f.0 (entries_in c.in_ok-node.node) (entries_in c.in_ok-node.node) c.begun_count-begun.result c.step_to-step.result c.view_node.ensures.reads.read.map (f.2 tells) r (c.mark_below.ensures.damaged damaged e (c.view_node.ensures.reads.read.tells ∙ tells))
