use Rattle.std.proofs.Common.{◌≡◌, ◌≤◌, ◌-◌, inl, ℕ, List, [], ◌∷◌, Err, rules, arith, sym, subst, ap, ◌∙◌, take}
use Rattle.std.specs.List.{flat_map}
use Rattle.std.proofs.lemmas.List.{take_all}
use Rattle.std.proofs.lemmas.Result.{err_from_is_err_and}
use Rattle.ports.specs.Pages.{PageMap}
use Rattle.ports.specs.Frame.{AreInMap, Replaces}
use Rattle.ports.specs.declared.page.StageFault.TheVariants.{Damaged}
use Rattle.page_layout.specs.declared.life_node.LifeEntry.{LifeEntry}
use Rattle.object_table.proofs.Exits.{exit_error, read_damaged}
use Rattle.object_table.proofs.Clearing.{own_pages, pages-spelled, free_step, there_step, damaged_child, damaged_itself}
use Rattle.object_table.proofs.freeing.+free_below.Goals as goal

pub returns-in_err-node-clause-damaged : goal.returns-in_err-node-clause-damaged
returns-in_err-node-clause-damaged g t c = λ damaged e tells.
    let p = err_from_is_err_and c.from_residual.result c.from_residual.ensures.1 in
    let same = read_damaged c.from_residual.result c.in_err-node.field-0.0 damaged p e in
    let why = c.in_err-node.ensures.damaged damaged (ap Err same) in
    inl (damaged_itself c.args.form c.args.level (g.S.Pages.map c.args.stage.now) c.args.page damaged (omega (arith, c.if-level-eq0.false)) why.0 (why.1 tells))

pub returns-in_err-free_below-clause-damaged : goal.returns-in_err-free_below-clause-damaged
returns-in_err-free_below-clause-damaged g t c = λ damaged e tells.
    let p = err_from_is_err_and c.from_residual-in_err-free_below.result c.from_residual-in_err-free_below.ensures.1 in
    let same = exit_error c.from_residual-in_err-free_below.result c.in_err-free_below.field-0.0 (Damaged damaged) p e in
    damaged_child c.args.form c.args.level (g.S.Pages.map c.args.stage.now) (g.S.Pages.map c.loop-entry.stage) c.args.page damaged c.in_ok-node.node c.in_ok-node.ensures.fits.0 c.entries_of-entry-items.result.now c.loop-entry.entry-index _
    (omega (arith, c.if-level-eq0.false))
    (c.in_ok-node.ensures.fits.2 tells) c.in_ok-node.ensures.fits.1 c.entries_of-entry-items.ensures c.loop-entry-test.true
    (c.loop-entry.invariant.freed tells) (c.in_err-free_below.ensures.damaged damaged (ap Err same) (search rules))

pub loop-entry-preserved : goal.loop-entry-preserved
loop-entry-preserved g t c =
    let m : PageMap = g.S.Pages.map c.args.stage.now in
    let entries = c.entries_of-entry-items.result.now in
    record {
      there = λ tells. there_step c.args.form (c.args.level - 1) c.args.page m (g.S.Pages.map c.loop-entry.stage) entries c.loop-entry.entry-index _
          c.loop-entry-test.true (c.loop-entry.invariant.freed tells) (c.loop-entry.invariant.there tells) (c.in_ok-free_below.ensures.there (search rules));
      freed = λ tells. free_step c.args.form (c.args.level - 1) c.args.page m (g.S.Pages.map c.loop-entry.stage) (g.S.Pages.map c.free_below.new.stage) entries c.loop-entry.entry-index _
          c.loop-entry-test.true (c.loop-entry.invariant.freed tells) (c.in_ok-free_below.ensures.there (search rules)) (c.in_ok-free_below.ensures.freed (search rules));
      went_on = search rules;
    }

pub returns-clause-there : goal.returns-clause-there
returns-clause-there g t c = λ tells.
    let m : PageMap = g.S.Pages.map c.args.stage.now in
    let some : 1 ≤ c.args.level = omega (arith, c.if-level-eq0.false) in
    let entries = c.entries_of-entry-items.result.now in
    let whole = pages-spelled c.args.form c.args.level m c.args.page c.in_ok-node.node c.in_ok-node.ensures.fits.0 some (c.in_ok-node.ensures.fits.2 tells) c.in_ok-node.ensures.fits.1
    ∙ ap (λ (es : List LifeEntry). c.args.page ∷ flat_map (own_pages c.args.form (c.args.level - 1) m) es) (sym c.entries_of-entry-items.ensures) in
    let all : take c.loop-entry.entry-index entries ≡ entries = take_all c.loop-entry.entry-index entries (omega (arith, c.loop-entry-test.false)) in
    let there = subst (λ (es : List LifeEntry). AreInMap m (c.args.page ∷ flat_map (own_pages c.args.form (c.args.level - 1) m) es)) all (c.loop-entry.invariant.there tells) in
    subst (λ (ps : List ℕ). AreInMap m ps) (sym whole) there

pub returns-clause-freed : goal.returns-clause-freed
returns-clause-freed g t c = λ tells.
    let m : PageMap = g.S.Pages.map c.args.stage.now in
    let some : 1 ≤ c.args.level = omega (arith, c.if-level-eq0.false) in
    let entries = c.entries_of-entry-items.result.now in
    let whole = pages-spelled c.args.form c.args.level m c.args.page c.in_ok-node.node c.in_ok-node.ensures.fits.0 some (c.in_ok-node.ensures.fits.2 tells) c.in_ok-node.ensures.fits.1
    ∙ ap (λ (es : List LifeEntry). c.args.page ∷ flat_map (own_pages c.args.form (c.args.level - 1) m) es) (sym c.entries_of-entry-items.ensures) in
    let all : take c.loop-entry.entry-index entries ≡ entries = take_all c.loop-entry.entry-index entries (omega (arith, c.loop-entry-test.false)) in
    let freed = subst (λ (es : List LifeEntry). Replaces (c.args.page ∷ flat_map (own_pages c.args.form (c.args.level - 1) m) es) [] m (g.S.Pages.map c.loop-entry.stage)) all (c.loop-entry.invariant.freed tells) in
    subst (λ (ps : List ℕ). Replaces ps [] m (g.S.Pages.map c.loop-entry.stage)) (sym whole) freed
