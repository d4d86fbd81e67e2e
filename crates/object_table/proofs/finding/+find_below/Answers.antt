use Rattle.std.proofs.Common.{◌≡◌, ◌-◌, ◌≤◌, ℕ, List, Err, rules, arith, subst, sym, refl, ap, ◌∙◌}
use Rattle.std.proofs.lemmas.Result.{err_from_is_err_and}
use Rattle.ports.specs.Pages.{PageMap}
use Rattle.ports.specs.declared.page.PageFault.TheVariants.{Damaged}
use Rattle.page_layout.specs.Damage.{IsDamagedBelow, NothingBeside}
use Rattle.page_layout.specs.DamageLaws as laws
use Rattle.page_layout.specs.declared.life_node.LifeEntry.{LifeEntry}
use Rattle.object_table.specs.Damage.{FitsPlace, LeadsTo}
use Rattle.object_table.specs.Nodes.{entries_in}
use Rattle.object_table.specs.Lives.{last_life, lives_below}
use Rattle.object_table.specs.Stands.{StandsBelow}
use Rattle.object_table.proofs.Exits.{exit_error}
use Rattle.object_table.proofs.LastLives.{find_index, step_leads}
use Rattle.object_table.proofs.Reading.{begun_at, leaf_lives}
use Rattle.object_table.proofs.finding.+find_below.Goals as goal

pub overflow_sub-begun : goal.overflow_sub-begun
overflow_sub-begun g t c =
    let f = c.in_ok-node.ensures.fits in
    begun_at c.args.form c.args.level c.args.place c.in_ok-node.node f.0 c.begun_count-begun.result (omega (arith, c.if-level-eq0.false, c.if-level-eq1.false)) f.1 c.begun_count-begun.ensures

pub returns-then-level-eq1-clause-last : goal.returns-then-level-eq1-clause-last
returns-then-level-eq1-clause-last g t c = λ tells least sought s.
    let f = c.in_ok-node.ensures.fits in
    c.last_of.ensures.last ∙ ap (last_life c.args.id) (leaf_lives c.args.form c.args.level (g.P.Pages.map c.args.pages.now) c.args.page c.in_ok-node.node f.0 c.if-level-eq1.true f.1.fits (f.2 tells))

pub returns-clause-last : goal.returns-clause-last
returns-clause-last g t c = λ tells least sought s.
    let f = c.in_ok-node.ensures.fits in
    let m : PageMap = g.P.Pages.map c.args.pages.now in
    let entries : List LifeEntry = entries_in c.in_ok-node.node in
    let high : 2 ≤ c.args.level = omega (arith, c.if-level-eq0.false, c.if-level-eq1.false) in
    let some : 1 ≤ c.begun_count-begun.result = begun_at c.args.form c.args.level c.args.place c.in_ok-node.node f.0 c.begun_count-begun.result high f.1 c.begun_count-begun.ensures in
    let steps = c.step_to-step.ensures in
    let below : (l : ℕ) → StandsBelow c.args.form (c.args.level - 1) m c.step_to-step.result.child c.step_to-step.result.place.low c.step_to-step.result.place.high l
    → c.in_ok-found.found ≡ last_life c.args.id (lives_below c.args.form (c.args.level - 1) m c.step_to-step.result.child) =
    λ l stands.
    let came = c.in_ok-found.ensures.last (search rules) l ((steps (record { low_id = 0; low_life = 0; child = 0 })).place.sought ∙ sought)
    (subst (λ (n : PageMap). StandsBelow c.args.form (c.args.level - 1) n c.step_to-step.result.child c.step_to-step.result.place.low c.step_to-step.result.place.high l) (sym c.view_node.ensures.reads.read.map) stands) in
    came ∙ ap (λ (n : PageMap). last_life c.args.id (lives_below c.args.form (c.args.level - 1) n c.step_to-step.result.child)) c.view_node.ensures.reads.read.map in
    find_index c.args.form c.args.level m c.args.page c.args.id least c.begun_count-begun.result c.args.place c.step_to-step.result c.in_ok-node.node f.0 entries c.in_ok-found.found
    high (f.2 tells) f.1.fits refl c.begun_count-begun.ensures some steps below sought s

pub returns-in_err-found-clause-damaged : goal.returns-in_err-found-clause-damaged
returns-in_err-found-clause-damaged g t c = λ damaged e tells.
    let f = c.in_ok-node.ensures.fits in
    let m : PageMap = g.P.Pages.map c.args.pages.now in
    let p = err_from_is_err_and c.from_residual-in_err-found.result c.from_residual-in_err-found.ensures.1 in
    let same = exit_error c.from_residual-in_err-found.result c.in_err-found.field-0.0 (Damaged damaged) p e in
    let entries : List LifeEntry = entries_in c.in_ok-node.node in
    let high : 2 ≤ c.args.level = omega (arith, c.if-level-eq0.false, c.if-level-eq1.false) in
    let some : 1 ≤ c.begun_count-begun.result = begun_at c.args.form c.args.level c.args.place c.in_ok-node.node f.0 c.begun_count-begun.result high f.1 c.begun_count-begun.ensures in
    let leads = step_leads c.args.place c.in_ok-node.node entries c.begun_count-begun.result c.step_to-step.result refl c.begun_count-begun.ensures some c.step_to-step.ensures in
    let why = c.in_err-found.ensures.damaged damaged (ap Err same) (search rules) in
    let below = subst (λ (n : PageMap). IsDamagedBelow (FitsPlace c.args.form) LeadsTo NothingBeside n (c.args.level - 1) c.step_to-step.result.place c.step_to-step.result.child damaged) c.view_node.ensures.reads.read.map why in
    laws.damaged_further (FitsPlace c.args.form) LeadsTo NothingBeside m c.args.level c.args.place c.args.page damaged c.in_ok-node.node f.0 c.step_to-step.result.child c.step_to-step.result.place
    (omega (arith, high)) (f.2 tells) f.1 leads below
