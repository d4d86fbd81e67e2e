use Rattle.std.proofs.Common.{◌≡◌, ◌-◌, ◌≤◌, ℕ, List, ◌++◌, Err, inl, rules, arith, subst, sym, refl, ap}
use Rattle.std.proofs.lemmas.Result.{err_from_is_err_and}
use Rattle.bw_types.specs.declared.dated.Dated.{Dated}
use Rattle.ports.specs.Pages.{PageMap}
use Rattle.ports.specs.declared.page.PageFault.TheVariants.{Damaged}
use Rattle.page_layout.specs.Damage.{IsDamagedBelow, NothingBeside}
use Rattle.page_layout.specs.DamageLaws as laws
use Rattle.page_layout.specs.declared.life_node.LifeEntry.{LifeEntry}
use Rattle.object_table.specs.Damage.{FitsPlace, LeadsOn}
use Rattle.object_table.specs.Nodes.{objects_in, entries_in}
use Rattle.object_table.specs.Lives.{lives_below}
use Rattle.object_table.specs.Stands.{StandsBelow}
use Rattle.object_table.proofs.Exits.{exit_error}
use Rattle.object_table.proofs.LastLives.{step_leads}
use Rattle.object_table.proofs.Firsts.{first_index}
use Rattle.object_table.proofs.Onward.{step_from}
use Rattle.object_table.proofs.Nexts.{begin_some, begin_with}
use Rattle.object_table.proofs.Reading.{begun_at, leaf_lives, leaf_some}
use Rattle.object_table.proofs.walking.+first_below.Goals as goal

pub overflow_sub-begun : goal.overflow_sub-begun
overflow_sub-begun g t c =
    let f = c.in_ok-node.ensures.fits in
    begun_at c.args.form c.args.level c.args.place c.in_ok-node.node f.0 c.begun_count-begun.result (omega (arith, c.requires.level, c.if-level-eq1.false)) f.1 c.begun_count-begun.ensures

pub returns-in_err-first_below-clause-damaged : goal.returns-in_err-first_below-clause-damaged
returns-in_err-first_below-clause-damaged g t c = λ damaged e tells.
    let f = c.in_ok-node.ensures.fits in
    let m : PageMap = g.P.Pages.map c.args.pages.now in
    let p = err_from_is_err_and c.from_residual-in_err-first_below.result c.from_residual-in_err-first_below.ensures.1 in
    let same = exit_error c.from_residual-in_err-first_below.result c.in_err-first_below.field-0.0 (Damaged damaged) p e in
    let entries : List LifeEntry = entries_in c.in_ok-node.node in
    let high : 2 ≤ c.args.level = omega (arith, c.requires.level, c.if-level-eq1.false) in
    let some : 1 ≤ c.begun_count-begun.result = begun_at c.args.form c.args.level c.args.place c.in_ok-node.node f.0 c.begun_count-begun.result high f.1 c.begun_count-begun.ensures in
    let leads : LeadsOn c.args.place c.in_ok-node.node c.step_to-step.result.child c.step_to-step.result.place =
    inl (step_leads c.args.place c.in_ok-node.node entries c.begun_count-begun.result c.step_to-step.result refl c.begun_count-begun.ensures some c.step_to-step.ensures) in
    let why = c.in_err-first_below.ensures.damaged damaged (ap Err same) (search rules) in
    let below = subst (λ (n : PageMap). IsDamagedBelow (FitsPlace c.args.form) LeadsOn NothingBeside n (c.args.level - 1) c.step_to-step.result.place c.step_to-step.result.child damaged) c.view_node.ensures.reads.read.map why in
    laws.damaged_further (FitsPlace c.args.form) LeadsOn NothingBeside m c.args.level c.args.place c.args.page damaged c.in_ok-node.node f.0 c.step_to-step.result.child c.step_to-step.result.place
    (omega (arith, high)) (f.2 tells) f.1 leads below

pub returns-then-level-eq1-clause-first : goal.returns-then-level-eq1-clause-first
returns-then-level-eq1-clause-first g t c = λ tells least sought s.
    let f = c.in_ok-node.ensures.fits in
    begin_with c.args.place.low (objects_in c.in_ok-node.node) c.take_from.new.found.items (lives_below c.args.form c.args.level (g.P.Pages.map c.args.pages.now) c.args.page)
    c.take_from.ensures.next f.1.admitted.from
    (leaf_lives c.args.form c.args.level (g.P.Pages.map c.args.pages.now) c.args.page c.in_ok-node.node f.0 c.if-level-eq1.true f.1.fits (f.2 tells))

pub returns-then-level-eq1-clause-some : goal.returns-then-level-eq1-clause-some
returns-then-level-eq1-clause-some g t c =
    let f = c.in_ok-node.ensures.fits in
    begin_some c.args.place.low (objects_in c.in_ok-node.node) c.take_from.new.found.items c.take_from.ensures.next f.1.admitted.from
    (leaf_some c.args.form c.args.level c.in_ok-node.node f.0 c.if-level-eq1.true f.1.fits)

pub returns-clause-first : goal.returns-clause-first
returns-clause-first g t c = λ tells least sought s.
    let f = c.in_ok-node.ensures.fits in
    let m : PageMap = g.P.Pages.map c.args.pages.now in
    let entries : List LifeEntry = entries_in c.in_ok-node.node in
    let high : 2 ≤ c.args.level = omega (arith, c.requires.level, c.if-level-eq1.false) in
    let some : 1 ≤ c.begun_count-begun.result = begun_at c.args.form c.args.level c.args.place c.in_ok-node.node f.0 c.begun_count-begun.result high f.1 c.begun_count-begun.ensures in
    let step = c.step_to-step.result in
    let found : List Dated = c.first_below.new.found.items in
    let below : (l : ℕ) → step.place.sought ≡ step.place.low → StandsBelow c.args.form (c.args.level - 1) m step.child step.place.low step.place.high l
    → (rest : List Dated) × (lives_below c.args.form (c.args.level - 1) m step.child ≡ found ++ rest) =
    λ l at stands. subst (λ (n : PageMap). (rest : List Dated) × (lives_below c.args.form (c.args.level - 1) n step.child ≡ found ++ rest)) c.view_node.ensures.reads.read.map
    (c.in_ok-first_below.ensures.first (search rules) l at
    (subst (λ (n : PageMap). StandsBelow c.args.form (c.args.level - 1) n step.child step.place.low step.place.high l) (sym c.view_node.ensures.reads.read.map) stands)) in
    first_index c.args.form c.args.level m c.args.page least c.begun_count-begun.result c.args.place step c.in_ok-node.node f.0 entries found
    high (f.2 tells) f.1.fits refl c.begun_count-begun.ensures some c.step_to-step.ensures below sought s

pub returns-clause-above : goal.returns-clause-above
returns-clause-above g t c =
    let f = c.in_ok-node.ensures.fits in
    let entries : List LifeEntry = entries_in c.in_ok-node.node in
    let high : 2 ≤ c.args.level = omega (arith, c.requires.level, c.if-level-eq1.false) in
    let some : 1 ≤ c.begun_count-begun.result = begun_at c.args.form c.args.level c.args.place c.in_ok-node.node f.0 c.begun_count-begun.result high f.1 c.begun_count-begun.ensures in
    let from = step_from entries (entries_in c.in_ok-node.node) c.begun_count-begun.result c.args.place.low c.args.place.sought c.args.place.high c.step_to-step.result refl f.1.admitted.begin c.begun_count-begun.ensures some c.step_to-step.ensures in
    λ k d h. omega (arith, from, c.in_ok-first_below.ensures.above k d h)
