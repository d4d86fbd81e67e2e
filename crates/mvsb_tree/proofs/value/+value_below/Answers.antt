use Rattle.std.proofs.Common.{◌≡◌, ◌-◌, ℕ, None, Option, Err, rules, arith, subst, ap}
use Rattle.std.proofs.lemmas.Result.{err_from_is_err_and}
use Rattle.ports.specs.Pages.{PageMap}
use Rattle.ports.specs.declared.page.PageFault.TheVariants.{Damaged}
use Rattle.page_layout.specs.Damage.{IsDamagedBelow, NothingBeside}
use Rattle.page_layout.specs.DamageLaws as laws
use Rattle.mv_pages.specs.Alive.{child_of}
use Rattle.mvsb_tree.specs.Damage.{FitsPlace, LeadsTo}
use Rattle.mvsb_tree.specs.Telling.{StepsOn}
use Rattle.mvsb_tree.specs.declared.step.Step.{Step}
use Rattle.mvsb_tree.proofs.Exits.{exit_error}
use Rattle.mvsb_tree.proofs.Values.{below_further, told_there, value_alone, value_with, whole_alone, whole_further}
use Rattle.mvsb_tree.proofs.value.+value_below.Goals as goal

pub returns-in_err-told-clause-damaged : goal.returns-in_err-told-clause-damaged
returns-in_err-told-clause-damaged g t c = λ damaged e tells.
    let p = err_from_is_err_and c.from_residual.result c.from_residual.ensures.1 in
    let same = exit_error c.from_residual.result c.in_err-told.field-0.0 (Damaged damaged) p e in
    let why = c.in_err-told.ensures.damaged damaged (ap Err same) in
    laws.damaged_here FitsPlace LeadsTo NothingBeside (g.P.Pages.map c.args.pages.now) c.args.level c.args.place c.args.page damaged (omega (arith, c.if-level-eq0.false)) why.0 (why.1 tells)

pub returns-in_default-clause-value : goal.returns-in_default-clause-value
returns-in_default-clause-value g t c = λ tells.
    let told = c.in_ok-told.ensures.told tells in
    let fits = told.fits.fits in
    let none : child_of told.node c.args.place.key c.args.place.version ≡ None = subst (λ (o : Option Step). StepsOn told.node c.args.place o) c.in_default.is told.tells.step in
    value_alone (g.P.Pages.map c.args.pages.now) c.args.level c.args.page c.args.place.key c.args.place.version c.in_ok-told.told.value told.node (omega (arith, c.if-level-eq0.false))
    fits.typed fits.rules fits.at_level told.there told.tells.value none

pub returns-in_default-clause-whole : goal.returns-in_default-clause-whole
returns-in_default-clause-whole g t c = λ tells.
    let told = c.in_ok-told.ensures.told tells in
    whole_alone (g.P.Pages.map c.args.pages.now) c.args.level c.args.page c.args.place told.node told.there told.fits
    (subst (λ (o : Option Step). StepsOn told.node c.args.place o) c.in_default.is told.tells.step)

pub returns-in_err-below-clause-damaged : goal.returns-in_err-below-clause-damaged
returns-in_err-below-clause-damaged g t c = λ damaged e tells.
    let p = err_from_is_err_and c.from_residual-in_err-below.result c.from_residual-in_err-below.ensures.1 in
    let same = exit_error c.from_residual-in_err-below.result c.in_err-below.field-0.0 (Damaged damaged) p e in
    let why = c.in_err-below.ensures.damaged damaged (ap Err same) (search rules) in
    let below = subst (λ (m : PageMap). IsDamagedBelow FitsPlace LeadsTo NothingBeside m (c.args.level - 1) c.in-Some.step.place c.in-Some.step.child damaged) c.told_in.ensures.reads.read.map why in
    let told = c.in_ok-told.ensures.told tells in
    let leads : LeadsTo c.args.place told.node c.in-Some.step.child c.in-Some.step.place = subst (λ (o : Option Step). StepsOn told.node c.args.place o) c.in-Some.is told.tells.step in
    below_further (g.P.Pages.map c.args.pages.now) c.args.place c.in-Some.step.place told.node c.args.level c.args.page c.in-Some.step.child damaged (omega (arith, c.if-level-eq0.false))
    told.there told.fits leads below

pub returns-clause-value : goal.returns-clause-value
returns-clause-value g t c = λ tells.
    let m : PageMap = g.P.Pages.map c.args.pages.now in
    let told = c.in_ok-told.ensures.told tells in
    let fits = told.fits.fits in
    let leads : LeadsTo c.args.place told.node c.in-Some.step.child c.in-Some.step.place = subst (λ (o : Option Step). StepsOn told.node c.args.place o) c.in-Some.is told.tells.step in
    let below = told_there m (g.P.Pages.map c.told_in.new.pages) (c.args.level - 1) c.in-Some.step.child c.in_ok-below.below c.args.place c.in-Some.step.place told.node leads
    c.told_in.ensures.reads.read.map (c.in_ok-below.ensures.value (search rules)) in
    value_with m c.args.level c.args.page c.args.place.key c.args.place.version c.in_ok-told.told.value told.node (omega (arith, c.if-level-eq0.false))
    fits.typed fits.rules fits.at_level told.there told.tells.value c.in-Some.step.child c.in_ok-below.below leads.child_is below

pub returns-clause-whole : goal.returns-clause-whole
returns-clause-whole g t c = λ tells.
    let told = c.in_ok-told.ensures.told tells in
    let leads : LeadsTo c.args.place told.node c.in-Some.step.child c.in-Some.step.place = subst (λ (o : Option Step). StepsOn told.node c.args.place o) c.in-Some.is told.tells.step in
    let below = subst (λ (m : PageMap). (damaged : ℕ) → IsDamagedBelow FitsPlace LeadsTo NothingBeside m (c.args.level - 1) c.in-Some.step.place c.in-Some.step.child damaged → ⊥)
    c.told_in.ensures.reads.read.map (c.in_ok-below.ensures.whole (search rules)) in
    whole_further (g.P.Pages.map c.args.pages.now) c.args.level c.args.page c.args.place told.node told.there told.fits c.in-Some.step.child c.in-Some.step.place leads below
