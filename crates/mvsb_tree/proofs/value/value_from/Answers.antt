use Rattle.std.proofs.Common.{◌≡◌, ◌-◌, ◌%◌, ◌^◌, ℕ, None, Option, Err, inl, refl, rules, arith, sym, subst, ap, ◌∙◌}
use Rattle.std.proofs.lemmas.Result.{err_from_is_err_and}
use Rattle.page_layout.specs.Damage.{IsDamagedBelow, NothingBeside}
use Rattle.ports.specs.Pages.{PageMap}
use Rattle.ports.specs.declared.page.PageFault.TheVariants.{Damaged}
use Rattle.mv_pages.specs.Alive.{child_of}
use Rattle.mvsb_tree.specs.declared.place.Place.{Place}
use Rattle.mvsb_tree.specs.declared.step.Step.{Step}
use Rattle.mvsb_tree.specs.Damage.{FitsPlace, IsDamagedFromRoot, LeadsTo}
use Rattle.mvsb_tree.specs.Steps.{root_level, total_below}
use Rattle.mvsb_tree.specs.Telling.{StepsOn}
use Rattle.mvsb_tree.proofs.Exits.{exit_error, err_same}
use Rattle.mvsb_tree.proofs.Sound.{root_undamaged}
use Rattle.mvsb_tree.proofs.Values.{level_of_root, root_further, root_unfit, told_there, value_alone, value_with, whole_root_alone, whole_root_further}
use Rattle.mvsb_tree.proofs.value.value_from.Goals as goal

pub returns-in_err-node-clause-sound : goal.returns-in_err-node-clause-sound
returns-in_err-node-clause-sound g c = λ nodes page tells is_place s e.
    let p = err_from_is_err_and c.from_residual.result c.from_residual.ensures.1 in
    let same = exit_error c.from_residual.result c.in_err-node.field-0.0 (Damaged page) p e in
    let why = c.in_err-node.ensures.damaged page (ap Err same) in
    root_undamaged (g.P.Pages.map c.args.pages.now) nodes c.args.root c.args.place.key c.args.place.version page c.requires s (inl (why.0, why.1 tells))

pub returns-in_default-clause-damaged : goal.returns-in_default-clause-damaged
returns-in_default-clause-damaged g c = λ damaged e tells.
    let spells = c.in_ok-node.ensures.spells in
    root_unfit (g.P.Pages.map c.args.pages.now) c.args.root c.args.place c.in_ok-node.node damaged c.requires spells.typed spells.rules (c.in_ok-node.ensures.found tells)
    (c.in_default.ensures.none refl) (sym (err_same c.args.root damaged e))

pub returns-in_default-clause-sound : goal.returns-in_default-clause-sound
returns-in_default-clause-sound g c = λ nodes page tells is_place s e.
    let d = returns-in_default-clause-damaged g c page e tells in
    root_undamaged (g.P.Pages.map c.args.pages.now) nodes c.args.root c.args.place.key c.args.place.version page c.requires s
    (subst (λ (q : Place). IsDamagedFromRoot (g.P.Pages.map c.args.pages.now) c.args.root q page) is_place d)

pub returns-in_default-step-clause-value : goal.returns-in_default-step-clause-value
returns-in_default-step-clause-value g c = λ tells.
    let m : PageMap = g.P.Pages.map c.args.pages.now in
    let spells = c.in_ok-node.ensures.spells in
    let level = level_of_root m c.args.root c.in_ok-node.node c.requires spells.typed spells.rules (c.in_ok-node.ensures.found tells) in
    let none : child_of c.in_ok-node.node c.args.place.key c.args.place.version ≡ None = subst (λ (o : Option Step). StepsOn c.in_ok-node.node c.args.place o) c.in_default-step.is c.in-Some.ensures.told.step in
    value_alone m (root_level m c.args.root) c.args.root c.args.place.key c.args.place.version c.in-Some.told.value c.in_ok-node.node (omega (arith, level, spells.rules.low_level))
    spells.typed spells.rules (sym level) (c.in_ok-node.ensures.found tells) c.in-Some.ensures.told.value none

pub returns-in_default-step-clause-whole : goal.returns-in_default-step-clause-whole
returns-in_default-step-clause-whole g c = λ tells.
    let spells = c.in_ok-node.ensures.spells in
    whole_root_alone (g.P.Pages.map c.args.pages.now) c.args.root c.args.place c.in_ok-node.node c.requires spells.typed spells.rules (c.in_ok-node.ensures.found tells) c.in-Some.ensures.fits
    (subst (λ (o : Option Step). StepsOn c.in_ok-node.node c.args.place o) c.in_default-step.is c.in-Some.ensures.told.step)

pub returns-in_err-below-clause-damaged : goal.returns-in_err-below-clause-damaged
returns-in_err-below-clause-damaged g c = λ damaged e tells.
    let p = err_from_is_err_and c.from_residual-in_err-below.result c.from_residual-in_err-below.ensures.1 in
    let same = exit_error c.from_residual-in_err-below.result c.in_err-below.field-0.0 (Damaged damaged) p e in
    let spells = c.in_ok-node.ensures.spells in
    let why = c.in_err-below.ensures.damaged damaged (ap Err same) (search rules) in
    let here = subst (λ (m : PageMap). IsDamagedBelow FitsPlace LeadsTo NothingBeside m (c.level-level.result - 1) c.in-Some-step.step.place c.in-Some-step.step.child damaged) c.view_page.ensures.reads.read.map why in
    let below = subst (λ (l : ℕ). IsDamagedBelow FitsPlace LeadsTo NothingBeside (g.P.Pages.map c.args.pages.now) (l - 1) c.in-Some-step.step.place c.in-Some-step.step.child damaged) c.level-level.ensures here in
    let leads : LeadsTo c.args.place c.in_ok-node.node c.in-Some-step.step.child c.in-Some-step.step.place = subst (λ (o : Option Step). StepsOn c.in_ok-node.node c.args.place o) c.in-Some-step.is c.in-Some.ensures.told.step in
    root_further (g.P.Pages.map c.args.pages.now) c.args.root c.args.place c.in-Some-step.step.place c.in_ok-node.node c.in-Some-step.step.child damaged c.requires spells.typed spells.rules (c.in_ok-node.ensures.found tells)
    c.in-Some.ensures.fits leads below

pub returns-in_err-below-clause-sound : goal.returns-in_err-below-clause-sound
returns-in_err-below-clause-sound g c = λ nodes page tells is_place s e.
    let d = returns-in_err-below-clause-damaged g c page e tells in
    root_undamaged (g.P.Pages.map c.args.pages.now) nodes c.args.root c.args.place.key c.args.place.version page c.requires s
    (subst (λ (q : Place). IsDamagedFromRoot (g.P.Pages.map c.args.pages.now) c.args.root q page) is_place d)

pub returns-clause-value : goal.returns-clause-value
returns-clause-value g c = λ tells.
    let m : PageMap = g.P.Pages.map c.args.pages.now in
    let spells = c.in_ok-node.ensures.spells in
    let leads : LeadsTo c.args.place c.in_ok-node.node c.in-Some-step.step.child c.in-Some-step.step.place = subst (λ (o : Option Step). StepsOn c.in_ok-node.node c.args.place o) c.in-Some-step.is c.in-Some.ensures.told.step in
    let level = level_of_root m c.args.root c.in_ok-node.node c.requires spells.typed spells.rules (c.in_ok-node.ensures.found tells) in
    let told = told_there m (g.P.Pages.map c.view_page.new.pages) (c.level-level.result - 1) c.in-Some-step.step.child c.in_ok-below.below c.args.place c.in-Some-step.step.place c.in_ok-node.node leads
    c.view_page.ensures.reads.read.map (c.in_ok-below.ensures.value (search rules)) in
    let there = told ∙ ap (λ (l : ℕ). total_below (l - 1) m c.in-Some-step.step.child c.args.place.key c.args.place.version % 2 ^ 128) (c.level-level.ensures ∙ sym level) in
    value_with m (root_level m c.args.root) c.args.root c.args.place.key c.args.place.version c.in-Some.told.value c.in_ok-node.node (omega (arith, level, spells.rules.low_level))
    spells.typed spells.rules (sym level) (c.in_ok-node.ensures.found tells) c.in-Some.ensures.told.value c.in-Some-step.step.child c.in_ok-below.below leads.child_is there

pub returns-clause-whole : goal.returns-clause-whole
returns-clause-whole g c = λ tells.
    let spells = c.in_ok-node.ensures.spells in
    let leads : LeadsTo c.args.place c.in_ok-node.node c.in-Some-step.step.child c.in-Some-step.step.place = subst (λ (o : Option Step). StepsOn c.in_ok-node.node c.args.place o) c.in-Some-step.is c.in-Some.ensures.told.step in
    let here = subst (λ (m : PageMap). (damaged : ℕ) → IsDamagedBelow FitsPlace LeadsTo NothingBeside m (c.level-level.result - 1) c.in-Some-step.step.place c.in-Some-step.step.child damaged → ⊥)
    c.view_page.ensures.reads.read.map (c.in_ok-below.ensures.whole (search rules)) in
    let below = subst (λ (l : ℕ). (damaged : ℕ) → IsDamagedBelow FitsPlace LeadsTo NothingBeside (g.P.Pages.map c.args.pages.now) (l - 1) c.in-Some-step.step.place c.in-Some-step.step.child damaged → ⊥) c.level-level.ensures here in
    whole_root_further (g.P.Pages.map c.args.pages.now) c.args.root c.args.place c.in_ok-node.node c.requires spells.typed spells.rules (c.in_ok-node.ensures.found tells) c.in-Some.ensures.fits
    c.in-Some-step.step.child c.in-Some-step.step.place leads below
