use Rattle.std.proofs.Common.{◌≡◌, ◌-◌, ◌+◌, ◌<◌, ◌≤◌, ◌==◌, ℕ, List, [], ◌∷◌, ◌++◌, Option, Some, Err, IfSome, inl, inr, get_or, drop, length, Bool, true, false, rules, arith, subst, sym, refl, ap, ◌∙◌}
use Rattle.std.specs.List.{All}
use Rattle.std.proofs.lemmas.Bool.{eqb-false, eqb-true}
use Rattle.std.proofs.lemmas.Result.{err_from_is_err_and}
use Rattle.bw_types.specs.declared.dated.Dated.{Dated}
use Rattle.ports.specs.Pages.{PageMap}
use Rattle.ports.specs.declared.page.PageFault.TheVariants.{Damaged}
use Rattle.page_layout.specs.Damage.{IsDamagedBelow, NothingBeside}
use Rattle.page_layout.specs.DamageLaws as laws
use Rattle.page_layout.specs.declared.life_node.LifeEntry.{LifeEntry}
use Rattle.object_table.specs.Damage.{FitsPlace, LeadsOn}
use Rattle.object_table.specs.declared.path.Step.{Step}
use Rattle.object_table.specs.declared.place.Place.{Place}
use Rattle.object_table.specs.Keys.{key, low_key}
use Rattle.object_table.specs.Nodes.{entries_in}
use Rattle.object_table.specs.Lives.{AreNext, lives_below}
use Rattle.object_table.specs.Stands.{StandsBelow}
use Rattle.object_table.specs.Steps.{IsStepTo}
use Rattle.object_table.proofs.Exits.{exit_error}
use Rattle.object_table.proofs.LastLives.{step_leads}
use Rattle.object_table.proofs.Firsts.{walk_found, walk_past, past_leads}
use Rattle.object_table.proofs.Onward.{past_above}
use Rattle.object_table.proofs.Reading.{begun_at, leaf_lives}
use Rattle.object_table.proofs.walking.+walk_below.Goals as goal

found_none : (found : List Dated) (b : Bool) → b ≡ (length found == 0) → b ≡ true → found ≡ []
found_none found b same none = none_long found (eqb-true (length found) 0 (sym same ∙ none)) where
  none_long : (ds : List Dated) → length ds ≡ 0 → ds ≡ []
  none_long [] h = refl
  none_long (d ∷ ds) h = absurd (omega (arith, h))

found_some : (found : List Dated) (b : Bool) → b ≡ (length found == 0) → b ≡ false → 1 ≤ length found
found_some found b same some = omega (arith, eqb-false (length found) 0 (sym same ∙ some))

next_within : (o : Option Step) (next : Step) (k n : ℕ) → o ≡ Some next → IfSome o (λ step. k < n) → k < n
next_within o next k n is within = subst (λ (x : Option Step). IfSome x (λ step. k < n)) is within

next_step : (o : Option Step) (next : Step) (k : ℕ) (place : Place) (es : List LifeEntry) → o ≡ Some next
    → IfSome o (λ step. (d : LifeEntry) → IsStepTo step (get_or es k d) (drop (k + 1) es) place.high (low_key (get_or es k d)))
    → (d : LifeEntry) → IsStepTo next (get_or es k d) (drop (k + 1) es) place.high (low_key (get_or es k d))
next_step o next k place es is steps =
    subst (λ (x : Option Step). IfSome x (λ step. (d : LifeEntry) → IsStepTo step (get_or es k d) (drop (k + 1) es) place.high (low_key (get_or es k d)))) is steps

pub overflow_sub-begun : goal.overflow_sub-begun
overflow_sub-begun g t c =
    let f = c.in_ok-node.ensures.fits in
    begun_at c.args.form c.args.level c.args.place c.in_ok-node.node f.0 c.begun_count-begun.result (omega (arith, c.if-level-eq0.false, c.if-level-eq1.false)) f.1 c.begun_count-begun.ensures

pub returns-in_err-walk_below-clause-damaged : goal.returns-in_err-walk_below-clause-damaged
returns-in_err-walk_below-clause-damaged g t c = λ damaged e tells.
    let f = c.in_ok-node.ensures.fits in
    let m : PageMap = g.P.Pages.map c.args.pages.now in
    let p = err_from_is_err_and c.from_residual-in_err-walk_below.result c.from_residual-in_err-walk_below.ensures.1 in
    let same = exit_error c.from_residual-in_err-walk_below.result c.in_err-walk_below.field-0.0 (Damaged damaged) p e in
    let entries : List LifeEntry = entries_in c.in_ok-node.node in
    let high : 2 ≤ c.args.level = omega (arith, c.if-level-eq0.false, c.if-level-eq1.false) in
    let some : 1 ≤ c.begun_count-begun.result = begun_at c.args.form c.args.level c.args.place c.in_ok-node.node f.0 c.begun_count-begun.result high f.1 c.begun_count-begun.ensures in
    let leads : LeadsOn c.args.place c.in_ok-node.node c.step_to-step.result.child c.step_to-step.result.place =
    inl (step_leads c.args.place c.in_ok-node.node entries c.begun_count-begun.result c.step_to-step.result refl c.begun_count-begun.ensures some c.step_to-step.ensures) in
    let why = c.in_err-walk_below.ensures.damaged damaged (ap Err same) (search rules) in
    let below = subst (λ (n : PageMap). IsDamagedBelow (FitsPlace c.args.form) LeadsOn NothingBeside n (c.args.level - 1) c.step_to-step.result.place c.step_to-step.result.child damaged) c.view_node.ensures.reads.read.map why in
    laws.damaged_further (FitsPlace c.args.form) LeadsOn NothingBeside m c.args.level c.args.place c.args.page damaged c.in_ok-node.node f.0 c.step_to-step.result.child c.step_to-step.result.place
    (omega (arith, high)) (f.2 tells) f.1 leads below

pub returns-then-level-eq0-clause-next : goal.returns-then-level-eq0-clause-next
returns-then-level-eq0-clause-next g t c = λ tells least s.
    absurd (subst (λ (n : ℕ). StandsBelow c.args.form n (g.P.Pages.map c.args.pages.now) c.args.page c.args.place.low c.args.place.high least) c.if-level-eq0.true s)

pub returns-then-level-eq1-clause-next : goal.returns-then-level-eq1-clause-next
returns-then-level-eq1-clause-next g t c = λ tells least s.
    let f = c.in_ok-node.ensures.fits in
    subst (λ (ds : List Dated). AreNext c.take_from.new.found.items c.args.place.sought ds)
    (leaf_lives c.args.form c.args.level (g.P.Pages.map c.args.pages.now) c.args.page c.in_ok-node.node f.0 c.if-level-eq1.true f.1.fits (f.2 tells)) c.take_from.ensures.next

pub returns-then-not-is_empty-clause-next : goal.returns-then-not-is_empty-clause-next
returns-then-not-is_empty-clause-next g t c = λ tells least s.
    let f = c.in_ok-node.ensures.fits in
    let m : PageMap = g.P.Pages.map c.args.pages.now in
    let entries : List LifeEntry = entries_in c.in_ok-node.node in
    let high : 2 ≤ c.args.level = omega (arith, c.if-level-eq0.false, c.if-level-eq1.false) in
    let some : 1 ≤ c.begun_count-begun.result = begun_at c.args.form c.args.level c.args.place c.in_ok-node.node f.0 c.begun_count-begun.result high f.1 c.begun_count-begun.ensures in
    let step = c.step_to-step.result in
    let found : List Dated = c.walk_below.new.found.items in
    let below : (l : ℕ) → StandsBelow c.args.form (c.args.level - 1) m step.child step.place.low step.place.high l
    → AreNext found step.place.sought (lives_below c.args.form (c.args.level - 1) m step.child) =
    λ l stands.
    subst (λ (n : PageMap). AreNext found step.place.sought (lives_below c.args.form (c.args.level - 1) n step.child)) c.view_node.ensures.reads.read.map
    (c.in_ok-walk_below.ensures.next (search rules) l
    (subst (λ (n : PageMap). StandsBelow c.args.form (c.args.level - 1) n step.child step.place.low step.place.high l) (sym c.view_node.ensures.reads.read.map) stands)) in
    walk_found c.args.form c.args.level m c.args.page least c.begun_count-begun.result c.args.place step c.in_ok-node.node f.0 entries found
    high (f.2 tells) f.1.fits refl c.begun_count-begun.ensures some c.step_to-step.ensures below s (inl (found_some found c.is_empty.result c.is_empty.ensures c.if-not-is_empty.true))

pub returns-in_default-clause-next : goal.returns-in_default-clause-next
returns-in_default-clause-next g t c = λ tells least s.
    let f = c.in_ok-node.ensures.fits in
    let m : PageMap = g.P.Pages.map c.args.pages.now in
    let entries : List LifeEntry = entries_in c.in_ok-node.node in
    let high : 2 ≤ c.args.level = omega (arith, c.if-level-eq0.false, c.if-level-eq1.false) in
    let some : 1 ≤ c.begun_count-begun.result = begun_at c.args.form c.args.level c.args.place c.in_ok-node.node f.0 c.begun_count-begun.result high f.1 c.begun_count-begun.ensures in
    let step = c.step_to-step.result in
    let found : List Dated = c.walk_below.new.found.items in
    let below : (l : ℕ) → StandsBelow c.args.form (c.args.level - 1) m step.child step.place.low step.place.high l
    → AreNext found step.place.sought (lives_below c.args.form (c.args.level - 1) m step.child) =
    λ l stands.
    subst (λ (n : PageMap). AreNext found step.place.sought (lives_below c.args.form (c.args.level - 1) n step.child)) c.view_node.ensures.reads.read.map
    (c.in_ok-walk_below.ensures.next (search rules) l
    (subst (λ (n : PageMap). StandsBelow c.args.form (c.args.level - 1) n step.child step.place.low step.place.high l) (sym c.view_node.ensures.reads.read.map) stands)) in
    walk_found c.args.form c.args.level m c.args.page least c.begun_count-begun.result c.args.place step c.in_ok-node.node f.0 entries found
    high (f.2 tells) f.1.fits refl c.begun_count-begun.ensures some c.step_to-step.ensures below s (inr (c.step_past-past.ensures.none c.in_default.is))

pub returns-in_err-first_below-clause-damaged : goal.returns-in_err-first_below-clause-damaged
returns-in_err-first_below-clause-damaged g t c = λ damaged e tells.
    let f = c.in_ok-node.ensures.fits in
    let m : PageMap = g.P.Pages.map c.args.pages.now in
    let p = err_from_is_err_and c.from_residual-in_err-first_below.result c.from_residual-in_err-first_below.ensures.1 in
    let same = exit_error c.from_residual-in_err-first_below.result c.in_err-first_below.field-0.0 (Damaged damaged) p e in
    let entries : List LifeEntry = entries_in c.in_ok-node.node in
    let high : 2 ≤ c.args.level = omega (arith, c.if-level-eq0.false, c.if-level-eq1.false) in
    let some : 1 ≤ c.begun_count-begun.result = begun_at c.args.form c.args.level c.args.place c.in_ok-node.node f.0 c.begun_count-begun.result high f.1 c.begun_count-begun.ensures in
    let next = c.in-Some.next in
    let within = next_within c.step_past-past.result next c.begun_count-begun.result (length (entries_in c.in_ok-node.node)) c.in-Some.is c.step_past-past.ensures.within in
    let onward = next_step c.step_past-past.result next c.begun_count-begun.result c.args.place (entries_in c.in_ok-node.node) c.in-Some.is c.step_past-past.ensures.step in
    let leads : LeadsOn c.args.place c.in_ok-node.node next.child next.place =
    inr (past_leads c.args.place c.in_ok-node.node entries c.begun_count-begun.result c.step_to-step.result next refl c.begun_count-begun.ensures some c.step_to-step.ensures within onward) in
    let why = c.in_err-first_below.ensures.damaged damaged (ap Err same) (search rules) in
    let whole = c.in_ok-walk_below.ensures.reads.read.map ∙ c.view_node.ensures.reads.read.map in
    let below = subst (λ (n : PageMap). IsDamagedBelow (FitsPlace c.args.form) LeadsOn NothingBeside n (c.args.level - 1) next.place next.child damaged) whole why in
    laws.damaged_further (FitsPlace c.args.form) LeadsOn NothingBeside m c.args.level c.args.place c.args.page damaged c.in_ok-node.node f.0 next.child next.place
    (omega (arith, high)) (f.2 tells) f.1 leads below

pub returns-clause-next : goal.returns-clause-next
returns-clause-next g t c = λ tells least s.
    let f = c.in_ok-node.ensures.fits in
    let m : PageMap = g.P.Pages.map c.args.pages.now in
    let entries : List LifeEntry = entries_in c.in_ok-node.node in
    let high : 2 ≤ c.args.level = omega (arith, c.if-level-eq0.false, c.if-level-eq1.false) in
    let some : 1 ≤ c.begun_count-begun.result = begun_at c.args.form c.args.level c.args.place c.in_ok-node.node f.0 c.begun_count-begun.result high f.1 c.begun_count-begun.ensures in
    let step = c.step_to-step.result in
    let found : List Dated = c.walk_below.new.found.items in
    let below : (l : ℕ) → StandsBelow c.args.form (c.args.level - 1) m step.child step.place.low step.place.high l
    → AreNext found step.place.sought (lives_below c.args.form (c.args.level - 1) m step.child) =
    λ l stands.
    subst (λ (n : PageMap). AreNext found step.place.sought (lives_below c.args.form (c.args.level - 1) n step.child)) c.view_node.ensures.reads.read.map
    (c.in_ok-walk_below.ensures.next (search rules) l
    (subst (λ (n : PageMap). StandsBelow c.args.form (c.args.level - 1) n step.child step.place.low step.place.high l) (sym c.view_node.ensures.reads.read.map) stands)) in
    let next = c.in-Some.next in
    let within = next_within c.step_past-past.result next c.begun_count-begun.result (length (entries_in c.in_ok-node.node)) c.in-Some.is c.step_past-past.ensures.within in
    let onward = next_step c.step_past-past.result next c.begun_count-begun.result c.args.place (entries_in c.in_ok-node.node) c.in-Some.is c.step_past-past.ensures.step in
    let whole = c.in_ok-walk_below.ensures.reads.read.map ∙ c.view_node.ensures.reads.read.map in
    let first : List Dated = c.first_below.new.found.items in
    let beyond : (l : ℕ) → next.place.sought ≡ next.place.low → StandsBelow c.args.form (c.args.level - 1) m next.child next.place.low next.place.high l
    → (rest : List Dated) × (lives_below c.args.form (c.args.level - 1) m next.child ≡ first ++ rest) =
    λ l at stands. subst (λ (n : PageMap). (rest : List Dated) × (lives_below c.args.form (c.args.level - 1) n next.child ≡ first ++ rest)) whole
    (c.in_ok-first_below.ensures.first (search rules) l at
    (subst (λ (n : PageMap). StandsBelow c.args.form (c.args.level - 1) n next.child next.place.low next.place.high l) (sym whole) stands)) in
    walk_past c.args.form c.args.level m c.args.page least c.begun_count-begun.result c.args.place step next c.in_ok-node.node f.0 entries found first
    high (f.2 tells) f.1.fits refl c.begun_count-begun.ensures some c.step_to-step.ensures below
    (found_none found c.is_empty.result c.is_empty.ensures c.if-not-is_empty.false) within onward beyond c.in_ok-first_below.ensures.some s

pub returns-then-not-is_empty-clause-above : goal.returns-then-not-is_empty-clause-above
returns-then-not-is_empty-clause-above g t c =
    subst (λ (n : ℕ). All (λ d. n ≤ key d) c.walk_below.new.found.items) (c.step_to-step.ensures (record { low_id = 0; low_life = 0; child = 0 })).place.sought c.in_ok-walk_below.ensures.above

pub returns-clause-above : goal.returns-clause-above
returns-clause-above g t c =
    let next = c.in-Some.next in
    let within = next_within c.step_past-past.result next c.begun_count-begun.result (length (entries_in c.in_ok-node.node)) c.in-Some.is c.step_past-past.ensures.within in
    let onward = next_step c.step_past-past.result next c.begun_count-begun.result c.args.place (entries_in c.in_ok-node.node) c.in-Some.is c.step_past-past.ensures.step in
    let past = past_above (entries_in c.in_ok-node.node) c.begun_count-begun.result c.args.place.sought c.args.place.high next c.begun_count-begun.ensures within onward in
    λ k d h. omega (arith, past, c.in_ok-first_below.ensures.above k d h)
