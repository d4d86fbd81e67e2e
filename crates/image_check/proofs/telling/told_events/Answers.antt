use Rattle.std.proofs.Common.{◌≡◌, ◌++◌, ℕ, true, false, IsTrue, List, [], get_or, pos, map, refl, sym, ◌∙◌, ap, subst, rules}
use Rattle.std.specs.List.{flat_map}
use Rattle.std.proofs.lemmas.List.{take_all}
use Rattle.std.proofs.lemmas.List.Sorted.{IsNonDecreasingBy-from_sort_by_key}
use Rattle.bw_types.specs.History.{History, last_version}
use Rattle.bw_types.specs.Lives.{Numbered}
use Rattle.bw_types.specs.declared.dated.Dated.{Dated}
use Rattle.page_layout.specs.FootprintLaws.{flat_more}
use Rattle.history_laws.specs.Told.{named_by}
use Rattle.page_warehouse.specs.Events.{AreEventsOf, numbered_in}
use Rattle.page_warehouse.specs.declared.event.Event.{Event}
use Rattle.image_check.proofs.Cutting.{lawful_events, told_are, told_history}
use Rattle.image_check.proofs.telling.told_events.Goals as goal

-- a life of zeros
abbrev no_life : Dated
no_life = record { object = record { id = 0; low = []; high = []; weight = pos 0; coeffs = [] }; life = 0; added = 0; add_event = 0; withdrawn = 0; withdraw_event = 0 }

pub loop-dated-preserved : goal.loop-dated-preserved
loop-dated-preserved c =
    c.in_ok-push_named.ensures ∙ (ap (λ (ns : List Numbered). ns ++ named_by (get_or c.args.lives.now c.loop-dated.dated-index no_life)) c.loop-dated.invariant
    ∙ sym (flat_more named_by c.args.lives.now c.loop-dated.dated-index no_life c.loop-dated-test.true))

-- they make a history
abbrev IsMade : List Event → ℕ → Type 0
IsMade events last = (h : History) × (AreEventsOf events h) × (last_version h ≡ last)

pub returns-then-not-make_history-clause-none : goal.returns-then-not-make_history-clause-none
returns-then-not-make_history-clause-none c = λ e h by.
    let all : map numbered_in c.loop-dated.events.items ≡ flat_map named_by c.args.lives.now = c.loop-dated.invariant ∙ ap (λ (ds : List Dated). flat_map named_by ds) (take_all c.loop-dated.dated-index c.args.lives.now c.loop-dated-test.false) in
    let up = IsNonDecreasingBy-from_sort_by_key (λ (e : Event). e.event) c.sort_unstable_by_key.new.self.items c.sort_unstable_by_key.ensures.sorted (λ a r q k. search rules) in
    let are = told_are c.args.lives.now c.loop-dated.events.items c.sort_unstable_by_key.new.self.items c.args.last h all c.sort_unstable_by_key.ensures.permutation up by in
    let no : false ≡ true = subst IsTrue c.if-not-make_history.true (c.make_history.ensures.1 (subst (λ (ts : List Event). IsMade ts c.args.last) (sym c.as_slice.ensures.value) (h, are, by.version))) in
    absurd cc

pub returns-clause-some : goal.returns-clause-some
returns-clause-some c =
    let all : map numbered_in c.loop-dated.events.items ≡ flat_map named_by c.args.lives.now = c.loop-dated.invariant ∙ ap (λ (ds : List Dated). flat_map named_by ds) (take_all c.loop-dated.dated-index c.args.lives.now c.loop-dated-test.false) in
    let up = IsNonDecreasingBy-from_sort_by_key (λ (e : Event). e.event) c.sort_unstable_by_key.new.self.items c.sort_unstable_by_key.ensures.sorted (λ a r q k. search rules) in
    told_history c.args.lives.now c.loop-dated.events.items c.sort_unstable_by_key.new.self.items c.args.last all c.sort_unstable_by_key.ensures.permutation up
    (subst (λ (ts : List Event). IsMade ts c.args.last) c.as_slice.ensures.value (c.if-not-make_history.ensures.0 refl))

pub returns-then-not-make_history-clause-unlawful : goal.returns-then-not-make_history-clause-unlawful
returns-then-not-make_history-clause-unlawful c = λ e params h has.
    let all : map numbered_in c.loop-dated.events.items ≡ flat_map named_by c.args.lives.now = c.loop-dated.invariant ∙ ap (λ (ds : List Dated). flat_map named_by ds) (take_all c.loop-dated.dated-index c.args.lives.now c.loop-dated-test.false) in
    let up = IsNonDecreasingBy-from_sort_by_key (λ (e : Event). e.event) c.sort_unstable_by_key.new.self.items c.sort_unstable_by_key.ensures.sorted (λ a r q k. search rules) in
    let are = lawful_events c.lives_name_changes.ensures.named params h c.args.lives.now c.loop-dated.events.items c.sort_unstable_by_key.new.self.items c.args.last all c.sort_unstable_by_key.ensures.permutation up has in
    let no : false ≡ true = subst IsTrue c.if-not-make_history.true (c.make_history.ensures.1 (subst (λ (ts : List Event). IsMade ts c.args.last) (sym c.as_slice.ensures.value) (h, are, has.version))) in
    absurd cc

pub returns-clause-lawful : goal.returns-clause-lawful
returns-clause-lawful c = λ params h has.
    let all : map numbered_in c.loop-dated.events.items ≡ flat_map named_by c.args.lives.now = c.loop-dated.invariant ∙ ap (λ (ds : List Dated). flat_map named_by ds) (take_all c.loop-dated.dated-index c.args.lives.now c.loop-dated-test.false) in
    let up = IsNonDecreasingBy-from_sort_by_key (λ (e : Event). e.event) c.sort_unstable_by_key.new.self.items c.sort_unstable_by_key.ensures.sorted (λ a r q k. search rules) in
    lawful_events c.lives_name_changes.ensures.named params h c.args.lives.now c.loop-dated.events.items c.sort_unstable_by_key.new.self.items c.args.last all c.sort_unstable_by_key.ensures.permutation up has
