use Rattle.std.proofs.Common.{rules, ◌≡◌, false, true, IsTrue, List, length, sym, ◌∙◌, subst}
use Rattle.std.proofs.lemmas.List.Sorted.{IsNonDecreasingBy-from_sort_by_key}
use Rattle.bw_types.specs.History.{History, changes, last_version}
use Rattle.page_warehouse.specs.Shown.{params_in}
use Rattle.page_warehouse.specs.Events.{AreEventsOf}
use Rattle.page_warehouse.specs.declared.event.Event.{Event}
use Rattle.page_warehouse.proofs.Houses.{events_all, holds_now}
use Rattle.page_warehouse.proofs.InOrder.{are_events}
use Rattle.page_warehouse.proofs.gathering.gather.Goals as goal

pub returns-then-are_as_told-clause-events : goal.returns-then-are_as_told-clause-events
returns-then-are_as_told-clause-events g c = λ h held.
    let all = c.in-Ok.ensures.passed h held in
    are_events c.lives_name_changes.ensures.named (params_in c.args.house.now) h all.0 c.in-Ok.events.items c.sort_unstable_by_key.new.self.items held.1.lawful all.1 all.2 c.sort_unstable_by_key.ensures.permutation
    (IsNonDecreasingBy-from_sort_by_key (λ (e : Event). e.event) c.sort_unstable_by_key.new.self.items c.sort_unstable_by_key.ensures.sorted (λ a r q k. search rules))

pub returns-then-are_as_told-clause-lives : goal.returns-then-are_as_told-clause-lives
returns-then-are_as_told-clause-lives g c = λ h held.
    let all = c.in-Ok.ensures.passed h held in
    events_all h all.0 c.in-Ok.events.items c.sort_unstable_by_key.new.self.items all.1 all.2 c.sort_unstable_by_key.ensures.permutation

pub returns-in-Err-clause-sound : goal.returns-in-Err-clause-sound
returns-in-Err-clause-sound g c = λ h page held e. c.gather_by_id.ensures.sound h page held (c.in-Err.is ∙ e)

-- the events of a history that the disk holds are told so by its meta page
pub returns-else-are_as_told-clause-sound : goal.returns-else-are_as_told-clause-sound
returns-else-are_as_told-clause-sound g c = λ h page held e.
    let all = c.in-Ok.ensures.passed h held in
    let at = holds_now g.D.Disk g.X.DomIndex c.args.house.now c.gather_by_id.new.house h c.gather_by_id.ensures.kept held in
    let are = are_events c.lives_name_changes.ensures.named (params_in c.args.house.now) h all.0 c.in-Ok.events.items c.sort_unstable_by_key.new.self.items held.1.lawful all.1 all.2 c.sort_unstable_by_key.ensures.permutation
    (IsNonDecreasingBy-from_sort_by_key (λ (e : Event). e.event) c.sort_unstable_by_key.new.self.items c.sort_unstable_by_key.ensures.sorted (λ a r q k. search rules)) in
    let told = subst (λ (es : List Event). (k : History) × (AreEventsOf es k) × (last_version k ≡ c.last.result) × (length (changes k) ≡ c.rows.result)) (sym c.deref.ensures.value)
    (h, are, sym (c.last.ensures.held true h at), sym (c.rows.ensures.held true h at)) in
    let no : false ≡ true = subst IsTrue c.if-are_as_told.false (c.are_as_told.ensures.1 told) in
    cc
