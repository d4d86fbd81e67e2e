use Rattle.std.proofs.Common.{rules, true, vec_len, ◌≡◌, ◌+◌, [], ◌∷◌, ◌++◌, map, length, refl, sym, ◌∙◌, ap}
use Rattle.std.proofs.lemmas.List.{length-map}
use Rattle.std.specs.List.{list_all}
use Rattle.bw_types.specs.History.{History, flat, last_version}
use Rattle.warehouse.specs.Events.{object_in, changes_of, have_lives, KeepsObjects}
use Rattle.warehouse.specs.ListState.{ListState}
use Rattle.warehouse.specs.Standing.{history_in}
use Rattle.warehouse.proofs.Entered.{batch_entered}
use Rattle.warehouse.proofs.Named.{history_more}
use Rattle.warehouse.proofs.StandingLemmas.{accepted_of, mass_stays_below, standing_put, standing_same}
use Rattle.warehouse.proofs.list_house.ListHouse.put.Goals as goal

pub invariant_of-self : goal.invariant_of-self
invariant_of-self c = standing_same c.self.inside _ c.self.invariant refl c.prepare.ensures.batches c.prepare.ensures.lives c.prepare.ensures.states refl refl

-- the history has the batch, and a life wherever it names one
batch_is_last : (c : goal.Joined-push) → (map (λ batch. changes_of c.enter_all.new.lives.items batch.items) c.push.new.self.items ≡ history_in c.self.inside ++ flat c.args.rows.now ∷ [])
    × (list_all (λ batch. have_lives c.enter_all.new.lives.items batch.items) c.push.new.self.items ≡ true)
batch_is_last c =
    let keeps : KeepsObjects c.self.inside.lives.items c.enter_all.new.lives.items =
    λ place o at. c.enter_all.ensures.objects place o (ap (λ ls. object_in ls place) c.prepare.ensures.lives ∙ at) in
    let entered = c.enter_all.ensures.events (ap (have_lives c.prepare.new.lives.items) c.in_ok-events.ensures.items) in
    let is : changes_of c.enter_all.new.lives.items c.enter_all.new.events.items ≡ flat c.args.rows.now =
    entered.0 ∙ ap (λ events. changes_of c.prepare.new.lives.items events ++ flat c.args.rows.now) c.in_ok-events.ensures.items in
    history_more (λ batch. batch.items) c.self.inside.lives.items c.enter_all.new.lives.items c.self.inside.batches.items c.push.new.self.items c.enter_all.new.events (flat c.args.rows.now)
    keeps c.self.invariant.named (search rules) is entered.1

-- the number of batches is that of the last version
last_is : (c : goal.Joined-push) → last_version (history_in c.self.inside) ≡ c.len.result
last_is c =
    let versions : vec_len c.self.inside.batches ≡ length c.self.inside.batches.items = search rules in
    length-map c.self.inside.batches.items (λ b. changes_of c.self.inside.lives.items b.items) ∙ sym versions ∙ sym c.len.ensures

pub mass_after-self-inside-requires-clause-limit : goal.mass_after-self-inside-requires-clause-limit
mass_after-self-inside-requires-clause-limit c =
    mass_stays_below c.self.inside c.args.rows.now c.self.invariant (accepted_of c.self.inside c.args.self.now c.args.rows.now c.self.invariant c.self.view_is c.requires.accepted)

pub invariant_of-self-2 : goal.invariant_of-self-2
invariant_of-self-2 c =
    let h = history_in c.self.inside in
    let accepts = accepted_of c.self.inside c.args.self.now c.args.rows.now c.self.invariant c.self.view_is c.requires.accepted in
    let last = batch_is_last c in
    standing_put c.self.inside _ c.args.rows.now c.self.invariant accepts last.1 refl last.0 c.mass_after-self-inside.ensures (ap (λ n. c.self.inside.events + (n + 1)) c.change_count-count.ensures)
    (batch_entered h (flat c.args.rows.now) _ c.self.inside.lives.items c.prepare.new.lives.items c.enter_all.new.lives.items
    c.self.inside.states c.prepare.new.states c.enter_all.new.states c.self.invariant.ledger c.prepare.ensures.lives c.prepare.ensures.states
    (ap (λ n. n + 1) (sym (last_is c))) accepts.follow c.enter_all.ensures.ledger)

pub returns-clause-ok : goal.returns-clause-ok
returns-clause-ok c = (
  ap (λ n. n + 1) (sym (last_is c)) ∙ ap (λ (s : ListState). last_version s.history + 1) c.self.view_is,
  ap (λ (h : History). record { params = c.self.inside.params; history = h }) (batch_is_last c).0
      ∙ ap (λ (s : ListState). record { params = s.params; history = s.history ++ flat c.args.rows.now ∷ [] }) c.self.view_is,
)
