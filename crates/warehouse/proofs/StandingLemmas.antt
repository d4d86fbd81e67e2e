-- What follows where a warehouse stands.
use Rattle.std.proofs.Common.{None, ◌≡◌, ℕ, ◌≤◌, true, List, [], ◌∷◌, ◌++◌, ◌+◌, length, subst, ℤ, sym, ◌∙◌, ap, arith, inl, inr, map, ◌<◌}
use Rattle.std.proofs.lemmas.Bool.{cases_lt}
use Rattle.std.proofs.lemmas.Int.{int_wrap_fits}
use Rattle.std.proofs.lemmas.List.{take_all, length_push, length-append}
use Rattle.std.specs.Int.{int_wrap, w128}
use Rattle.std.specs.List.{list_all}
use Rattle.bw_types.specs.Answers.{integral_at}
use Rattle.bw_types.specs.Fits.{IsInRange}
use Rattle.bw_types.specs.History.{History, changes, event_count, flat, last_version, live, live_of}
use Rattle.bw_types.specs.Mass.{mass_limit}
use Rattle.bw_types.specs.Refusals.{first_refusal, total_mass}
use Rattle.bw_types.specs.declared.params.Params.{Params}
use Rattle.bw_types.specs.declared.row.Row.{Row}
use Rattle.bw_types.specs.Integral.{integral_over}
use Rattle.bw_types.specs.Tally.{int_sum_by}
use Rattle.bw_types.specs.declared.query.Query.{Query}
use Rattle.warehouse.specs.Events.{changes_of, have_lives}
use Rattle.warehouse.specs.Kept.{objects_at, IsLedger, state_in}
use Rattle.warehouse.specs.ListState.{ListState}
use Rattle.warehouse.specs.Standing.{IsStanding, history_in, state_of}
use Rattle.warehouse.specs.declared.life.Life.{Life}
use Rattle.warehouse.specs.declared.life.State.{State}
use Rattle.warehouse.specs.declared.list_house.ListHouse.TheInside.{Inside}
use Rattle.warehouse.proofs.Entered.{ledger_end, ledger_same, changes-push}
use Rattle.warehouse.proofs.Judged.{IsAccepted, accepted}
use Rattle.warehouse.proofs.Rows.{mass_more}
use Rattle.history_laws.specs.Bounds.{IntegralsAreBounded}
use Rattle.warehouse.proofs.Sizes.{fits_from_abs}

-- at each version
pub objects_are_live : (h : History) (lives : List Life) (states : ℕ → State) (version : ℕ) → IsLedger h (changes h) (last_version h) lives states → version ≤ last_version h
    → objects_at version lives ≡ live h version
objects_are_live h lives states version ledger at =
    elim (cases_lt version (last_version h)) [
      | inl before ↦ ledger.past version before
      | inr past ↦
          let last : version ≡ last_version h = omega arith in
          rw last (ledger.now ∙ ap (λ hs. live_of (changes hs)) (sym (take_all (last_version h) h (omega arith))))
    ]

-- the integral, read modulo 2^128
pub integral_is : IntegralsAreBounded → (a : Inside) (version : ℕ) (q : Query) (r : ℤ) → IsStanding a → version ≤ last_version (history_in a)
    → r ≡ int_wrap w128 (int_sum_by (integral_over a.params q) (objects_at version a.lives.items)) → r ≡ integral_at a.params (history_in a) version q
integral_is bounded a version q r stands at is =
    let bound = bounded a.params (history_in a) version q in
    let mass = stands.mass in
    let small = stands.mass_fits in
    is
    ∙ ap (λ os. int_wrap w128 (int_sum_by (integral_over a.params q) os)) (objects_are_live _ _ _ version stands.ledger at)
    ∙ int_wrap_fits w128 (integral_at a.params (history_in a) version q) (fits_from_abs _ (omega arith))

-- rows without a refusal on what callers see
pub accepted_of : (a : Inside) (s : ListState) (rows : List Row) → IsStanding a → state_of a ≡ s → first_refusal s.params s.history rows ≡ None → IsAccepted a.params (history_in a) rows
accepted_of a s rows stands is none =
    let was = stands.mass in
    let small = stands.mass_fits in
    accepted a.params (history_in a) rows (omega arith) (ap (λ (t : ListState). first_refusal t.params t.history rows) is ∙ none)

pub mass_stays_below : (a : Inside) (rows : List Row) → IsStanding a → IsAccepted a.params (history_in a) rows → a.mass + total_mass a.params (flat rows) < mass_limit
mass_stays_below a rows stands accepts =
    let was = stands.mass in
    let more = mass_more a.params (changes (history_in a)) (flat rows) in
    let fits = accepts.mass in
    omega arith

-- a batch was put last
pub standing_put : (a b : Inside) (rows : List Row) → IsStanding a → IsAccepted a.params (history_in a) rows → list_all (λ events. have_lives b.lives.items events.items) b.batches.items ≡ true
    → b.params ≡ a.params → history_in b ≡ history_in a ++ flat rows ∷ [] → b.mass ≡ a.mass + total_mass a.params (flat rows) → b.events ≡ a.events + (length (flat rows) + 1)
    → IsLedger (history_in a) (changes (history_in a) ++ flat rows) (last_version (history_in a) + 1) b.lives.items (state_in b.states)
    → IsStanding b
standing_put a b rows stands may named params history mass events ledger =
    let h = history_in a in
    let batch = flat rows in
    let all : changes (h ++ batch ∷ []) ≡ changes h ++ batch = changes-push h batch in
    let more = length-append (changes h) batch in
    let version = length_push h batch in
    let count : event_count (h ++ batch ∷ []) ≡ a.events + (length batch + 1) =
    let e = stands.events in let l = ap length all in omega arith in
    let was = stands.mass in
    let total : total_mass a.params (changes (h ++ batch ∷ [])) ≡ a.mass + total_mass a.params batch =
    let e = mass_more a.params (changes h) batch in ap (total_mass a.params) all ∙ e ∙ ap (λ m. m + total_mass a.params batch) (sym was) in
    let joined = mass_more a.params (changes h) batch in
    let limit = may.mass in
    let fits = may.events in
    let before = stands.events in
    record {
      in_range = subst (λ (p : Params). IsInRange p) (sym params) stands.in_range;
      named = named;
      events = events ∙ sym count ∙ ap event_count (sym history);
      events_fit = subst (λ (p : Params). b.events ≤ p.events) (sym params) (omega arith);
      mass = mass ∙ sym total ∙ ap (λ (p : Params). total_mass p (changes (h ++ batch ∷ []))) (sym params) ∙ ap (λ hs. total_mass b.params (changes hs)) (sym history);
      mass_fits = omega arith;
      ledger = subst (λ (hs : History). IsLedger hs (changes hs) (last_version hs) b.lives.items (state_in b.states)) (sym history) (ledger_end h batch b.lives.items (state_in b.states) ledger);
    }

-- lists that are the same, and states that tell the same
pub standing_same : (a b : Inside) → IsStanding a → b.params ≡ a.params → b.batches.items ≡ a.batches.items → b.lives.items ≡ a.lives.items
    → ((q : ℕ) → state_in b.states q ≡ state_in a.states q) → b.mass ≡ a.mass → b.events ≡ a.events → IsStanding b
standing_same a b stands params batches lives told mass events =
    let history : history_in b ≡ history_in a =
    ap (λ ls. map (λ batch. changes_of ls batch.items) b.batches.items) lives ∙ ap (map (λ batch. changes_of a.lives.items batch.items)) batches in
    let total : total_mass b.params (changes (history_in b)) ≡ total_mass a.params (changes (history_in a)) =
    ap (λ (p : Params). total_mass p (changes (history_in b))) params ∙ ap (λ hs. total_mass a.params (changes hs)) history in
    let h = history_in a in
    let ledger = ledger_same h (changes h) (last_version h) a.lives.items (state_in a.states) (state_in b.states) told stands.ledger in
    record {
      in_range = subst (λ (p : Params). IsInRange p) (sym params) stands.in_range;
      named =
          ap (λ ls. list_all (λ batch. have_lives ls batch.items) b.batches.items) lives
          ∙ ap (list_all (λ batch. have_lives a.lives.items batch.items)) batches
          ∙ stands.named;
      events = events ∙ stands.events ∙ ap event_count (sym history);
      events_fit = subst (λ (n : ℕ). n ≤ b.params.events) (sym events) (subst (λ (p : Params). a.events ≤ p.events) (sym params) stands.events_fit);
      mass = mass ∙ stands.mass ∙ sym total;
      mass_fits = subst (λ (n : ℕ). n < mass_limit) (sym mass) stands.mass_fits;
      ledger = subst (λ (hs : History). IsLedger hs (changes hs) (last_version hs) b.lives.items (state_in b.states)) (sym history)
          (subst (λ (ls : List Life). IsLedger h (changes h) (last_version h) ls (state_in b.states)) (sym lives) ledger);
    }
