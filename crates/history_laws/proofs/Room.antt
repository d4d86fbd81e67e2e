-- A lawful history has room for its events and masses.
use Rattle.std.proofs.Common.{◌≡◌, ◌+◌, ◌<◌, true, false, nat_le, List, [], ◌∷◌, ◌++◌, Option, Some, None, is_none, length, refl, sym, ◌∙◌, ap, subst, arith, append_assoc, length-append}
use Rattle.std.proofs.lemmas.Bool.{ltb-false, leb-false}
use Rattle.std.proofs.lemmas.List.{append-nil, length_push}
use Rattle.std.proofs.lemmas.List.Concat.{flat_map-append}
use Rattle.std.proofs.lemmas.List.Sums.{sum_by-append, sum_by-cons}
use Rattle.bw_types.specs.History.{History, changes, event_count, flat}
use Rattle.bw_types.specs.Lawful.{AreLawfulAfter, IsLawful, IsLawfulBatch, staged_rows}
use Rattle.bw_types.specs.Mass.{mass, mass_limit}
use Rattle.bw_types.specs.Refusals.{added_mass, first_refusal, is_live, mass_refusal, total_mass}
use Rattle.bw_types.specs.declared.params.Params.{Params}
use Rattle.bw_types.specs.declared.change.Change.{Change}
use Rattle.bw_types.specs.declared.change.Change.TheVariants as change
use Rattle.bw_types.specs.declared.refusal.Reason.TheVariants.{Used, Mass}
use Rattle.history_laws.specs.Bounds.{HasRoom}
use Rattle.history_laws.proofs.Staging.{GoAll, all_go, flat_staged, no_refusal, none_if, total_withdrawn}

none_is : {X : Type 0} (o : Option X) → is_none o ≡ true → o ≡ None
none_is None e = refl
none_is (Some x) e = absurd (let no : false ≡ true = e in cc)

added_total : (params : Params) (cs : List Change) (o : _) → total_mass params (cs ++ change.Add o ∷ []) ≡ total_mass params cs + mass params o
added_total params cs o =
    let more = sum_by-append (added_mass params) cs (change.Add o ∷ []) in
    let one = sum_by-cons (added_mass params) (change.Add o) [] in
    omega arith

-- where no change has a refusal, the masses stay below the limit
masses_stay : (params : Params) (past batch cs : List Change) → GoAll params past batch cs → total_mass params (past ++ batch) < mass_limit → total_mass params (past ++ (batch ++ cs)) < mass_limit
masses_stay params past batch [] g small = subst (λ (xs : List Change). total_mass params (past ++ xs) < mass_limit) (sym (append-nil batch)) small
masses_stay params past batch (change.Add o ∷ cs) g small =
    let not_live = none_if (is_live o.id (past ++ batch)) Used (mass_refusal params (past ++ batch) o) g.0 in
    let room = leb-false mass_limit (total_mass params (past ++ batch) + mass params o) (none_if (nat_le mass_limit (total_mass params (past ++ batch) + mass params o)) Mass None not_live.1).0 in
    let more : total_mass params (past ++ (batch ++ change.Add o ∷ [])) < mass_limit =
    subst (λ (xs : List Change). total_mass params xs < mass_limit) (append_assoc past batch (change.Add o ∷ [])) (let e = added_total params (past ++ batch) o in omega arith) in
    subst (λ (xs : List Change). total_mass params (past ++ xs) < mass_limit) (append_assoc batch (change.Add o ∷ []) cs) (masses_stay params past (batch ++ change.Add o ∷ []) cs g.1 more)
masses_stay params past batch (change.Withdraw id ∷ cs) g small =
    let more : total_mass params (past ++ (batch ++ change.Withdraw id ∷ [])) < mass_limit =
    subst (λ (xs : List Change). total_mass params xs < mass_limit) (append_assoc past batch (change.Withdraw id ∷ [])) (let e = total_withdrawn params (past ++ batch) id in omega arith) in
    subst (λ (xs : List Change). total_mass params (past ++ xs) < mass_limit) (append_assoc batch (change.Withdraw id ∷ []) cs) (masses_stay params past (batch ++ change.Withdraw id ∷ []) cs g.1 more)

changes_push : (h : History) (batch : List Change) → changes (h ++ batch ∷ []) ≡ changes h ++ batch
changes_push h batch = flat_map-append (λ b. b) h (batch ∷ []) ∙ ap (λ xs. changes h ++ xs) (append-nil batch)

batch_room : (params : Params) (h : History) (batch : List Change) → IsLawfulBatch params h batch → HasRoom params h → HasRoom params (h ++ batch ∷ [])
batch_room params h batch lawful room =
    let none = no_refusal params h (staged_rows batch) (none_is (first_refusal params h (staged_rows batch)) lawful.accepted) in
    let go : GoAll params (changes h) [] batch = subst (λ (cs : List Change). GoAll params (changes h) [] cs) (flat_staged batch) (all_go params (changes h) [] 1 (staged_rows batch) none.1) in
    let events = ltb-false params.events (event_count h + length (flat (staged_rows batch)) + 1) none.0 in
    record {
      events = omega (arith, events, ap length (flat_staged batch), ap length (changes_push h batch), length-append (changes h) batch, length_push h batch);
      mass = subst (λ (cs : List Change). total_mass params cs < mass_limit) (sym (changes_push h batch))
          (masses_stay params (changes h) [] batch go (subst (λ (cs : List Change). total_mass params cs < mass_limit) (sym (append-nil (changes h))) room.mass));
    }

room_after : (params : Params) (before h : History) → AreLawfulAfter params before h → HasRoom params before → HasRoom params (before ++ h)
room_after params before [] l room = subst (λ (k : History). HasRoom params k) (sym (append-nil before)) room
room_after params before (b ∷ bs) l room =
    subst (λ (k : History). HasRoom params k) (append_assoc before (b ∷ []) bs) (room_after params (before ++ b ∷ []) bs l.1 (batch_room params before b l.0 room))

pub lawful_room : (params : Params) (h : History) → IsLawful params h → HasRoom params h
lawful_room params h l = room_after params [] h l (record { events = omega arith; mass = omega arith })
