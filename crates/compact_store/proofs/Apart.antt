-- In a lawful history no two live objects have the same id, so that adding them in a row has no refusal.
use Rattle.std.proofs.Common.{◌≡◌, ℕ, ◌+◌, ◌<◌, Bool, true, false, ◌==◌, nat_le, not, List, [], ◌∷◌, ◌++◌, map, refl, sym, ◌∙◌, ap, subst, arith, append_assoc, if◌then◌else◌}
use Rattle.std.proofs.lemmas.Bool.{eqb-false, lt-leb, ne_eqb, or_from, or_parts}
use Rattle.std.proofs.lemmas.List.{append-nil, map-append, map_push}
use Rattle.std.proofs.lemmas.List.Folds.{list_any-append}
use Rattle.std.proofs.lemmas.List.Sums.{sum_by-append, sum_by-cons}
use Rattle.std.specs.List.{filter, list_any}
use Rattle.bw_types.specs.History.{History, changes, live_of}
use Rattle.bw_types.specs.Lawful.{AreLawfulAfter, IsLawful, staged_rows}
use Rattle.bw_types.specs.Mass.{mass, mass_limit}
use Rattle.bw_types.specs.Refusals.{added_mass, first_refusal, is_live, mass_refusal, total_mass}
use Rattle.bw_types.specs.declared.change.Change.{Change}
use Rattle.bw_types.specs.declared.change.Change.TheVariants as change
use Rattle.bw_types.specs.declared.object.Object.{Object}
use Rattle.bw_types.specs.declared.params.Params.{Params}
use Rattle.bw_types.specs.declared.refusal.Reason.TheVariants.{Used}
use Rattle.history_laws.proofs.Staging.{GoAll, all_go, flat_staged, goes, no_refusal, none_if}
use Rattle.compact_store.proofs.LaterBatches.{changes_with, none_is}
use Rattle.compact_store.proofs.LiveAgain.{live_after_add, live_after_withdrawal, live_of_adds}

-- an object has this id
abbrev pub has_id : ℕ → Object → Bool
has_id id o = o.id == id

-- no two of the objects have the same id
abbrev pub AreApart : List Object → Type 0
AreApart [] = Unit {0}
AreApart (o ∷ objects) = (list_any (has_id o.id) objects ≡ false) × AreApart objects

-- two ids that differ do so either way round
other_way : (m n : ℕ) → (m == n) ≡ false → (n == m) ≡ false
other_way m n e = ne_eqb n m (λ same. eqb-false m n e (sym same))

-- one more, of an id that none of them has
apart_push : (objects : List Object) (o : Object) → AreApart objects → list_any (has_id o.id) objects ≡ false → AreApart (objects ++ o ∷ [])
apart_push [] o apart none = (refl, tt)
apart_push (p ∷ objects) o apart none =
    let parts = or_parts (p.id == o.id) (list_any (has_id o.id) objects) none in (
      list_any-append (has_id p.id) objects (o ∷ []) ∙ or_from _ _ apart.0 (or_from _ _ (other_way p.id o.id parts.0) refl),
      apart_push objects o apart.1 parts.1,
    )

-- those that pass a test
none_filtered : (p : Object → Bool) (id : ℕ) (objects : List Object) → list_any (has_id id) objects ≡ false → list_any (has_id id) (filter p objects) ≡ false
none_filtered p id [] none = refl
none_filtered p id (o ∷ objects) none =
    let parts = or_parts (o.id == id) (list_any (has_id id) objects) none in
    elim (p o) as (λ b. list_any (has_id id) (if b then o ∷ filter p objects else filter p objects) ≡ false) [
      | true ↦ or_from _ _ parts.0 (none_filtered p id objects parts.1)
      | false ↦ none_filtered p id objects parts.1
    ]

-- those of objects apart that pass a test are apart
apart_filtered : (p : Object → Bool) (objects : List Object) → AreApart objects → AreApart (filter p objects)
apart_filtered p [] apart = tt
apart_filtered p (o ∷ objects) apart =
    elim (p o) as (λ b. AreApart (if b then o ∷ filter p objects else filter p objects)) [
      | true ↦ (none_filtered p o.id objects apart.0, apart_filtered p objects apart.1)
      | false ↦ apart_filtered p objects apart.1
    ]

-- none before an object has its id
none_before : (before : List Object) (o : Object) (objects : List Object) → AreApart (before ++ o ∷ objects) → list_any (has_id o.id) before ≡ false
none_before [] o objects apart = refl
none_before (p ∷ before) o objects apart =
    let later = or_parts _ _ (sym (list_any-append (has_id p.id) before (o ∷ objects)) ∙ apart.0) in
    let other = or_parts (o.id == p.id) (list_any (has_id p.id) objects) later.1 in
    or_from _ _ (other_way o.id p.id other.0) (none_before before o objects apart.1)

-- the live objects stay apart by a change without a refusal
apart_step : (params : Params) (past batch : List Change) (c : Change) → goes params past batch c → AreApart (live_of (past ++ batch)) → AreApart (live_of (past ++ (batch ++ c ∷ [])))
apart_step params past batch (change.Add o) go apart =
    let unused = (none_if (is_live o.id (past ++ batch)) Used (mass_refusal params (past ++ batch) o) go).0 in
    subst AreApart (sym (ap live_of (sym (append_assoc past batch (change.Add o ∷ []))) ∙ live_after_add (past ++ batch) o))
    (apart_push (live_of (past ++ batch)) o apart unused)
apart_step params past batch (change.Withdraw id) go apart =
    subst AreApart (sym (ap live_of (sym (append_assoc past batch (change.Withdraw id ∷ []))) ∙ live_after_withdrawal (past ++ batch) id))
    (apart_filtered (λ (o : Object). not (id == o.id)) (live_of (past ++ batch)) apart)

-- and so they do by the changes of a batch
apart_batch : (params : Params) (past batch cs : List Change) → GoAll params past batch cs → AreApart (live_of (past ++ batch)) → AreApart (live_of (past ++ (batch ++ cs)))
apart_batch params past batch [] go apart = subst (λ (b : List Change). AreApart (live_of (past ++ b))) (sym (append-nil batch)) apart
apart_batch params past batch (c ∷ cs) go apart =
    subst (λ (b : List Change). AreApart (live_of (past ++ b))) (append_assoc batch (c ∷ []) cs)
    (apart_batch params past (batch ++ c ∷ []) cs go.1 (apart_step params past batch c go.0 apart))

-- and by the batches of a history
apart_after : (params : Params) (before h : History) → AreLawfulAfter params before h → AreApart (live_of (changes before)) → AreApart (live_of (changes (before ++ h)))
apart_after params before [] lawful apart = subst (λ (k : History). AreApart (live_of (changes k))) (sym (append-nil before)) apart
apart_after params before (batch ∷ later) lawful apart =
    let none = no_refusal params before (staged_rows batch) (none_is (first_refusal params before (staged_rows batch)) lawful.0.accepted) in
    let go : GoAll params (changes before) [] batch = subst (λ (cs : List Change). GoAll params (changes before) [] cs) (flat_staged batch) (all_go params (changes before) [] 1 (staged_rows batch) none.1) in
    let start : AreApart (live_of (changes before ++ [])) = subst (λ (cs : List Change). AreApart (live_of cs)) (sym (append-nil (changes before))) apart in
    let one : AreApart (live_of (changes (before ++ batch ∷ []))) = subst (λ (cs : List Change). AreApart (live_of cs)) (sym (changes_with before batch)) (apart_batch params (changes before) [] batch go start) in
    subst (λ (k : History). AreApart (live_of (changes k))) (append_assoc before (batch ∷ []) later) (apart_after params (before ++ batch ∷ []) later lawful.1 one)

-- the live objects of a lawful history are apart
pub lawful_apart : (params : Params) (h : History) → IsLawful params h → AreApart (live_of (changes h))
lawful_apart params h lawful = apart_after params [] h lawful tt

-- adds of objects that are apart, in room enough for their mass
adds_go_after : (params : Params) (before objects : List Object) → AreApart (before ++ objects) → total_mass params (map change.Add (before ++ objects)) < mass_limit
    → GoAll params [] (map change.Add before) (map change.Add objects)
adds_go_after params before [] apart small = tt
adds_go_after params before (o ∷ objects) apart small =
    let unused : is_live o.id (map change.Add before) ≡ false = ap (list_any (has_id o.id)) (live_of_adds before) ∙ none_before before o objects apart in
    let whole : total_mass params (map change.Add (before ++ o ∷ objects)) ≡ total_mass params (map change.Add before) + total_mass params (map change.Add (o ∷ objects)) =
    ap (total_mass params) (map-append change.Add before (o ∷ objects)) ∙ sum_by-append (added_mass params) (map change.Add before) (map change.Add (o ∷ objects)) in
    let one = sum_by-cons (added_mass params) (change.Add o) (map change.Add objects) in
    let room : nat_le mass_limit (total_mass params (map change.Add before) + mass params o) ≡ false = lt-leb mass_limit _ (omega (arith, small, whole, one)) in
    let joined : (before ++ o ∷ []) ++ objects ≡ before ++ o ∷ objects = append_assoc before (o ∷ []) objects in
    let rest : GoAll params [] (map change.Add (before ++ o ∷ [])) (map change.Add objects) =
    adds_go_after params (before ++ o ∷ []) objects (subst AreApart (sym joined) apart) (subst (λ (os : List Object). total_mass params (map change.Add os) < mass_limit) (sym joined) small) in (
      rw (unused, room) refl,
      subst (λ (cs : List Change). GoAll params [] cs (map change.Add objects)) (map_push change.Add before o) rest,
    )

-- adds of objects that are apart, as the first changes of all
pub adds_go : (params : Params) (objects : List Object) → AreApart objects → total_mass params (map change.Add objects) < mass_limit → GoAll params [] [] (map change.Add objects)
adds_go params objects apart small = adds_go_after params [] objects apart small
