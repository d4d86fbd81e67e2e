-- What holds of a batch that has no refusal.
use Rattle.std.proofs.Common.{◌≡◌, ℕ, ◌+◌, ◌<◌, ◌≤◌, Bool, true, false, ◌&&◌, ◌==◌, not, nat_lt, nat_le, List, [], ◌∷◌, ◌++◌, Option, Some, None, length, refl, sym, ◌∙◌, ap, subst, arith, inl, inr, if◌then◌else◌, append_assoc}
use Rattle.std.proofs.lemmas.Bool.{and_parts, and_from, or_from, not_from_false, ltb-false, leb-false, cases_eq, eq-eqb, ne_eqb, not-false}
use Rattle.std.proofs.lemmas.List.{append-nil}
use Rattle.std.proofs.lemmas.List.Sums.{sum_by-cons}
use Rattle.std.specs.List.{list_any, filter}
use Rattle.std.specs.Option.{option_or, option_map}
use Rattle.bw_types.specs.History.{History, flat, flat_row, changes, event_count, live_of}
use Rattle.bw_types.specs.Mass.{mass, mass_limit}
use Rattle.bw_types.specs.Refusals.{is_live, was_added, added_mass, total_mass, mass_refusal, withdrawal_refusal, row_refusal, refused_at, first_refused_row, first_refusal}
use Rattle.bw_types.specs.declared.params.Params.{Params}
use Rattle.bw_types.specs.declared.object.Object.{Object}
use Rattle.bw_types.specs.declared.change.Change.{Change}
use Rattle.bw_types.specs.declared.change.Change.TheVariants as change
use Rattle.bw_types.specs.declared.row.Row.{Row}
use Rattle.bw_types.specs.declared.row.Row.TheVariants as row
use Rattle.bw_types.specs.declared.refusal.Reason.TheVariants.{Used, Unknown, Fresh, Gone, Mass, Events}
use Rattle.warehouse.specs.Kept.{may_follow, may_all_follow}
use Rattle.warehouse.proofs.LiveOf.{live_of-withdraw}
use Rattle.warehouse.proofs.Rows.{mass_more}

follow-append : (cs xs ys : List Change) → may_all_follow cs xs ≡ true → may_all_follow (cs ++ xs) ys ≡ true → may_all_follow cs (xs ++ ys) ≡ true
follow-append cs [] ys h g = subst (λ (zs : List Change). may_all_follow zs ys ≡ true) (append-nil cs) g
follow-append cs (x ∷ xs) ys h g =
    let both = and_parts (may_follow cs x) (may_all_follow (cs ++ x ∷ []) xs) h in
    and_from _ _ both.0 (follow-append (cs ++ x ∷ []) xs ys both.1 (subst (λ (zs : List Change). may_all_follow zs ys ≡ true) (sym (append_assoc cs (x ∷ []) xs)) g))

-- of two answers in turn neither is there
none_first : {X : Type 0} (o p : Option X) → option_or o p ≡ None → o ≡ None
none_first None p h = refl
none_first (Some x) p h = absurd (cc)

none_second : {X : Type 0} (o p : Option X) → option_or o p ≡ None → p ≡ None
none_second None p h = h
none_second (Some x) p h = absurd (cc)

none_mapped : {X Y : Type 0} (f : X → Y) (o : Option X) → option_map f o ≡ None → o ≡ None
none_mapped f None h = refl
none_mapped f (Some x) h = absurd (cc)

none_if : {X : Type 0} (b : Bool) (x : X) (o : Option X) → (if b then Some x else o) ≡ None → (b ≡ false) × (o ≡ None)
none_if true x o h = absurd (cc)
none_if false x o h = (refl, h)

-- no reason against a withdrawal: the id is live
withdrawn_live : (past batch : List Change) (id : ℕ) → withdrawal_refusal past batch id ≡ None → is_live id (past ++ batch) ≡ true
withdrawn_live past batch id h =
    let fresh = none_if (is_live id (past ++ batch) && was_added id batch) Fresh _ h in
    let unknown = none_if (not (was_added id (past ++ batch))) Unknown _ fresh.1 in
    let gone = none_if (not (is_live id (past ++ batch))) Gone None unknown.1 in
    not-false _ gone.0

no_mass : (params : Params) (cs : List Change) (o : Object) → mass_refusal params cs o ≡ None → total_mass params cs + mass params o < mass_limit
no_mass params cs o h = leb-false mass_limit (total_mass params cs + mass params o) (none_if (nat_le mass_limit (total_mass params cs + mass params o)) Mass None h).0

none_left : (id : ℕ) (os : List Object) → list_any (λ o. o.id == id) (filter (λ o. not (id == o.id)) os) ≡ false
none_left id [] = refl
none_left id (o ∷ os) =
    elim (cases_eq id o.id) [
      | inl e ↦ let same : (id == o.id) ≡ true = eq-eqb id o.id e in rw same (none_left id os)
      | inr ne ↦
          let other : (id == o.id) ≡ false = ne_eqb id o.id ne in
          let back : (o.id == id) ≡ false = ne_eqb o.id id (λ e. ne (sym e)) in
          rw other (or_from _ _ back (none_left id os))
    ]

withdrawn_not_live : (cs : List Change) (id : ℕ) → is_live id (cs ++ change.Withdraw id ∷ []) ≡ false
withdrawn_not_live cs id = ap (list_any (λ o. o.id == id)) (live_of-withdraw cs id) ∙ none_left id (live_of cs)

-- a row that is not refused
abbrev pub GoesOn : Params → List Change → List Change → Type 0
GoesOn params cs xs = (may_all_follow cs xs ≡ true) × (total_mass params cs < mass_limit → total_mass params (cs ++ xs) < mass_limit)

row_goes_on : (params : Params) (past batch : List Change) (r : Row) → row_refusal params past batch r ≡ None → GoesOn params (past ++ batch) (flat_row r)
row_goes_on params past batch (row.Add o) h =
    let used = none_if (is_live o.id (past ++ batch)) Used _ h in
    let small = no_mass params (past ++ batch) o used.1 in
    let more = mass_more params (past ++ batch) (change.Add o ∷ []) in
    let one = sum_by-cons (added_mass params) (change.Add o) [] in
    (and_from _ _ (not_from_false _ used.0) refl, λ limit. omega arith)
row_goes_on params past batch (row.Withdraw id) h =
    let more = mass_more params (past ++ batch) (change.Withdraw id ∷ []) in
    let one = sum_by-cons (added_mass params) (change.Withdraw id) [] in
    (and_from _ _ (withdrawn_live past batch id h) refl, λ limit. omega arith)
row_goes_on params past batch (row.Move o) h =
    let live = withdrawn_live past batch o.id (none_first _ _ h) in
    let small = no_mass params (past ++ batch) o (none_second _ _ h) in
    let more = mass_more params (past ++ batch) (change.Withdraw o.id ∷ change.Add o ∷ []) in
    let two = sum_by-cons (added_mass params) (change.Withdraw o.id) (change.Add o ∷ []) in
    let one = sum_by-cons (added_mass params) (change.Add o) [] in
    (and_from _ _ live (and_from _ _ (not_from_false _ (withdrawn_not_live (past ++ batch) o.id)) refl), λ limit. omega arith)

rows_go_on : (params : Params) (past batch : List Change) (place : ℕ) (rows : List Row) → first_refused_row params past batch place rows ≡ None → GoesOn params (past ++ batch) (flat rows)
rows_go_on params past batch place [] h = (refl, λ limit. subst (λ (zs : List Change). total_mass params zs < mass_limit) (sym (append-nil (past ++ batch))) limit)
rows_go_on params past batch place (r ∷ rows) h =
    let first = row_goes_on params past batch r (none_mapped (refused_at place) _ (none_first _ _ h)) in
    let rest = rows_go_on params past (batch ++ flat_row r) (place + 1) rows (none_second _ _ h) in
    let joined : past ++ (batch ++ flat_row r) ≡ (past ++ batch) ++ flat_row r = sym (append_assoc past batch (flat_row r)) in
    let rest_at = subst (λ (zs : List Change). GoesOn params zs (flat rows)) joined rest in (
      follow-append (past ++ batch) (flat_row r) (flat rows) first.0 rest_at.0,
      λ limit. subst (λ (zs : List Change). total_mass params zs < mass_limit) (append_assoc (past ++ batch) (flat_row r) (flat rows)) (rest_at.1 (first.1 limit)),
    )

-- what holds of rows that have no refusal on a history
pub record IsAccepted (params : Params) (h : History) (rows : List Row) : Type 0 where
  pub follow : may_all_follow (changes h) (flat rows) ≡ true
  pub mass : total_mass params (changes h ++ flat rows) < mass_limit
  pub events : event_count h + length (flat rows) + 1 ≤ params.events

pub accepted : (params : Params) (h : History) (rows : List Row) → total_mass params (changes h) < mass_limit → first_refusal params h rows ≡ None → IsAccepted params h rows
accepted params h rows limit none =
    let parts = none_if (nat_lt params.events (event_count h + length (flat rows) + 1)) (refused_at 0 Events) (first_refused_row params (changes h) [] 1 rows) none in
    let goes = subst (λ (zs : List Change). GoesOn params zs (flat rows)) (append-nil (changes h)) (rows_go_on params (changes h) [] 1 rows parts.1) in
    record {
      follow = goes.0;
      mass = goes.1 limit;
      events = ltb-false params.events (event_count h + length (flat rows) + 1) parts.0;
    }
