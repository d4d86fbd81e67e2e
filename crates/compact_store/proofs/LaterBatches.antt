-- A batch that is lawful after some changes is lawful after others that leave the same live, with no more mass and no more events.
use Rattle.std.proofs.Common.{◌≡◌, ℕ, ◌+◌, ◌≤◌, true, false, ◌&&◌, ◌==◌, nat_le, nat_lt, not, List, [], ◌∷◌, ◌++◌, Option, Some, None, is_none, length, refl, sym, ◌∙◌, ap, subst, arith}
use Rattle.std.proofs.lemmas.Bool.{le-ltb, leb-false, lt-leb, ltb-false, not-false}
use Rattle.std.proofs.lemmas.List.{append-nil, length_push}
use Rattle.std.proofs.lemmas.List.Concat.{flat_map-append}
use Rattle.std.specs.List.{list_any}
use Rattle.std.specs.Option.{option_map, option_or}
use Rattle.bw_types.specs.History.{History, changes, event_count, flat, flat_row, last_version}
use Rattle.bw_types.specs.Lawful.{AreLawfulAfter, IsLawfulBatch, staged_rows}
use Rattle.bw_types.specs.Mass.{mass, mass_limit}
use Rattle.bw_types.specs.Refusals.{first_refusal, first_refused_row, is_live, mass_refusal, refused_at, row_refusal, total_mass, was_added, withdrawal_refusal}
use Rattle.bw_types.specs.declared.change.Change.{Change}
use Rattle.bw_types.specs.declared.object.Object.{Object}
use Rattle.bw_types.specs.declared.params.Params.{Params}
use Rattle.bw_types.specs.declared.refusal.Reason.TheVariants.{Fresh, Gone, Mass, Unknown, Used}
use Rattle.bw_types.specs.declared.row.Row.{Row}
use Rattle.bw_types.specs.declared.row.Row.TheVariants as row
use Rattle.history_laws.proofs.Staging.{no_refusal, none_if}
use Rattle.compact_store.proofs.LiveAgain.{Like, like_more, live_like, live_was_added}

-- an answer that is not there
pub none_is : {X : Type 0} (o : Option X) → is_none o ≡ true → o ≡ None
none_is None e = refl
none_is (Some x) e = absurd (let none : false ≡ true = e in cc)

-- the first of two answers in turn
first_none : {X : Type 0} (o p : Option X) → option_or o p ≡ None → o ≡ None
first_none None p e = refl
first_none (Some x) p e = absurd (cc)

-- the second of them
second_none : {X : Type 0} (o p : Option X) → option_or o p ≡ None → p ≡ None
second_none None p e = e
second_none (Some x) p e = absurd (cc)

-- an answer of which another is made
mapped_none : {X Y : Type 0} (f : X → Y) (o : Option X) → option_map f o ≡ None → o ≡ None
mapped_none f None e = refl
mapped_none f (Some x) e = absurd (cc)

-- the changes of a history with a batch more
pub changes_with : (h : History) (batch : List Change) → changes (h ++ batch ∷ []) ≡ changes h ++ batch
changes_with h batch = flat_map-append (λ (b : List Change). b) h (batch ∷ []) ∙ ap (λ (cs : List Change). changes h ++ cs) (append-nil batch)

-- the same ids are live
same_live : (params : Params) (old new : List Change) (id : ℕ) → Like params old new → is_live id new ≡ is_live id old
same_live params old new id like = ap (list_any (λ (o : Object). o.id == id)) (live_like params old new like)

-- no reason against a mass, with no more mass before it
mass_stays : (params : Params) (old new : List Change) (o : Object) → Like params old new → mass_refusal params old o ≡ None → mass_refusal params new o ≡ None
mass_stays params old new o like none =
    let room = leb-false mass_limit (total_mass params old + mass params o) (none_if _ Mass None none).0 in
    let small : nat_le mass_limit (total_mass params new + mass params o) ≡ false = lt-leb mass_limit (total_mass params new + mass params o) (omega (arith, room, like.mass)) in
    rw small refl

-- no reason against a withdrawal
withdrawal_stays : (params : Params) (past new batch : List Change) (id : ℕ) → Like params past new → withdrawal_refusal past batch id ≡ None → withdrawal_refusal new batch id ≡ None
withdrawal_stays params past new batch id like none =
    let fresh = none_if (is_live id (past ++ batch) && was_added id batch) Fresh _ none in
    let unknown = none_if (not (was_added id (past ++ batch))) Unknown _ fresh.1 in
    let gone = none_if (not (is_live id (past ++ batch))) Gone None unknown.1 in
    let same : is_live id (new ++ batch) ≡ is_live id (past ++ batch) = same_live params (past ++ batch) (new ++ batch) id (like_more params past new batch like) in
    let lives : is_live id (new ++ batch) ≡ true = same ∙ not-false (is_live id (past ++ batch)) gone.0 in
    let added : was_added id (new ++ batch) ≡ true = live_was_added id (new ++ batch) lives in
    let aged : was_added id batch ≡ false = sym (ap (λ b. b && was_added id batch) (not-false (is_live id (past ++ batch)) gone.0)) ∙ fresh.0 in
    rw (aged, added, lives) refl

-- no reason against a row
row_stays : (params : Params) (past new batch : List Change) (r : Row) → Like params past new → row_refusal params past batch r ≡ None → row_refusal params new batch r ≡ None
row_stays params past new batch (row.Add o) like none =
    let parts = none_if (is_live o.id (past ++ batch)) Used (mass_refusal params (past ++ batch) o) none in
    let more = like_more params past new batch like in
    let unused : is_live o.id (new ++ batch) ≡ false = same_live params (past ++ batch) (new ++ batch) o.id more ∙ parts.0 in
    rw unused (mass_stays params (past ++ batch) (new ++ batch) o more parts.1)
row_stays params past new batch (row.Withdraw id) like none = withdrawal_stays params past new batch id like none
row_stays params past new batch (row.Move o) like none =
    let ends = withdrawal_stays params past new batch o.id like (first_none _ _ none) in
    let begins = mass_stays params (past ++ batch) (new ++ batch) o (like_more params past new batch like) (second_none _ _ none) in
    rw ends begins

-- no refusal of any of the rows
rows_stay : (params : Params) (past new batch : List Change) (place : ℕ) (rows : List Row) → Like params past new → first_refused_row params past batch place rows ≡ None
    → first_refused_row params new batch place rows ≡ None
rows_stay params past new batch place [] like none = refl
rows_stay params past new batch place (r ∷ rows) like none =
    let own = row_stays params past new batch r like (mapped_none (refused_at place) _ (first_none _ _ none)) in
    rw own (rows_stay params past new (batch ++ flat_row r) (place + 1) rows like (second_none _ _ none))

-- a batch stays lawful
batch_stays : (params : Params) (before new : History) (batch : List Change) → Like params (changes before) (changes new) → last_version new ≤ last_version before
    → IsLawfulBatch params before batch → IsLawfulBatch params new batch
batch_stays params before new batch like le lawful =
    let none = no_refusal params before (staged_rows batch) (none_is (first_refusal params before (staged_rows batch)) lawful.accepted) in
    let events = ltb-false params.events (event_count before + length (flat (staged_rows batch)) + 1) none.0 in
    let room : nat_lt params.events (event_count new + length (flat (staged_rows batch)) + 1) ≡ false =
    le-ltb params.events (event_count new + length (flat (staged_rows batch)) + 1) (omega (arith, events, le, like.count)) in
    let rows = rows_stay params (changes before) (changes new) [] 1 (staged_rows batch) like none.1 in
    record { fits = lawful.fits; size = lawful.size; accepted = rw (room, rows) refl }

-- and so do the batches that follow it
pub batches_stay : (params : Params) (before new later : History) → Like params (changes before) (changes new) → last_version new ≤ last_version before
    → AreLawfulAfter params before later → AreLawfulAfter params new later
batches_stay params before new [] like le lawful = tt
batches_stay params before new (batch ∷ later) like le lawful =
    let both : Like params (changes (before ++ batch ∷ [])) (changes (new ++ batch ∷ [])) =
    subst (λ (cs : List Change). Like params cs (changes (new ++ batch ∷ []))) (sym (changes_with before batch))
    (subst (λ (cs : List Change). Like params (changes before ++ batch) cs) (sym (changes_with new batch)) (like_more params (changes before) (changes new) batch like)) in (
      batch_stays params before new batch like le lawful.0,
      batches_stay params (before ++ batch ∷ []) (new ++ batch ∷ []) later both (omega (arith, le, length_push before batch, length_push new batch)) lawful.1,
    )
