-- A withdrawal that comes next.
use Rattle.std.proofs.Common.{◌≡◌, ℕ, zero, suc, ◌^◌, ◌<◌, ◌≤◌, Bool, true, false, ◌&&◌, ◌==◌, not, if◌then◌else◌, List, [], ◌∷◌, ◌++◌, Option, Some, None, length, map, get_or, refl, sym, ◌∙◌, ap, subst, arith, append_assoc, inl, inr}
use Rattle.std.proofs.lemmas.Bool.{and_cases, and_from, both_ways, eq-eqb, eqb-true, false_from_ne_true, ne_eqb, not-false}
use Rattle.std.proofs.lemmas.List.{map-append}
use Rattle.std.proofs.lemmas.List.Concat.{flat_map-append}
use Rattle.std.proofs.lemmas.List.Elements.{All-nil, All-cons, All-head, All-tail, All-weaker, All-contains, Contains-get_or}
use Rattle.std.proofs.lemmas.List.Folds.{map_fixed}
use Rattle.std.proofs.lemmas.List.Sums.{sum_by-append, sum_by-cons}
use Rattle.std.specs.List.{All, Contains, count_by}
use Rattle.std.specs.Option.{option_map_or}
use Rattle.bw_types.specs.Fits.{IsInRange, object_fits}
use Rattle.bw_types.specs.History.{History, changes}
use Rattle.bw_types.specs.Lawful.{IsLawful, IsLawfulBatch}
use Rattle.bw_types.specs.Lives.{Numbered, lives}
use Rattle.bw_types.specs.Refusals.{is_live, was_added, withdrawal_refusal}
use Rattle.bw_types.specs.declared.change.Change.{Change}
use Rattle.bw_types.specs.declared.change.Change.TheVariants as change
use Rattle.bw_types.specs.declared.dated.Dated.{Dated}
use Rattle.bw_types.specs.declared.params.Params.{Params}
use Rattle.bw_types.specs.declared.refusal.Reason.TheVariants.{Fresh, Unknown, Gone}
use Rattle.corner_weights.specs.PlaneSums.{Entered}
use Rattle.corner_forest.specs.Enters.{entry_of}
use Rattle.object_table.specs.Edits.{withdrawn_at, with_withdrawal}
use Rattle.object_table.specs.Keys.{key}
use Rattle.object_table.specs.Lives.{last_life}
use Rattle.history_laws.specs.Entries.{begun_entry, ended_entry, entries_of, life_entries}
use Rattle.history_laws.specs.Alone.{is_open}
use Rattle.history_laws.specs.Growing.{ended_by}
use Rattle.history_laws.specs.Living.{LastLivesTell}
use Rattle.page_warehouse.specs.Begun.{next_event, next_version, with_changes}
use Rattle.page_warehouse.specs.Next.{WithdrawalGoesOn}
use Rattle.page_warehouse.proofs.Facts.{Facts}
use Rattle.page_warehouse.proofs.Fronts.{fronts_lawful, next_accepted, none_if}
use Rattle.page_warehouse.proofs.Lasts.{found_among, lasts_are_greatest, one_if}
use Rattle.page_warehouse.proofs.NextEntry.{next_entry}
use Rattle.page_warehouse.proofs.Numbers.{changes_with, lives_more, next_change}
use Rattle.page_warehouse.proofs.Told.{last_is_live, none_is_live}
use Rattle.page_warehouse.proofs.LifeBounds.{added_before, lives_fit, lives_low}

-- a withdrawal that is not refused: its id is live, and not added in its batch
may_withdraw : (past batch : List Change) (id : ℕ) → withdrawal_refusal past batch id ≡ None → (is_live id (past ++ batch) ≡ true) × (was_added id batch ≡ false)
may_withdraw past batch id none =
    let fresh = none_if (is_live id (past ++ batch) && was_added id batch) Fresh _ none in
    let unknown = none_if (not (was_added id (past ++ batch))) Unknown _ fresh.1 in
    let gone = none_if (not (is_live id (past ++ batch))) Gone None unknown.1 in
    let live = not-false (is_live id (past ++ batch)) gone.0 in (
      live,
      (elim (and_cases (is_live id (past ++ batch)) (was_added id batch) fresh.0) [
        | inl dead ↦ absurd (both_ways (is_live id (past ++ batch)) dead live)
        | inr none_added ↦ none_added
      ]),
    )

-- two lives of one key have one id and one number
same_key : (a b : Dated) → a.life < 2 ^ 32 → b.life < 2 ^ 32 → (key a == key b) ≡ true → (a.object.id ≡ b.object.id) × (a.life ≡ b.life)
same_key a b low small same =
    let is : key a ≡ key b = eqb-true (key a) (key b) same in
    let ids : a.object.id ≡ b.object.id = omega (arith, is, low, small) in
    (ids, omega (arith, is, ids))

-- a list with one life of it
record IsSplitAt (ds : List Dated) (d : Dated) : Type 0 where
  before : List Dated
  after : List Dated
  is : ds ≡ before ++ d ∷ after

split_at : (ds : List Dated) (d : Dated) (k : ℕ) → k < length ds → get_or ds k d ≡ d → IsSplitAt ds d
split_at [] d k lt e = absurd (omega arith)
split_at (x ∷ xs) d zero lt e = record { before = []; after = xs; is = ap (λ (y : Dated). y ∷ xs) e }
split_at (x ∷ xs) d (suc k) lt e =
    let rest = split_at xs d k (omega arith) e in
    record { before = x ∷ rest.before; after = rest.after; is = ap (λ (ys : List Dated). x ∷ ys) rest.is }

none_counted : (p : Dated → Bool) (ds : List Dated) → count_by p ds ≡ 0 → All (λ d. p d ≡ false) ds
none_counted p [] none = All-nil (λ (d : Dated). p d ≡ false)
none_counted p (d ∷ ds) none =
    let more = sum_by-cons (λ (x : Dated). one_if (p x)) d ds in
    let rest : count_by p ds ≡ 0 = omega (arith, more) in
    let first : one_if (p d) ≡ 0 = omega (arith, more) in
    All-cons (λ (x : Dated). p x ≡ false) d ds (false_from_ne_true (p d) (λ holds. let one : one_if (p d) ≡ 1 = ap one_if holds in omega (arith, one, first))) (none_counted p ds rest)

-- where one of the list passes and at most one does, no other does
others_fail : (p : Dated → Bool) (before after : List Dated) (d : Dated) → p d ≡ true → count_by p (before ++ d ∷ after) ≤ 1 → All (λ e. p e ≡ false) before × All (λ e. p e ≡ false) after
others_fail p before after d holds few =
    let parts = sum_by-append (λ (x : Dated). one_if (p x)) before (d ∷ after) in
    let rest = sum_by-cons (λ (x : Dated). one_if (p x)) d after in
    let one : one_if (p d) ≡ 1 = ap one_if holds in
    (none_counted p before (omega (arith, parts, rest, one)), none_counted p after (omega (arith, parts, rest, one)))

all_parts : (P : Dated → Type 0) (before : List Dated) (d : Dated) (after : List Dated) → All P (before ++ d ∷ after) → All P before × All P after
all_parts P [] d after all = (All-nil P, All-tail P d after all)
all_parts P (x ∷ xs) d after all =
    let rest = all_parts P xs d after (All-tail P x (xs ++ d ∷ after) all) in
    (All-cons P x xs (All-head P x (xs ++ d ∷ after) all) rest.0, rest.1)

both_hold : (P Q R : Dated → Type 0) (ds : List Dated) → ((d : Dated) → P d → Q d → R d) → All P ds → All Q ds → All R ds
both_hold P Q R ds step p q k d lt = step (get_or ds k d) (p k d lt) (q k d lt)

-- a map that changes one of the list alone
one_changed : (f : Dated → Dated) (before after : List Dated) (d over : Dated) → f d ≡ over → All (λ e. f e ≡ e) before → All (λ e. f e ≡ e) after
    → map f (before ++ d ∷ after) ≡ before ++ over ∷ after
one_changed f before after d over is front back =
    map-append f before (d ∷ after) ∙ (ap (λ (ds : List Dated). ds ++ map f (d ∷ after)) (map_fixed f before front)
    ∙ (ap (λ (ds : List Dated). before ++ f d ∷ ds) (map_fixed f after back) ∙ ap (λ (e : Dated). before ++ e ∷ after) is))

if_no : (b : Bool) (x y : Dated) → b ≡ false → (if b then x else y) ≡ y
if_no b x y e = rw e refl

if_yes : (b : Bool) (x y : Dated) → b ≡ true → (if b then x else y) ≡ x
if_yes b x y e = rw e refl

-- the withdrawal ends the last life
ends_one : (n : Numbered) (id : ℕ) (before after : List Dated) (d : Dated) → is_open id d ≡ true → All (λ e. is_open id e ≡ false) before → All (λ e. is_open id e ≡ false) after
    → map (ended_by n id) (before ++ d ∷ after) ≡ before ++ withdrawn_at n.version n.event d ∷ after
ends_one n id before after d opened front back =
    one_changed (ended_by n id) before after d (withdrawn_at n.version n.event d) (if_yes (is_open id d) (withdrawn_at n.version n.event d) d opened)
    (All-weaker (λ (e : Dated). is_open id e ≡ false) (λ (e : Dated). ended_by n id e ≡ e) (λ e closed. if_no (is_open id e) (withdrawn_at n.version n.event e) e closed) before front)
    (All-weaker (λ (e : Dated). is_open id e ≡ false) (λ (e : Dated). ended_by n id e ≡ e) (λ e closed. if_no (is_open id e) (withdrawn_at n.version n.event e) e closed) after back)

-- and so does the mark at its key
abbrev marked : Dated → ℕ → ℕ → Dated → Dated
marked last version event d = if key last == key d then withdrawn_at version event d else d

marks_one : (version event : ℕ) (before after : List Dated) (d : Dated) → All (λ e. (key d == key e) ≡ false) before → All (λ e. (key d == key e) ≡ false) after
    → map (marked d version event) (before ++ d ∷ after) ≡ before ++ withdrawn_at version event d ∷ after
marks_one version event before after d front back =
    one_changed (marked d version event) before after d (withdrawn_at version event d) (if_yes (key d == key d) (withdrawn_at version event d) d (eq-eqb (key d) (key d) refl))
    (All-weaker (λ (e : Dated). (key d == key e) ≡ false) (λ (e : Dated). marked d version event e ≡ e) (λ e other. if_no (key d == key e) (withdrawn_at version event e) e other) before front)
    (All-weaker (λ (e : Dated). (key d == key e) ≡ false) (λ (e : Dated). marked d version event e ≡ e) (λ e other. if_no (key d == key e) (withdrawn_at version event e) e other) after back)

marks_last : (id version event : ℕ) (ds : List Dated) (last : Dated) → last_life id ds ≡ Some last → with_withdrawal id version event ds ≡ map (marked last version event) ds
marks_last id version event ds last found =
    ap (λ (o : Option Dated). map (λ (d : Dated). if option_map_or (λ (l : Dated). key l == key d) o false then withdrawn_at version event d else d) ds) found

-- a life that is ended has not the key of a last life that is not
HasOtherKey : Dated → ℕ → Dated → Type 0
HasOtherKey last id d = is_open id d ≡ false → (key last == key d) ≡ false

other_keys : LastLivesTell → (h : History) (id : ℕ) (last : Dated) → last_life id (lives h) ≡ Some last → is_live id (changes h) ≡ true → All (λ d. d.life < 2 ^ 32) (lives h)
    → All (HasOtherKey last id) (lives h)
unfolding HasOtherKey
other_keys tells h id last found live low k d lt closed = false_from_ne_true (key last == key one) differ
  where
    one : Dated
    one = get_or (lives h) k d

    differ : (key last == key one) ≡ true → ⊥
    differ same =
        let among = found_among id (lives h) last found in
        let both = same_key last one (All-contains (λ (e : Dated). e.life < 2 ^ 32) (lives h) last low among.0) (low k d lt) same in
        let own : one.object.id ≡ id = sym both.0 ∙ among.1 in
        let greatest : (e : Dated) → Contains (lives h) e → e.object.id ≡ one.object.id → e.life ≤ one.life =
        λ e at is. subst (λ (m : ℕ). e.life ≤ m) both.1 (All-contains (λ (x : Dated). x.object.id ≡ id → x.life ≤ last.life) (lives h) e (lasts_are_greatest h id last found) at (is ∙ own)) in
        let told : is_live id (changes h) ≡ (one.withdrawn == 0) =
        subst (λ (m : ℕ). is_live m (changes h) ≡ (one.withdrawn == 0)) own (tells h one (Contains-get_or (lives h) k d lt) greatest) in
        both_ways (is_open id one) closed (and_from (one.object.id == id) (one.withdrawn == 0) (eq-eqb one.object.id id own) (sym told ∙ live))

-- the entries, where one life of a list ends
ends_entries : (before after : List Dated) (d : Dated) (version event : ℕ) → d.withdrawn ≡ 0 → (version == 0) ≡ false
    → (entries_of (before ++ d ∷ after) ≡ (entries_of before ++ begun_entry d ∷ []) ++ entries_of after)
    × (entries_of (before ++ withdrawn_at version event d ∷ after) ≡ (entries_of before ++ begun_entry d ∷ []) ++ ended_entry (withdrawn_at version event d) ∷ entries_of after)
ends_entries before after d version event none some =
    let over : Dated = withdrawn_at version event d in
    let es : List Entered = entries_of before in
    let rest : List Entered = entries_of after in
    let still : (d.withdrawn == 0) ≡ true = eq-eqb d.withdrawn 0 none in
    let two : life_entries over ≡ begun_entry d ∷ ended_entry over ∷ [] = rw some refl in
    let one : life_entries d ≡ begun_entry d ∷ [] = rw still refl in (
      flat_map-append life_entries before (d ∷ after) ∙ (ap (λ (ls : List Entered). es ++ (ls ++ rest)) one ∙ sym (append_assoc es (begun_entry d ∷ []) rest)),
      flat_map-append life_entries before (over ∷ after) ∙ (ap (λ (ls : List Entered). es ++ (ls ++ rest)) two ∙ sym (append_assoc es (begun_entry d ∷ []) (ended_entry over ∷ rest))),
    )

has_last : Facts → (h : History) (id : ℕ) → is_live id (changes h) ≡ true → (o : Option Dated) → last_life id (lives h) ≡ o → (last : Dated) × (last_life id (lives h) ≡ Some last)
has_last facts h id live (Some last) found = (last, found)
has_last facts h id live None none = absurd (both_ways (is_live id (changes h)) (none_is_live facts.nothing facts.live h id none) live)

-- the last life of an id, not ended, among the others: the withdrawal ends it alone, and so does the mark of the table
record EndsAt (n : Numbered) (id : ℕ) (ds : List Dated) (last : Dated) : Type 0 where
  before : List Dated
  after : List Dated
  was : ds ≡ before ++ last ∷ after
  ended : map (ended_by n id) ds ≡ before ++ withdrawn_at n.version n.event last ∷ after
  mark : with_withdrawal id n.version n.event ds ≡ before ++ withdrawn_at n.version n.event last ∷ after

ends_at : (n : Numbered) (id : ℕ) (ds before after : List Dated) (last : Dated) → ds ≡ before ++ last ∷ after → last_life id ds ≡ Some last → is_open id last ≡ true
    → count_by (is_open id) ds ≤ 1 → All (HasOtherKey last id) ds → EndsAt n id ds last
unfolding HasOtherKey
ends_at n id ds before after last is found opened few keys =
    let others = others_fail (is_open id) before after last opened (subst (λ (es : List Dated). count_by (is_open id) es ≤ 1) is few) in
    let parts = all_parts (HasOtherKey last id) before last after (subst (λ (es : List Dated). All (HasOtherKey last id) es) is keys) in
    let front : All (λ e. (key last == key e) ≡ false) before =
    both_hold (HasOtherKey last id) (λ (e : Dated). is_open id e ≡ false) (λ (e : Dated). (key last == key e) ≡ false) before (λ e other closed. other closed) parts.0 others.0 in
    let back : All (λ e. (key last == key e) ≡ false) after =
    both_hold (HasOtherKey last id) (λ (e : Dated). is_open id e ≡ false) (λ (e : Dated). (key last == key e) ≡ false) after (λ e other closed. other closed) parts.1 others.1 in
    record {
      before = before;
      after = after;
      was = is;
      ended = ap (map (ended_by n id)) is ∙ ends_one n id before after last opened others.0 others.1;
      mark = marks_last id n.version n.event ds last found ∙ (ap (map (marked last n.version n.event)) is ∙ marks_one n.version n.event before after last front back);
    }

-- what follows once the last life is known
goes_on_at : Facts → (params : Params) (h : History) (done : List Change) (id : ℕ) (last : Dated) → IsInRange params → IsLawful params (with_changes h done) → was_added id done ≡ false
    → last_life id (lives (with_changes h done)) ≡ Some last → last.withdrawn ≡ 0 → EndsAt (next_change h done (change.Withdraw id)) id (lives (with_changes h done)) last
    → WithdrawalGoesOn params h done id
goes_on_at facts params h done id last range now fresh found on ends =
    let k : History = with_changes h done in
    let among = found_among id (lives k) last found in
    let grown = lives_more facts.lives facts.numbers h done (change.Withdraw id) ∙ ends.ended in
    let entries = ends_entries ends.before ends.after last (next_version h) (next_event h done) on (ne_eqb (next_version h) 0 (λ none. omega (arith, none))) in
    record {
      last = last;
      found = found;
      lives_on = on;
      earlier = All-contains (λ (d : Dated). d.object.id ≡ id → d.added < next_version h) (lives k) last (added_before facts.numbers h done id fresh) among.0 among.1;
      fits = All-contains (λ (d : Dated). object_fits params d.object ≡ true) (lives k) last (lives_fit params k now) among.0;
      lives = grown ∙ sym ends.mark;
      before = entries_of ends.before ++ begun_entry last ∷ [];
      after = entries_of ends.after;
      entries = ap entries_of ends.was ∙ entries.0;
      entries_then = ap entries_of grown ∙ entries.1;
      next = next_entry facts.count facts.room params h done (entry_of last.object true (next_event h done) (next_version h)) range now refl refl;
    }

ending : Facts → (params : Params) (h : History) (done : List Change) (id : ℕ) (last : Dated) → IsInRange params → IsLawful params (with_changes h done)
    → is_live id (changes (with_changes h done)) ≡ true → last_life id (lives (with_changes h done)) ≡ Some last
    → (last.withdrawn ≡ 0) × EndsAt (next_change h done (change.Withdraw id)) id (lives (with_changes h done)) last
ending facts params h done id last range now live found =
    let k : History = with_changes h done in
    let among = found_among id (lives k) last found in
    let still : (last.withdrawn == 0) ≡ true = sym (last_is_live facts.last k id last found) ∙ live in
    let opened : is_open id last ≡ true = and_from (last.object.id == id) (last.withdrawn == 0) (eq-eqb last.object.id id among.1) still in
    let split = split_at (lives k) last among.0.0 among.0.1 among.0.2 in
    let keys : All (HasOtherKey last id) (lives k) = other_keys facts.last k id last found live (lives_low facts.room params h done range now) in (
      eqb-true last.withdrawn 0 still,
      ends_at (next_change h done (change.Withdraw id)) id (lives k) split.before split.after last split.is found opened (facts.one params k id now) keys,
    )

pub withdrawal_goes_on : Facts → (params : Params) (h : History) (done later : List Change) (id : ℕ) → IsInRange params → IsLawful params h
    → IsLawfulBatch params h (done ++ change.Withdraw id ∷ later) → WithdrawalGoesOn params h done id
withdrawal_goes_on facts params h done later id range lawful batch =
    let k : History = with_changes h done in
    let now : IsLawful params k = (fronts_lawful facts.staging facts.lawful params h done (change.Withdraw id ∷ later) lawful batch).1 in
    let may = may_withdraw (changes h) done id (next_accepted facts.staging params h done later (change.Withdraw id) batch) in
    let live : is_live id (changes k) ≡ true = subst (λ (cs : List Change). is_live id cs ≡ true) (sym (changes_with h done)) may.0 in
    let has = has_last facts k id live (last_life id (lives k)) refl in
    let ends = ending facts params h done id has.0 range now live has.1 in
    goes_on_at facts params h done id has.0 range now may.1 has.1 ends.0 ends.1
