-- One open life of an id at most, change by change.
use Rattle.std.proofs.Common.{◌≡◌, ℕ, ◌+◌, ◌≤◌, Bool, true, false, ◌&&◌, ◌==◌, not, List, [], ◌∷◌, ◌++◌, Option, Some, None, is_none, length, map, refl, sym, ◌∙◌, ap, subst, arith, append_assoc, length-append, inl, inr, if◌then◌else◌}
use Rattle.std.proofs.lemmas.Bool.{cases_Bool, and_parts, or_parts, or_cases, ne_eqb, eqb-true, not-false}
use Rattle.std.proofs.lemmas.List.{append-nil}
use Rattle.std.proofs.lemmas.List.Concat.{flat_map-append}
use Rattle.std.proofs.lemmas.List.Elements.{All-nil, All-cons}
use Rattle.std.proofs.lemmas.List.Sums.{sum_by-append, sum_by-cons}
use Rattle.std.specs.List.{All, count_by, list_any}
use Rattle.bw_types.specs.History.{History, changes, last_version}
use Rattle.bw_types.specs.Lawful.{AreLawfulAfter, IsLawful, staged_rows}
use Rattle.bw_types.specs.Lives.{Numbered, numbered, numbered_batch, life_of, lives}
use Rattle.bw_types.specs.Refusals.{first_refusal, is_live, mass_refusal, was_added}
use Rattle.bw_types.specs.declared.change.Change.{Change}
use Rattle.bw_types.specs.declared.change.Change.TheVariants as change
use Rattle.bw_types.specs.declared.dated.Dated.{Dated}
use Rattle.bw_types.specs.declared.params.Params.{Params}
use Rattle.bw_types.specs.declared.refusal.Reason.TheVariants.{Used, Fresh, Unknown, Gone}
use Rattle.history_laws.specs.Alone.{has_ended, is_open}
use Rattle.history_laws.specs.Growing.{ended_by, lives_in, lives_with}
use Rattle.history_laws.proofs.LivesGrown.{lives_grow, numbers_grow}
use Rattle.history_laws.proofs.LivesTold.{tells_ids}
use Rattle.history_laws.proofs.Rising.{Rises, rises}
use Rattle.history_laws.proofs.Staging.{GoAll, goes, all_go, flat_staged, no_refusal, none_if}

-- counts over lists
abbrev one_if : Bool → ℕ
one_if b = if b then 1 else 0

count_cons : (p : Dated → Bool) (d : Dated) (ds : List Dated) → count_by p (d ∷ ds) ≡ one_if (p d) + count_by p ds
count_cons p d ds = sum_by-cons (λ (x : Dated). if p x then 1 else 0) d ds

count_push : (p : Dated → Bool) (ds : List Dated) (d : Dated) → count_by p (ds ++ d ∷ []) ≡ count_by p ds + one_if (p d)
count_push p ds d =
    let more = sum_by-append (λ (x : Dated). if p x then 1 else 0) ds (d ∷ []) in
    let one = count_cons p d [] in
    omega (arith, more, one)

none_counted : (p : Dated → Bool) (ds : List Dated) → list_any p ds ≡ false → count_by p ds ≡ 0
none_counted p [] e = refl
none_counted p (d ∷ ds) e =
    let parts = or_parts (p d) (list_any p ds) e in
    let rest = none_counted p ds parts.1 in
    let first : one_if (p d) ≡ 0 = ap one_if parts.0 in
    omega (arith, count_cons p d ds, rest, first)

some_counted : (p : Dated → Bool) (ds : List Dated) → list_any p ds ≡ true → 1 ≤ count_by p ds
some_counted p [] e = absurd (cc)
some_counted p (d ∷ ds) e = elim (or_cases (p d) (list_any p ds) e) [
  | inl here ↦ (let first : one_if (p d) ≡ 1 = ap one_if here in omega (arith, count_cons p d ds, first))
  | inr later ↦ omega (arith, count_cons p d ds, some_counted p ds later)
]

-- a withdrawal ends the open lives of its id
one_ended : (n : Numbered) (id : ℕ) (d : Dated) → 1 ≤ n.version → ((k : ℕ) → one_if (is_open k (ended_by n id d)) ≤ one_if (is_open k d)) × (one_if (has_ended (ended_by n id d)) ≡ one_if (has_ended d) + one_if (is_open id d))
one_ended n id d begun = elim (cases_Bool (is_open id d)) [
  | inl opened ↦
      let over : (n.version == 0) ≡ false = ne_eqb n.version 0 (λ e. omega (arith, begun)) in
      let still : (d.withdrawn == 0) ≡ true = (and_parts (d.object.id == id) (d.withdrawn == 0) opened).1 in
      let ends : ended_by n id d ≡ record d { withdrawn = n.version; withdraw_event = n.event } = rw opened refl in (
        λ k. subst (λ (e : Dated). one_if (is_open k e) ≤ one_if (is_open k d)) (sym ends) (closed k over),
        subst (λ (e : Dated). one_if (has_ended e) ≡ one_if (has_ended d) + one_if (is_open id d)) (sym ends)
            (let now : one_if (has_ended (record d { withdrawn = n.version; withdraw_event = n.event })) ≡ 1 = rw over refl in
            let was : one_if (has_ended d) ≡ 0 = rw still refl in
            let one : one_if (is_open id d) ≡ 1 = ap one_if opened in
            omega (arith, now, was, one)),
      )
  | inr other ↦
      let same : ended_by n id d ≡ d = rw other refl in (
        λ k. subst (λ (e : Dated). one_if (is_open k e) ≤ one_if (is_open k d)) (sym same) (omega arith),
        subst (λ (e : Dated). one_if (has_ended e) ≡ one_if (has_ended d) + one_if (is_open id d)) (sym same) (let none : one_if (is_open id d) ≡ 0 = ap one_if other in omega (arith, none)),
      )
]
  where
    closed : (k : ℕ) → (n.version == 0) ≡ false → one_if (is_open k (record d { withdrawn = n.version; withdraw_event = n.event })) ≤ one_if (is_open k d)
    closed k over =
        let none : one_if (is_open k (record d { withdrawn = n.version; withdraw_event = n.event })) ≡ 0 =
        rw over (elim (d.object.id == k) as (λ t. one_if (t && false) ≡ 0) [ true ↦ refl | false ↦ refl ]) in
        omega (arith, none)

all_ended : (n : Numbered) (id : ℕ) (ds : List Dated) → 1 ≤ n.version → ((k : ℕ) → count_by (is_open k) (map (ended_by n id) ds) ≤ count_by (is_open k) ds)
    × (count_by has_ended (map (ended_by n id) ds) ≡ count_by has_ended ds + count_by (is_open id) ds) × (length (map (ended_by n id) ds) ≡ length ds)
all_ended n id [] begun = (λ k. omega arith, refl, refl)
all_ended n id (d ∷ ds) begun =
    let rest = all_ended n id ds begun in
    let one = one_ended n id d begun in (
      λ k. omega (arith, count_cons (is_open k) d ds, count_cons (is_open k) (ended_by n id d) (map (ended_by n id) ds), rest.0 k, one.0 k),
      omega (arith, count_cons has_ended d ds, count_cons has_ended (ended_by n id d) (map (ended_by n id) ds), count_cons (is_open id) d ds, rest.1, one.1),
      omega (arith, rest.2),
    )

-- what is kept from change to change
abbrev Alone : List Dated → ℕ → Type 0
Alone ds count = ((id : ℕ) → count_by (is_open id) ds ≤ 1) × (length ds + count_by has_ended ds ≡ count)

-- the id of a change, and whether it is to be live before it
abbrev Follows_live : Change → ℕ → Bool → Type 0
Follows_live (change.Add o) id b = (id ≡ o.id) × (b ≡ false)
Follows_live (change.Withdraw other) id b = (id ≡ other) × (b ≡ true)

abbrev Follows : List Change → Change → Type 0
Follows cs (change.Add o) = is_live o.id cs ≡ false
Follows cs (change.Withdraw id) = is_live id cs ≡ true

life_step : (earlier : List Numbered) (n : Numbered) (c : Change) (ds : List Dated) (count : ℕ) → 1 ≤ n.version
    → ((id : ℕ) (b : Bool) → Follows_live c id b → list_any (is_open id) ds ≡ b) → Alone ds count → Alone (lives_with earlier n c ds) (count + 1)
life_step earlier n (change.Add o) ds count begun tells alone =
    let none : count_by (is_open o.id) ds ≡ 0 = none_counted (is_open o.id) ds (tells o.id false (refl, refl)) in
    let new : Dated = life_of earlier n o [] in (
      λ k. elim (cases_Bool (o.id == k)) [
        | inl same ↦
            (let is : o.id ≡ k = eqb-true o.id k same in
            let zero_here : count_by (is_open k) ds ≡ 0 = subst (λ (j : ℕ). count_by (is_open j) ds ≡ 0) is none in
            let one : one_if (is_open k new) ≤ 1 = at_most_one (is_open k new) in
            omega (arith, count_push (is_open k) ds new, zero_here, one))
        | inr other ↦
            (let one : one_if (is_open k new) ≡ 0 = rw other refl in
            omega (arith, count_push (is_open k) ds new, alone.0 k, one))
      ],
      (let ended : one_if (has_ended new) ≡ 0 = refl in omega (arith, count_push has_ended ds new, length-append ds (new ∷ []), alone.1, ended)),
    )
  where
    at_most_one : (b : Bool) → one_if b ≤ 1
    at_most_one true = omega arith
    at_most_one false = omega arith
life_step earlier n (change.Withdraw id) ds count begun tells alone =
    let some = some_counted (is_open id) ds (tells id true (refl, refl)) in
    let step = all_ended n id ds begun in (
      λ k. omega (arith, step.0 k, alone.0 k),
      omega (arith, step.1, step.2, alone.1, alone.0 id, some),
    )

-- a history with a part of a batch, and one change more
numbered_more : (w e : ℕ) (part : List Change) (c : Change) → numbered_batch w e (part ++ c ∷ []) ≡ numbered_batch w e part ++ record { version = w; event = e + length part; change = c } ∷ []
numbered_more w e [] c = ap (λ (k : ℕ). record { version = w; event = k; change = c } ∷ []) (omega arith)
numbered_more w e (d ∷ part) c =
    ap (λ (ns : List Numbered). record { version = w; event = e; change = d } ∷ ns)
    (numbered_more w (e + 1) part c ∙ ap (λ (k : ℕ). numbered_batch w (e + 1) part ++ record { version = w; event = k; change = c } ∷ []) (omega arith))

begun_all : (ns : List Numbered) → Rises ns → All (λ (m : Numbered). 1 ≤ m.version) ns
begun_all [] r = All-nil (λ (m : Numbered). 1 ≤ m.version)
begun_all (n ∷ ns) r = All-cons (λ (m : Numbered). 1 ≤ m.version) n ns r.0 (begun_all ns r.2)

changes_with : (h : History) (part : List Change) → changes (h ++ part ∷ []) ≡ changes h ++ part
changes_with h part = flat_map-append (λ b. b) h (part ∷ []) ∙ ap (λ xs. changes h ++ xs) (append-nil part)

AloneIn : History → Type 0
AloneIn h = Alone (lives h) (length (changes h))

follows_tells : (k : History) (c : Change) → Follows (changes k) c → (id : ℕ) (b : Bool) → Follows_live c id b → list_any (is_open id) (lives k) ≡ b
follows_tells k (change.Add o) f id b is = sym (tells_ids k id) ∙ (ap (λ (j : ℕ). is_live j (changes k)) is.0 ∙ (f ∙ sym is.1))
follows_tells k (change.Withdraw other) f id b is = sym (tells_ids k id) ∙ (ap (λ (j : ℕ). is_live j (changes k)) is.0 ∙ (f ∙ sym is.1))

change_step : (h : History) (part : List Change) (c : Change) → Follows (changes h ++ part) c → AloneIn (h ++ part ∷ []) → AloneIn (h ++ (part ++ c ∷ []) ∷ [])
unfolding AloneIn
change_step h part c f alone =
    let k : History = h ++ part ∷ [] in
    let n : Numbered = record { version = last_version h + 1; event = length (changes h) + length part; change = c } in
    let ns : numbered (h ++ (part ++ c ∷ []) ∷ []) ≡ numbered k ++ n ∷ [] =
    numbers_grow h (part ++ c ∷ []) ∙ (ap (λ (ms : List Numbered). numbered h ++ ms) (numbered_more (last_version h + 1) (length (changes h)) part c)
    ∙ (sym (append_assoc (numbered h) (numbered_batch (last_version h + 1) (length (changes h)) part) (n ∷ [])) ∙ ap (λ (ms : List Numbered). ms ++ n ∷ []) (sym (numbers_grow h part)))) in
    let is : lives (h ++ (part ++ c ∷ []) ∷ []) ≡ lives_with (numbered k) n c (lives k) =
    ap lives_in ns ∙ lives_grow (numbered k) n (begun_all (numbered k) (rises k)) in
    let counted : length (changes k) + 1 ≡ length (changes (h ++ (part ++ c ∷ []) ∷ [])) =
    omega (arith, ap length (changes_with h part), ap length (changes_with h (part ++ c ∷ [])), length-append (changes h) part, length-append (changes h) (part ++ c ∷ []), length-append part (c ∷ [])) in
    let before : Follows (changes k) c = subst (λ (cs : List Change). Follows cs c) (sym (changes_with h part)) f in
    let after = life_step (numbered k) n c (lives k) (length (changes k)) (omega arith) (follows_tells k c before) alone in
    subst (λ (ds : List Dated). Alone ds (length (changes (h ++ (part ++ c ∷ []) ∷ [])))) (sym is)
    (subst (λ (m : ℕ). Alone (lives_with (numbered k) n c (lives k)) m) counted after)

-- no reason against a change: it follows
follows : (params : Params) (past batch : List Change) (c : Change) → goes params past batch c → Follows (past ++ batch) c
follows params past batch (change.Add o) g = (none_if (is_live o.id (past ++ batch)) Used (mass_refusal params (past ++ batch) o) g).0
follows params past batch (change.Withdraw id) g =
    let fresh = none_if (is_live id (past ++ batch) && was_added id batch) Fresh _ g in
    let unknown = none_if (not (was_added id (past ++ batch))) Unknown _ fresh.1 in
    let gone = none_if (not (is_live id (past ++ batch))) Gone None unknown.1 in
    not-false _ gone.0

over_batch : (params : Params) (h : History) (part cs : List Change) → GoAll params (changes h) part cs → AloneIn (h ++ part ∷ []) → AloneIn (h ++ (part ++ cs) ∷ [])
over_batch params h part [] g alone = subst (λ (b : List Change). AloneIn (h ++ b ∷ [])) (sym (append-nil part)) alone
over_batch params h part (c ∷ cs) g alone =
    subst (λ (b : List Change). AloneIn (h ++ b ∷ [])) (append_assoc part (c ∷ []) cs)
    (over_batch params h (part ++ c ∷ []) cs g.1 (change_step h part c (follows params (changes h) part c g.0) alone))

begin_batch : (h : History) → AloneIn h → AloneIn (h ++ [] ∷ [])
unfolding AloneIn
begin_batch h alone =
    let ns : numbered (h ++ [] ∷ []) ≡ numbered h = numbers_grow h [] ∙ append-nil (numbered h) in
    let cs : changes (h ++ [] ∷ []) ≡ changes h = changes_with h [] ∙ append-nil (changes h) in
    subst (λ (ds : List Dated). Alone ds (length (changes (h ++ [] ∷ [])))) (sym (ap lives_in ns))
    (subst (λ (m : ℕ). Alone (lives h) m) (sym (ap length cs)) alone)

none_is : {X : Type 0} (o : Option X) → is_none o ≡ true → o ≡ None
none_is None e = refl
none_is (Some x) e = absurd (let none : false ≡ true = e in cc)

over_history : (params : Params) (before h : History) → AreLawfulAfter params before h → AloneIn before → AloneIn (before ++ h)
over_history params before [] l alone = subst AloneIn (sym (append-nil before)) alone
over_history params before (b ∷ bs) l alone =
    let none = no_refusal params before (staged_rows b) (none_is (first_refusal params before (staged_rows b)) l.0.accepted) in
    let go : GoAll params (changes before) [] b = subst (λ (cs : List Change). GoAll params (changes before) [] cs) (flat_staged b) (all_go params (changes before) [] 1 (staged_rows b) none.1) in
    subst AloneIn (append_assoc before (b ∷ []) bs) (over_history params (before ++ b ∷ []) bs l.1 (over_batch params before [] b go (begin_batch before alone)))

alone_in : (params : Params) (h : History) → IsLawful params h → AloneIn h
unfolding AloneIn
alone_in params h l = over_history params [] h l (λ id. omega arith, refl)

pub one_open : (params : Params) (h : History) (id : ℕ) → IsLawful params h → count_by (is_open id) (lives h) ≤ 1
unfolding AloneIn
one_open params h id l = (alone_in params h l).0 id

pub count_changes : (params : Params) (h : History) → IsLawful params h → length (lives h) + count_by has_ended (lives h) ≡ length (changes h)
unfolding AloneIn
count_changes params h l = (alone_in params h l).1
