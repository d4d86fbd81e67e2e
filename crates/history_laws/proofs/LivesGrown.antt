-- One change more, and a batch more.
use Rattle.std.proofs.Common.{◌≡◌, ◌⊎◌, ℕ, ◌+◌, ◌≤◌, true, false, ◌&&◌, ◌==◌, List, [], ◌∷◌, ◌++◌, Option, Some, None, length, map, refl, sym, ◌∙◌, ap, subst, append_assoc, arith, length-append, inl, inr, suc, if◌then◌else◌, add-zero}
use Rattle.std.proofs.lemmas.Bool.{cases_Bool, ne_eqb, eqb-true, eq-eqb}
use Rattle.std.proofs.lemmas.List.{append-nil, map-append}
use Rattle.std.specs.List.{All}
use Rattle.std.specs.Option.{option_map_or}
use Rattle.bw_types.specs.History.{History, changes, withdraws, last_version}
use Rattle.bw_types.specs.Lives.{Numbered, numbered, numbered_batch, numbered_from, withdrawal_of, life_of, begun_life, lives_after}
use Rattle.bw_types.specs.declared.change.Change.{Change}
use Rattle.bw_types.specs.declared.change.Change.TheVariants as change
use Rattle.bw_types.specs.declared.dated.Dated.{Dated}
use Rattle.bw_types.specs.declared.object.Object.{Object}
use Rattle.history_laws.specs.Growing.{ended_by, lives_in, lives_with}

-- versions begin at 1
abbrev Begun : List Numbered → Type 0
Begun [] = Unit {0}
Begun (n ∷ ns) = (1 ≤ n.version) × Begun ns

begun_from : (ns : List Numbered) → All (λ (m : Numbered). 1 ≤ m.version) ns → Begun ns
begun_from [] all = tt
begun_from (n ∷ ns) all = (all 0 n (omega arith), begun_from ns (λ k d lt. all (suc k) d (omega arith)))

-- the first withdrawal of an id, with one change more
abbrev found_in : ℕ → List Numbered → Option Numbered
found_in id ns = withdrawal_of id ns

still_found : (id : ℕ) (ns : List Numbered) (n : Numbered) (w : Numbered) → found_in id ns ≡ Some w → found_in id (ns ++ n ∷ []) ≡ Some w
still_found id [] n w e = absurd (cc)
still_found id (m ∷ ns) n w e = elim (cases_Bool (withdraws id m.change)) [
  | inl is_it ↦ rw is_it (rw is_it at e)
  | inr is_not ↦ rw is_not (still_found id ns n w (rw is_not at e))
]

last_found : (id : ℕ) (ns : List Numbered) (n : Numbered) → found_in id ns ≡ None → found_in id (ns ++ n ∷ []) ≡ (if withdraws id n.change then Some n else None)
last_found id [] n e = refl
last_found id (m ∷ ns) n e = elim (cases_Bool (withdraws id m.change)) [
  | inl is_it ↦ (let no : Some m ≡ None = rw is_it at e in absurd (cc))
  | inr is_not ↦ rw is_not (last_found id ns n (rw is_not at e))
]

found_begun : (id : ℕ) (ns : List Numbered) (w : Numbered) → Begun ns → found_in id ns ≡ Some w → 1 ≤ w.version
found_begun id [] w b e = absurd (cc)
found_begun id (m ∷ ns) w b e = elim (cases_Bool (withdraws id m.change)) [
  | inl is_it ↦ (let same : Some m ≡ Some w = rw is_it at e in let is : m ≡ w = cc in subst (λ (x : Numbered). 1 ≤ x.version) is b.0)
  | inr is_not ↦ found_begun id ns w b.1 (rw is_not at e)
]

-- a life, with one change more after it
abbrev with_withdrawal : List Numbered → Numbered → Object → Option Numbered → Dated
with_withdrawal earlier n o found = record (life_of earlier n o []) {
  withdrawn = option_map_or (λ (w : Numbered). w.version) found 0;
  withdraw_event = option_map_or (λ (w : Numbered). w.event) found 0;
}

life_more_add : (earlier : List Numbered) (n : Numbered) (o p : Object) (later : List Numbered) (m : Numbered) → m.change ≡ change.Add p → life_of earlier n o (later ++ m ∷ []) ≡ life_of earlier n o later
life_more_add earlier n o p later m is = ap (with_withdrawal earlier n o) (same (found_in o.id later) refl)
  where
    same : (f : Option Numbered) → found_in o.id later ≡ f → found_in o.id (later ++ m ∷ []) ≡ found_in o.id later
    same (Some w) e = still_found o.id later m w e ∙ sym e
    same None e = last_found o.id later m e ∙ (ap (λ (c : Change). if withdraws o.id c then Some m else None) is ∙ sym e)

life_more_end : (earlier : List Numbered) (n : Numbered) (o : Object) (id : ℕ) (later : List Numbered) (m : Numbered) → m.change ≡ change.Withdraw id → Begun later
    → life_of earlier n o (later ++ m ∷ []) ≡ ended_by m id (life_of earlier n o later)
life_more_end earlier n o id later m is begun = by_found (found_in o.id later) refl
  where
    by_found : (f : Option Numbered) → found_in o.id later ≡ f → life_of earlier n o (later ++ m ∷ []) ≡ ended_by m id (life_of earlier n o later)
    by_found (Some w) e =
        let some : (w.version == 0) ≡ false = ne_eqb w.version 0 (λ none. let at = found_begun o.id later w begun e in omega (arith, none, at)) in
        let kept : ended_by m id (with_withdrawal earlier n o (Some w)) ≡ with_withdrawal earlier n o (Some w) =
        elim (o.id == id) as (λ b. (if b && (w.version == 0) then record (with_withdrawal earlier n o (Some w)) { withdrawn = m.version; withdraw_event = m.event } else with_withdrawal earlier n o (Some w)) ≡ with_withdrawal earlier n o (Some w)) [
          | true ↦ rw some refl
          | false ↦ refl
        ] in
        ap (with_withdrawal earlier n o) (still_found o.id later m w e) ∙ (sym kept ∙ ap (λ (x : Option Numbered). ended_by m id (with_withdrawal earlier n o x)) (sym e))
    by_found None e =
        ap (with_withdrawal earlier n o) (last_found o.id later m e ∙ ap (λ (c : Change). if withdraws o.id c then Some m else None) is)
        ∙ (ends (cases_Bool (id == o.id)) ∙ ap (λ (x : Option Numbered). ended_by m id (with_withdrawal earlier n o x)) (sym e))
      where
        ends : ((id == o.id) ≡ true) ⊎ ((id == o.id) ≡ false) → with_withdrawal earlier n o (if id == o.id then Some m else None) ≡ ended_by m id (with_withdrawal earlier n o None)
        ends (inl same) = let back : (o.id == id) ≡ true = eq-eqb o.id id (sym (eqb-true id o.id same)) in rw (same, back) refl
        ends (inr other) = let back : (o.id == id) ≡ false = flipped in rw (other, back) refl
          where
            flipped : (o.id == id) ≡ false
            flipped = ne_eqb o.id id (λ e. let yes_it : (id == o.id) ≡ true = eq-eqb id o.id (sym e) in absurd (let no : true ≡ false = sym yes_it ∙ other in cc))

-- the lives of the changes that follow earlier ones, with one change more
abbrev grown : List Numbered → List Numbered → Numbered → Change → List Dated → List Dated
grown earlier ns m (change.Add o) ds = ds ++ life_of (earlier ++ ns) m o [] ∷ []
grown earlier ns m (change.Withdraw id) ds = map (ended_by m id) ds

grows_add : (earlier ns : List Numbered) (m : Numbered) (o : Object) → m.change ≡ change.Add o → lives_after earlier (ns ++ m ∷ []) ≡ lives_after earlier ns ++ life_of (earlier ++ ns) m o [] ∷ []
grows_add earlier [] m o is =
    append-nil (begun_life earlier m m.change []) ∙ (ap (λ (c : Change). begun_life earlier m c []) is ∙ ap (λ (e : List Numbered). life_of e m o [] ∷ []) (sym (append-nil earlier)))
grows_add earlier (n ∷ ns) m o is =
    let rest : lives_after (earlier ++ n ∷ []) (ns ++ m ∷ []) ≡ lives_after (earlier ++ n ∷ []) ns ++ life_of (earlier ++ n ∷ ns) m o [] ∷ [] =
    grows_add (earlier ++ n ∷ []) ns m o is ∙ ap (λ (e : List Numbered). lives_after (earlier ++ n ∷ []) ns ++ life_of e m o [] ∷ []) (append_assoc earlier (n ∷ []) ns) in
    begun n.change
    ∙ (ap (λ (ds : List Dated). begun_life earlier n n.change ns ++ ds) rest
    ∙ sym (append_assoc (begun_life earlier n n.change ns) (lives_after (earlier ++ n ∷ []) ns) (life_of (earlier ++ n ∷ ns) m o [] ∷ [])))
  where
    begun : (c : Change) → begun_life earlier n c (ns ++ m ∷ []) ++ lives_after (earlier ++ n ∷ []) (ns ++ m ∷ []) ≡ begun_life earlier n c ns ++ lives_after (earlier ++ n ∷ []) (ns ++ m ∷ [])
    begun (change.Add p) = ap (λ (d : Dated). d ∷ lives_after (earlier ++ n ∷ []) (ns ++ m ∷ [])) (life_more_add earlier n p o ns m is)
    begun (change.Withdraw id) = refl

grows_end : (earlier ns : List Numbered) (m : Numbered) (id : ℕ) → m.change ≡ change.Withdraw id → Begun ns → lives_after earlier (ns ++ m ∷ []) ≡ map (ended_by m id) (lives_after earlier ns)
grows_end earlier [] m id is b = append-nil (begun_life earlier m m.change []) ∙ ap (λ (c : Change). begun_life earlier m c []) is
grows_end earlier (n ∷ ns) m id is b =
    begun n.change
    ∙ (ap (λ (ds : List Dated). map (ended_by m id) (begun_life earlier n n.change ns) ++ ds) (grows_end (earlier ++ n ∷ []) ns m id is b.1)
    ∙ sym (map-append (ended_by m id) (begun_life earlier n n.change ns) (lives_after (earlier ++ n ∷ []) ns)))
  where
    begun : (c : Change) → begun_life earlier n c (ns ++ m ∷ []) ++ lives_after (earlier ++ n ∷ []) (ns ++ m ∷ []) ≡ map (ended_by m id) (begun_life earlier n c ns) ++ lives_after (earlier ++ n ∷ []) (ns ++ m ∷ [])
    begun (change.Add p) = ap (λ (d : Dated). d ∷ lives_after (earlier ++ n ∷ []) (ns ++ m ∷ [])) (life_more_end earlier n p id ns m is b.1)
    begun (change.Withdraw other) = refl

pub lives_grow : (earlier : List Numbered) (n : Numbered) → All (λ (m : Numbered). 1 ≤ m.version) earlier → lives_in (earlier ++ n ∷ []) ≡ lives_with earlier n n.change (lives_in earlier)
lives_grow earlier n all = by_change n.change refl
  where
    by_change : (c : Change) → n.change ≡ c → lives_in (earlier ++ n ∷ []) ≡ lives_with earlier n c (lives_in earlier)
    by_change (change.Add o) is = grows_add [] earlier n o is
    by_change (change.Withdraw id) is = grows_end [] earlier n id is (begun_from earlier all)

numbers_from : (w e : ℕ) (h : History) (batch : List Change) → numbered_from w e (h ++ batch ∷ []) ≡ numbered_from w e h ++ numbered_batch (w + length h) (e + length (changes h)) batch
numbers_from w e [] batch =
    append-nil (numbered_batch w e batch) ∙ (ap (λ (v : ℕ). numbered_batch v e batch) (sym (add-zero w)) ∙ ap (λ (k : ℕ). numbered_batch (w + 0) k batch) (sym (add-zero e)))
numbers_from w e (b ∷ bs) batch =
    ap (λ (ns : List Numbered). numbered_batch w e b ++ ns) (numbers_from (w + 1) (e + length b) bs batch)
    ∙ (sym (append_assoc (numbered_batch w e b) (numbered_from (w + 1) (e + length b) bs) (numbered_batch (w + 1 + length bs) (e + length b + length (changes bs)) batch))
    ∙ (ap (λ (v : ℕ). numbered_from w e (b ∷ bs) ++ numbered_batch v (e + length b + length (changes bs)) batch) versions
    ∙ ap (λ (k : ℕ). numbered_from w e (b ∷ bs) ++ numbered_batch (w + length (b ∷ bs)) k batch) events))
  where
    versions : w + 1 + length bs ≡ w + length (b ∷ bs)
    versions = omega arith

    events : e + length b + length (changes bs) ≡ e + length (changes (b ∷ bs))
    events = omega (arith, length-append b (changes bs))

pub numbers_grow : (h : History) (batch : List Change) → numbered (h ++ batch ∷ []) ≡ numbered h ++ numbered_batch (last_version h + 1) (length (changes h)) batch
numbers_grow h batch =
    numbers_from 1 0 h batch ∙ (ap (λ (v : ℕ). numbered h ++ numbered_batch v (0 + length (changes h)) batch) versions ∙ ap (λ (k : ℕ). numbered h ++ numbered_batch (last_version h + 1) k batch) events)
  where
    versions : 1 + length h ≡ last_version h + 1
    versions = omega arith

    events : 0 + length (changes h) ≡ length (changes h)
    events = omega arith
