-- The lives of numbered changes tell what the changes leave live.
use Rattle.std.proofs.Common.{◌≡◌, ◌⊎◌, ℕ, ◌<◌, ◌≤◌, Bool, true, false, ◌&&◌, ◌||◌, ◌==◌, not, nat_le, nat_lt, List, [], ◌∷◌, ◌++◌, map, refl, sym, ◌∙◌, ap, arith, inl, inr, if◌then◌else◌}
use Rattle.std.proofs.lemmas.Bool.{le-leb, lt-leb, lt-ltb, le-ltb, ne_eqb, cases_Bool, cases_lt}
use Rattle.std.proofs.lemmas.List.Elements.{All-cons, All-nil}
use Rattle.std.specs.List.{All, filter, list_any}
use Rattle.std.specs.Option.{option_map_or}
use Rattle.bw_types.specs.History.{History, adds, withdraws, changes, live, live_of}
use Rattle.bw_types.specs.Lives.{Numbered, numbered, withdrawal_of, life_of, begun_life, lives_after, lives}
use Rattle.bw_types.specs.Refusals.{is_live, was_added}
use Rattle.bw_types.specs.declared.change.Change.{Change}
use Rattle.bw_types.specs.declared.change.Change.TheVariants as change
use Rattle.bw_types.specs.declared.dated.Dated.{Dated}
use Rattle.bw_types.specs.declared.object.Object.{Object}
use Rattle.history_laws.specs.Living.{IsInOrder, is_live_at, objects_at}
use Rattle.history_laws.proofs.Rising.{From, Rises, rises, seen, changed, changed_all, changes_up_to, none_seen}

-- the version of the first withdrawal of the id, or 0
abbrev pub ended_in : ℕ → List Numbered → ℕ
ended_in id ns = option_map_or (λ (w : Numbered). w.version) (withdrawal_of id ns) 0

-- the id is withdrawn in the changes up to a version exactly where its first withdrawal is
ended_seen : (id v : ℕ) (ns : List Numbered) → Rises ns → list_any (withdraws id) (changed (seen v ns)) ≡ not (ended_in id ns == 0 || nat_lt v (ended_in id ns))
ended_seen id v [] r = refl
ended_seen id v (n ∷ ns) r = elim (cases_Bool (withdraws id n.change)) [
  | inl is_so ↦
      let some : (n.version == 0) ≡ false = ne_eqb n.version 0 (λ e. omega (arith, r.0)) in
      elim (cases_lt v n.version) [
        | inl lt ↦
            let unseen : seen v (n ∷ ns) ≡ [] = none_seen v n.version (n ∷ ns) lt (omega arith, r.1) in
            let later : nat_lt v n.version ≡ true = lt-ltb v n.version lt in
            rw (unseen, is_so, some, later) refl
        | inr ge ↦
            let at : nat_le n.version v ≡ true = le-leb n.version v ge in
            let by : nat_lt v n.version ≡ false = le-ltb v n.version ge in
            rw (at, is_so, some, by) refl
      ]
  | inr is_not ↦ elim (cases_Bool (nat_le n.version v)) [
    | inl at ↦ rw (at, is_not) (ended_seen id v ns r.2)
    | inr past ↦ rw (past, is_not) (ended_seen id v ns r.2)
  ]
]

-- the same of all changes
ended_at_all : (id : ℕ) (ns : List Numbered) → Rises ns → list_any (withdraws id) (changed ns) ≡ not (ended_in id ns == 0)
ended_at_all id [] r = refl
ended_at_all id (n ∷ ns) r = elim (cases_Bool (withdraws id n.change)) [
  | inl is_so ↦ let some : (n.version == 0) ≡ false = ne_eqb n.version 0 (λ e. omega (arith, r.0)) in rw (is_so, some) refl
  | inr is_not ↦ rw is_not (ended_at_all id ns r.2)
]

-- none of the lives that begin after a version is live at it
none_live : (v w : ℕ) (earlier ns : List Numbered) → v < w → From w ns → objects_at v (lives_after earlier ns) ≡ []
none_live v w earlier [] lt f = refl
none_live v w earlier (n ∷ ns) lt f =
    let later : nat_le n.version v ≡ false = lt-leb n.version v (omega (arith, f.0)) in
    let rest = none_live v w (earlier ++ n ∷ []) ns lt f.1 in
    elim n.change as (λ c. objects_at v (begun_life earlier n c ns ++ lives_after (earlier ++ n ∷ []) ns) ≡ []) [
      | change.Add o ↦ rw later rest
      | change.Withdraw id ↦ rest
    ]

pub live_told : (v : ℕ) (earlier ns : List Numbered) → Rises ns → live_of (changed (seen v ns)) ≡ objects_at v (lives_after earlier ns)
live_told v earlier [] r = refl
live_told v earlier (n ∷ ns) r = elim (cases_lt v n.version) [
  | inl lt ↦
      let unseen : seen v (n ∷ ns) ≡ [] = none_seen v n.version (n ∷ ns) lt (omega arith, r.1) in
      ap (λ (ms : List Numbered). live_of (changed ms)) unseen ∙ sym (none_live v n.version earlier (n ∷ ns) lt (omega arith, r.1))
  | inr ge ↦
      let at : nat_le n.version v ≡ true = le-leb n.version v ge in
      let rest = live_told v (earlier ++ n ∷ []) ns r.2 in
      rw at (elim n.change as (λ c. live_of (c ∷ changed (seen v ns)) ≡ objects_at v (begun_life earlier n c ns ++ lives_after (earlier ++ n ∷ []) ns)) [
        | change.Add o ↦
            rw (at, ended_seen o.id v ns r.2)
            (elim (ended_in o.id ns == 0 || nat_lt v (ended_in o.id ns)) as (λ b. (if not b then live_of (changed (seen v ns)) else o ∷ live_of (changed (seen v ns))) ≡ map (λ (d : Dated). d.object) (if b then life_of earlier n o ns ∷ filter (is_live_at v) (lives_after (earlier ++ n ∷ []) ns) else filter (is_live_at v) (lives_after (earlier ++ n ∷ []) ns))) [
              | true ↦ ap (λ (os : List Object). o ∷ os) rest
              | false ↦ rest
            ])
        | change.Withdraw id ↦ rest
      ])
]

pub tells_live : (h : History) (v : ℕ) → live h v ≡ objects_at v (lives h)
tells_live h v = ap live_of (changes_up_to h v) ∙ live_told v [] (numbered h) (rises h)

-- the lives of an id that are not ended, and those of an id
abbrev pub is_open : ℕ → Dated → Bool
is_open id d = d.object.id == id && d.withdrawn == 0

ids_told : (id : ℕ) (earlier ns : List Numbered) → Rises ns → list_any (λ (o : Object). o.id == id) (live_of (changed ns)) ≡ list_any (is_open id) (lives_after earlier ns)
ids_told id earlier [] r = refl
ids_told id earlier (n ∷ ns) r =
    let rest = ids_told id (earlier ++ n ∷ []) ns r.2 in
    elim n.change as (λ c. list_any (λ (o : Object). o.id == id) (live_of (c ∷ changed ns)) ≡ list_any (is_open id) (begun_life earlier n c ns ++ lives_after (earlier ++ n ∷ []) ns)) [
      | change.Add o ↦
          rw (ended_at_all o.id ns r.2)
          (elim (ended_in o.id ns == 0) as (λ b. list_any (λ (p : Object). p.id == id) (if not b then live_of (changed ns) else o ∷ live_of (changed ns)) ≡ ((o.id == id && b) || list_any (is_open id) (lives_after (earlier ++ n ∷ []) ns))) [
            | true ↦ elim (o.id == id) as (λ t. (t || list_any (λ (p : Object). p.id == id) (live_of (changed ns))) ≡ ((t && true) || list_any (is_open id) (lives_after (earlier ++ n ∷ []) ns))) [
              | true ↦ refl
              | false ↦ rest
            ]
            | false ↦ elim (o.id == id) as (λ t. list_any (λ (p : Object). p.id == id) (live_of (changed ns)) ≡ ((t && false) || list_any (is_open id) (lives_after (earlier ++ n ∷ []) ns))) [
              | true ↦ rest
              | false ↦ rest
            ]
          ])
      | change.Withdraw other ↦ rest
    ]

pub tells_ids : (h : History) (id : ℕ) → is_live id (changes h) ≡ list_any (is_open id) (lives h)
tells_ids h id = ap (λ (cs : List Change). list_any (λ (o : Object). o.id == id) (live_of cs)) (sym (changed_all h)) ∙ ids_told id [] (numbered h) (rises h)

added_told : (id : ℕ) (earlier ns : List Numbered) → list_any (adds id) (changed ns) ≡ list_any (λ (d : Dated). d.object.id == id) (lives_after earlier ns)
added_told id earlier [] = refl
added_told id earlier (n ∷ ns) =
    let rest = added_told id (earlier ++ n ∷ []) ns in
    elim n.change as (λ c. list_any (adds id) (c ∷ changed ns) ≡ list_any (λ (d : Dated). d.object.id == id) (begun_life earlier n c ns ++ lives_after (earlier ++ n ∷ []) ns)) [
      | change.Add o ↦ ap (λ b. o.id == id || b) rest
      | change.Withdraw other ↦ rest
    ]

pub tells_added : (h : History) (id : ℕ) → was_added id (changes h) ≡ list_any (λ (d : Dated). d.object.id == id) (lives h)
tells_added h id = ap (list_any (adds id)) (sym (changed_all h)) ∙ added_told id [] (numbered h)

-- where something is withdrawn, that was no earlier than the versions before
ended_from : (id w : ℕ) (ns : List Numbered) → From w ns → (ended_in id ns ≡ 0) ⊎ (w ≤ ended_in id ns)
ended_from id w [] f = inl refl
ended_from id w (n ∷ ns) f = elim (cases_Bool (withdraws id n.change)) [
  | inl is_so ↦ let at : ended_in id (n ∷ ns) ≡ n.version = rw is_so refl in inr (omega (arith, at, f.0))
  | inr is_not ↦ let at : ended_in id (n ∷ ns) ≡ ended_in id ns = rw is_not refl in
      elim (ended_from id w ns f.1) [ inl none ↦ inl (at ∙ none) | inr later ↦ inr (omega (arith, at, later)) ]
]

in_order_after : (earlier ns : List Numbered) → Rises ns → All IsInOrder (lives_after earlier ns)
in_order_after earlier [] r = All-nil IsInOrder
in_order_after earlier (n ∷ ns) r =
    let rest = in_order_after (earlier ++ n ∷ []) ns r.2 in
    elim n.change as (λ c. All IsInOrder (begun_life earlier n c ns ++ lives_after (earlier ++ n ∷ []) ns)) [
      | change.Add o ↦ All-cons IsInOrder (life_of earlier n o ns) (lives_after (earlier ++ n ∷ []) ns) (record { begun = r.0; ended = ended_from o.id n.version ns r.1 }) rest
      | change.Withdraw id ↦ rest
    ]

pub in_order : (h : History) → All IsInOrder (lives h)
in_order h = in_order_after [] (numbered h) (rises h)
