-- The lives name each change.
use Rattle.std.proofs.Common.{◌≡◌, ℕ, ◌+◌, true, false, ◌==◌, not, List, [], ◌∷◌, ◌++◌, Option, Some, length, refl, sym, ◌∙◌, ap, subst, append_assoc, length-append, arith, inl, inr, if◌then◌else◌, IsPermutation}
use Rattle.std.proofs.lemmas.Bool.{cases_Bool, ne_eqb, eq-eqb, eqb-true, or_parts, or_cases}
use Rattle.std.proofs.lemmas.List.{map-append}
use Rattle.std.proofs.lemmas.List.Concat.{flat_map-append, length-flat_map}
use Rattle.std.proofs.lemmas.List.Sorted.{sum_by-IsPermutation}
use Rattle.std.proofs.lemmas.List.Sums.{sum_by-cons}
use Rattle.std.specs.List.{count_by, flat_map, list_any}
use Rattle.std.specs.Option.{option_map_or}
use Rattle.bw_types.specs.History.{live_of, withdraws}
use Rattle.bw_types.specs.Lives.{Numbered, begun_life, life_of, lives_after, withdrawal_of}
use Rattle.bw_types.specs.declared.change.Change.{Change}
use Rattle.bw_types.specs.declared.change.Change.TheVariants as change
use Rattle.bw_types.specs.declared.dated.Dated.{Dated}
use Rattle.bw_types.specs.declared.object.Object.{Object}
use Rattle.history_laws.specs.Alone.{has_ended}
use Rattle.history_laws.specs.Told.{add_in, end_in, named_by}
use Rattle.history_laws.proofs.Batches.{Without, changed}
use Rattle.history_laws.proofs.EndsLive.{EndLive, EndsOneLive}
use Rattle.history_laws.proofs.Members.{Among, among_left, among_right}

-- all changes that the lives name
abbrev pub all_named : List Dated → List Numbered
all_named ds = flat_map named_by ds

-- they are as many as lives and ends of lives
one_length : (d : Dated) → length (named_by d) ≡ 1 + (if has_ended d then 1 else 0)
one_length d = elim (d.withdrawn == 0) as (λ b. length (add_in d ∷ (if b then [] else end_in d ∷ [])) ≡ 1 + (if not b then 1 else 0)) [ true ↦ refl | false ↦ refl ]

pub all_length : (ds : List Dated) → length (all_named ds) ≡ length ds + count_by has_ended ds
all_length [] = refl
all_length (d ∷ ds) =
    let counted = sum_by-cons (λ (x : Dated). if has_ended x then 1 else 0) d ds in
    omega (arith, length-append (named_by d) (all_named ds), one_length d, counted, all_length ds)

pub same_length : (ds es : List Dated) → IsPermutation ds es → length (all_named ds) ≡ length (all_named es)
same_length ds es p =
    length-flat_map named_by ds ∙ (sym (sum_by-IsPermutation (λ (d : Dated). length (named_by d)) ds es p) ∙ sym (length-flat_map named_by es))

-- a change with its own parts
with_own : (n : Numbered) (c : Change) → n.change ≡ c → record { version = n.version; event = n.event; change = c } ≡ n
with_own n c is = ap (λ (d : Change). record { version = n.version; event = n.event; change = d }) (sym is)

-- an add is named by the life that it begins
add_named : (earlier before : List Numbered) (n : Numbered) (later : List Numbered) (o : Object) → n.change ≡ change.Add o → Among n (all_named (lives_after earlier (before ++ n ∷ later)))
add_named earlier [] n later o is =
    subst (λ (c : Change). Among n (all_named (begun_life earlier n c later ++ lives_after (earlier ++ n ∷ []) later))) (sym is) (inl (with_own n (change.Add o) is))
add_named earlier (m ∷ before) n later o is =
    let begun : List Dated = begun_life earlier m m.change (before ++ n ∷ later) in
    let rest : List Dated = lives_after (earlier ++ m ∷ []) (before ++ n ∷ later) in
    subst (λ (ns : List Numbered). Among n ns) (sym (flat_map-append named_by begun rest))
    (among_right (all_named begun) (all_named rest) n (add_named (earlier ++ m ∷ []) before n later o is))

-- the first withdrawal of an id
first_end : (id : ℕ) (before : List Numbered) (n : Numbered) (later : List Numbered) → list_any (withdraws id) (changed before) ≡ false → withdraws id n.change ≡ true
    → withdrawal_of id (before ++ n ∷ later) ≡ Some n
first_end id [] n later none is_so = rw is_so refl
first_end id (m ∷ before) n later none is_so =
    let parts = or_parts (withdraws id m.change) (list_any (withdraws id) (changed before)) none in
    rw parts.0 (first_end id before n later parts.1 is_so)

-- is named by the life that it ends
end_named : (earlier : List Numbered) (m : Numbered) (o : Object) (later : List Numbered) (n : Numbered) → withdrawal_of o.id later ≡ Some n → (n.version ≡ 0 → ⊥) → n.change ≡ change.Withdraw o.id
    → Among n (named_by (life_of earlier m o later))
end_named earlier m o later n found some is =
    let over : (n.version == 0) ≡ false = ne_eqb n.version 0 some in
    subst (λ (f : Option Numbered). Among n (named_by (record (life_of earlier m o []) {
      withdrawn = option_map_or (λ (w : Numbered). w.version) f 0;
      withdraw_event = option_map_or (λ (w : Numbered). w.event) f 0;
    }))) (sym found) (rw over (inr (inl (with_own n (change.Withdraw o.id) is))))

-- so a withdrawal of an id that is live before it is named
live_named : (earlier before : List Numbered) (n : Numbered) (later : List Numbered) (id : ℕ) → (n.version ≡ 0 → ⊥) → n.change ≡ change.Withdraw id
    → list_any (λ (o : Object). o.id == id) (live_of (changed before)) ≡ true → Among n (all_named (lives_after earlier (before ++ n ∷ later)))
live_named earlier [] n later id some is l = absurd (let no : false ≡ true = l in cc)
live_named earlier (m ∷ before) n later id some is l =
    let after : List Numbered = before ++ n ∷ later in
    let rest : List Dated = lives_after (earlier ++ m ∷ []) after in
    let named = live_named (earlier ++ m ∷ []) before n later id some is in
    elim m.change as (λ c. list_any (λ (o : Object). o.id == id) (live_of (c ∷ changed before)) ≡ true → Among n (all_named (begun_life earlier m c after ++ rest))) [
      | change.Add o ↦ elim (cases_Bool (list_any (withdraws o.id) (changed before))) [
        | inl over ↦ rw over (λ k. among_right (named_by (life_of earlier m o after)) (all_named rest) n (named k))
        | inr still ↦ rw still (λ k. elim (or_cases (o.id == id) _ k) [
          | inl own ↦
              let same : o.id ≡ id = eqb-true o.id id own in
              let ends : n.change ≡ change.Withdraw o.id = is ∙ ap (λ (i : ℕ). change.Withdraw i) (sym same) in
              let found = first_end o.id before n later still (ap (withdraws o.id) ends ∙ eq-eqb o.id o.id refl) in
              among_left (named_by (life_of earlier m o after)) (all_named rest) n (end_named earlier m o after n found some ends)
          | inr other ↦ among_right (named_by (life_of earlier m o after)) (all_named rest) n (named other)
        ])
      ]
      | change.Withdraw other ↦ named
    ] l

-- all changes are named, if each withdrawal is of an id that is live before it
each_after : (before ns : List Numbered) → Without 0 ns → EndLive (changed before) (changed ns) → (x : Numbered) → Among x ns → Among x (all_named (lives_after [] (before ++ ns)))
each_after before [] some ends x a = absurd a
each_after before (n ∷ ns) some ends x (inl same) = subst (λ (m : Numbered). Among m (all_named (lives_after [] (before ++ n ∷ ns)))) same (by_change n.change refl)
  where
    by_change : (c : Change) → n.change ≡ c → Among n (all_named (lives_after [] (before ++ n ∷ ns)))
    by_change (change.Add o) is = add_named [] before n ns o is
    by_change (change.Withdraw id) is = live_named [] before n ns id some.0 is (subst (λ (c : Change). EndsOneLive (changed before) c) is ends.0)
each_after before (n ∷ ns) some ends x (inr a) =
    let moved : EndLive (changed (before ++ n ∷ [])) (changed ns) =
    subst (λ (es : List Change). EndLive es (changed ns)) (sym (map-append (λ (m : Numbered). m.change) before (n ∷ []))) ends.1 in
    subst (λ (ms : List Numbered). Among x (all_named (lives_after [] ms))) (append_assoc before (n ∷ []) ns) (each_after (before ++ n ∷ []) ns some.1 moved x a)

pub each_named : (ns : List Numbered) → Without 0 ns → EndLive [] (changed ns) → (x : Numbered) → Among x ns → Among x (all_named (lives_after [] ns))
each_named ns some ends = each_after [] ns some ends
