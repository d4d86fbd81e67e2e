-- The last life of an id: which one it is, and its number.
use Rattle.std.proofs.Common.{◌≡◌, ℕ, ◌+◌, ◌≤◌, Bool, true, false, ◌==◌, if◌then◌else◌, List, [], ◌∷◌, ◌++◌, reverse, Option, Some, None, refl, sym, ◌∙◌, ap, subst, arith, append_assoc, inl, inr}
use Rattle.std.proofs.lemmas.Bool.{cases_Bool, eq-eqb, eqb-true}
use Rattle.std.proofs.lemmas.List.{append-nil, reverse-append}
use Rattle.std.proofs.lemmas.List.Elements.{All-nil, All-cons, All-head, All-tail, Contains-get_or}
use Rattle.std.proofs.lemmas.List.Folds.{find-append}
use Rattle.std.proofs.lemmas.List.Sums.{sum_by-append, sum_by-cons, sum_by_push}
use Rattle.std.specs.List.{All, Contains, count_by, find}
use Rattle.std.specs.Option.{option_or, option_map_or}
use Rattle.bw_types.specs.History.{History, adds}
use Rattle.bw_types.specs.Lives.{Numbered, numbered, begun_life, life_of, lives, lives_after}
use Rattle.bw_types.specs.declared.change.Change.{Change}
use Rattle.bw_types.specs.declared.change.Change.TheVariants as change
use Rattle.bw_types.specs.declared.dated.Dated.{Dated}
use Rattle.object_table.specs.Laws.{LastsAreGreatest}
use Rattle.object_table.specs.Lives.{last_life}

some_is : (x y : Dated) → Some x ≡ Some y → x ≡ y
some_is x y e = cc

no_some : {y : Dated} → ◌≡◌ {A = Option Dated} None (Some y) → ⊥
no_some e = cc

-- the last life of an id, with one life before the others
abbrev own_life : ℕ → Dated → Option Dated
own_life id d = if d.object.id == id then Some d else None

pub last_cons : (id : ℕ) (d : Dated) (ds : List Dated) → last_life id (d ∷ ds) ≡ option_or (last_life id ds) (own_life id d)
last_cons id d ds =
    ap (find (λ (e : Dated). e.object.id == id)) (reverse-append (d ∷ []) ds) ∙ find-append (λ (e : Dated). e.object.id == id) (reverse ds) (d ∷ [])

own_found : (P : Dated → Type 0) (id : ℕ) (d last : Dated) → own_life id d ≡ Some last → P d → P last × (last.object.id ≡ id)
own_found P id d last found here = elim (cases_Bool (d.object.id == id)) [
  | inl own ↦
      let is : d ≡ last = some_is d last (rw own at found) in
      (subst P is here, subst (λ (e : Dated). e.object.id ≡ id) is (eqb-true d.object.id id own))
  | inr other ↦ absurd (no_some (rw other at found))
]

found_step : (P : Dated → Type 0) (id : ℕ) (d last : Dated) (o : Option Dated) → option_or o (own_life id d) ≡ Some last → P d → (o ≡ Some last → P last × (last.object.id ≡ id)) → P last × (last.object.id ≡ id)
found_step P id d last None found here rest = own_found P id d last found here
found_step P id d last (Some e) found here rest = rest found

-- what is found is one of the lives, and has the id
pub found_in : (P : Dated → Type 0) (id : ℕ) (ds : List Dated) (last : Dated) → last_life id ds ≡ Some last → All P ds → P last × (last.object.id ≡ id)
found_in P id [] last found all = absurd (no_some found)
found_in P id (d ∷ ds) last found all =
    found_step P id d last (last_life id ds) (sym (last_cons id d ds) ∙ found) (All-head P d ds all) (λ later. found_in P id ds last later (All-tail P d ds all))

pub found_among : (id : ℕ) (ds : List Dated) (last : Dated) → last_life id ds ≡ Some last → Contains ds last × (last.object.id ≡ id)
found_among id ds last found = found_in (Contains ds) id ds last found (λ k d lt. Contains-get_or ds k d lt)

abbrev pub one_if : Bool → ℕ
one_if b = if b then 1 else 0

-- the adds of an id among changes
abbrev pub adds_in : ℕ → List Numbered → ℕ
adds_in id ns = count_by (λ (m : Numbered). adds id m.change) ns

adds_push : (id : ℕ) (earlier : List Numbered) (n : Numbered) → adds_in id (earlier ++ n ∷ []) ≡ adds_in id earlier + one_if (adds id n.change)
adds_push id earlier n = sum_by_push (λ (m : Numbered). one_if (adds id m.change)) earlier n

adds_after : (id : ℕ) (earlier : List Numbered) (n : Numbered) (ns : List Numbered) → adds_in id earlier + one_if (adds id n.change) ≤ adds_in id (earlier ++ n ∷ ns)
adds_after id earlier n ns =
    let more = sum_by-append (λ (m : Numbered). one_if (adds id m.change)) earlier (n ∷ ns) in
    let first = sum_by-cons (λ (m : Numbered). one_if (adds id m.change)) n ns in
    omega (arith, more, first)

-- the number of the last life of an id, or this one where it has none
abbrev pub last_number : ℕ → List Dated → ℕ → ℕ
last_number id ds before = option_map_or (λ (d : Dated). d.life) (last_life id ds) before

or_number : (id : ℕ) (d : Dated) (before : ℕ) (o : Option Dated)
    → option_map_or (λ (e : Dated). e.life) (option_or o (own_life id d)) before ≡ option_map_or (λ (e : Dated). e.life) o (if d.object.id == id then d.life else before)
or_number id d before (Some e) = refl
or_number id d before None = elim (d.object.id == id) as (λ b. option_map_or (λ (e : Dated). e.life) (if b then Some d else None) before ≡ (if b then d.life else before)) [ true ↦ refl | false ↦ refl ]

number_cons : (id : ℕ) (d : Dated) (ds : List Dated) (before : ℕ) → last_number id (d ∷ ds) before ≡ last_number id ds (if d.object.id == id then d.life else before)
number_cons id d ds before = ap (λ (o : Option Dated). option_map_or (λ (e : Dated). e.life) o before) (last_cons id d ds) ∙ or_number id d before (last_life id ds)

-- the number after an add
number_begun : (id other : ℕ) (earlier : List Numbered) → (if other == id then 1 + adds_in other earlier else adds_in id earlier) ≡ adds_in id earlier + one_if (other == id)
number_begun id other earlier = elim (cases_Bool (other == id)) [
  | inl same ↦
      let is : adds_in other earlier ≡ adds_in id earlier = ap (λ (k : ℕ). adds_in k earlier) (eqb-true other id same) in
      rw same (omega (arith, is))
  | inr differs ↦ rw differs (omega arith)
]

number_step : (id : ℕ) (earlier : List Numbered) (n : Numbered) (ns : List Numbered) (count : ℕ) (c : Change) → n.change ≡ c
    → last_number id (lives_after (earlier ++ n ∷ []) ns) (adds_in id (earlier ++ n ∷ [])) ≡ count
    → last_number id (begun_life earlier n c ns ++ lives_after (earlier ++ n ∷ []) ns) (adds_in id earlier) ≡ count
number_step id earlier n ns count (change.Add o) is rest =
    let after : List Dated = lives_after (earlier ++ n ∷ []) ns in
    let more : adds_in id (earlier ++ n ∷ []) ≡ adds_in id earlier + one_if (o.id == id) =
    adds_push id earlier n ∙ ap (λ (c : Change). adds_in id earlier + one_if (adds id c)) is in
    number_cons id (life_of earlier n o ns) after (adds_in id earlier)
    ∙ (ap (last_number id after) (number_begun id o.id earlier ∙ sym more) ∙ rest)
number_step id earlier n ns count (change.Withdraw other) is rest =
    let more : adds_in id (earlier ++ n ∷ []) ≡ adds_in id earlier =
    adds_push id earlier n ∙ (ap (λ (c : Change). adds_in id earlier + one_if (adds id c)) is ∙ omega arith) in
    ap (last_number id (lives_after (earlier ++ n ∷ []) ns)) (sym more) ∙ rest

-- the last life of an id has the number of its adds
pub last_counts : (id : ℕ) (earlier ns : List Numbered) → last_number id (lives_after earlier ns) (adds_in id earlier) ≡ adds_in id (earlier ++ ns)
last_counts id earlier [] = ap (adds_in id) (sym (append-nil earlier))
last_counts id earlier (n ∷ ns) =
    number_step id earlier n ns (adds_in id (earlier ++ n ∷ ns)) n.change refl
    (last_counts id (earlier ++ n ∷ []) ns ∙ ap (adds_in id) (append_assoc earlier (n ∷ []) ns))

-- and none of its lives has a greater one
abbrev pub IsBelow : ℕ → ℕ → Dated → Type 0
IsBelow id count d = d.object.id ≡ id → d.life ≤ count

below_step : (id : ℕ) (earlier : List Numbered) (n : Numbered) (ns : List Numbered) (c : Change) → n.change ≡ c
    → All (IsBelow id (adds_in id (earlier ++ n ∷ ns))) (lives_after (earlier ++ n ∷ []) ns)
    → All (IsBelow id (adds_in id (earlier ++ n ∷ ns))) (begun_life earlier n c ns ++ lives_after (earlier ++ n ∷ []) ns)
below_step id earlier n ns (change.Withdraw other) is rest = rest
below_step id earlier n ns (change.Add o) is rest = All-cons (IsBelow id (adds_in id (earlier ++ n ∷ ns))) (life_of earlier n o ns) (lives_after (earlier ++ n ∷ []) ns) own rest
  where
    own : o.id ≡ id → 1 + adds_in o.id earlier ≤ adds_in id (earlier ++ n ∷ ns)
    own same =
        let moved : adds_in o.id earlier ≡ adds_in id earlier = ap (λ (k : ℕ). adds_in k earlier) same in
        let one : one_if (adds id n.change) ≡ 1 = ap (λ (c : Change). one_if (adds id c)) is ∙ ap one_if (eq-eqb o.id id same) in
        omega (arith, moved, one, adds_after id earlier n ns)

pub lives_below : (id : ℕ) (earlier ns : List Numbered) → All (IsBelow id (adds_in id (earlier ++ ns))) (lives_after earlier ns)
lives_below id earlier [] = All-nil (IsBelow id (adds_in id (earlier ++ [])))
lives_below id earlier (n ∷ ns) =
    below_step id earlier n ns n.change refl
    (subst (λ (ms : List Numbered). All (IsBelow id (adds_in id ms)) (lives_after (earlier ++ n ∷ []) ns)) (append_assoc earlier (n ∷ []) ns) (lives_below id (earlier ++ n ∷ []) ns))

pub lasts_are_greatest : (h : History) → LastsAreGreatest (lives h)
lasts_are_greatest h id last found =
    let number : last.life ≡ adds_in id (numbered h) = ap (λ (o : Option Dated). option_map_or (λ (d : Dated). d.life) o 0) (sym found) ∙ last_counts id [] (numbered h) in
    subst (λ (count : ℕ). All (IsBelow id count) (lives h)) (sym number) (lives_below id [] (numbered h))
