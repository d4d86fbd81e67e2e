-- The last life of an id tells whether the id is live.
use Rattle.std.proofs.Common.{◌≡◌, ◌⊎◌, ℕ, ◌+◌, ◌<◌, ◌≤◌, Bool, true, false, ◌||◌, ◌==◌, List, [], ◌∷◌, ◌++◌, length, refl, sym, ◌∙◌, ap, subst, arith, inl, inr, zero, suc, get_or}
use Rattle.std.proofs.lemmas.Bool.{and_parts, and_from, or_from, eq-eqb, eqb-true, cases_Bool, cases_eq, false_from_ne_true}
use Rattle.std.proofs.lemmas.List.Sums.{sum_by-append}
use Rattle.std.specs.List.{list_any, Contains, count_by}
use Rattle.bw_types.specs.History.{History, adds, withdraws, changes}
use Rattle.bw_types.specs.Lives.{Numbered, numbered, begun_life, lives_after, lives}
use Rattle.bw_types.specs.Refusals.{is_live}
use Rattle.bw_types.specs.declared.change.Change.TheVariants as change
use Rattle.bw_types.specs.declared.dated.Dated.{Dated}
use Rattle.history_laws.proofs.Rising.{Rises, rises}
use Rattle.history_laws.proofs.LivesTold.{ended_in, is_open, tells_ids}

-- d is one of the list
Among : {X : Type 0} → X → List X → Type 0
Among d [] = ⊥
Among d (x ∷ xs) = (x ≡ d) ⊎ Among d xs

among_at : {X : Type 0} (xs : List X) (d : X) (k : ℕ) → k < length xs → get_or xs k d ≡ d → Among d xs
unfolding Among
among_at [] d k lt e = absurd (omega arith)
among_at (x ∷ xs) d zero lt e = inl e
among_at (x ∷ xs) d (suc k) lt e = inr (among_at xs d k (omega arith) e)

contains_at : {X : Type 0} (xs : List X) (d : X) → Among d xs → Contains xs d
unfolding Among
contains_at [] d a = absurd a
contains_at (x ∷ xs) d a = elim a [
  | inl e ↦ (0, omega arith, e)
  | inr rest ↦ let c = contains_at xs d rest in (suc c.0, omega (arith, c.1), c.2)
]

any_of : {X : Type 0} (p : X → Bool) (xs : List X) (d : X) → Among d xs → p d ≡ true → list_any p xs ≡ true
unfolding Among
any_of p [] d a e = absurd a
any_of p (x ∷ xs) d a e = elim a [
  | inl same ↦ let is_so : p x ≡ true = ap p same ∙ e in rw is_so refl
  | inr rest ↦ elim (p x) as (λ b. (b || list_any p xs) ≡ true) [ true ↦ refl | false ↦ any_of p xs d rest e ]
]

none_of : {X : Type 0} (p : X → Bool) (xs : List X) → ((d : X) → Among d xs → p d ≡ false) → list_any p xs ≡ false
unfolding Among
none_of p [] h = refl
none_of p (x ∷ xs) h = or_from (p x) (list_any p xs) (h x (inl refl)) (none_of p xs (λ d a. h d (inr a)))

count_push : (id : ℕ) (earlier : List Numbered) (n : Numbered) → count_by (λ (m : Numbered). adds id m.change) earlier ≤ count_by (λ (m : Numbered). adds id m.change) (earlier ++ n ∷ [])
count_push id earlier n = let more = sum_by-append (λ (m : Numbered). mathlib.Core.Bool.cond (adds id m.change) 1 0) earlier (n ∷ []) in omega (arith, more)

count_add : (id : ℕ) (earlier : List Numbered) (n : Numbered) → adds id n.change ≡ true → count_by (λ (m : Numbered). adds id m.change) (earlier ++ n ∷ []) ≡ count_by (λ (m : Numbered). adds id m.change) earlier + 1
count_add id earlier n is_so =
    let more = sum_by-append (λ (m : Numbered). mathlib.Core.Bool.cond (adds id m.change) 1 0) earlier (n ∷ []) in
    more ∙ rw is_so refl

numbers_rise : (earlier ns : List Numbered) (d : Dated) → Among d (lives_after earlier ns) → 1 + count_by (λ (m : Numbered). adds d.object.id m.change) earlier ≤ d.life
unfolding Among
numbers_rise earlier [] d a = absurd a
numbers_rise earlier (n ∷ ns) d a =
    elim n.change as (λ c. Among d (begun_life earlier n c ns ++ lives_after (earlier ++ n ∷ []) ns) → 1 + count_by (λ (m : Numbered). adds d.object.id m.change) earlier ≤ d.life) [
      | change.Add o ↦ λ b. elim b [
        | inl e ↦ subst (λ (f : Dated). 1 + count_by (λ (m : Numbered). adds f.object.id m.change) earlier ≤ f.life) e (omega arith)
        | inr rest ↦ omega (arith, count_push d.object.id earlier n, numbers_rise (earlier ++ n ∷ []) ns d rest)
      ]
      | change.Withdraw id ↦ λ b. omega (arith, count_push d.object.id earlier n, numbers_rise (earlier ++ n ∷ []) ns d b)
    ] a

-- where nothing withdraws the id, none of its lives is ended
ended_later : (id : ℕ) (n : Numbered) (ns : List Numbered) → Rises (n ∷ ns) → ended_in id (n ∷ ns) ≡ 0 → ended_in id ns ≡ 0
ended_later id n ns r zero_ended = elim (cases_Bool (withdraws id n.change)) [
  | inl is_so ↦
      let at : ended_in id (n ∷ ns) ≡ n.version = rw is_so refl in
      absurd (omega (arith, r.0))
  | inr is_not ↦ let at : ended_in id (n ∷ ns) ≡ ended_in id ns = rw is_not refl in sym at ∙ zero_ended
]

none_ended : (id : ℕ) (earlier ns : List Numbered) → Rises ns → ended_in id ns ≡ 0 → (d : Dated) → Among d (lives_after earlier ns) → d.object.id ≡ id → d.withdrawn ≡ 0
unfolding Among
none_ended id earlier [] r e d a same = absurd a
none_ended id earlier (n ∷ ns) r e d a same =
    let later = ended_later id n ns r e in
    let rest = none_ended id (earlier ++ n ∷ []) ns r.2 later d in
    elim n.change as (λ c. Among d (begun_life earlier n c ns ++ lives_after (earlier ++ n ∷ []) ns) → d.withdrawn ≡ 0) [
      | change.Add o ↦ λ b. elim b [
        | inl is ↦
            let own : o.id ≡ id = ap (λ (f : Dated). f.object.id) is ∙ same in
            sym (ap (λ (f : Dated). f.withdrawn) is) ∙ (ap (λ (k : ℕ). ended_in k ns) own ∙ later)
        | inr at ↦ rest at same
      ]
      | change.Withdraw other ↦ λ b. rest b same
    ] a

-- of two lives of an id, the later one is not ended where the earlier one is not
later_open : (earlier ns : List Numbered) → Rises ns → (e d : Dated) → Among e (lives_after earlier ns) → Among d (lives_after earlier ns) → e.object.id ≡ d.object.id → e.life ≤ d.life
    → e.withdrawn ≡ 0 → d.withdrawn ≡ 0
unfolding Among
later_open earlier [] r e d a b same le still = absurd a
later_open earlier (n ∷ ns) r e d a b same le still =
    let rest = later_open (earlier ++ n ∷ []) ns r.2 e d in
    (elim n.change as (λ c. n.change ≡ c → Among e (begun_life earlier n c ns ++ lives_after (earlier ++ n ∷ []) ns) → Among d (begun_life earlier n c ns ++ lives_after (earlier ++ n ∷ []) ns) → d.withdrawn ≡ 0) [
      | change.Add o ↦ λ is x y. elim x [
        | inl first ↦ elim y [
          | inl second ↦ sym (ap (λ (f : Dated). f.withdrawn) second) ∙ (ap (λ (f : Dated). f.withdrawn) first ∙ still)
          | inr after ↦
              let own : o.id ≡ d.object.id = ap (λ (f : Dated). f.object.id) first ∙ same in
              none_ended d.object.id (earlier ++ n ∷ []) ns r.2 (ap (λ (k : ℕ). ended_in k ns) (sym own) ∙ (ap (λ (f : Dated). f.withdrawn) first ∙ still)) d after refl
        ]
        | inr before ↦ elim y [
          | inl second ↦
              let own : o.id ≡ e.object.id = ap (λ (f : Dated). f.object.id) second ∙ sym same in
              let adds_it : adds e.object.id n.change ≡ true = ap (adds e.object.id) is ∙ eq-eqb o.id e.object.id own in
              let more = count_add e.object.id earlier n adds_it in
              let high = numbers_rise (earlier ++ n ∷ []) ns e before in
              let low : d.life ≡ 1 + count_by (λ (m : Numbered). adds e.object.id m.change) earlier =
              sym (ap (λ (f : Dated). f.life) second) ∙ ap (λ (k : ℕ). 1 + count_by (λ (m : Numbered). adds k m.change) earlier) own in
              absurd (omega arith)
          | inr after ↦ rest before after same le still
        ]
      ]
      | change.Withdraw other ↦ λ is x y. rest x y same le still
    ]) refl a b

pub last_tells : (h : History) (d : Dated) → Contains (lives h) d → ((e : Dated) → Contains (lives h) e → e.object.id ≡ d.object.id → e.life ≤ d.life)
    → is_live d.object.id (changes h) ≡ (d.withdrawn == 0)
last_tells h d at last =
    let here : Among d (lives h) = among_at (lives h) d at.0 at.1 at.2 in
    tells_ids h d.object.id ∙ (elim (cases_eq d.withdrawn 0) [
      | inl still ↦
          let is_so : (d.withdrawn == 0) ≡ true = eq-eqb d.withdrawn 0 still in
          any_of (is_open d.object.id) (lives h) d here (and_from _ _ (eq-eqb d.object.id d.object.id refl) is_so) ∙ sym is_so
      | inr ended ↦
          none_of (is_open d.object.id) (lives h) (λ e among. false_from_ne_true (is_open d.object.id e) (λ still.
          let both = and_parts (e.object.id == d.object.id) (e.withdrawn == 0) still in
          let same = eqb-true e.object.id d.object.id both.0 in
          ended (later_open [] (numbered h) (rises h) e d among here same (last e (contains_at (lives h) e among) same) (eqb-true e.withdrawn 0 both.1))))
          ∙ sym (false_from_ne_true (d.withdrawn == 0) (λ is_so. ended (eqb-true d.withdrawn 0 is_so)))
    ])
