-- Entries, each with its sign, add up to what is live.
use Rattle.std.proofs.Common.{◌≡◌, ℕ, ◌≤◌, Bool, true, false, ◌==◌, nat_le, nat_lt, List, [], ◌∷◌, ◌++◌, length, map, refl, sym, ◌∙◌, ap, arith, inl, inr, suc, if◌then◌else◌, ℤ, pos, neg_ℤ, ◌+ℤ◌, ◌*ℤ◌}
use Rattle.std.proofs.lemmas.Int.{ints}
use Rattle.std.proofs.lemmas.Bool.{cases_eq, cases_lt, eq-eqb, ne_eqb, le-leb, lt-leb, lt-ltb, le-ltb}
use Rattle.std.specs.List.{All, filter}
use Rattle.bw_types.specs.Tally.{int_sum_by}
use Rattle.bw_types.specs.History.{History, live}
use Rattle.bw_types.specs.Lives.{lives}
use Rattle.bw_types.specs.Meets.{meets}
use Rattle.bw_types.specs.Answers.{sum_at, count_at}
use Rattle.bw_types.specs.declared.dated.Dated.{Dated}
use Rattle.bw_types.specs.declared.object.Object.{Object}
use Rattle.bw_types.specs.declared.params.Params.{Params}
use Rattle.bw_types.specs.declared.query.Query.{Query}
use Rattle.history_laws.specs.Living.{IsInOrder, LivesAreInOrder, LivesTellLive, is_live_at, objects_at}
use Rattle.corner_weights.specs.PlaneSums.{Entered, counts_at}
use Rattle.history_laws.specs.Entries.{life_entries, entries_of}
use Rattle.history_laws.specs.Answers.{signed_sum}

-- what an entry gives at a version
abbrev gives : (Object → ℤ) → ℕ → Entered → ℤ
gives f v e = counts_at v e *ℤ f e.object

once : (x : ℤ) → pos 1 *ℤ x ≡ x
once x = omega (arith, ints)

never : (x : ℤ) → pos 0 *ℤ x ≡ pos 0
never x = omega (arith, ints)

opposite : (x : ℤ) → neg_ℤ (pos 1) *ℤ x ≡ neg_ℤ x
opposite x = omega (arith, ints)

sum-append : {X : Type 0} (f : X → ℤ) (xs ys : List X) → int_sum_by f (xs ++ ys) ≡ int_sum_by f xs +ℤ int_sum_by f ys
sum-append f [] ys = let e : pos 0 +ℤ int_sum_by f ys ≡ int_sum_by f ys = omega (arith, ints) in sym e
sum-append f (x ∷ xs) ys =
    let rest = sum-append f xs ys in
    let e : f x +ℤ (int_sum_by f xs +ℤ int_sum_by f ys) ≡ (f x +ℤ int_sum_by f xs) +ℤ int_sum_by f ys = omega (arith, ints) in
    ap (λ z. f x +ℤ z) rest ∙ e

-- one life: what it gives where it is live, and else nothing
abbrev life_gives : (Object → ℤ) → ℕ → Dated → ℤ
life_gives f v d = if is_live_at v d then f d.object else pos 0

one_life : (f : Object → ℤ) (v : ℕ) (d : Dated) → IsInOrder d → int_sum_by (gives f v) (life_entries d) ≡ life_gives f v d
one_life f v d o = elim (cases_eq d.withdrawn 0) [
  | inl none ↦
      let still : (d.withdrawn == 0) ≡ true = eq-eqb d.withdrawn 0 none in
      elim (cases_lt v d.added) [
        | inl later ↦
            let unseen : nat_le d.added v ≡ false = lt-leb d.added v later in
            let zero_sum : pos 0 *ℤ f d.object +ℤ pos 0 ≡ pos 0 = omega (arith, ints) in
            rw (still, unseen) zero_sum
        | inr begun ↦
            let seen : nat_le d.added v ≡ true = le-leb d.added v begun in
            let one_sum : pos 1 *ℤ f d.object +ℤ pos 0 ≡ f d.object = omega (arith, ints) in
            rw (still, seen) one_sum
      ]
  | inr some ↦
      let over : (d.withdrawn == 0) ≡ false = ne_eqb d.withdrawn 0 some in
      elim (cases_lt v d.added) [
        | inl later ↦
            let unseen : nat_le d.added v ≡ false = lt-leb d.added v later in
            let past : d.added ≤ d.withdrawn = elim o.ended [ inl none ↦ absurd (some none) | inr le ↦ le ] in
            let not_over : nat_le d.withdrawn v ≡ false = lt-leb d.withdrawn v (omega (arith, later, past)) in
            let zero_sum : pos 0 *ℤ f d.object +ℤ (pos 0 *ℤ f d.object +ℤ pos 0) ≡ pos 0 = omega (arith, ints) in
            rw (over, unseen, not_over) zero_sum
        | inr begun ↦
            let seen : nat_le d.added v ≡ true = le-leb d.added v begun in
            elim (cases_lt v d.withdrawn) [
              | inl before ↦
                  let not_over : nat_le d.withdrawn v ≡ false = lt-leb d.withdrawn v before in
                  let lasts : nat_lt v d.withdrawn ≡ true = lt-ltb v d.withdrawn before in
                  let one_sum : pos 1 *ℤ f d.object +ℤ (pos 0 *ℤ f d.object +ℤ pos 0) ≡ f d.object = omega (arith, ints) in
                  rw (over, seen, not_over, lasts) one_sum
              | inr after ↦
                  let is_over : nat_le d.withdrawn v ≡ true = le-leb d.withdrawn v after in
                  let ends : nat_lt v d.withdrawn ≡ false = le-ltb v d.withdrawn after in
                  let no_sum : pos 1 *ℤ f d.object +ℤ (neg_ℤ (pos 1) *ℤ f d.object +ℤ pos 0) ≡ pos 0 = omega (arith, ints) in
                  rw (over, seen, is_over, ends) no_sum
            ]
      ]
]

lives_give : (f : Object → ℤ) (v : ℕ) (ds : List Dated) → All IsInOrder ds → int_sum_by (gives f v) (entries_of ds) ≡ int_sum_by f (objects_at v ds)
lives_give f v [] all = refl
lives_give f v (d ∷ ds) all =
    let rest = lives_give f v ds (λ k e lt. all (suc k) e (omega arith)) in
    sum-append (gives f v) (life_entries d) (entries_of ds)
    ∙ (ap (λ z. z +ℤ int_sum_by (gives f v) (entries_of ds)) (one_life f v d (all 0 d (omega arith)))
    ∙ (ap (λ z. life_gives f v d +ℤ z) rest ∙ kept (is_live_at v d) refl))
  where
    kept : (b : Bool) → is_live_at v d ≡ b → (if is_live_at v d then f d.object else pos 0) +ℤ int_sum_by f (objects_at v ds) ≡ int_sum_by f (map (λ (e : Dated). e.object) (if is_live_at v d then d ∷ filter (is_live_at v) ds else filter (is_live_at v) ds))
    kept true e = rw e refl
    kept false e = let none : pos 0 +ℤ int_sum_by f (objects_at v ds) ≡ int_sum_by f (objects_at v ds) = omega (arith, ints) in rw e none

pub count_live : LivesTellLive → LivesAreInOrder → (f : Object → ℤ) (h : History) (v : ℕ) → signed_sum f h v ≡ int_sum_by f (live h v)
count_live tells ordered f h v = lives_give f v (lives h) (ordered h) ∙ ap (int_sum_by f) (sym (tells h v))

-- a sum over those that pass a test
sum_filter : (p : Object → Bool) (f : Object → ℤ) (os : List Object) → int_sum_by (λ o. if p o then f o else pos 0) os ≡ int_sum_by f (filter p os)
sum_filter p f [] = refl
sum_filter p f (o ∷ os) =
    let rest = sum_filter p f os in
    let none : pos 0 +ℤ int_sum_by (λ x. if p x then f x else pos 0) os ≡ int_sum_by (λ x. if p x then f x else pos 0) os = omega (arith, ints) in
    elim (p o) as (λ b. (if b then f o else pos 0) +ℤ int_sum_by (λ x. if p x then f x else pos 0) os ≡ int_sum_by f (if b then o ∷ filter p os else filter p os)) [
      | true ↦ ap (λ z. f o +ℤ z) rest
      | false ↦ none ∙ rest
    ]

count_all : (os : List Object) → int_sum_by (λ o. pos 1) os ≡ pos (length os)
count_all [] = refl
count_all (o ∷ os) = let rest = count_all os in ap (λ z. pos 1 +ℤ z) rest ∙ one_more (length os)
  where
    one_more : (n : ℕ) → pos 1 +ℤ pos n ≡ pos (suc n)
    one_more n = omega (arith, ints)

pub by_sum : LivesTellLive → LivesAreInOrder → (params : Params) (h : History) (v : ℕ) (q : Query) → signed_sum (λ o. if meets params.dims q o then o.weight else pos 0) h v ≡ sum_at params h v q
by_sum tells ordered params h v q =
    count_live tells ordered (λ o. if meets params.dims q o then o.weight else pos 0) h v ∙ sum_filter (meets params.dims q) (λ o. o.weight) (live h v)

pub by_count : LivesTellLive → LivesAreInOrder → (params : Params) (h : History) (v : ℕ) (q : Query) → signed_sum (λ o. if meets params.dims q o then pos 1 else pos 0) h v ≡ count_at params h v q
by_count tells ordered params h v q =
    count_live tells ordered (λ o. if meets params.dims q o then pos 1 else pos 0) h v ∙ (sum_filter (meets params.dims q) (λ o. pos 1) (live h v) ∙ count_all (filter (meets params.dims q) (live h v)))
