-- The laws of footprints: lists of pages end to end, in another order, and how often they name a page.
--
-- A tree's pages are those of its parts end to end. So each tree is proved from these.
use Rattle.std.specs.Prelude.{◌≡◌, ℕ, ◌+◌, ◌≤◌, ◌<◌, ◌==◌, ◌||◌, true, false, Bool, List, [], ◌∷◌, ◌++◌, length, get_or, take, refl, IsPermutation}
use Rattle.std.specs.List.{flat_map}
use Rattle.std.proofs.Common.{cond, inl, inr, ◌⊎◌, sym, ap, ◌∙◌, subst, arith}
use Rattle.std.proofs.lemmas.Bool.{or_left, or_right, or_cases, or_parts, or_from, eq-eqb, eqb-true, cases_Bool, false≢true, false_from_ne_true}
use Rattle.std.proofs.lemmas.List.{take_more, append-nil}
use Rattle.std.proofs.lemmas.List.Concat.{flat_map-append}
use Rattle.std.proofs.lemmas.List.Sums.{sum_by-append, sum_by-cons}
use Rattle.std.proofs.lemmas.List.Sorted.{sum_by-IsPermutation}
use Rattle.ports.specs.Frame.{names_page, AreApart}
use Rattle.ports.specs.FrameLaws.{names_page-append}
use Rattle.page_layout.specs.Footprint.{NamesNoneTwice, times_named}

pub apart_sym : (xs ys : List ℕ) → AreApart xs ys → AreApart ys xs
apart_sym xs ys apart = λ p named. elim (cases_Bool (names_page xs p)) [
  | inl yes_x ↦ absurd (false≢true (sym (apart p yes_x) ∙ named))
  | inr no_x ↦ no_x
]

pub named_by_one : (xs ys : List ℕ) (p : ℕ) → names_page (xs ++ ys) p ≡ true → (names_page xs p ≡ true) ⊎ (names_page ys p ≡ true)
named_by_one xs ys p h = or_cases (names_page xs p) (names_page ys p) (sym (names_page-append xs ys p) ∙ h)

pub named_by_neither : (xs ys : List ℕ) (p : ℕ) → names_page (xs ++ ys) p ≡ false → (names_page xs p ≡ false) × (names_page ys p ≡ false)
named_by_neither xs ys p h = or_parts (names_page xs p) (names_page ys p) (sym (names_page-append xs ys p) ∙ h)

pub once_left : (xs ys : List ℕ) → NamesNoneTwice (xs ++ ys) → NamesNoneTwice xs
once_left [] ys once = tt
once_left (x ∷ xs) ys once = ((named_by_neither xs ys x once.0).0, once_left xs ys once.1)

pub once_right : (xs ys : List ℕ) → NamesNoneTwice (xs ++ ys) → NamesNoneTwice ys
once_right [] ys once = once
once_right (x ∷ xs) ys once = once_right xs ys once.1

pub once_apart : (xs ys : List ℕ) → NamesNoneTwice (xs ++ ys) → AreApart xs ys
once_apart [] ys once = λ p named. cc
once_apart (x ∷ xs) ys once = λ p named. elim (or_cases (x == p) (names_page xs p) named) [
  | inl first ↦ subst (λ (q : ℕ). names_page ys q ≡ false) (eqb-true x p first) (named_by_neither xs ys x once.0).1
  | inr later ↦ once_apart xs ys once.1 p later
]

pub once_join : (xs ys : List ℕ) → NamesNoneTwice xs → NamesNoneTwice ys → AreApart xs ys → NamesNoneTwice (xs ++ ys)
once_join [] ys first rest apart = rest
once_join (x ∷ xs) ys first rest apart = (
  names_page-append xs ys x ∙ or_from (names_page xs x) (names_page ys x) first.0 (apart x (or_left (x == x) (names_page xs x) (eq-eqb x x refl))),
  once_join xs ys first.1 rest (λ p named. apart p (or_right (x == p) (names_page xs p) named)),
)

pub apart_append : (xs ys zs : List ℕ) → AreApart xs zs → AreApart ys zs → AreApart (xs ++ ys) zs
apart_append xs ys zs first rest = λ p named. elim (named_by_one xs ys p named) [
  | inl here ↦ first p here
  | inr there ↦ rest p there
]

pub apart_parts : (xs ys zs : List ℕ) → AreApart (xs ++ ys) zs → AreApart xs zs × AreApart ys zs
apart_parts xs ys zs apart = (
  λ p named. apart p (names_page-append xs ys p ∙ or_left (names_page xs p) (names_page ys p) named),
  λ p named. apart p (names_page-append xs ys p ∙ or_right (names_page xs p) (names_page ys p) named),
)

-- one piece more of pieces end to end
pub flat_more : {X A : Type 0} (f : X → List A) (xs : List X) (i : ℕ) (d : X) → i < length xs → flat_map f (take (i + 1) xs) ≡ flat_map f (take i xs) ++ f (get_or xs i d)
flat_more f xs i d h =
    ap (flat_map f) (take_more xs i d h) ∙ flat_map-append f (take i xs) (get_or xs i d ∷ []) ∙ ap (λ ys. flat_map f (take i xs) ++ ys) (append-nil (f (get_or xs i d)))

-- A page is named as often as by the parts.
pub times_append : (xs ys : List ℕ) (p : ℕ) → times_named (xs ++ ys) p ≡ times_named xs p + times_named ys p
times_append xs ys p = sum_by-append (λ (x : ℕ). cond (x == p) 1 0) xs ys

abbrev one_if : Bool → ℕ
one_if b = cond b 1 0

pub times_cons : (x : ℕ) (xs : List ℕ) (p : ℕ) → times_named (x ∷ xs) p ≡ cond (x == p) 1 0 + times_named xs p
times_cons x xs p = sum_by-cons (λ (y : ℕ). cond (y == p) 1 0) x xs

pub named_once : (xs : List ℕ) (p : ℕ) → names_page xs p ≡ true → 1 ≤ times_named xs p
named_once [] p named = absurd cc
named_once (x ∷ xs) p named = elim (cases_Bool (x == p)) [
  | inl here ↦ omega (arith, times_cons x xs p, ap one_if here)
  | inr other ↦
      let rest : names_page xs p ≡ true = sym (ap (λ (b : Bool). b || names_page xs p) other) ∙ named in
      omega (arith, times_cons x xs p, named_once xs p rest)
]

pub never_named : (xs : List ℕ) (p : ℕ) → names_page xs p ≡ false → times_named xs p ≡ 0
never_named [] p none = refl
never_named (x ∷ xs) p none =
    let parts = or_parts (x == p) (names_page xs p) none in
    omega (arith, times_cons x xs p, ap one_if parts.0, never_named xs p parts.1)

pub not_twice : (xs : List ℕ) (p : ℕ) → NamesNoneTwice xs → times_named xs p ≤ 1
not_twice [] p once = omega arith
not_twice (x ∷ xs) p once = elim (cases_Bool (x == p)) [
  | inl here ↦
      let none : names_page xs p ≡ false = subst (λ (q : ℕ). names_page xs q ≡ false) (eqb-true x p here) once.0 in
      omega (arith, times_cons x xs p, ap one_if here, never_named xs p none)
  | inr other ↦ omega (arith, times_cons x xs p, ap one_if other, not_twice xs p once.1)
]

-- A list that names each page once at most names none twice.
pub once_each : (xs : List ℕ) → ((p : ℕ) → times_named xs p ≤ 1) → NamesNoneTwice xs
once_each [] few = tt
once_each (x ∷ xs) few =
    let first : times_named (x ∷ xs) x ≡ 1 + times_named xs x = times_cons x xs x ∙ ap (λ (b : Bool). one_if b + times_named xs x) (eq-eqb x x refl) in (
      false_from_ne_true _ (λ named. omega (arith, few x, first, named_once xs x named)),
      once_each xs (λ p. omega (arith, few p, times_cons x xs p)),
    )

-- A list in another order names each page as often.
pub times_permuted : (xs ys : List ℕ) (p : ℕ) → IsPermutation xs ys → times_named ys p ≡ times_named xs p
times_permuted xs ys p same = sum_by-IsPermutation (λ (x : ℕ). cond (x == p) 1 0) xs ys same

pub once_permuted : (xs ys : List ℕ) → IsPermutation xs ys → NamesNoneTwice xs → NamesNoneTwice ys
once_permuted xs ys same once = once_each ys (λ p. omega (arith, times_permuted xs ys p same, not_twice xs p once))

pub names_permuted : (xs ys : List ℕ) (p : ℕ) → IsPermutation xs ys → names_page ys p ≡ names_page xs p
names_permuted xs ys p same = elim (cases_Bool (names_page xs p)) [
  | inl there ↦ elim (cases_Bool (names_page ys p)) [
    | inl too ↦ too ∙ sym there
    | inr none ↦ absurd (omega (arith, times_permuted xs ys p same, named_once xs p there, never_named ys p none))
  ]
  | inr gone ↦ elim (cases_Bool (names_page ys p)) [
    | inl named ↦ absurd (omega (arith, times_permuted xs ys p same, never_named xs p gone, named_once ys p named))
    | inr none ↦ none ∙ sym gone
  ]
]
