-- Totals over the objects that were live at a version, as sums over the lives.
use Rattle.std.proofs.Common.{◌≡◌, ℕ, ◌+◌, ◌<◌, ◌≤◌, Bool, true, false, List, [], ◌∷◌, ◌++◌, length, take, get_or, ℤ, pos, ◌+ℤ◌, refl, sym, ◌∙◌, ap, arith, if◌then◌else◌}
use Rattle.std.proofs.lemmas.Int.{ints}
use Rattle.std.proofs.lemmas.List.{take_more, take_all}
use Rattle.std.specs.List.{filter}
use Rattle.bw_types.specs.Tally.{int_sum_by}
use Rattle.bw_types.specs.declared.object.Object.{Object}
use Rattle.warehouse.specs.Kept.{is_live_at, objects_at}
use Rattle.warehouse.specs.Parts.{part_at, part_if}
use Rattle.warehouse.specs.declared.life.Life.{Life}

pub int_sum_by-append : {X : Type 0} (f : X → ℤ) (xs ys : List X) → int_sum_by f (xs ++ ys) ≡ int_sum_by f xs +ℤ int_sum_by f ys
int_sum_by-append f [] ys = omega (arith, ints)
int_sum_by-append f (x ∷ xs) ys = let e = int_sum_by-append f xs ys in omega (arith, ints, e)

pub int_sum_by_more : {X : Type 0} (f : X → ℤ) (xs : List X) (i : ℕ) (d : X) → i < length xs → int_sum_by f (take (i + 1) xs) ≡ int_sum_by f (take i xs) +ℤ f (get_or xs i d)
int_sum_by_more f xs i d h =
    let last : int_sum_by f (get_or xs i d ∷ []) ≡ f (get_or xs i d) = omega (arith, ints) in
    ap (int_sum_by f) (take_more xs i d h) ∙ int_sum_by-append f (take i xs) (get_or xs i d ∷ []) ∙ ap (λ z. int_sum_by f (take i xs) +ℤ z) last

pub int_sum_by-objects_at : (f : Object → ℤ) (version : ℕ) (lives : List Life) → int_sum_by f (objects_at version lives) ≡ int_sum_by (part_at f version) lives
int_sum_by-objects_at f version [] = refl
int_sum_by-objects_at f version (l ∷ lives) =
    let rest = int_sum_by-objects_at f version lives in
    elim (is_live_at version l) as (λ b. int_sum_by f ((if b then l.object ∷ [] else []) ++ objects_at version lives) ≡ (if b then f l.object else pos 0) +ℤ int_sum_by (part_at f version) lives) [
      | true ↦ ap (λ z. f l.object +ℤ z) rest
      | false ↦ omega (arith, ints, rest)
    ]

pub int_sum_by-filter : (p : Object → Bool) (f : Object → ℤ) (os : List Object) → int_sum_by f (filter p os) ≡ int_sum_by (part_if p f) os
int_sum_by-filter p f [] = refl
int_sum_by-filter p f (o ∷ os) =
    let rest = int_sum_by-filter p f os in
    elim (p o) as (λ b. int_sum_by f (if b then o ∷ filter p os else filter p os) ≡ (if b then f o else pos 0) +ℤ int_sum_by (part_if p f) os) [
      | true ↦ ap (λ z. f o +ℤ z) rest
      | false ↦ omega (arith, ints, rest)
    ]

pub length-filter : (p : Object → Bool) (os : List Object) → pos (length (filter p os)) ≡ int_sum_by (part_if p (λ o. pos 1)) os
length-filter p [] = refl
length-filter p (o ∷ os) =
    let rest = length-filter p os in
    elim (p o) as (λ b. pos (length (if b then o ∷ filter p os else filter p os)) ≡ (if b then pos 1 else pos 0) +ℤ int_sum_by (part_if p (λ o. pos 1)) os) [
      | true ↦ omega (arith, ints, rest)
      | false ↦ omega (arith, ints, rest)
    ]

-- one life more
pub total_step : (f : Life → ℤ) (lives : List Life) (i : ℕ) (d : Life) (s part t : ℤ) → i < length lives → s ≡ int_sum_by f (take i lives) → part ≡ f (get_or lives i d) → t ≡ s +ℤ part
    → t ≡ int_sum_by f (take (i + 1) lives)
total_step f lives i d s part t lt so_far at is =
    is ∙ ap (λ z. z +ℤ part) so_far ∙ ap (λ z. int_sum_by f (take i lives) +ℤ z) at ∙ sym (int_sum_by_more f lives i d lt)

-- all lives
pub total_end : (f : Life → ℤ) (lives : List Life) (i : ℕ) → length lives ≤ i → int_sum_by f (take i lives) ≡ int_sum_by f lives
total_end f lives i past = ap (int_sum_by f) (take_all i lives past)
