-- Sums of whole numbers over lists: of equal numbers, over lists that are made of others, of multiples, and one sum within another.
use Rattle.std.proofs.Common.{◌≡◌, List, [], ◌∷◌, ◌++◌, map, ℤ, pos, ◌+ℤ◌, ◌*ℤ◌, arith, refl, ◌∙◌, ap, ap₂, sym}
use Rattle.std.proofs.Math.IntN.{zero-*ℤ, *ℤ-zero, +ℤ_idl}
use Rattle.std.proofs.lemmas.Int.{ints}
use Rattle.std.specs.List.{flat_map}
use Rattle.bw_types.specs.Tally.{int_sum_by}
use Rattle.grid_report.proofs.SignedProducts.{sum_times, times_sum}

pub sum-same : {X : Type 0} (f g : X → ℤ) → ((x : X) → f x ≡ g x) → (xs : List X) → int_sum_by f xs ≡ int_sum_by g xs
sum-same f g e [] = refl
sum-same f g e (x ∷ xs) = ap₂ ◌+ℤ◌ (e x) (sum-same f g e xs)

pub sum-map : {X Y : Type 0} (f : Y → ℤ) (g : X → Y) (xs : List X) → int_sum_by f (map g xs) ≡ int_sum_by (λ x. f (g x)) xs
sum-map f g [] = refl
sum-map f g (x ∷ xs) = ap (λ z. f (g x) +ℤ z) (sum-map f g xs)

sum-append : {X : Type 0} (f : X → ℤ) (xs ys : List X) → int_sum_by f (xs ++ ys) ≡ int_sum_by f xs +ℤ int_sum_by f ys
sum-append f [] ys = sym (+ℤ_idl (int_sum_by f ys))
sum-append f (x ∷ xs) ys = let rest = sum-append f xs ys in omega (arith, ints)

pub sum-flat_map : {X Y : Type 0} (f : Y → ℤ) (g : X → List Y) (xs : List X) → int_sum_by f (flat_map g xs) ≡ int_sum_by (λ x. int_sum_by f (g x)) xs
sum-flat_map f g [] = refl
sum-flat_map f g (x ∷ xs) = sum-append f (g x) (flat_map g xs) ∙ ap (λ z. int_sum_by f (g x) +ℤ z) (sum-flat_map f g xs)

pub sum-of_multiples : {X : Type 0} (k : ℤ) (f : X → ℤ) (xs : List X) → int_sum_by (λ x. k *ℤ f x) xs ≡ k *ℤ int_sum_by f xs
sum-of_multiples k f [] = sym (*ℤ-zero k)
sum-of_multiples k f (x ∷ xs) = ap (λ z. k *ℤ f x +ℤ z) (sum-of_multiples k f xs) ∙ sym (times_sum k (f x) (int_sum_by f xs))

-- the same with the factor on the right
pub sum-times : {X : Type 0} (f : X → ℤ) (k : ℤ) (xs : List X) → int_sum_by (λ x. f x *ℤ k) xs ≡ int_sum_by f xs *ℤ k
sum-times f k [] = sym (zero-*ℤ k)
sum-times f k (x ∷ xs) = ap (λ z. f x *ℤ k +ℤ z) (sum-times f k xs) ∙ sym (sum_times (f x) (int_sum_by f xs) k)

pub sum-of_nothing : {X : Type 0} (xs : List X) → int_sum_by (λ (x : X). pos 0) xs ≡ pos 0
sum-of_nothing [] = refl
sum-of_nothing (x ∷ xs) = +ℤ_idl (int_sum_by (λ x. pos 0) xs) ∙ sum-of_nothing xs

sum-of_sums : {X : Type 0} (f g : X → ℤ) (xs : List X) → int_sum_by (λ x. f x +ℤ g x) xs ≡ int_sum_by f xs +ℤ int_sum_by g xs
sum-of_sums f g [] = refl
sum-of_sums f g (x ∷ xs) = let rest = sum-of_sums f g xs in omega (arith, ints)

-- it is the same which list is summed over first
pub sum-exchange : {X Y : Type 0} (f : X → Y → ℤ) (xs : List X) (ys : List Y) → int_sum_by (λ x. int_sum_by (f x) ys) xs ≡ int_sum_by (λ y. int_sum_by (λ x. f x y) xs) ys
sum-exchange f [] ys = sym (sum-of_nothing ys)
sum-exchange f (x ∷ xs) ys =
    ap (λ z. int_sum_by (f x) ys +ℤ z) (sum-exchange f xs ys) ∙ sym (sum-of_sums (f x) (λ y. int_sum_by (λ x. f x y) xs) ys)
