-- What is one of a list, and stays so in another order.
use Rattle.std.proofs.Common.{◌≡◌, ◌⊎◌, ℕ, ◌<◌, List, [], ◌∷◌, ◌++◌, length, get_or, refl, sym, subst, arith, inl, inr, zero, suc, IsPermutation}
use Rattle.std.proofs.lemmas.List.Sorted.{Contains-permutation}
use Rattle.std.specs.List.{Contains, flat_map}

-- x is one of the list
abbrev pub Among : {X : Type 0} → X → List X → Type 0
Among x [] = ⊥
Among x (y ∷ ys) = (y ≡ x) ⊎ Among x ys

among_at : {X : Type 0} (xs : List X) (x : X) (k : ℕ) → k < length xs → get_or xs k x ≡ x → Among x xs
among_at [] x k lt e = absurd (omega arith)
among_at (y ∷ ys) x zero lt e = inl e
among_at (y ∷ ys) x (suc k) lt e = inr (among_at ys x k (omega arith) e)

contains_of : {X : Type 0} (xs : List X) (x : X) → Among x xs → Contains xs x
contains_of [] x a = absurd a
contains_of (y ∷ ys) x (inl e) = (0, omega arith, e)
contains_of (y ∷ ys) x (inr a) = let c = contains_of ys x a in (suc c.0, omega (arith, c.1), c.2)

pub among_permuted : {X : Type 0} (xs ys : List X) (x : X) → IsPermutation xs ys → Among x xs → Among x ys
among_permuted xs ys x p a = let c = Contains-permutation xs ys x p (contains_of xs x a) in among_at ys x c.0 c.1 c.2

pub among_left : {X : Type 0} (xs ys : List X) (x : X) → Among x xs → Among x (xs ++ ys)
among_left [] ys x a = absurd a
among_left (y ∷ xs) ys x (inl e) = inl e
among_left (y ∷ xs) ys x (inr a) = inr (among_left xs ys x a)

pub among_right : {X : Type 0} (xs ys : List X) (x : X) → Among x ys → Among x (xs ++ ys)
among_right [] ys x a = a
among_right (y ∷ xs) ys x a = inr (among_right xs ys x a)

among_either : {X : Type 0} (xs ys : List X) (x : X) → Among x (xs ++ ys) → Among x xs ⊎ Among x ys
among_either [] ys x a = inr a
among_either (y ∷ xs) ys x (inl e) = inl (inl e)
among_either (y ∷ xs) ys x (inr a) = elim (among_either xs ys x a) [ inl here ↦ inl (inr here) | inr there ↦ inr there ]

-- what is one of the lists joined is one of one of them
among_joined : {X Y : Type 0} (f : X → List Y) (xs : List X) (x : X) (y : Y) → Among x xs → Among y (f x) → Among y (flat_map f xs)
among_joined f [] x y a b = absurd a
among_joined f (z ∷ xs) x y (inl e) b = among_left (f z) (flat_map f xs) y (subst (λ w. Among y (f w)) (sym e) b)
among_joined f (z ∷ xs) x y (inr a) b = among_right (f z) (flat_map f xs) y (among_joined f xs x y a b)

among_part : {X Y : Type 0} (f : X → List Y) (xs : List X) (y : Y) → Among y (flat_map f xs) → (x : X) × (Among x xs) × (Among y (f x))
among_part f [] y a = absurd a
among_part f (z ∷ xs) y a = elim (among_either (f z) (flat_map f xs) y a) [
  | inl here ↦ (z, inl refl, here)
  | inr there ↦ let part = among_part f xs y there in (part.0, inr part.1, part.2)
]

-- lists joined in another order have the same members
pub among_rejoined : {X Y : Type 0} (f : X → List Y) (xs zs : List X) (y : Y) → IsPermutation xs zs → Among y (flat_map f xs) → Among y (flat_map f zs)
among_rejoined f xs zs y p a = let part = among_part f xs y a in among_joined f zs part.0 y (among_permuted xs zs part.0 p part.1) part.2
