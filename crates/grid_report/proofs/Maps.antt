-- Lists that are mapped, and joined of lists; ranges.
use Rattle.std.proofs.Common.{◌≡◌, ℕ, zero, suc, ◌+◌, ◌<◌, List, [], ◌∷◌, ◌++◌, map, refl, sym, ap, ap₂, ◌∙◌, arith}
use Rattle.std.proofs.lemmas.List.{map-append}
use Rattle.std.proofs.lemmas.List.Concat.{flat_map-append}
use Rattle.std.proofs.lemmas.List.FromFn.{map-range_with_len_more}
use Rattle.std.specs.List.{flat_map, range_with_len}

pub map-same : {A B : Type 0} (f g : A → B) → ((x : A) → f x ≡ g x) → (xs : List A) → map f xs ≡ map g xs
map-same f g e [] = refl
map-same f g e (x ∷ xs) = ap₂ (λ y ys. y ∷ ys) (e x) (map-same f g e xs)

pub map-map : {A B C : Type 0} (g : B → C) (f : A → B) (xs : List A) → map g (map f xs) ≡ map (λ x. g (f x)) xs
map-map g f [] = refl
map-map g f (x ∷ xs) = ap (λ ys. g (f x) ∷ ys) (map-map g f xs)

pub flat_map-same : {A B : Type 0} (f g : A → List B) → ((x : A) → f x ≡ g x) → (xs : List A) → flat_map f xs ≡ flat_map g xs
flat_map-same f g e [] = refl
flat_map-same f g e (x ∷ xs) = ap₂ (λ ys zs. ys ++ zs) (e x) (flat_map-same f g e xs)

pub map-flat_map : {A B C : Type 0} (g : B → C) (f : A → List B) (xs : List A) → map g (flat_map f xs) ≡ flat_map (λ x. map g (f x)) xs
map-flat_map g f [] = refl
map-flat_map g f (x ∷ xs) = map-append g (f x) (flat_map f xs) ∙ ap (λ ys. map g (f x) ++ ys) (map-flat_map g f xs)

pub flat_map-flat_map : {A B C : Type 0} (g : B → List C) (f : A → List B) (xs : List A) → flat_map g (flat_map f xs) ≡ flat_map (λ x. flat_map g (f x)) xs
flat_map-flat_map g f [] = refl
flat_map-flat_map g f (x ∷ xs) = flat_map-append g (f x) (flat_map f xs) ∙ ap (λ ys. flat_map g (f x) ++ ys) (flat_map-flat_map g f xs)

-- a range is cut anywhere
pub range-append : (a n m : ℕ) → range_with_len a (n + m) ≡ range_with_len a n ++ range_with_len (a + n) m
range-append a zero m =
    let size : 0 + m ≡ m = omega arith in
    let start : a ≡ a + 0 = omega arith in
    ap (range_with_len a) size ∙ ap (λ s. range_with_len s m) start
range-append a (suc n) m =
    let size : suc n + m ≡ suc (n + m) = omega arith in
    let start : a + 1 + n ≡ a + suc n = omega arith in
    ap (range_with_len a) size ∙ ap (λ ys. a ∷ ys) (range-append (a + 1) n m ∙ ap (λ s. range_with_len (a + 1) n ++ range_with_len s m) start)

-- what f gives of a range, where it is what g gives of the numbers from 0 on
pub map-range : {A : Type 0} (f g : ℕ → A) (a b n : ℕ) → ((k : ℕ) → k < n → f (a + k) ≡ g (b + k)) → map f (range_with_len a n) ≡ map g (range_with_len b n)
map-range f g a b zero e = refl
map-range f g a b (suc n) e =
    let first : f a ≡ g b = (let x : a ≡ a + 0 = omega arith in let y : b + 0 ≡ b = omega arith in ap f x ∙ e 0 (omega arith) ∙ ap g y) in
    let rest = λ (k : ℕ) (h : k < n). (let x : a + 1 + k ≡ a + suc k = omega arith in let y : b + suc k ≡ b + 1 + k = omega arith in ap f x ∙ e (suc k) (omega arith) ∙ ap g y) in
    ap₂ (λ y ys. y ∷ ys) first (map-range f g (a + 1) (b + 1) n rest)

-- one element more of a list that f gives of a range
pub range-more : {A : Type 0} (f : ℕ → A) (n : ℕ) (xs new : List A) (x : A) → xs ≡ map f (range_with_len 0 n) → x ≡ f n → new ≡ xs ++ x ∷ [] → new ≡ map f (range_with_len 0 (n + 1))
range-more f n xs new x are is put =
    let begin : 0 + n ≡ n = omega arith in
    put ∙ ap₂ (λ ys y. ys ++ y ∷ []) are is ∙ sym (map-range_with_len_more f 0 n n begin)
