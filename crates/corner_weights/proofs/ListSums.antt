-- Sums of whole numbers over lists, and products over the first numbers: how they exchange and distribute.
use Rattle.std.proofs.Common.{List, [], ◌∷◌, ◌++◌, map, ◌≡◌, ℕ, zero, suc, ◌+◌, ◌<◌, ◌≤◌, Bool, true, false, ◌&&◌, if◌then◌else◌, ℤ, pos, ◌+ℤ◌, ◌*ℤ◌, slice_index, arith, refl, ◌∙◌, ap, sym}
use Rattle.std.proofs.Math.IntN.{*ℤ_comm, zero-*ℤ, *ℤ-zero, +ℤ_idl}
use Rattle.std.proofs.lemmas.Int.{ints}
use Rattle.std.specs.List.{flat_map, range_with_len, zip}
use Rattle.bw_types.specs.Tally.{int_product_below, int_sum_by, each_below}
use Rattle.bw_types.specs.Integral.{exponent_lists}
use Rattle.corner_weights.proofs.Whole.{times_sum, sum_times, times_assoc, times_four}

pub sum-equal : {X : Type 0} (f g : X → ℤ) (xs : List X) → ((x : X) → f x ≡ g x) → int_sum_by f xs ≡ int_sum_by g xs
sum-equal f g [] e = refl
sum-equal f g (x ∷ xs) e = ap (λ z. z +ℤ int_sum_by f xs) (e x) ∙ ap (λ z. g x +ℤ z) (sum-equal f g xs e)

pub sum-append : {X : Type 0} (f : X → ℤ) (xs ys : List X) → int_sum_by f (xs ++ ys) ≡ int_sum_by f xs +ℤ int_sum_by f ys
sum-append f [] ys = sym (+ℤ_idl (int_sum_by f ys))
sum-append f (x ∷ xs) ys = let rest = sum-append f xs ys in omega (arith, ints)

pub sum-map : {X Y : Type 0} (f : Y → ℤ) (g : X → Y) (xs : List X) → int_sum_by f (map g xs) ≡ int_sum_by (λ x. f (g x)) xs
sum-map f g [] = refl
sum-map f g (x ∷ xs) = ap (λ z. f (g x) +ℤ z) (sum-map f g xs)

pub sum-flat_map : {X Y : Type 0} (f : Y → ℤ) (h : X → List Y) (xs : List X) → int_sum_by f (flat_map h xs) ≡ int_sum_by (λ x. int_sum_by f (h x)) xs
sum-flat_map f h [] = refl
sum-flat_map f h (x ∷ xs) = sum-append f (h x) (flat_map h xs) ∙ ap (λ z. int_sum_by f (h x) +ℤ z) (sum-flat_map f h xs)

pub sum-times : {X : Type 0} (f : X → ℤ) (k : ℤ) (xs : List X) → int_sum_by (λ x. f x *ℤ k) xs ≡ int_sum_by f xs *ℤ k
sum-times f k [] = sym (zero-*ℤ k)
sum-times f k (x ∷ xs) = ap (λ z. f x *ℤ k +ℤ z) (sum-times f k xs) ∙ sym (sum_times (f x) (int_sum_by f xs) k)

pub times-sum : {X : Type 0} (k : ℤ) (f : X → ℤ) (xs : List X) → int_sum_by (λ x. k *ℤ f x) xs ≡ k *ℤ int_sum_by f xs
times-sum k f [] = sym (*ℤ-zero k)
times-sum k f (x ∷ xs) = ap (λ z. k *ℤ f x +ℤ z) (times-sum k f xs) ∙ sym (times_sum k (f x) (int_sum_by f xs))

pub sum-sums : {X : Type 0} (f g : X → ℤ) (xs : List X) → int_sum_by (λ x. f x +ℤ g x) xs ≡ int_sum_by f xs +ℤ int_sum_by g xs
sum-sums f g [] = refl
sum-sums f g (x ∷ xs) = let rest = sum-sums f g xs in omega (arith, ints)

pub sum-zeros : {X : Type 0} (xs : List X) → int_sum_by (λ (x : X). pos 0) xs ≡ pos 0
sum-zeros [] = refl
sum-zeros (x ∷ xs) = +ℤ_idl (int_sum_by (λ x. pos 0) xs) ∙ sum-zeros xs

pub sum-exchange : {X Y : Type 0} (f : X → Y → ℤ) (xs : List X) (ys : List Y) → int_sum_by (λ x. int_sum_by (f x) ys) xs ≡ int_sum_by (λ y. int_sum_by (λ x. f x y) xs) ys
sum-exchange f [] ys = sym (sum-zeros ys)
sum-exchange f (x ∷ xs) ys =
    ap (λ z. int_sum_by (f x) ys +ℤ z) (sum-exchange f xs ys) ∙ sym (sum-sums (f x) (λ y. int_sum_by (λ x. f x y) xs) ys)

pub product-equal : (n : ℕ) (f g : ℕ → ℤ) → ((i : ℕ) → i < n → f i ≡ g i) → int_product_below n f ≡ int_product_below n g
product-equal zero f g e = refl
product-equal (suc n) f g e =
    ap (λ z. z *ℤ f n) (product-equal n f g (λ i h. e i (omega arith))) ∙ ap (λ z. int_product_below n g *ℤ z) (e n (omega arith))

pub product-front : (n : ℕ) (f : ℕ → ℤ) → int_product_below (suc n) f ≡ f 0 *ℤ int_product_below n (λ i. f (suc i))
product-front zero f = *ℤ_comm (pos 1) (f 0)
product-front (suc n) f =
    ap (λ z. z *ℤ f (suc n)) (product-front n f) ∙ times_assoc (f 0) (int_product_below n (λ i. f (suc i))) (f (suc n))

pub product-products : (n : ℕ) (f g : ℕ → ℤ) → int_product_below n (λ i. f i *ℤ g i) ≡ int_product_below n f *ℤ int_product_below n g
product-products zero f g = refl
product-products (suc n) f g =
    ap (λ z. z *ℤ (f n *ℤ g n)) (product-products n f g) ∙ times_four (int_product_below n f) (int_product_below n g) (f n) (g n)

-- a product that is taken where each of its tests holds
pub product-tested : (n : ℕ) (p : ℕ → Bool) (f : ℕ → ℤ) → (if each_below n p then int_product_below n f else pos 0) ≡ int_product_below n (λ i. if p i then f i else pos 0)
product-tested zero p f = refl
product-tested (suc n) p f =
    both (each_below n p) (p n) (int_product_below n f) (f n) ∙ ap (λ z. z *ℤ (if p n then f n else pos 0)) (product-tested n p f)
  where
    both : (a b : Bool) (x y : ℤ) → (if a && b then x *ℤ y else pos 0) ≡ (if a then x else pos 0) *ℤ (if b then y else pos 0)
    both true true x y = refl
    both true false x y = sym (*ℤ-zero x)
    both false true x y = sym (zero-*ℤ y)
    both false false x y = refl

-- over all lists of so many exponents, a product with a factor for each dimension has for its sum the product of
-- the factors' sums
pub distribute : (dims g : ℕ) (a : ℕ → ℕ → ℤ) → int_sum_by (λ es. int_product_below dims (λ i. a i (slice_index es i))) (exponent_lists dims g) ≡ int_product_below dims (λ i. int_sum_by (a i) (range_with_len 0 (g + 1)))
distribute zero g a = refl
distribute (suc n) g a =
    let lists : List (List ℕ) = exponent_lists n g in
    let numbers : List ℕ = range_with_len 0 (g + 1) in
    let whole : List ℕ → ℤ = λ es. int_product_below (suc n) (λ i. a i (slice_index es i)) in
    let rest : List ℕ → ℤ = λ es. int_product_below n (λ i. a (suc i) (slice_index es i)) in
    let sums : ℕ → ℤ = λ i. int_sum_by (a i) numbers in
    sum-flat_map whole (λ e. map (λ es. e ∷ es) lists) numbers
    ∙ sum-equal (λ e. int_sum_by whole (map (λ es. e ∷ es) lists)) (λ e. a 0 e *ℤ int_product_below n (λ i. sums (suc i))) numbers
    (λ e. sum-map whole (λ es. e ∷ es) lists
    ∙ sum-equal (λ es. whole (e ∷ es)) (λ es. a 0 e *ℤ rest es) lists (λ es. product-front n (λ i. a i (slice_index (e ∷ es) i)))
    ∙ times-sum (a 0 e) rest lists
    ∙ ap (λ z. a 0 e *ℤ z) (distribute n g (λ i. a (suc i))))
    ∙ sum-times (a 0) (int_product_below n (λ i. sums (suc i))) numbers
    ∙ sym (product-front n sums)

-- ---- what holds of each member
abbrev pub EachOf : {X : Type 0} → (X → Type 0) → List X → Type 0
EachOf p [] = Unit {0}
EachOf p (x ∷ xs) = p x × EachOf p xs

each-append : {X : Type 0} (p : X → Type 0) (xs ys : List X) → EachOf p xs → EachOf p ys → EachOf p (xs ++ ys)
each-append p [] ys a b = b
each-append p (x ∷ xs) ys a b = (a.0, each-append p xs ys a.1 b)

each-map : {X Y : Type 0} (p : X → Type 0) (q : Y → Type 0) (g : X → Y) (xs : List X) → ((x : X) → p x → q (g x)) → EachOf p xs → EachOf q (map g xs)
each-map p q g [] h a = tt
each-map p q g (x ∷ xs) h a = (h x a.0, each-map p q g xs h a.1)

each-flat_map : {X Y : Type 0} (p : X → Type 0) (q : Y → Type 0) (g : X → List Y) (xs : List X) → ((x : X) → p x → EachOf q (g x)) → EachOf p xs → EachOf q (flat_map g xs)
each-flat_map p q g [] h a = tt
each-flat_map p q g (x ∷ xs) h a = each-append q (g x) (flat_map g xs) (h x a.0) (each-flat_map p q g xs h a.1)

each-range : (a n most : ℕ) → a + n ≤ most → EachOf (λ e. e < most) (range_with_len a n)
each-range a zero most h = tt
each-range a (suc n) most h = (omega arith, each-range (a + 1) n most (omega arith))

-- each exponent is at most the degree
pub exponents-small : (dims g : ℕ) → EachOf (λ es. (i : ℕ) → i < dims → slice_index es i < g + 1) (exponent_lists dims g)
exponents-small zero g = ((λ i h. absurd (omega arith)), tt)
exponents-small (suc n) g =
    each-flat_map (λ e. e < g + 1) (λ es. (i : ℕ) → i < suc n → slice_index es i < g + 1) (λ e. map (λ es. e ∷ es) (exponent_lists n g)) (range_with_len 0 (g + 1))
    (λ e small. each-map (λ es. (i : ℕ) → i < n → slice_index es i < g + 1) (λ es. (i : ℕ) → i < suc n → slice_index es i < g + 1) (λ es. e ∷ es) (exponent_lists n g) (longer e small) (exponents-small n g))
    (each-range 0 (g + 1) (g + 1) (omega arith))
  where
    longer : (e : ℕ) → e < g + 1 → (es : List ℕ) → ((i : ℕ) → i < n → slice_index es i < g + 1) → (i : ℕ) → i < suc n → slice_index (e ∷ es) i < g + 1
    longer e small es h zero lt = small
    longer e small es h (suc i) lt = h i (omega arith)

-- sums over lists beside one another, equal where something holds of each member of the second
pub sum-zip : {X Y : Type 0} (p : Y → Type 0) (f g : X × Y → ℤ) (xs : List X) (ys : List Y) → EachOf p ys → ((x : X) (y : Y) → p y → f (x, y) ≡ g (x, y)) → int_sum_by f (zip xs ys) ≡ int_sum_by g (zip xs ys)
sum-zip p f g [] ys a e = refl
sum-zip p f g (x ∷ xs) [] a e = refl
sum-zip p f g (x ∷ xs) (y ∷ ys) a e =
    ap (λ z. z +ℤ int_sum_by f (zip xs ys)) (e x y a.0) ∙ ap (λ z. g (x, y) +ℤ z) (sum-zip p f g xs ys a.1 e)
