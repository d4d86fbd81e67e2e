-- Pieces of text that are put one after the other, and the lines of all cells.
use Rattle.std.proofs.Common.{◌≡◌, ℕ, zero, suc, ◌+◌, ◌<◌, List, [], ◌∷◌, ◌++◌, length, take, map, min, get_or, sym, ap, ap₂, ◌∙◌, arith}
use Rattle.std.proofs.lemmas.List.{flat_map_more, take_more}
use Rattle.std.specs.List.{flat_map, range_with_len, zip}
use Rattle.grid_report.proofs.Maps.{map-range, range-append}

-- the piece of one element more
pub piece-more : (f : ℕ → List ℕ) (xs : List ℕ) (i x : ℕ) (old text new : List ℕ) → i < length xs → x ≡ get_or xs i 0 → text ≡ old ++ flat_map f (take i xs) → new ≡ text ++ f x
    → new ≡ old ++ flat_map f (take (i + 1) xs)
piece-more f xs i x old text new h is before put =
    put ∙ ap (λ t. t ++ f x) before ∙ flat_map_more f old (take i xs) x ∙ ap (λ y. old ++ flat_map f (take i xs ++ y ∷ [])) is ∙ ap (λ ys. old ++ flat_map f ys) (sym (take_more xs i 0 h))

-- the piece of one number more
pub number-more : (f : ℕ → List ℕ) (n : ℕ) (old text new : List ℕ) → text ≡ old ++ flat_map f (range_with_len 0 n) → new ≡ text ++ f n → new ≡ old ++ flat_map f (range_with_len 0 (n + 1))
number-more f n old text new before put =
    let last : 0 + n ≡ n = omega arith in
    put ∙ ap (λ t. t ++ f n) before ∙ flat_map_more f old (range_with_len 0 n) n ∙ ap (λ ys. old ++ flat_map f ys) (ap (λ k. range_with_len 0 n ++ k ∷ []) (sym last) ∙ sym (range-append 0 n 1))

-- what f gives of a number, counted from a, and the element of the list at its place
abbrev pub pair_at : {A B : Type 0} → (ℕ → A) → ℕ → List B → B → ℕ → A × B
pair_at f a ys d k = (f (a + k), get_or ys k d)

-- what f gives of a range beside a list, as far as both go
pub zip-range : {A B : Type 0} (f : ℕ → A) (a n : ℕ) (ys : List B) (d : B) → zip (map f (range_with_len a n)) ys ≡ map (pair_at f a ys d) (range_with_len 0 (min n (length ys)))
zip-range f a zero ys d =
    let none : min 0 (length ys) ≡ 0 = omega arith in
    ap (λ m. map (pair_at f a ys d) (range_with_len 0 m)) (sym none)
zip-range f a (suc n) [] d =
    let none : min (suc n) 0 ≡ 0 = omega arith in
    ap (λ m. map (pair_at f a [] d) (range_with_len 0 m)) (sym none)
zip-range f a (suc n) (y ∷ ys) d =
    let first : a ≡ a + 0 = omega arith in
    let size : suc (min n (length ys)) ≡ min (suc n) (suc (length ys)) = omega arith in
    let next = λ (k : ℕ) (h : k < min n (length ys)). (
    let same : a + 1 + (0 + k) ≡ a + (1 + k) = omega arith in
    let more : suc (0 + k) ≡ 1 + k = omega arith in
    ap₂ (λ u v. (f u, v)) same (ap (λ m. get_or (y ∷ ys) m d) more)) in
    let rest : zip (map f (range_with_len (a + 1) n)) ys ≡ map (pair_at f a (y ∷ ys) d) (range_with_len 1 (min n (length ys))) =
    zip-range f (a + 1) n ys d ∙ map-range (pair_at f (a + 1) ys d) (pair_at f a (y ∷ ys) d) 0 1 (min n (length ys)) next in
    ap (λ ps. (f a, y) ∷ ps) rest ∙ ap (λ u. (f u, y) ∷ map (pair_at f a (y ∷ ys) d) (range_with_len 1 (min n (length ys)))) first ∙ ap (λ m. map (pair_at f a (y ∷ ys) d) (range_with_len 0 m)) size
