-- Texts of a list, one after the other.
use Rattle.std.proofs.Common.{◌≡◌, ℕ, suc, ◌+◌, ◌-◌, ◌<◌, List, ◌∷◌, ◌++◌, length, [], true, ◌==◌, drop, get_or, sym, ap, ◌∙◌, add-one, append_assoc, arith}
use Rattle.std.proofs.Math.Seq.{drop-cons}
use Rattle.std.proofs.lemmas.Bool.{eqb-true}
use Rattle.std.proofs.lemmas.List.{nil_from_length}
use Rattle.std.specs.List.{flat_map, range_with_len}

pub texts_drop : {X : Type 0} (f : X → List ℕ) (xs : List X) (i : ℕ) (d : X) → i < length xs
    → flat_map f (drop i xs) ≡ f (get_or xs i d) ++ flat_map f (drop (i + 1) xs)
texts_drop f xs i d within = ap (flat_map f) (drop-cons xs i d within) ∙ ap (λ (n : ℕ). f (get_or xs i d) ++ flat_map f (drop n xs)) (sym (add-one i))

pub texts_range : (f : ℕ → List ℕ) (i n : ℕ) → i < n → flat_map f (range_with_len i (n - i)) ≡ f i ++ flat_map f (range_with_len (i + 1) (n - (i + 1)))
texts_range f i n below =
    let e : n - i ≡ suc (n - (i + 1)) = omega (arith, below) in
    ap (λ (k : ℕ). flat_map f (range_with_len i k)) e

-- the first of some texts before a last one
pub texts_first : {X : Type 0} (f : X → List ℕ) (x : X) (xs ys : List X) (last : List ℕ) → xs ≡ x ∷ ys → flat_map f xs ++ last ≡ f x ++ (flat_map f ys ++ last)
texts_first {X = X} f x xs ys last e = ap (λ (zs : List X). flat_map f zs ++ last) e ∙ append_assoc (f x) (flat_map f ys) last

-- a list of no elements
pub none_left : {X : Type 0} (xs : List X) → true ≡ (length xs == 0) → xs ≡ []
none_left xs e = nil_from_length xs (eqb-true (length xs) 0 (sym e))
