-- What the order of numbers tells of them.
use Rattle.std.proofs.Common.{◌≡◌, ◌≢◌, ℕ, ◌/◌, inl, inr, Result, Ok, Err, MatchResult, Bool, cond, zero, suc, ◌+◌, ◌<◌, ◌≤◌, ◌==◌, ◌||◌, List, [], ◌∷◌, length, map, get_or, refl, sym, ◌∙◌, ap, arith, IsPermutation}
use Rattle.std.specs.List.{list_any}
use Rattle.std.specs.Result.{is_ok}
use Rattle.std.proofs.Math.Dec.{eqb-suc-zero}
use Rattle.std.proofs.lemmas.Bool.{cases_lt, ne_eqb, eq-eqb}
use Rattle.std.proofs.lemmas.List.{get_or_default}
use Rattle.std.proofs.lemmas.List.Folds.{list_any_at, list_any_none}
use Rattle.std.proofs.lemmas.List.Sorted.{list_any-IsPermutation}
use Rattle.bw_types.specs.declared.point.Point.{Point}
use Rattle.bw_types.specs.Digits.{digit_count}
use Rattle.bw_types.specs.DigitLaws.{digits_unfold}
use Rattle.sb_tree.specs.Stands.{is_marked}

any_map : (points : List Point) (v : ℕ) → list_any (λ x. x == v) (map (λ p. p.version) points) ≡ list_any (λ p. p.version == v) points
any_map [] v = refl
any_map (p ∷ points) v = ap (λ (b : Bool). p.version == v || b) (any_map points v)

-- Whether a version is that of a point shows in the versions in any order.
pub any_of : (points : List Point) (versions : List ℕ) (v : ℕ) → IsPermutation (map (λ p. p.version) points) versions
    → list_any (λ x. x == v) versions ≡ list_any (λ p. p.version == v) points
any_of points versions v p = sym (list_any-IsPermutation (λ x. x == v) (map (λ q. q.version) points) versions p) ∙ any_map points v

-- What a search in numbers that rise tells.
pub among : (xs : List ℕ) (x : ℕ) (r : Result ℕ ℕ)
    → MatchResult r (λ i. (i < length xs) × (get_or xs i 0 ≡ x)) (λ i. (i ≤ length xs) × ((k : ℕ) → k < i → get_or xs k 0 < x) × ((k : ℕ) → i ≤ k → k < length xs → x < get_or xs k 0))
    → is_ok r ≡ list_any (λ v. v == x) xs
among xs x (Ok i) m = sym (list_any_at (λ v. v == x) xs i 0 m.0 (eq-eqb (get_or xs i 0) x m.1))
among xs x (Err i) m = sym (list_any_none (λ v. v == x) xs (λ k d h. ne_eqb (get_or xs k d) x (λ e. elim (cases_lt k i) [
  | inl before ↦ absurd (omega (arith, m.1 k before, get_or_default xs k d 0 h, e))
  | inr after ↦ absurd (omega (arith, m.2 k after h, get_or_default xs k d 0 h, e))
])))

pub no_digits : (b n digits : ℕ) → 2 ≤ b → n ≡ 0 → digits ≢ 0 → digits ≤ digit_count b n → ⊥
no_digits b zero digits base e some le = let u : digit_count b 0 ≡ 0 = digits_unfold b 0 base in some (omega arith)
no_digits b (suc n) digits base e some le = absurd (omega (arith, e))

pub one_digit_more : (b n : ℕ) → 2 ≤ b → n ≢ 0 → digit_count b n ≡ 1 + digit_count b (n / b)
one_digit_more b zero base some = absurd (some refl)
one_digit_more b (suc n) base some = digits_unfold b (suc n) base ∙ ap (λ (t : Bool). cond t 0 (1 + digit_count b (suc n / b))) (eqb-suc-zero n)

-- A version is marked where it is 0 or among the points' versions.
pub marked_is : (points : List Point) (versions : List ℕ) (v : ℕ) → IsPermutation (map (λ p. p.version) points) versions
    → (v == 0 || list_any (λ x. x == v) versions) ≡ is_marked points v
marked_is points versions v p = ap (λ (b : Bool). v == 0 || b) (any_of points versions v p)
