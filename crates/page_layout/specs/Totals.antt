-- Totals over the first entries.
use Rattle.std.proofs.Common.{◌≡◌, ℕ, suc, ◌+◌, ◌%◌, ◌<◌, List, [], ◌∷◌, ◌++◌, length, get_or, take, sym, ap, ◌∙◌, arith}
use Rattle.std.proofs.Math.Nat.{mod-add-mod}
use Rattle.std.proofs.Math.Seq.{take-suc}
use Rattle.std.proofs.lemmas.List.Sums.{sum_by_push}
use Rattle.std.specs.List.{sum_by}

-- the total with one more entry
pub next_total : {X : Type 0} (f : X → ℕ) (xs : List X) (i total part m : ℕ) (e : X) → i < length xs → ((d : X) → e ≡ get_or xs i d) → part ≡ f e
    → total ≡ sum_by f (take i xs) % m → (total + part) % m ≡ sum_by f (take (i + 1) xs) % m
next_total {X} f xs i total part m e lt is_e is_part is_total =
    let next : i + 1 ≡ suc i = omega arith in
    let one : take (i + 1) xs ≡ take i xs ++ e ∷ [] = ap (λ (n : ℕ). take n xs) next ∙ take-suc xs i e lt ∙ ap (λ (x : X). take i xs ++ x ∷ []) (sym (is_e e)) in
    let whole : sum_by f (take (i + 1) xs) ≡ sum_by f (take i xs) + f e = ap (sum_by f) one ∙ sum_by_push f (take i xs) e in
    ap (λ (n : ℕ). (n + part) % m) is_total ∙ ap (λ (n : ℕ). (sum_by f (take i xs) % m + n) % m) is_part
    ∙ mod-add-mod (sum_by f (take i xs)) m (f e) ∙ ap (λ (n : ℕ). n % m) (sym whole)
