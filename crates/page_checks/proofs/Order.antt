-- What the order of page numbers tells of them.
use Rattle.std.proofs.Common.{◌≡◌, ℕ, ◌-◌, add-one, zero, suc, ◌+◌, ◌<◌, ◌≤◌, ◌==◌, List, [], ◌∷◌, length, get_or, sym, ◌∙◌, subst, arith}
use Rattle.std.proofs.lemmas.Bool.{ne_eqb, eq-eqb, false≢true}
use Rattle.std.proofs.lemmas.List.{get_or_default}
use Rattle.std.proofs.lemmas.List.Folds.{list_any_at, list_any_none}
use Rattle.page_layout.specs.Footprint.{NamesNoneTwice}

-- Each number is below the next.
abbrev pub Rise : List ℕ → Type 0
Rise xs = (k : ℕ) → suc k < length xs → get_or xs k 0 < get_or xs (suc k) 0

first_below : (x : ℕ) (xs : List ℕ) → Rise (x ∷ xs) → (k : ℕ) → k < length xs → x < get_or xs k 0
first_below x xs up zero h = up 0 (omega (arith, h))
first_below x xs up (suc k) h =
    let before : x < get_or xs k 0 = first_below x xs up k (omega (arith, h)) in
    let on : get_or xs k 0 < get_or xs (suc k) 0 = up (suc k) (omega (arith, h)) in
    omega (arith, before, on)

pub rise_once : (xs : List ℕ) → Rise xs → NamesNoneTwice xs
rise_once [] up = tt
rise_once (x ∷ xs) up = (
  list_any_none (λ p. p == x) xs (λ k d h. ne_eqb (get_or xs k d) x (λ e. absurd (omega (arith, first_below x xs up k h, get_or_default xs k d 0 h, e)))),
  rise_once xs (λ k h. up (suc k) (omega (arith, h))),
)

pub twice : (xs : List ℕ) (k : ℕ) → suc k < length xs → get_or xs k 0 ≡ get_or xs (suc k) 0 → NamesNoneTwice xs → ⊥
twice [] k h e once = absurd (omega (arith, h))
twice (x ∷ xs) zero h e once = false≢true (sym once.0 ∙ list_any_at (λ p. p == x) xs 0 0 (omega (arith, h)) (eq-eqb (get_or xs 0 0) x (sym e)))
twice (x ∷ xs) (suc k) h e once = twice xs k (omega (arith, h)) e once.1

pub rises : (xs : List ℕ) (place : ℕ) → length xs ≤ place → ((k : ℕ) → k + 1 < place → get_or xs k 0 < get_or xs (k + 1) 0) → Rise xs
rises xs place end up = λ k h. subst (λ (n : ℕ). get_or xs k 0 < get_or xs n 0) (add-one k) (up k (omega (arith, h)))

pub twice_at : (xs : List ℕ) (place : ℕ) → 1 ≤ place → place < length xs → get_or xs (place - 1) 0 ≡ get_or xs place 0 → NamesNoneTwice xs → ⊥
twice_at xs zero some h e once = absurd (omega arith)
twice_at xs (suc k) some h e once =
    let one : suc k - 1 ≡ k = omega arith in
    twice xs k h (subst (λ (n : ℕ). get_or xs n 0 ≡ get_or xs (suc k) 0) one e) once
