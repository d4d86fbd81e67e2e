-- The pages that were seen, as the keys of a set and as a list.
use Rattle.std.proofs.Common.{◌≡◌, ℕ, Bool, true, false, cond, ◌||◌, ◌==◌, List, [], ◌∷◌, ◌++◌, refl, sym, ap, ◌∙◌, inl, inr, arith}
use Rattle.std.specs.List.{list_any}
use Rattle.std.specs.Ordering.{nat_cmp}
use Rattle.std.specs.BTreeMap.{is_at}
use Rattle.std.proofs.lemmas.Bool.{cases_lt, cases_eq, lt-ltb, le-ltb, eq-eqb, ne_eqb}
use Rattle.ports.specs.Frame.{names_page}
use Rattle.ports.specs.FrameLaws.{names_page-append}

-- a key is found exactly where it is the page
pub same_test : (k x : ℕ) → is_at (nat_cmp k) x ≡ (x == k)
same_test k x = elim (cases_lt k x) [
  | inl less ↦ (let first = lt-ltb k x less in let other : (x == k) ≡ false = ne_eqb x k (λ e. absurd (omega (arith, e, less))) in rw (first, other) refl)
  | inr most ↦ (let first = le-ltb k x most in elim (cases_eq x k) [
    | inl same ↦ (let here : (x == k) ≡ true = eq-eqb x k same in let there : (k == x) ≡ true = eq-eqb k x (sym same) in rw (first, here, there) refl)
    | inr other ↦ (let here : (x == k) ≡ false = ne_eqb x k other in let there : (k == x) ≡ false = ne_eqb k x (λ e. other (sym e)) in rw (first, here, there) refl)
  ])
]

pub contains_named : (keys : List ℕ) (k : ℕ) → list_any (is_at (nat_cmp k)) keys ≡ names_page keys k
contains_named [] k = refl
contains_named (x ∷ xs) k = ap (λ (b : Bool). b || list_any (is_at (nat_cmp k)) xs) (same_test k x) ∙ ap (λ (b : Bool). (x == k) || b) (contains_named xs k)

either : (a b : Bool) → cond a true b ≡ (b || (a || false))
either true true = refl
either true false = refl
either false true = refl
either false false = refl

flipped : (p page : ℕ) → (p == page) ≡ (page == p)
flipped p page = elim (cases_eq p page) [
  | inl same ↦ eq-eqb p page same ∙ sym (eq-eqb page p (sym same))
  | inr other ↦ ne_eqb p page other ∙ sym (ne_eqb page p (λ e. other (sym e)))
]

-- after one more page the set names that page and those that it named
pub names_added : (old new : List ℕ) (page : ℕ)
    → ((q : ℕ) → list_any (is_at (nat_cmp q)) new ≡ cond (is_at (nat_cmp page) q) true (list_any (is_at (nat_cmp q)) old))
    → (p : ℕ) → names_page new p ≡ names_page (old ++ page ∷ []) p
names_added old new page more p =
    sym (contains_named new p)
    ∙ more p
    ∙ ap (λ (b : Bool). cond b true (list_any (is_at (nat_cmp p)) old)) (same_test page p ∙ flipped p page)
    ∙ ap (λ (b : Bool). cond (page == p) true b) (contains_named old p)
    ∙ either (page == p) (names_page old p)
    ∙ sym (names_page-append old (page ∷ []) p)
