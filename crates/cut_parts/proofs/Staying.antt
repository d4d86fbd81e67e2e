-- Pages that stay as they are, through one change after another.
use Rattle.std.proofs.Common.{◌≡◌, ℕ, true, inl, inr, List, Option, None, Some, IsSome, sym, subst, ◌∙◌}
use Rattle.std.proofs.lemmas.Bool.{cases_Bool}
use Rattle.ports.specs.Frame.{Replaces, names_page}
use Rattle.ports.specs.Pages.{PageMap}
use Rattle.cut_parts.specs.Borders.{OthersStay}

not_missing : (o : Option (List ℕ)) → o ≡ None → IsSome o → ⊥
not_missing None none some = cc
not_missing (Some bytes) none some = cc

pub stay_then : (a b c : ℕ → Type 0) (m0 m1 m2 : PageMap) → OthersStay a m0 m1 → OthersStay b m1 m2 → ((p : ℕ) → a p → c p) → ((p : ℕ) → b p → c p)
    → OthersStay c m0 m2
stay_then a b c m0 m1 m2 first second left right = λ page some beside.
    let same : m1 page ≡ m0 page = first page some (λ x. beside (left page x)) in
    let there : IsSome (m1 page) = subst (λ (o : Option (List ℕ)). IsSome o) (sym same) some in
    second page there (λ x. beside (right page x)) ∙ same

pub stay_more : (a c : ℕ → Type 0) (m0 m1 : PageMap) → OthersStay a m0 m1 → ((p : ℕ) → a p → c p) → OthersStay c m0 m1
stay_more a c m0 m1 first more = λ page some beside. first page some (λ x. beside (more page x))

pub stay_by : (old new : List ℕ) (m0 m1 : PageMap) → Replaces old new m0 m1 → OthersStay (λ p. names_page old p ≡ true) m0 m1
stay_by old new m0 m1 change = λ page some beside. elim (cases_Bool (names_page old page)) [
  | inl named ↦ absurd (beside named)
  | inr other ↦ elim (cases_Bool (names_page new page)) [
    | inl fresh ↦ absurd (not_missing (m0 page) (change.fresh page other fresh) some)
    | inr none ↦ change.others page other none
  ]
]
