-- How a call tells which page is damaged, one level after another.
use Rattle.std.specs.Prelude.{◌≡◌, ℕ, zero, suc, ◌-◌, ◌≤◌, List, Some}
use Rattle.std.proofs.Common.{inl, inr, subst, arith}
use Rattle.ports.specs.Pages.{PageMap}
use Rattle.page_layout.specs.Damage.{HoldsNoNode, IsDamagedBelow}

module _ {N P : Type 0} (fits : ℕ → P → N → List ℕ → Type 0) (leads : P → N → ℕ → P → Type 0) (beside : PageMap → P → N → ℕ → Type 0) (map : PageMap) where
  -- The page itself is damaged.
  pub damaged_here : (level : ℕ) (place : P) (page damaged : ℕ) → 1 ≤ level → damaged ≡ page → HoldsNoNode fits map level place page
      → IsDamagedBelow fits leads beside map level place page damaged
  damaged_here zero place page damaged some same none = absurd (omega arith)
  damaged_here (suc level) place page damaged some same none = inl (same, none)

  -- A page is damaged that stands beside the children of its node.
  pub damaged_beside : (level : ℕ) (place : P) (page damaged : ℕ) (node : N) (bytes : List ℕ) → 1 ≤ level → map page ≡ Some bytes → fits level place node bytes
      → beside map place node damaged → IsDamagedBelow fits leads beside map level place page damaged
  damaged_beside zero place page damaged node bytes some there fit that = absurd (omega arith)
  damaged_beside (suc level) place page damaged node bytes some there fit that = inr (inl (node, bytes, there, fit, that))

  -- A page is damaged to which the call comes from a child.
  pub damaged_further : (level : ℕ) (place : P) (page damaged : ℕ) (node : N) (bytes : List ℕ) (child : ℕ) (inner : P) → 1 ≤ level → map page ≡ Some bytes
      → fits level place node bytes → leads place node child inner
      → IsDamagedBelow fits leads beside map (level - 1) inner child damaged → IsDamagedBelow fits leads beside map level place page damaged
  damaged_further zero place page damaged node bytes child inner some there fit lead below = absurd (omega arith)
  damaged_further (suc level) place page damaged node bytes child inner some there fit lead below =
      let less : suc level - 1 ≡ level = omega arith in
      inr (inr (node, bytes, child, inner, there, fit, lead, subst (λ (n : ℕ). IsDamagedBelow fits leads beside map n inner child damaged) less below))
