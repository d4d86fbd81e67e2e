-- Where each page on the way of a call holds its node, none on it is damaged: one step for every kind of tree.
use Rattle.std.specs.Prelude.{◌≡◌, ℕ, zero, suc, ◌-◌, List, Some}
use Rattle.std.proofs.Common.{inl, inr, sym, subst, arith}
use Rattle.ports.specs.Pages.{PageMap}
use Rattle.page_layout.specs.Damage.{IsDamagedBelow}

module _ {N P : Type 0} (fits : ℕ → P → N → List ℕ → Type 0) (leads : P → N → ℕ → P → Type 0) (beside : PageMap → P → N → ℕ → Type 0) (map : PageMap) where
  -- On no level is nothing damaged.
  pub none_below : (level : ℕ) (place : P) (page damaged : ℕ) → level ≡ 0 → IsDamagedBelow fits leads beside map level place page damaged → ⊥
  none_below level place page damaged none d = subst (λ (l : ℕ). IsDamagedBelow fits leads beside map l place page damaged) none d

  -- The page holds a node, and no other; nothing is damaged beside its children, nor from a child on to which it leads.
  pub whole_below : (level : ℕ) (place : P) (page : ℕ) (node : N) (bytes : List ℕ) → map page ≡ Some bytes → fits level place node bytes
      → ((other : N) (read : List ℕ) → map page ≡ Some read → fits level place other read → node ≡ other)
      → ((damaged : ℕ) → beside map place node damaged → ⊥)
      → ((child : ℕ) (inner : P) (damaged : ℕ) → leads place node child inner → IsDamagedBelow fits leads beside map (level - 1) inner child damaged → ⊥)
      → (damaged : ℕ) → IsDamagedBelow fits leads beside map level place page damaged → ⊥
  whole_below zero place page node bytes there fit only alone below damaged d = d
  whole_below (suc level) place page node bytes there fit only alone below damaged (inl d) = d.1 node bytes there fit
  whole_below (suc level) place page node bytes there fit only alone below damaged (inr (inl d)) =
      alone damaged (subst (λ (n : N). beside map place n damaged) (sym (only d.0 d.1 d.2 d.3)) d.4)
  whole_below (suc level) place page node bytes there fit only alone below damaged (inr (inr d)) =
      let less : suc level - 1 ≡ level = omega arith in
      below d.2 d.3 damaged (subst (λ (n : N). leads place n d.2 d.3) (sym (only d.0 d.1 d.4 d.5)) d.6)
      (subst (λ (n : ℕ). IsDamagedBelow fits leads beside map n d.3 d.2 damaged) (sym less) d.7)
