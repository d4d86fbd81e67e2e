-- The powers of a box's ends at its corners.
use Rattle.std.proofs.Common.{◌≡◌, ℕ, zero, suc, ◌<◌, ◌≤◌, true, false, [], ◌∷◌, slice_index, slice_index_or, refl, sym, ap, ◌∙◌, arith}
use Rattle.bw_types.specs.Fits.{coordinate}
use Rattle.bw_types.specs.Residues.{residue}
use Rattle.bw_types.specs.declared.object.Object.{Object}
use Rattle.bw_types.specs.declared.params.Params.{Params}
use Rattle.corner_weights.specs.Corners.{object_corner, object_end}
use Rattle.corner_weights.specs.Subsets.{is_in_subset}
use Rattle.corner_weights.specs.Planes.{primitive}
use Rattle.corner_weights.specs.Powers.{ArePowersOf}
use Rattle.corner_weights.specs.declared.powers.BoxPowers.{BoxPowers}

-- one of three numbers by its place
pub three : (P : ℕ → ℕ → Type 0) (a b c : ℕ) → P 0 a → P 1 b → P 2 c → (i : ℕ) → i ≤ 2 → P i (slice_index (a ∷ b ∷ c ∷ []) i)
three P a b c p q r zero h = p
three P a b c p q r (suc zero) h = q
three P a b c p q r (suc (suc zero)) h = r
three P a b c p q r (suc (suc (suc i))) h = absurd (omega arith)

-- a corner's coordinate is an end's
corner_is : (o : Object) (subset i : ℕ) → i < 3 → slice_index (object_corner o subset) i ≡ object_end o subset i
corner_is o subset zero h = refl
corner_is o subset (suc zero) h = refl
corner_is o subset (suc (suc zero)) h = refl
corner_is o subset (suc (suc (suc i))) h = absurd (omega arith)

module _ (params : Params) (o : Object) (powers : BoxPowers) (subset i e : ℕ) (are : ArePowersOf params o powers) (lt : i < 3) (le : e ≤ 2) where
  pub at_high : is_in_subset i subset ≡ true → slice_index (slice_index_or powers.high i []) e ≡ residue (primitive e (coordinate params (slice_index (object_corner o subset) i)))
  at_high inside =
      let end : object_end o subset i ≡ slice_index o.high i = rw inside refl in
      are.high i lt e le ∙ ap (λ n. residue (primitive e (coordinate params n))) (sym (corner_is o subset i lt ∙ end))

  pub at_low : is_in_subset i subset ≡ false → slice_index (slice_index_or powers.low i []) e ≡ residue (primitive e (coordinate params (slice_index (object_corner o subset) i)))
  at_low outside =
      let end : object_end o subset i ≡ slice_index o.low i = rw outside refl in
      are.low i lt e le ∙ ap (λ n. residue (primitive e (coordinate params n))) (sym (corner_is o subset i lt ∙ end))
