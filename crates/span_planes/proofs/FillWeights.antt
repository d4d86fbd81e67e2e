-- The weights of the points in the trees of spans.
use Rattle.std.proofs.Common.{◌≡◌, ℕ, ◌*◌, ◌%◌, ◌^◌, ◌<◌, ℤ, pos, ◌*ℤ◌, sym, ap, ◌∙◌, arith}
use Rattle.bw_types.specs.Residues.{residue}
use Rattle.bw_types.specs.ResidueLaws.{residue_of_product, residue_of_small}

-- the residue of a weight times a version
pub dated_residue : (product version own v : ℕ) (weight : ℤ) → product ≡ (version * own) % 2 ^ 128 → version ≡ v → own ≡ residue weight → v < 2 ^ 32
    → product ≡ residue (pos v *ℤ weight)
dated_residue product version own v weight is is_version is_own small =
    is ∙ ap (λ (a : ℕ). (a * own) % 2 ^ 128) is_version ∙ ap (λ (b : ℕ). (v * b) % 2 ^ 128) is_own
    ∙ sym (ap (λ (a : ℕ). (a * residue weight) % 2 ^ 128) (residue_of_small v (omega (arith, small)))) ∙ sym (residue_of_product (pos v) weight)
