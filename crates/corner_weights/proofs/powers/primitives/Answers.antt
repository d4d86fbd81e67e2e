use Rattle.std.proofs.Common.{◌≡◌, ℕ, refl, pos, ◌-ℤ◌}
use Rattle.bw_types.specs.Residues.{residue}
use Rattle.corner_weights.specs.Planes.{primitive}
use Rattle.corner_weights.proofs.CornerSums.{three}
use Rattle.corner_weights.proofs.Steps.{primitive_is}
use Rattle.corner_weights.proofs.powers.primitives.Goals as goal

pub returns : goal.returns
returns c =
    let at = pos c.args.number -ℤ pos c.args.origin in
    three (λ (e x : ℕ). x ≡ residue (primitive e at)) c.res_mul.result c.res_mul-2.result c.res_mul-3.result
    (primitive_is 0 at 6 c.power.result c.res_mul.result refl c.power.ensures c.res_mul.ensures)
    (primitive_is 1 at 3 c.power-2.result c.res_mul-2.result refl c.power-2.ensures c.res_mul-2.ensures)
    (primitive_is 2 at 2 c.power-3.result c.res_mul-3.result refl c.power-3.ensures c.res_mul-3.ensures)
