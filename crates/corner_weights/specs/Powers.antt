-- The powers of the ends of an object's box, from which the weights of its corners are made.
use Rattle.std.specs.Prelude.{◌≡◌, ℕ, ◌<◌, ◌≤◌, List, [], ℤ, slice_index}
use Rattle.std.specs.List.{slice_index_or}
use Rattle.bw_types.specs.Fits.{coordinate}
use Rattle.bw_types.specs.Residues.{residue}
use Rattle.bw_types.specs.declared.object.Object.{Object}
use Rattle.bw_types.specs.declared.params.Params.{Params}
use Rattle.corner_weights.specs.Planes.{primitive}
use Rattle.corner_weights.specs.declared.powers.BoxPowers.{BoxPowers}

-- The residues are those of the primitives of 1, of x and of x^2 at the coordinate.
abbrev pub ArePrimitives : ℤ → List ℕ → Type 0
ArePrimitives c residues = (e : ℕ) → e ≤ 2 → slice_index residues e ≡ residue (primitive e c)

-- They are those at each end of the object's box.
pub record ArePowersOf (params : Params) (o : Object) (powers : BoxPowers) : Type 0 where
  pub low : (i : ℕ) → i < 3 → ArePrimitives (coordinate params (slice_index o.low i)) (slice_index_or powers.low i [])
  pub high : (i : ℕ) → i < 3 → ArePrimitives (coordinate params (slice_index o.high i)) (slice_index_or powers.high i [])
