-- What a life gives to a total at a version.
use Rattle.std.specs.Prelude.{ℕ, Bool, ℤ, pos, if◌then◌else◌}
use Rattle.bw_types.specs.declared.object.Object.{Object}
use Rattle.warehouse.specs.Kept.{is_live_at}
use Rattle.warehouse.specs.declared.life.Life.{Life}

-- the number of its object, if it was live, and else 0
abbrev pub part_at : (Object → ℤ) → ℕ → Life → ℤ
part_at f version l = if is_live_at version l then f l.object else pos 0

-- the number of an object, if it passes the test, and else 0
abbrev pub part_if : (Object → Bool) → (Object → ℤ) → Object → ℤ
part_if p f o = if p o then f o else pos 0
