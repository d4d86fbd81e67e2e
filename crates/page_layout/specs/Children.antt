-- Which child an entry of a tree page may have.
use Rattle.std.specs.Prelude.{ℕ, Bool, ◌==◌, nat_le, if◌then◌else◌}

-- the entries of a leaf have none, which is spelled 0; in an index node a child is at least 3
abbrev pub child_fits : ℕ → ℕ → Bool
child_fits level child = if level == 1 then child == 0 else nat_le 3 child
