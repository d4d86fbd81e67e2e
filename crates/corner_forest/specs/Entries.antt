-- What is entered into a forest, and the points that entries have in each of its trees.
--
-- The trees stand in this order: for each subset of the dimensions one, of which sums and counts are both read, and one for
-- each plane. Subsets and planes are told by their numbers.
use Rattle.std.specs.Prelude.{ℕ, zero, suc, ◌+◌, ◌-◌, ◌*◌, ◌^◌, ◌<◌, ◌≤◌, Bool, nat_lt, if◌then◌else◌, List, [], ◌∷◌, length, map, ℤ, pos, ◌+ℤ◌, ◌*ℤ◌}
use Rattle.std.specs.List.{All, flat_map, range_with_len}
use Rattle.bw_types.specs.Residues.{residue, opposite_residue}
use Rattle.bw_types.specs.declared.params.Params.{Params}
use Rattle.bw_types.specs.declared.point.Point.{Point}
use Rattle.corner_weights.specs.Entries.{Entry, corner_point}
use Rattle.corner_weights.specs.Planes.{plane_count}
use Rattle.corner_weights.specs.PlaneSums.{Entered, plane_point}

-- how many subsets of the dimensions there are, and so corners of a box
abbrev pub corner_count : Params → ℕ
corner_count params = 2 ^ params.dims

-- how many trees there are
abbrev pub root_count : Params → ℕ
root_count params = corner_count params + plane_count params

-- the residue, or its opposite where the entry takes an object out
abbrev pub entered_residue : Bool → ℕ → ℕ
entered_residue minus weight = if minus then opposite_residue weight else weight

-- a weight and a count as one number: the count takes the lowest 32 bits
abbrev pub sum_and_count : ℤ → ℤ → ℤ
sum_and_count sum count = sum *ℤ pos (2 ^ 32) +ℤ count

-- the weight of the entry and its count of 1 in one number, modulo 2^128
abbrev pub weight_and_count : Entered → ℕ
weight_and_count e = entered_residue e.minus (residue (sum_and_count e.object.weight (pos 1)))

-- the entry as an object with its weight that counts 1
abbrev pub as_met : Entered → Entry
as_met e = record { object = e.object; number = e.event; version = e.version; weight = weight_and_count e }

-- how many points an entry has in this tree: one, or in a plane one for each corner
abbrev pub point_count : Params → ℕ → ℕ
point_count params root = if nat_lt root (corner_count params) then 1 else corner_count params

-- the entry's point in this tree; in a plane that of this corner
abbrev pub entry_point : Params → Entered → ℕ → ℕ → Point
entry_point params e root corner =
    if nat_lt root (corner_count params) then corner_point params.dims root (as_met e)
    else plane_point params (root - corner_count params) corner e

-- all points of the entry in this tree
abbrev pub entry_points : Params → ℕ → Entered → List Point
entry_points params root e = map (entry_point params e root) (range_with_len 0 (point_count params root))

-- the points of all entries in this tree
abbrev pub root_points : Params → List Entered → ℕ → List Point
root_points params entries root = flat_map (entry_points params root) entries

-- the points of the entry's first corners in this tree, so many of them, that of the last corner first
abbrev pub points_below : Params → Entered → ℕ → ℕ → List Point
points_below params e root zero = []
points_below params e root (suc n) = entry_point params e root n ∷ points_below params e root n

-- the points that an entry adds to this tree, in the order in which they are added
abbrev pub added_points : Params → ℕ → Entered → List Point
added_points params root e = points_below params e root (point_count params root)

-- those that a batch of entries adds to this tree, one entry after the other
abbrev pub batch_points : Params → ℕ → List Entered → List Point
batch_points params root batch = flat_map (added_points params root) batch

-- The entry may follow the others: its event is after all of theirs, its version is no earlier, and with it no tree has
-- more than 2^31 points.
pub record IsNextEntry (params : Params) (entries : List Entered) (e : Entered) : Type 0 where
  pub after : All (λ f. f.event < e.event) entries
  pub last : All (λ f. f.version ≤ e.version) entries
  pub few : length entries * corner_count params + corner_count params ≤ 2 ^ 31

-- Each entry of the batch may follow the others and those of the batch before it.
abbrev pub AreNextEntries : Params → List Entered → List Entered → Type 0
AreNextEntries params entries [] = Unit {0}
AreNextEntries params entries (e ∷ batch) = IsNextEntry params entries e × AreNextEntries params (e ∷ entries) batch

-- the entries once those of the batch are made: the last one comes first
abbrev pub with_entries : List Entered → List Entered → List Entered
with_entries [] entries = entries
with_entries (e ∷ batch) entries = with_entries batch (e ∷ entries)
