-- What a check finds of a multiversion tree: its numbers, and the roots that the steps of its directory tell.
use Rattle.std.specs.Prelude.{◌≡◌, ◌≢◌, ℕ, ◌+◌, ◌%◌, ◌^◌, ◌<◌, ◌≤◌, ◌==◌, ◌&&◌, nat_lt, nat_le, if◌then◌else◌, Bool, not, IsTrue, List, [], ◌∷◌, length}
use Rattle.std.specs.List.{All}
use Rattle.bw_types.specs.Dominance.{dominance_sum}
use Rattle.bw_types.specs.Digits.{digit_count}
use Rattle.bw_types.specs.declared.point.Point.{Point}
use Rattle.bw_types.specs.declared.tree.Tree.{Tree}
use Rattle.ports.specs.Pages.{PageMap}
use Rattle.key_check.specs.declared.corner.Corner.{Corner}
use Rattle.key_check.specs.Sums.{corner_sum}
use Rattle.mvsb_tree.specs.Stands.{RootStands, has_begun}
use Rattle.mvsb_tree.specs.Steps.{root_level, total_below}
use Rattle.key_check.specs.declared.step.Step.{Step}
use Rattle.key_check.specs.Steps.{step_value}

-- The tree's numbers are those of a tree of so many points, with a balanced directory.
pub record HasKeyNumbers (tree : Tree) (points : List Point) : Type 0 where
  pub few : length points ≤ 2 ^ 31
  pub count : tree.count ≡ length points
  pub some : tree.levels ≡ 0 → length points ≡ 0
  pub versions : All (λ p. p.version < 4294967295) points
  pub changes : tree.changes ≤ tree.count
  pub directory : tree.levels ≤ digit_count 32 tree.changes

-- where the first of the steps begins, or `high` where there is none
abbrev pub first_step : List Step → ℕ → ℕ
first_step [] high = high
first_step (s ∷ steps) high = s.version

-- There is a root at each version from the first point on.
abbrev pub IsRooted : List Step → List Point → Type 0
IsRooted steps points = (version : ℕ) → version < 2 ^ 32 → IsTrue (has_begun points version) → step_value 0 steps version ≢ 0

-- whether the value is not 0 at any version from this one on, where it is `value` before the first of the steps
abbrev pub never_zero : ℕ → ℕ → List Step → Bool
never_zero from value [] = not (value == 0)
never_zero from value (s ∷ steps) =
    if nat_lt from s.version then not (value == 0) && never_zero s.version s.value steps else never_zero from s.value steps

-- Below the root the nodes stand on the way of the key at the version, and it has no more levels than the count
-- has digits in base 24.
pub record RootKeeps (pages : PageMap) (nodes : List ℕ) (count root version key : ℕ) : Type 0 where
  pub stands : RootStands pages nodes root version key
  pub balanced : root_level pages root ≤ digit_count 24 count

-- It is so for each key, at each version from one to before another.
abbrev pub RootLasts : PageMap → List ℕ → ℕ → ℕ → ℕ → ℕ → Type 0
RootLasts pages nodes count root from to = (version key : ℕ) → from ≤ version → version < to → key < 2 ^ 64 → RootKeeps pages nodes count root version key

-- It is so for the roots of all versions before this one.
abbrev pub RootsKeep : PageMap → List ℕ → ℕ → List Step → ℕ → Type 0
RootsKeep pages nodes count steps to = (version key : ℕ) → version < to → key < 2 ^ 64 → RootKeeps pages nodes count (step_value 0 steps version) version key

-- what the nodes below a root come to at a key and a version
abbrev pub root_total : PageMap → ℕ → ℕ → ℕ → ℕ
root_total pages root key version = total_below (root_level pages root) pages root key version

-- the same from one version to before another, and nothing at others
abbrev pub stretch_total : PageMap → ℕ → ℕ → ℕ → ℕ → ℕ → ℕ
stretch_total pages root from to key version = if nat_le from version && nat_lt version to then root_total pages root key version else 0

-- what the nodes come to below the root of a version before this one, and nothing at others
abbrev pub steps_total : PageMap → List Step → ℕ → ℕ → ℕ → ℕ
steps_total pages steps to key version = if nat_lt version to then root_total pages (step_value 0 steps version) key version else 0

-- The sum of the corners has risen by that, everywhere.
abbrev pub AddsRoots : PageMap → List Step → ℕ → List Corner → List Corner → Type 0
AddsRoots pages steps to old new = (key version : ℕ) → key < 2 ^ 64 → version < 2 ^ 32
    → corner_sum new key version ≡ (corner_sum old key version + steps_total pages steps to key version) % 2 ^ 128

-- What the nodes come to below the root of each version is the sum of the points.
abbrev pub ValuesKeep : PageMap → List Step → List Point → Type 0
ValuesKeep pages steps points = (key version : ℕ) → key < 2 ^ 64 → version < 2 ^ 32
    → root_total pages (step_value 0 steps version) key version % 2 ^ 128 ≡ dominance_sum 1 points (key ∷ []) version
