-- When a tree over versions stands for some list of changes, such as the directory of a multiversion tree.
use Rattle.std.specs.Prelude.{◌≡◌, ℕ, ◌≤◌, ◌^◌, ◌==◌, ◌&&◌, if◌then◌else◌, IsTrue, List, [], ◌∷◌, length}
use Rattle.std.specs.List.{All}
use Rattle.bw_types.specs.declared.point.Point.{Point}
use Rattle.bw_types.specs.declared.tree.Tree.{Tree}
use Rattle.ports.specs.Pages.{PageMap}
use Rattle.sb_tree.specs.Stands.{SbStands}
use Rattle.mvsb_tree.specs.Stands.{has_come}
use Rattle.key_check.specs.declared.step.Step.{Step}

-- There is a list of changes, none after the last of the points, that the tree stands for.
pub record StandsForChanges (pages : PageMap) (tree : Tree) (points : List Point) : Type 0 where
  pub changes : List Point
  pub stands : SbStands pages tree changes
  pub past : All (λ c. IsTrue (has_come points c.version)) changes

-- The tree's numbers are those of a tree of some changes, of which there are none without points.
pub record HasChangesOf (tree : Tree) (points : List Point) : Type 0 where
  pub few : tree.count ≤ 2 ^ 31
  pub some : tree.levels ≡ 0 → tree.count ≡ 0
  pub changes : tree.changes ≡ 0
  pub last : tree.last ≡ 0
  pub begun : 1 ≤ tree.count → 1 ≤ length points

-- the steps that need a change each: all but a first one that says that the value is 0 from version 0 on
abbrev pub needed : List Step → List Step
needed [] = []
needed (s ∷ steps) = if s.version == 0 && s.value == 0 then steps else s ∷ steps

-- So many changes may make the steps, none of them after the last of the points.
pub record AreMade (steps : List Step) (count : ℕ) (points : List Point) : Type 0 where
  pub few : length (needed steps) ≤ count
  pub come : All (λ s. IsTrue (has_come points s.version)) (needed steps)
