-- The numbers that a tree over versions tells of itself.
use Rattle.std.specs.Prelude.{◌≡◌, ◌≤◌, ◌^◌, List, length}
use Rattle.bw_types.specs.declared.point.Point.{Point}
use Rattle.bw_types.specs.declared.tree.Tree.{Tree}

-- They are those of a tree of so many points.
pub record HasNumbersOf (tree : Tree) (points : List Point) : Type 0 where
  pub few : length points ≤ 2 ^ 31
  pub count : tree.count ≡ length points
  pub some : tree.levels ≡ 0 → length points ≡ 0
  pub changes : tree.changes ≡ 0
  pub last : tree.last ≡ 0
