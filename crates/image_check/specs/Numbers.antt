-- The numbers that a tree's value tells of it.
use Rattle.std.specs.Prelude.{◌≡◌, ℕ}
use Rattle.bw_types.specs.declared.tree.Tree.{Tree}
use Rattle.cut_parts.specs.Standing.{levels_of}

-- The numbers are those of a tree of n points: only that of none has no root.
pub record HasNumbers (tree : Tree) (n : ℕ) : Type 0 where
  pub count : tree.count ≡ n
  pub levels : tree.levels ≡ levels_of n
  pub changes : tree.changes ≡ 0
  pub last : tree.last ≡ 0
  pub none : n ≡ 0 → tree.root ≡ 0
