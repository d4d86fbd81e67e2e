-- The versions and keys of points, in order.
use Rattle.std.specs.Prelude.{◌≡◌, ℕ, IsTrue, List, map}
use Rattle.std.specs.List.{All}
use Rattle.std.specs.List.Sorted.{IsNonDecreasing, IsPermutation}
use Rattle.bw_types.specs.declared.point.Point.{Point}
use Rattle.page_layout.specs.declared.mv_node.MvEntry.{MvEntry}
use Rattle.mvsb_tree.specs.Stands.{is_marked, is_past, key_of}
use Rattle.key_check.specs.declared.marks.Marks.{Marks}

-- Both lists are in order.
pub record AreInOrder (marks : Marks) : Type 0 where
  pub versions : IsNonDecreasing marks.versions.items
  pub keys : IsNonDecreasing marks.keys.items

-- They are the versions and the first keys of the points.
pub record AreMarksOf (points : List Point) (marks : Marks) : Type 0 where
  pub versions : IsPermutation (map (λ p. p.version) points) marks.versions.items
  pub keys : IsPermutation (map key_of points) marks.keys.items

-- What holds of each entry of a node of the level in a tree that stands for the points.
pub record EntriesKept (points : List Point) (level : ℕ) (entries : List MvEntry) : Type 0 where
  pub past : All (λ e. IsTrue (is_past points e)) entries
  pub lows : level ≡ 1 → All (λ e. IsTrue (is_marked points e.low)) entries
