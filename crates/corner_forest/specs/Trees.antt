-- Lists of trees in the same pages.
use Rattle.std.specs.Prelude.{ℕ, suc, List, [], ◌∷◌}
use Rattle.std.specs.List.{flat_map}
use Rattle.bw_types.specs.declared.point.Point.{Point}
use Rattle.bw_types.specs.declared.tree.Tree.{Tree}

-- Each tree stands for the points that belong to its place, the first one being at the place `from`.
abbrev pub EachStands : (Tree → List Point → Type 0) → (ℕ → List Point) → ℕ → List Tree → Type 0
EachStands stands points from [] = Unit {0}
EachStands stands points from (tree ∷ trees) = stands tree (points from) × EachStands stands points (suc from) trees

-- all their pages
abbrev pub trees_pages : (Tree → List ℕ) → List Tree → List ℕ
trees_pages footprint trees = flat_map footprint trees
