-- What a query may call damaged: what a sum in a tree that it reads, at a corner of its own, may.
use Rattle.std.specs.Prelude.{◌≡◌, ℕ, ◌+◌, ◌<◌, List, get_or, Some}
use Rattle.bw_types.specs.Empty.{empty_tree}
use Rattle.bw_types.specs.declared.params.Params.{Params}
use Rattle.bw_types.specs.declared.query.Query.{Query}
use Rattle.bw_types.specs.declared.tree.Tree.{Tree}
use Rattle.ports.specs.Pages.{PageMap}
use Rattle.corner_weights.specs.Corners.{integral_corner, meet_corner}
use Rattle.corner_weights.specs.Planes.{plane_count}
use Rattle.dom_index.specs.declared.index.DomIndex.{Ghosts}
use Rattle.corner_forest.specs.Entries.{corner_count}

-- A sum at the query's corner of a subset may call the page damaged, in the tree of that subset: these are the first ones.
abbrev pub IsDamagedAtCorners : {X : Type 0} → Ghosts X → PageMap → Params → List Tree → Query → ℕ → ℕ → Type 0
IsDamagedAtCorners g pages params roots q version damaged =
    (subset : ℕ) × (keys : List ℕ) × (subset < corner_count params) × (Some keys ≡ meet_corner params.dims q subset)
    × g.damaged_for_sum pages params.dims (get_or roots subset empty_tree) keys version damaged

-- A sum at the keys may call the page damaged, in the tree of a plane.
abbrev pub IsDamagedInPlanes : {X : Type 0} → Ghosts X → PageMap → Params → List Tree → List ℕ → ℕ → ℕ → Type 0
IsDamagedInPlanes g pages params roots keys version damaged =
    (plane : ℕ) × (plane < plane_count params)
    × g.damaged_for_sum pages params.dims (get_or roots (corner_count params + plane) empty_tree) keys version damaged

-- The same at the query's own corner of a subset.
abbrev pub IsDamagedForIntegral : {X : Type 0} → Ghosts X → PageMap → Params → List Tree → Query → ℕ → ℕ → Type 0
IsDamagedForIntegral g pages params roots q version damaged =
    (subset : ℕ) × (subset < corner_count params)
    × IsDamagedInPlanes g pages params roots (integral_corner params.dims q subset) version damaged
