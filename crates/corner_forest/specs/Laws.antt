-- What the crates above know of forests, beside the contracts of the calls.
use Rattle.std.specs.Prelude.{◌≡◌, ℕ, ◌*◌, ◌<◌, ◌≤◌, ◌↔◌, List, [], ◌∷◌, ◌++◌, length, get_or, replicate}
use Rattle.std.specs.List.{All}
use Rattle.bw_types.specs.Empty.{empty_tree}
use Rattle.bw_types.specs.Fits.{IsInRange}
use Rattle.bw_types.specs.declared.params.Params.{Params}
use Rattle.bw_types.specs.declared.tree.Tree.{Tree}
use Rattle.ports.specs.Frame.{AgreeOn, AreInMap}
use Rattle.ports.specs.Pages.{PageMap}
use Rattle.corner_weights.specs.PlaneSums.{Entered}
use Rattle.dom_index.specs.declared.index.DomIndex.{Ghosts}
use Rattle.corner_forest.specs.Entries.{point_count, root_count}
use Rattle.corner_forest.specs.Enters.{first_pages}
use Rattle.corner_forest.specs.Stands.{AreBalanced, ForestStands, forest_pages}

-- The empty trees stand for no entries. They have no pages.
abbrev pub EmptyForestStands : {X : Type 0} → Ghosts X → Type 0
EmptyForestStands g = (pages : PageMap) (params : Params) → IsInRange params → params.dims ≤ g.DIMS
    → ForestStands g pages params (replicate (root_count params) empty_tree) [] × (forest_pages g pages params (replicate (root_count params) empty_tree) ≡ [])
    × AreBalanced g pages params (replicate (root_count params) empty_tree)

-- It does not count at which place of the list an entry is.
abbrev pub EntryStandsAnywhere : {X : Type 0} → Ghosts X → Type 0
EntryStandsAnywhere g = (pages : PageMap) (params : Params) (roots : List Tree) (before after : List Entered) (e : Entered)
    → ForestStands g pages params roots (e ∷ (before ++ after)) ↔ ForestStands g pages params roots (before ++ e ∷ after)

-- Whether a forest stands and is balanced, and which pages are its own, depends on these pages alone.
abbrev pub ForestStandsByItsPages : {X : Type 0} → Ghosts X → Type 0
ForestStandsByItsPages g = (pages others : PageMap) (params : Params) (roots : List Tree) (entries : List Entered)
    → ForestStands g pages params roots entries → AgreeOn (forest_pages g pages params roots) pages others
    → ForestStands g others params roots entries × (forest_pages g others params roots ≡ forest_pages g pages params roots)
    × (AreBalanced g pages params roots → AreBalanced g others params roots)

-- The pages of a forest that stands are in the map.
abbrev pub ForestPagesAreThere : {X : Type 0} → Ghosts X → Type 0
ForestPagesAreThere g = (pages : PageMap) (params : Params) (roots : List Tree) (entries : List Entered)
    → ForestStands g pages params roots entries → AreInMap pages (forest_pages g pages params roots)

-- The trees of a forest take their first pages once: at most as many as there are trees, and none where each has one.
abbrev pub FirstPagesAreTakenOnce : Type 0
FirstPagesAreTakenOnce = (params : Params) (roots : List Tree) → (first_pages params roots ≤ root_count params)
    × (length roots ≡ root_count params → All (λ t. t.levels ≡ 1) roots → first_pages params roots ≡ 0)

-- Each tree of a forest that stands counts its points: so many for each entry.
abbrev pub TreesCountTheirPoints : {X : Type 0} → Ghosts X → Type 0
TreesCountTheirPoints g = (pages : PageMap) (params : Params) (roots : List Tree) (entries : List Entered)
    → ForestStands g pages params roots entries → (root : ℕ) → root < root_count params
    → (get_or roots root empty_tree).count ≡ length entries * point_count params root
