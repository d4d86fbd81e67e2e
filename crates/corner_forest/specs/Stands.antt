-- When a forest stands for what was entered.
use Rattle.std.specs.Prelude.{◌≡◌, ℕ, ◌*◌, ◌^◌, ◌≤◌, List, length, nat_abs}
use Rattle.std.specs.List.{All}
use Rattle.bw_types.specs.declared.params.Params.{Params}
use Rattle.bw_types.specs.declared.tree.Tree.{Tree}
use Rattle.ports.specs.Pages.{PageMap}
use Rattle.corner_weights.specs.PlaneSums.{Entered, EnteredFits}
use Rattle.dom_index.specs.declared.index.DomIndex.{Ghosts}
use Rattle.corner_forest.specs.Entries.{corner_count, root_count, root_points}
use Rattle.corner_forest.specs.Trees.{EachStands, trees_pages}

-- the weight of the entry's object has 64 bits
abbrev pub HasSmallWeight : Entered → Type 0
HasSmallWeight e = nat_abs e.object.weight ≤ 2 ^ 63

-- In these pages each tree stands for its list of corner points of the entries, which keep the rules. No tree has more than 2^31
-- points.
pub record ForestStands {X : Type 0} (g : Ghosts X) (pages : PageMap) (params : Params) (roots : List Tree) (entries : List Entered) : Type 0 where
  pub count : length roots ≡ root_count params
  pub fits : All (EnteredFits params) entries
  pub weights : All HasSmallWeight entries
  pub few : length entries * corner_count params ≤ 2 ^ 31
  pub trees : EachStands (g.stands pages params.dims) (root_points params entries) 0 roots

-- Each tree is balanced.
abbrev pub AreBalanced : {X : Type 0} → Ghosts X → PageMap → Params → List Tree → Type 0
AreBalanced g pages params roots = All (g.balanced pages params.dims) roots

-- the pages of all trees together
abbrev pub forest_pages : {X : Type 0} → Ghosts X → PageMap → Params → List Tree → List ℕ
forest_pages g pages params roots = trees_pages (g.footprint pages params.dims) roots
