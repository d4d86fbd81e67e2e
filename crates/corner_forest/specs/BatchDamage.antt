-- What a batch may call damaged, whatever the pages hold: what an addition of one of its points may, after those before.
use Rattle.std.specs.Prelude.{◌≡◌, ℕ, zero, suc, ◌<◌, List, get_or}
use Rattle.bw_types.specs.Empty.{empty_tree}
use Rattle.bw_types.specs.declared.params.Params.{Params}
use Rattle.bw_types.specs.declared.tree.Tree.{Tree}
use Rattle.ports.specs.Pages.{PageMap}
use Rattle.corner_weights.specs.PlaneSums.{Entered}
use Rattle.dom_index.specs.AddingDamage.{AdditionsMayLeave, IsDamagedForPoints}
use Rattle.dom_index.specs.declared.index.DomIndex.{Ghosts}
use Rattle.corner_forest.specs.Entries.{batch_points, root_count}

-- The additions of the batch's points to the first trees, so many of them, may leave these pages.
abbrev pub TreesMayLeave : {X : Type 0} → Ghosts X → Params → List Entered → List Tree → ℕ → PageMap → PageMap → Type 0
TreesMayLeave g params batch roots zero before after = after ≡ before
TreesMayLeave g params batch roots (suc n) before after =
    (mid : PageMap) × (new : Tree) × TreesMayLeave g params batch roots n before mid
    × AdditionsMayLeave g params.dims (batch_points params n batch) mid (get_or roots n empty_tree) after new

-- An addition of one of the batch's points to one of the trees may call the page damaged, after the additions to the trees before it.
abbrev pub IsDamagedForBatch : {X : Type 0} → Ghosts X → Params → List Entered → List Tree → PageMap → ℕ → Type 0
IsDamagedForBatch g params batch roots before damaged =
    (root : ℕ) × (after : PageMap) × (root < root_count params) × TreesMayLeave g params batch roots root before after
    × IsDamagedForPoints g params.dims (batch_points params root batch) after (get_or roots root empty_tree) damaged
