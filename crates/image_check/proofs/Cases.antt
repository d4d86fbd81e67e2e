-- The dimensions, case by case.
use Rattle.std.proofs.Common.{◌≡◌, ◌↔◌, ℕ, IsTrue, IfOk, Result, Bool, List, subst}
use Rattle.bw_types.specs.declared.point.Point.{Point}
use Rattle.bw_types.specs.declared.tree.Tree.{Tree}
use Rattle.ports.specs.Pages.{PageMap}
use Rattle.page_checks.specs.declared.fault.CheckFault.{CheckFault}
use Rattle.mvsb_tree.specs.contracts.mv_index.MvIndexDomIndex.TheImpl as line
use Rattle.ba_tree.specs.contracts.key_tree.KeyTreeBorderTree.TheImpl as key
use Rattle.ba_tree.specs.contracts.plane_tree.PlaneTreeBorderTree.TheImpl as plane
use Rattle.ba_tree.specs.Over.{BalancedOver, StandsOver}

-- What is decided over so many dimensions is decided over as many.
pub decided_at : (tells : Type 0) (pages : PageMap) (as_many dims : ℕ) (tree : Tree) (points : List Point) (result : Result Bool CheckFault) → as_many ≡ dims
    → IfOk result (λ s. tells → IsTrue s ↔ (StandsOver line.ghosts key.ghosts plane.ghosts pages as_many tree points × BalancedOver line.ghosts key.ghosts plane.ghosts pages as_many tree))
    → IfOk result (λ s. tells → IsTrue s ↔ (StandsOver line.ghosts key.ghosts plane.ghosts pages dims tree points × BalancedOver line.ghosts key.ghosts plane.ghosts pages dims tree))
decided_at tells pages as_many dims tree points result same decided =
    subst (λ (n : ℕ). IfOk result (λ s. tells → IsTrue s ↔ (StandsOver line.ghosts key.ghosts plane.ghosts pages n tree points × BalancedOver line.ghosts key.ghosts plane.ghosts pages n tree))) same decided
