-- What a walk over a whole tree over versions finds.
use Rattle.std.specs.Prelude.{◌≡◌}
use Rattle.bw_types.specs.declared.tree.Tree.{Tree}
use Rattle.ports.specs.Pages.{PageMap}
use Rattle.sb_tree.specs.Stands.{RootStands}
use Rattle.sb_tree.specs.Steps.{tree_pages}
use Rattle.key_check.specs.Steps.{steps_below}
use Rattle.key_check.specs.declared.version_tree.Walk.{Walk}

-- The nodes stand for all versions, and these are their steps and pages.
pub record IsWalk (pages : PageMap) (tree : Tree) (walk : Walk) : Type 0 where
  pub stands : RootStands tree.levels pages tree.root
  pub steps_are : walk.steps.items ≡ steps_below tree.levels pages tree.root 0
  pub named_are : walk.named.items ≡ tree_pages pages tree
