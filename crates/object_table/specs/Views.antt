-- Nodes that are read where their page stands.
use Rattle.std.specs.Prelude.{◌<◌, ◌≤◌, length}
use Rattle.std.specs.List.{AllAdjacentBelow}
use Rattle.page_layout.specs.declared.life_node.LifeNode.{LifeNode}
use Rattle.object_table.specs.declared.view.Shown.{Shown}
use Rattle.object_table.specs.declared.view.Shown.TheVariants.{Lives, Ids}
use Rattle.object_table.specs.Keys.{low_key}
use Rattle.object_table.specs.Nodes.{life_node, objects_in, entries_in}

-- the node that a view shows, told as one by lives
abbrev pub shown_by : Shown → LifeNode
shown_by (Lives node) = node
shown_by (Ids node) = life_node node

-- The entries ascend, and there is room for them and for the objects.
pub record IsInOrder (node : LifeNode) : Type 0 where
  pub order : AllAdjacentBelow (λ e next. low_key e < low_key next) (entries_in node) (length (entries_in node))
  pub few_objects : length (objects_in node) ≤ 15
  pub few_entries : length (entries_in node) ≤ 200
