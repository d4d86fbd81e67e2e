-- When the trees of a space, its table and its free pages are sound together.
use Rattle.std.specs.Prelude.{◌≤◌, ◌++◌, List}
use Rattle.bw_types.specs.declared.params.Params.{Params}
use Rattle.ports.specs.Pages.{PageMap}
use Rattle.page_layout.specs.Footprint.{NamesNoneTwice}
use Rattle.page_layout.specs.declared.meta.Meta.{Meta}
use Rattle.object_table.specs.Lives.{table_pages}
use Rattle.corner_weights.specs.PlaneSums.{Entered}
use Rattle.dom_index.specs.declared.index.DomIndex.{Ghosts}
use Rattle.corner_forest.specs.Stands.{AreBalanced, ForestStands, forest_pages}
use Rattle.page_warehouse.specs.Holds.{table_form}

module _ {X : Type 0} (g : Ghosts X) where
  -- The trees stand for the entries and are balanced, each page of the table and of the trees is in one place, and the free pages are in order.
  pub record TreesAreSound (params : Params) (meta : Meta) (pages : PageMap) (in_order : Type 0) (entries : List Entered) : Type 0 where
    pub dims : params.dims ≤ g.DIMS
    pub forest : ForestStands g pages params meta.roots.items entries
    pub balanced : AreBalanced g pages params meta.roots.items
    pub apart : NamesNoneTwice (table_pages (table_form meta) pages meta.table ++ forest_pages g pages params meta.roots.items)
    pub free : in_order
