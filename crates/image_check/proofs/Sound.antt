-- When the trees, the table and the free pages are sound, from what is found of each.
use Rattle.std.proofs.Common.{ℕ, ◌≤◌, List, ◌++◌, IsPermutation}
use Rattle.bw_types.specs.declared.params.Params.{Params}
use Rattle.ports.specs.Pages.{PageMap}
use Rattle.page_layout.specs.Footprint.{NamesNoneTwice}
use Rattle.page_layout.specs.declared.meta.Meta.{Meta}
use Rattle.object_table.specs.Lives.{table_pages}
use Rattle.corner_weights.specs.PlaneSums.{Entered}
use Rattle.dom_index.specs.declared.index.DomIndex.{Ghosts}
use Rattle.corner_forest.specs.Stands.{AreBalanced, ForestStands, forest_pages}
use Rattle.page_warehouse.specs.Holds.{table_form}
use Rattle.image_check.specs.Reading.{AreItsPages}
use Rattle.image_check.specs.Trees.{TreesAreSound}
use Rattle.image_check.proofs.Apart.{apart_is}

module _ {X : Type 0} (g : Ghosts X) (params : Params) (meta : Meta) (map : PageMap) (own named : List ℕ)
    (dims : params.dims ≤ g.DIMS)
    (once : NamesNoneTwice (table_pages (table_form meta) map meta.table))
    (its : AreItsPages (table_form meta) map meta.table own)
    (p : IsPermutation (own ++ forest_pages g map params meta.roots.items) named) where
  pub named_once : NamesNoneTwice named → NamesNoneTwice (table_pages (table_form meta) map meta.table ++ forest_pages g map params meta.roots.items)
  named_once = (apart_is own (table_pages (table_form meta) map meta.table) (forest_pages g map params meta.roots.items) named its.once once its.same p).0

  pub once_named : NamesNoneTwice (table_pages (table_form meta) map meta.table ++ forest_pages g map params meta.roots.items) → NamesNoneTwice named
  once_named = (apart_is own (table_pages (table_form meta) map meta.table) (forest_pages g map params meta.roots.items) named its.once once its.same p).1

  pub sound_by : (in_order : Type 0) (entries : List Entered) → ForestStands g map params meta.roots.items entries × AreBalanced g map params meta.roots.items
      → NamesNoneTwice named → in_order → TreesAreSound g params meta map in_order entries
  sound_by in_order entries forest named_so free = record { dims = dims; forest = forest.0; balanced = forest.1; apart = named_once named_so; free = free }
