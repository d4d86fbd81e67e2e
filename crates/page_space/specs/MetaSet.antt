-- The meta page of a stage.
use Rattle.std.specs.Prelude.{◌≡◌, ◌≤◌, Some, IsTrue, length}
use Rattle.std.specs.List.{All}
use Rattle.ports.specs.Pages.{PageMap}
use Rattle.page_layout.specs.Meta.{IsMeta, IsTyped, meta_page}
use Rattle.page_layout.specs.TreeValue.{tree_fits, plain_tree_fits}
use Rattle.page_layout.specs.declared.meta.Meta.{Meta}

-- The rules of a meta page hold, save those of the number of pages given out and of the first free page.
pub record FitsBesideCounts (meta : Meta) : Type 0 where
  pub lives : meta.lives ≤ 1
  pub table : IsTrue (plain_tree_fits meta.table)
  pub few : length meta.roots.items ≤ 96
  pub roots : All (λ t. IsTrue (tree_fits t)) meta.roots.items

-- this meta page, with the number of pages given out and the first free page of the other one
abbrev pub with_counts_of : Meta → Meta → Meta
with_counts_of counts meta = record meta { allotted = counts.allotted; free = counts.free }

-- Among these images the meta page is the spelling of this one.
pub record HasMeta (images : PageMap) (meta : Meta) : Type 0 where
  pub rules : IsMeta meta
  pub typed : IsTyped meta
  pub image : images 2 ≡ Some (meta_page meta)
