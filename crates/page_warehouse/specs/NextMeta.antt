-- The meta page of a history that goes on by a batch.
use Rattle.std.specs.Prelude.{◌≡◌, ℕ, ◌+◌}
use Rattle.page_layout.specs.declared.meta.Meta.{Meta}
use Rattle.page_warehouse.specs.declared.drafting.Counts.{Counts}
use Rattle.page_warehouse.specs.declared.roots.Roots.{Roots}

-- It has one version more, so many changes more with this mass, a table by lives, and these roots.
pub record IsNextMeta (before : Counts) (n more : ℕ) (at : Roots) (meta : Meta) : Type 0 where
  pub lives : meta.lives ≡ 1
  pub version : meta.version ≡ before.version + 1
  pub events : meta.events ≡ before.events + n + 1
  pub rows : meta.rows ≡ before.rows + n
  pub mass : meta.mass ≡ before.mass + more
  pub table : meta.table ≡ at.table
  pub roots : meta.roots.items ≡ at.forest.roots.items
