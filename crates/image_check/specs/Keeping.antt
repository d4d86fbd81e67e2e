-- What a node of a table keeps to in its place.
use Rattle.std.specs.Prelude.{◌≡◌, ℕ, ◌<◌, ◌≤◌, List, length}
use Rattle.std.specs.List.{All}
use Rattle.bw_types.specs.declared.dated.Dated.{Dated}
use Rattle.page_layout.specs.declared.life_node.LifeEntry.{LifeEntry}
use Rattle.object_table.specs.Keys.{key, low_key}
use Rattle.object_table.specs.Stands.{first_low}

-- The objects of a leaf are at least so many, with keys from `low` to before `high`.
pub record LeafKeeps (objects : List Dated) (low high least : ℕ) : Type 0 where
  pub filled : least ≤ length objects
  pub from : All (λ d. low ≤ key d) objects
  pub ends : All (λ d. key d < high) objects

-- The entries of an index node are at least so many, which begin with `low` and all below `high`.
pub record IndexKeeps (entries : List LifeEntry) (low high least : ℕ) : Type 0 where
  pub filled : least ≤ length entries
  pub begins : first_low entries high ≡ low
  pub ends : All (λ e. low_key e < high) entries
