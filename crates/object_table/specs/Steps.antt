-- Steps from an index node to a child.
use Rattle.std.specs.Prelude.{◌≡◌, ℕ, ◌≤◌, ◌<◌, List, length, take, drop}
use Rattle.std.specs.List.{All}
use Rattle.page_layout.specs.declared.life_node.LifeEntry.{LifeEntry}
use Rattle.object_table.specs.declared.path.Step.{Step}
use Rattle.object_table.specs.Keys.{low_key}
use Rattle.object_table.specs.Damage.{IsPlaceOf}

-- The first `count` entries begin at or below the key, and the others above it.
pub record IsCut (entries : List LifeEntry) (count sought : ℕ) : Type 0 where
  pub bound : count ≤ length entries
  pub begun : All (λ e. low_key e ≤ sought) (take count entries)
  pub later : All (λ e. sought < low_key e) (drop count entries)

-- The step goes to the entry's child, for the key `from`.
pub record IsStepTo (step : Step) (e : LifeEntry) (after : List LifeEntry) (end from : ℕ) : Type 0 where
  pub child : step.child ≡ e.child
  pub place : IsPlaceOf step.place e after end from
