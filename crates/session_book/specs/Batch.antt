-- What is kept of the earlier rows of a batch.
use Rattle.std.specs.Prelude.{◌≡◌, ℕ, ◌^◌, ◌<◌, Bool, ◌==◌, List, ◌++◌, Option, Some, if◌then◌else◌}
use Rattle.std.specs.Ordering.{nat_cmp}
use Rattle.std.specs.BTreeMap.{get}
use Rattle.bw_types.specs.Refusals.{total_mass}
use Rattle.bw_types.specs.declared.params.Params.{Params}
use Rattle.bw_types.specs.declared.change.Change.{Change}
use Rattle.bw_types.specs.declared.row.Row.{Row}
use Rattle.bw_types.specs.declared.row.Row.TheVariants.{Add, Withdraw, Move}
use Rattle.session_book.specs.declared.seen.Life.{Life}
use Rattle.session_book.specs.declared.batch.Batch.{Batch}
use Rattle.session_book.specs.Standing.{standing_after, standing_by}

-- the id that the row speaks of
abbrev pub row_id : Row → ℕ
row_id (Add o) = o.id
row_id (Withdraw id) = id
row_id (Move o) = o.id

-- what the batch did to the id last: an add (true), a withdrawal (false), or nothing
abbrev pub own : Batch → ℕ → Option Bool
own batch id = get nat_cmp batch.own id

-- the batch's map and mass are those after the changes of the past and of its earlier rows
pub record IsAfter (params : Params) (told : ℕ → Life) (past staged : List Change) (batch : Batch) : Type 0 where
  pub standings : (id : ℕ) → id < 2 ^ 64 → standing_after past staged id ≡ standing_by (own batch id) (told id)
  pub total : batch.mass ≡ total_mass params (past ++ staged)

-- the id has this mark after the change, and every other id keeps its own
abbrev pub Marks : Batch → Batch → ℕ → Bool → Type 0
Marks old new id fresh = (other : ℕ) → own new other ≡ (if id == other then Some fresh else own old other)
