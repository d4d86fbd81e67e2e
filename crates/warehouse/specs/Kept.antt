-- What the kept lives and states of ids say of the changes that were made.
use Rattle.std.specs.Prelude.{◌≡◌, ⊤, ℕ, ◌<◌, Bool, true, false, ◌&&◌, ◌||◌, ◌==◌, not, nat_lt, nat_le, List, [], ◌∷◌, ◌++◌, Some, is_some, unwrap_or, if◌then◌else◌}
use Rattle.std.specs.List.{flat_map, list_all, slice_get}
use Rattle.std.specs.Ordering.{nat_cmp}
use Rattle.std.specs.BTreeMap.{BTreeMap, get}
use Rattle.bw_types.specs.History.{History, live, live_of}
use Rattle.bw_types.specs.Refusals.{was_added, is_live}
use Rattle.bw_types.specs.declared.object.Object.{Object}
use Rattle.bw_types.specs.declared.change.Change.{Change}
use Rattle.bw_types.specs.declared.change.Change.TheVariants as change
use Rattle.bw_types.specs.declared.row.Row.{Row}
use Rattle.bw_types.specs.declared.row.Row.TheVariants as row
use Rattle.warehouse.specs.declared.life.Life.{Life}
use Rattle.warehouse.specs.declared.life.State.{State}
use Rattle.warehouse.specs.declared.life.State.TheVariants.{Never, Live, Withdrawn}

-- the life was begun by this version and not ended by it
abbrev pub is_live_at : ℕ → Life → Bool
is_live_at version l = nat_le l.added version && (l.ended == 0 || nat_lt version l.ended)

-- the object of the life, if it was live at this version
abbrev pub object_at : ℕ → Life → List Object
object_at version l = if is_live_at version l then l.object ∷ [] else []

-- the objects of the lives that were live at this version
abbrev pub objects_at : ℕ → List Life → List Object
objects_at version lives = flat_map (object_at version) lives

-- the state that a map tells of an id; one that it lacks was never added
abbrev pub state_in : BTreeMap ℕ State → ℕ → State
state_in states id = unwrap_or (get nat_cmp states id) Never

-- the map has the id of the object that the row adds, if it adds one
abbrev pub Knows : BTreeMap ℕ State → Row → Type 0
Knows states (row.Add o) = is_some (get nat_cmp states o.id) ≡ true
Knows states (row.Withdraw id) = ⊤
Knows states (row.Move o) = is_some (get nat_cmp states o.id) ≡ true

-- the map has the id of each object that these rows add
abbrev pub KnowsAll : BTreeMap ℕ State → List Row → Type 0
KnowsAll states rows = (k : ℕ) (r : Row) → slice_get rows k ≡ Some r → Knows states r

-- each life is begun and ended by this version
abbrev pub are_dated : ℕ → List Life → Bool
are_dated version lives = list_all (λ l. nat_le l.added version && nat_le l.ended version) lives

-- the state of an id is true of the lives, and of the changes
abbrev pub IsTold : State → ℕ → List Change → List Life → Type 0
IsTold Never id cs lives = was_added id cs ≡ false
IsTold (Live place) id cs lives = (l : Life) × (slice_get lives place ≡ Some l) × (l.object.id ≡ id) × (l.ended ≡ 0) × (was_added id cs ≡ true)
IsTold Withdrawn id cs lives = was_added id cs ≡ true

-- After these changes, those of batches before this version and some of its own:
-- the lives tell which objects are live, at each earlier version of the history too, and the states where.
pub record IsLedger (h : History) (cs : List Change) (version : ℕ) (lives : List Life) (states : ℕ → State) : Type 0 where
  pub dated : are_dated version lives ≡ true
  pub now : objects_at version lives ≡ live_of cs
  pub past : (v : ℕ) → v < version → objects_at v lives ≡ live h v
  pub open_lives : (place : ℕ) (l : Life) → slice_get lives place ≡ Some l → l.ended ≡ 0 → states l.object.id ≡ Live place
  pub told : (id : ℕ) → IsTold (states id) id cs lives

-- a change that may come after these: an add of an id that is not live, or a withdrawal of one that is
abbrev pub may_follow : List Change → Change → Bool
may_follow cs (change.Add o) = not (is_live o.id cs)
may_follow cs (change.Withdraw id) = is_live id cs

-- changes each of which may come after those before it
abbrev pub may_all_follow : List Change → List Change → Bool
may_all_follow cs [] = true
may_all_follow cs (c ∷ later) = may_follow cs c && may_all_follow (cs ++ c ∷ []) later
