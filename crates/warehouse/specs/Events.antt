-- The changes that events stand for, which name the objects that they add by their lives.
use Rattle.std.specs.Prelude.{◌≡◌, ℕ, Bool, true, nat_lt, List, [], ◌∷◌, length, Option, Some, option_map, option_to_list}
use Rattle.std.specs.List.{flat_map, list_all, slice_get}
use Rattle.bw_types.specs.declared.object.Object.{Object}
use Rattle.bw_types.specs.declared.change.Change.{Change}
use Rattle.bw_types.specs.declared.change.Change.TheVariants as change
use Rattle.warehouse.specs.declared.event.Event.{Event}
use Rattle.warehouse.specs.declared.event.Event.TheVariants as event
use Rattle.warehouse.specs.declared.life.Life.{Life}

-- the object of the life at a place, if there is one
abbrev pub object_in : List Life → ℕ → Option Object
object_in lives place = option_map (λ l. l.object) (slice_get lives place)

-- the change that an event stands for: the add of a place is that of the object of the life there
abbrev pub change_of : List Life → Event → List Change
change_of lives (event.Add place) = option_to_list (option_map change.Add (object_in lives place))
change_of lives (event.Withdraw id) = change.Withdraw id ∷ []

-- the changes that events stand for, in their order
abbrev pub changes_of : List Life → List Event → List Change
changes_of lives events = flat_map (change_of lives) events

-- there is a life at the place that the event names
abbrev pub has_life : List Life → Event → Bool
has_life lives (event.Add place) = nat_lt place (length lives)
has_life lives (event.Withdraw id) = true

-- there is a life at each place that the events name
abbrev pub have_lives : List Life → List Event → Bool
have_lives lives events = list_all (has_life lives) events

-- from the one list of lives to the other each place keeps its object
abbrev pub KeepsObjects : List Life → List Life → Type 0
KeepsObjects lives lives' = (place : ℕ) (o : Object) → object_in lives place ≡ Some o → object_in lives' place ≡ Some o
