-- The trees of spans as they are filled with all adds and withdrawals of a history.
use Rattle.std.specs.Prelude.{ℕ, ◌-◌, ◌*◌, ◌^◌, ◌<◌, ◌≤◌, not, nat_lt, if◌then◌else◌, IsTrue, List, [], ◌∷◌, map}
use Rattle.std.specs.List.{All}
use Rattle.bw_types.specs.Depths.{added_pages}
use Rattle.bw_types.specs.Fits.{object_fits}
use Rattle.bw_types.specs.declared.params.Params.{Params}
use Rattle.bw_types.specs.declared.point.Point.{Point}
use Rattle.bw_types.specs.declared.tree.Tree.{Tree}
use Rattle.page_layout.specs.Footprint.{NamesNoneTwice}
use Rattle.ports.specs.Frame.{Replaces}
use Rattle.ports.specs.Pages.{PageMap}
use Rattle.corner_weights.specs.PlaneSums.{Entered}
use Rattle.dom_index.specs.declared.index.DomIndex.{Ghosts}
use Rattle.corner_forest.specs.Entries.{corner_count}
use Rattle.corner_forest.specs.Trees.{EachStands, trees_pages}
use Rattle.page_warehouse.specs.declared.event.Event.{Event}
use Rattle.span_planes.specs.SpanPoints.{dated_weight, plain_weight, span_points, span_roots}

-- an add or a withdrawal as an entry: a withdrawal takes its object out
abbrev pub entry_of : Event → Entered
entry_of e = record { object = e.object; event = e.event; version = e.version; minus = not e.add }

abbrev pub entries_in : List Event → List Entered
entries_in events = map entry_of events

-- the points of the entries in the tree at a place: the trees of the weights come first, those of the dated ones behind them
abbrev pub points_at : Params → List Entered → ℕ → List Point
points_at params entries place =
    if nat_lt place (corner_count params) then span_points params plain_weight entries place
    else span_points params dated_weight entries (place - corner_count params)

-- The trees take the event.
pub record CanFill (params : Params) (e : Event) : Type 0 where
  pub fits : IsTrue (object_fits params e.object)
  pub number : e.event < 2 ^ 28
  pub version : e.version < 2 ^ 32 - 1

-- Each event has a greater number than those before it, and no lower version.
abbrev pub ComeInTurn : List Event → Type 0
ComeInTurn [] = Unit {0}
ComeInTurn (e ∷ events) = All (λ later. (e.event < later.event) × (e.version ≤ later.version)) events × ComeInTurn events

-- the most page numbers that so many events take
abbrev pub span_growth : Params → ℕ → ℕ
span_growth params n = span_roots params * (n * added_pages params.dims n)

-- Trees that stand for the entries were made beside what the map had, each as low as the index keeps it, and no page is named twice.
pub record FilledTrees {X : Type 0} (g : Ghosts X) (before after : PageMap) (params : Params) (entries : List Entered) (roots : List Tree) : Type 0 where
  pub stand : EachStands (g.stands after params.dims) (points_at params entries) 0 roots
  pub balanced : All (g.balanced after params.dims) roots
  pub once : NamesNoneTwice (trees_pages (g.footprint after params.dims) roots)
  pub change : Replaces [] (trees_pages (g.footprint after params.dims) roots) before after
