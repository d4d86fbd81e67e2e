-- The spans of a history as they are written.
use Rattle.std.specs.Prelude.{◌≡◌, ℕ, List, length, IsPermutation}
use Rattle.std.specs.List.{All}
use Rattle.bw_types.specs.Empty.{empty_tree}
use Rattle.bw_types.specs.History.{History, changes, last_version}
use Rattle.bw_types.specs.Lawful.{IsLawful}
use Rattle.bw_types.specs.Lives.{lives}
use Rattle.bw_types.specs.declared.params.Params.{Params}
use Rattle.history_laws.specs.Bounds.{HasSmallWeight}
use Rattle.page_warehouse.specs.Events.{AreEventsOf, events_of_lives}
use Rattle.page_warehouse.specs.declared.event.Event.{Event}
use Rattle.page_layout.specs.declared.meta.Meta.{Meta}
use Rattle.span_planes.specs.SpanPoints.{span_roots}

-- These are the events and the last version of a lawful history with small weights.
pub record AreAllOf (params : Params) (events : List Event) (last : ℕ) (h : History) : Type 0 where
  pub last_is : last ≡ last_version h
  pub lawful : IsLawful params h
  pub weights : All HasSmallWeight (changes h)
  pub all : AreEventsOf events h
  pub by_lives : IsPermutation (events_of_lives (lives h)) events

-- The meta page is one of spans up to this version, of so many adds and withdrawals.
pub record IsMetaFor (params : Params) (last rows : ℕ) (meta : Meta) : Type 0 where
  pub version : meta.version ≡ last
  pub events : meta.events ≡ 0
  pub rows_are : meta.rows ≡ rows
  pub table : meta.table ≡ empty_tree
  pub roots : length meta.roots.items ≡ span_roots params
