-- What the desk of spans answers by.
use Rattle.bw_types.specs.History.{History}
use Rattle.bw_types.specs.declared.params.Params.{Params}
use Rattle.page_disk.specs.declared.disk.Disk.{Ghosts}
use Rattle.dom_index.specs.declared.index.DomIndex.{Ghosts as IndexGhosts}
use Rattle.span_planes.specs.Asked.{AreAsBefore}
use Rattle.span_planes.specs.Shown.{HoldsSpans, disk_in}
use Rattle.span_planes.specs.declared.desk.SpanDesk.{SpanDesk}
use Rattle.span_planes.specs.declared.spans.Spans.{Spans}

-- a history with what it was made for
pub record Told : Type 0 where
  pub params : Params
  pub history : History

-- the spans of the desk
abbrev pub spans_of : {E X : Type 0} {g : Ghosts E} {i : IndexGhosts X} → SpanDesk E X g i → Spans E X g i
spans_of desk = desk.spans

module _ {E X : Type 0} (g : Ghosts E) (i : IndexGhosts X) where
  -- Its disk holds the spans of the history.
  abbrev pub StandsFor : SpanDesk E X g i → Told → Type 0
  StandsFor desk told = HoldsSpans g i (disk_in (spans_of desk)) told.params told.history

  -- the spans are as before
  abbrev pub SpansAreAsBefore : SpanDesk E X g i → SpanDesk E X g i → Type 0
  SpansAreAsBefore old new = AreAsBefore g i (spans_of old) (spans_of new)
