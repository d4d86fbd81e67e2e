-- Spans over a space that is as before.
use Rattle.std.proofs.Common.{◌≡◌, ap, ◌∙◌, sym, subst}
use Rattle.bw_types.specs.History.{History}
use Rattle.bw_types.specs.declared.params.Params.{Params}
use Rattle.dom_index.specs.declared.index.DomIndex.{Ghosts as IndexGhosts}
use Rattle.page_disk.specs.declared.disk.Disk.{Ghosts}
use Rattle.page_space.specs.Begun.{Begun}
use Rattle.page_space.specs.Shown.{begun_of}
use Rattle.span_planes.specs.Asked.{AreAsBefore}
use Rattle.span_planes.specs.Shown.{HoldsSpans, disk_in, space_in}
use Rattle.span_planes.specs.SpanHolds.{SpanHolds}
use Rattle.span_planes.specs.declared.spans.Spans.{Spans}

module _ {E X : Type 0} {g : Ghosts E} {i : IndexGhosts X} (old new : Spans E X g i) (same : begun_of (space_in new) ≡ begun_of (space_in old)) where
  -- their disk holds the same spans
  pub still_holds : (params : Params) (h : History) → HoldsSpans g i (disk_in old) params h → HoldsSpans g i (disk_in new) params h
  still_holds params h holds = (ap (λ (b : Begun). b.tells) same ∙ holds.0, subst (λ x. SpanHolds i x params h) (sym (ap (λ (b : Begun). b.image) same)) holds.1)

  pub as_before : AreAsBefore g i old new
  as_before = record {
    params = ap (λ (b : Begun). b.params) same;
    meta = ap (λ (b : Begun). b.meta) same;
    holds = still_holds;
    tells = ap (λ (b : Begun). b.tells) same;
    image = ap (λ (b : Begun). b.image) same;
    moments = ap (λ (b : Begun). b.moments) same;
  }
