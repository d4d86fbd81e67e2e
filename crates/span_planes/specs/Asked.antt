-- What a query leaves of spans.
use Rattle.std.specs.Prelude.{◌≡◌}
use Rattle.bw_types.specs.History.{History}
use Rattle.bw_types.specs.declared.params.Params.{Params}
use Rattle.page_disk.specs.declared.disk.Disk.{Ghosts}
use Rattle.dom_index.specs.declared.index.DomIndex.{Ghosts as IndexGhosts}
use Rattle.span_planes.specs.Shown.{HoldsSpans, disk_in, meta_in, params_in}
use Rattle.span_planes.specs.declared.spans.Spans.{Spans}

-- The spans are as before: of whatever history the disk held, it holds them, and reads and crashes find nothing else.
pub record AreAsBefore {E X : Type 0} (g : Ghosts E) (i : IndexGhosts X) (old new : Spans E X g i) : Type 0 where
  pub params : params_in new ≡ params_in old
  pub meta : meta_in new ≡ meta_in old
  pub holds : (params : Params) (h : History) → HoldsSpans g i (disk_in old) params h → HoldsSpans g i (disk_in new) params h
  pub tells : g.tells (disk_in new) ≡ g.tells (disk_in old)
  pub image : g.image (disk_in new) ≡ g.image (disk_in old)
  pub moments : g.moments (disk_in new) ≡ g.moments (disk_in old)
