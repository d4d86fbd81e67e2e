-- What spans show.
use Rattle.std.specs.Prelude.{ℕ, ◌*◌, length, IsTrue}
use Rattle.bw_types.specs.History.{History, changes}
use Rattle.bw_types.specs.declared.params.Params.{Params}
use Rattle.page_disk.specs.declared.disk.Disk.{Ghosts}
use Rattle.page_layout.specs.declared.meta.Meta.{Meta}
use Rattle.page_space.specs.Shown.{disk_of, meta_of, params_of}
use Rattle.page_space.specs.declared.space.Space.{Space}
use Rattle.dom_index.specs.declared.index.DomIndex.{Ghosts as IndexGhosts}
use Rattle.corner_forest.specs.Entries.{corner_count}
use Rattle.span_planes.specs.SpanHolds.{SpanHolds}
use Rattle.span_planes.specs.declared.spans.Spans.{Spans}

module _ {E X : Type 0} {g : Ghosts E} {i : IndexGhosts X} where
  -- the disk below them
  abbrev pub disk_in : Spans E X g i → E
  disk_in spans = disk_of spans.space

  -- the committed pages that they read
  abbrev pub space_in : Spans E X g i → Space E g
  space_in spans = spans.space

  -- the params of its superblock
  abbrev pub params_in : Spans E X g i → Params
  params_in spans = params_of spans.space

  abbrev pub meta_in : Spans E X g i → Meta
  meta_in spans = meta_of spans.space

module _ {E X : Type 0} (g : Ghosts E) (i : IndexGhosts X) where
  -- The disk, where it tells its image, holds the spans of the history.
  abbrev pub HoldsSpans : E → Params → History → Type 0
  HoldsSpans disk params h = IsTrue (g.tells disk) × SpanHolds i (g.image disk) params h

-- the most reads of a span: one sum a corner, in the trees of the weights and in those of the dated ones, up to the last version and before the
-- first
abbrev pub span_cost : (ℕ → ℕ → ℕ) → Params → History → ℕ
span_cost cost params h = 4 * (corner_count params * cost params.dims (length (changes h)))
