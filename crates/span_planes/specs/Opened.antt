-- What an opening of spans asks of the superblock and the meta page beside their spelling, and what it leaves.
use Rattle.std.specs.Prelude.{◌≡◌, ◌≢◌, ◌⊎◌, ℕ, ◌<◌, ◌≤◌, true, IsTrue, length}
use Rattle.bw_types.specs.History.{History}
use Rattle.bw_types.specs.declared.params.Params.{Params}
use Rattle.page_disk.specs.Image.{Image}
use Rattle.page_disk.specs.Since.{LeavesNow}
use Rattle.page_disk.specs.declared.disk.Disk.{Ghosts}
use Rattle.redo_journal.specs.Gates.{is_empty}
use Rattle.redo_journal.specs.Settled.{SettlesTo}
use Rattle.page_layout.specs.declared.meta.Meta.{Meta}
use Rattle.page_space.specs.Faults.{AtBadJournal, AtDamaged, AtEmpty}
use Rattle.page_space.specs.Opening.{StandsAlike, StandsDamagedAt}
use Rattle.page_space.specs.Settling.{IsBadAt}
use Rattle.page_space.specs.Space.{HoldsSpace}
use Rattle.ports.specs.Pages.{PageMap}
use Rattle.page_space.specs.declared.refusal.OpenFault.{OpenFault}
use Rattle.page_space.specs.declared.refusal.OpenFault.TheVariants.{Disk, NoMemory}
use Rattle.dom_index.specs.declared.index.DomIndex.{Ghosts as IndexGhosts}
use Rattle.span_planes.specs.Shown.{disk_in, meta_in, params_in}
use Rattle.span_planes.specs.SpanHolds.{SpanHolds, without_degree}
use Rattle.span_planes.specs.SpanPoints.{span_roots}
use Rattle.span_planes.specs.declared.spans.Spans.{Spans}

-- The meta page is one of spans: without events, and with two trees for each subset of the dimensions.
pub record IsMetaOfSpans (params : Params) (meta : Meta) : Type 0 where
  pub events : meta.events ≡ 0
  pub roots : length meta.roots.items ≡ span_roots params

-- This page of a space is the one for which it has no spans over an index of so many dimensions: the superblock, or behind one the meta
-- page.
pub record HasNoSpansAt (dims : ℕ) (x : Image) (page : ℕ) : Type 0 where
  pub params : Params
  pub meta : Meta
  pub pages : PageMap
  pub space : HoldsSpace x params meta pages ⊥
  pub at : ((page ≡ 1) × (dims < params.dims)) ⊎ ((page ≡ 2) × (params.dims ≤ dims) × (IsMetaOfSpans params meta → ⊥))

-- What an opening may call damaged: a page for which there is no space, or behind one no spans.
abbrev pub IsDamagedToOpen : ℕ → Image → ℕ → Type 0
IsDamagedToOpen dims x page = StandsDamagedAt x page ⊎ HasNoSpansAt dims x page

module _ {E X : Type 0} (g : Ghosts E) (i : IndexGhosts X) where
  -- The spans are those of this disk. Their own disk stands for the same pages, so that it holds the spans of whatever history the disk
  -- held, and a crash from now on leaves that disk's image and no other.
  pub record IsOpenedFrom (disk : E) (spans : Spans E X g i) : Type 0 where
    pub settles : IsTrue (g.tells disk) → SettlesTo (g.image disk) (g.image (disk_in spans)).pages
    pub stands : IsTrue (g.tells disk) → StandsAlike (g.image disk) (g.image (disk_in spans))
    pub numbers : ((params_in spans).dims ≤ i.DIMS) × IsMetaOfSpans (params_in spans) (meta_in spans)
    pub whole : IsTrue (g.tells disk) → (pages : PageMap) × HoldsSpace (g.image disk) (params_in spans) (meta_in spans) pages ⊥
    pub holds : (params : Params) (h : History) → IsTrue (g.tells disk) → SpanHolds i (g.image disk) params h
        → (params_in spans ≡ without_degree params) × SpanHolds i (g.image (disk_in spans)) params h
    pub settled : LeavesNow (g.moments (disk_in spans)) (g.image (disk_in spans))

  -- The disk is refused for a fault that it has, or for want of memory: where it holds spans, no page of it is at fault. What comes back
  -- stands for the same pages and holds the same spans, and a crash from now on leaves its image and no other, unless the device failed.
  pub record IsRefusedFor (disk : E) (fault : OpenFault) (back : E) : Type 0 where
    pub empty : AtEmpty fault (IsTrue (g.tells disk) → is_empty (g.image disk) ≡ true)
    pub bad_journal : AtBadJournal fault (λ page. IsTrue (g.tells disk) → IsBadAt (g.image disk) page)
    pub damaged : AtDamaged fault (λ page. IsTrue (g.tells disk) → IsDamagedToOpen i.DIMS (g.image disk) page)
    pub sound : IsTrue (g.tells disk) → (params : Params) (h : History) → SpanHolds i (g.image disk) params h → (fault ≡ Disk) ⊎ (fault ≡ NoMemory)
    pub stands : fault ≢ Disk → IsTrue (g.tells disk) → StandsAlike (g.image disk) (g.image back)
    pub kept : fault ≢ Disk → IsTrue (g.tells disk) → (params : Params) (h : History) → SpanHolds i (g.image disk) params h
        → SpanHolds i (g.image back) params h
    pub settled : fault ≢ Disk → IsTrue (g.tells disk) → LeavesNow (g.moments back) (g.image back)
