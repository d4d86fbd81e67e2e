-- A second disk that shows spans, whatever these stand for.
use Rattle.std.proofs.Common.{◌≡◌, ◌≢◌, ◌⊎◌, ℕ, List, sym, subst}
use Rattle.bw_types.specs.declared.params.Params.{Params}
use Rattle.page_warehouse.specs.declared.gathering.GatherFault.{GatherFault}
use Rattle.page_warehouse.specs.declared.gathering.GatherFault.TheVariants as gather_fault
use Rattle.page_disk.specs.Image.{Image}
use Rattle.page_disk.specs.Moment.{Moment, MayBeLeftNow}
use Rattle.page_disk.specs.Since.{LeavesNow, LeavesOnly}
use Rattle.page_disk.specs.SinceLaws.{LeavesOnly-same, LeavesOnly-then}
use Rattle.page_disk.specs.declared.disk.Disk.{Ghosts}
use Rattle.page_layout.specs.declared.meta.Meta.{Meta}
use Rattle.ports.specs.Pages.{PageMap}
use Rattle.ports.specs.declared.page.StageFault.{StageFault}
use Rattle.ports.specs.declared.page.StageFault.TheVariants as fault
use Rattle.page_space.specs.Space.{HoldsSpace}
use Rattle.span_planes.specs.Ended.{abandoning_of, gathering_of}
use Rattle.span_planes.specs.Made.{HoldsNoVersion, LeavesShown, MayTakeSpans, ShowsSpans, TellsVersion, second_out}
use Rattle.span_planes.specs.SpanHolds.{without_degree}
use Rattle.span_planes.specs.declared.making.Derived.{Derived}
use Rattle.span_planes.specs.declared.making.Derived.TheVariants.{Done, PageLimit, Damaged, NoMemory, Disk}
use Rattle.span_planes.proofs.NoVersionSpans.{in_order}

-- a space whose meta page tells of spans shows them
pub shown_by : (params : Params) (version : ℕ) (x : Image) (meta : Meta) (map : PageMap) (ordered : Type 0) → ordered → TellsVersion params version meta → HoldsSpace x (without_degree params) meta map ordered
    → ShowsSpans params version x
shown_by params version x meta map ordered order tells space = record {
  meta = meta;
  pages = map;
  space = in_order x (without_degree params) meta map ordered order space;
  tells = tells;
}

-- spans of no version show none
pub none_shown : (params : Params) (x : Image) → HoldsNoVersion params x → ShowsSpans params 0 x
none_shown params x none = record {
  meta = none.meta;
  pages = none.pages;
  space = none.space;
  tells = record { version_is = none.tells.version; events = none.tells.events; table = none.tells.table; roots = none.tells.roots };
}

module _ {E : Type 0} (g : Ghosts E) (params : Params) (version : ℕ) where
  abbrev pub MayShow : Image → Type 0
  MayShow x = MayTakeSpans params x ⊎ ShowsSpans params version x

  -- all was written
  pub done_shown : (second e : E) (last : ℕ) → ShowsSpans params version (g.image e) → LeavesNow (g.moments e) (g.image e) → LeavesOnly MayShow (g.moments second) (g.moments e)
      → LeavesShown g params version second (Done e last)
  done_shown second e last shows settled moments = record {
    done = λ f number same.
        let disk_is : e ≡ f = cc in
        subst (λ (d : E). ShowsSpans params version (g.image d) × ((x : Image) → MayBeLeftNow (g.moments d) x → ShowsSpans params version x)) disk_is
        (shows, λ x left. subst (λ (y : Image). ShowsSpans params version y) (sym (settled x left)) shows);
    moments = moments;
  }

  -- not all was written
  pub undone_shown : (second : E) (ended : Derived E) → ((e : E) (last : ℕ) → ended ≢ Done e last) → LeavesOnly MayShow (g.moments second) (g.moments (second_out ended)) → LeavesShown g params version second ended
  undone_shown second ended not_done moments = record { done = λ e last same. absurd (not_done e last same); moments = moments }

  -- what was so before the second disk was opened
  pub shown_before : (start second : E) (result : Derived E) → LeavesOnly MayShow (g.moments start) (g.moments second) → LeavesShown g params version second result → LeavesShown g params version start result
  shown_before start second result earlier l = record {
    done = l.done;
    moments = LeavesOnly-then MayShow (g.moments start) (g.moments second) (g.moments (second_out result)) earlier l.moments;
  }

  -- the disk came back as it was
  module _ (second back : E) (same : g.moments back ≡ g.moments second) where
    unchanged : LeavesOnly MayShow (g.moments second) (g.moments back)
    unchanged = subst (λ (ms : List Moment). LeavesOnly MayShow (g.moments second) ms) (sym same) (LeavesOnly-same MayShow (g.moments second))

    pub damaged_shown : (page : ℕ) → LeavesShown g params version second (Damaged back page)
    damaged_shown page = undone_shown second (Damaged back page) (λ e last is. cc) unchanged

    -- the stage was abandoned
    pub abandoned_shown : (f : StageFault) → LeavesShown g params version second (abandoning_of f back)
    abandoned_shown fault.Disk = undone_shown second (Disk back) (λ e last is. cc) unchanged
    abandoned_shown (fault.Damaged page) = damaged_shown page
    abandoned_shown (fault.PageLimit n) = undone_shown second (PageLimit back n) (λ e last is. cc) unchanged
    abandoned_shown fault.NoMemory = undone_shown second (NoMemory back) (λ e last is. cc) unchanged

    -- nothing was gathered
    pub gathered_shown : (f : GatherFault) → LeavesShown g params version second (gathering_of f back)
    gathered_shown gather_fault.Disk = undone_shown second (Disk back) (λ e last is. cc) unchanged
    gathered_shown (gather_fault.Damaged page) = damaged_shown page
    gathered_shown gather_fault.NoMemory = undone_shown second (NoMemory back) (λ e last is. cc) unchanged
