-- A second disk that may take spans, and got none.
use Rattle.std.proofs.Common.{◌≡◌, ℕ, ◌≤◌, IsTrue, List, inl, refl, sym, subst, arith}
use Rattle.bw_types.specs.declared.params.Params.{Params}
use Rattle.ports.specs.Count.{Rose}
use Rattle.page_warehouse.specs.declared.gathering.GatherFault.{GatherFault}
use Rattle.page_warehouse.specs.declared.gathering.GatherFault.TheVariants as gather_fault
use Rattle.page_disk.specs.Image.{Image}
use Rattle.page_disk.specs.Moment.{Moment}
use Rattle.page_disk.specs.Since.{LeavesOnly}
use Rattle.page_disk.specs.SinceLaws.{LeavesOnly-weaken}
use Rattle.page_disk.specs.declared.disk.Disk.{Ghosts}
use Rattle.ports.specs.declared.page.StageFault.{StageFault}
use Rattle.ports.specs.declared.page.StageFault.TheVariants as fault
use Rattle.span_planes.specs.Ended.{abandoning_of, gathering_of}
use Rattle.span_planes.specs.Made.{HoldsNoVersion, IsStillReady, LeavesShown, MayTakeSpans, StaysReady, second_out}
use Rattle.span_planes.specs.Readied.{IsRefused, StaysOpened}
use Rattle.span_planes.specs.declared.making.Derived.{Derived}
use Rattle.span_planes.specs.declared.making.Derived.TheVariants.{Done, Damaged, Disk}
use Rattle.span_planes.proofs.ShownSpans.{MayShow, shown_before, undone_shown}

module _ {E : Type 0} (g : Ghosts E) (params : Params) where
  -- it is done
  pub done_stays : (second e : E) (version : ℕ) → StaysOpened g params second (Done e version)
  done_stays second e version = record { kept = λ not_done calm. absurd (not_done e version refl); at_limit = λ f allotted is. absurd (cc); there = λ f is. cc }

  -- it failed
  pub failed_stays : (second e : E) → Rose (g.faults second) (g.faults e) → StaysOpened g params second (Disk e)
  failed_stays second e rose = record { kept = λ not_done calm. absurd (calm e refl rose); at_limit = λ f allotted is. absurd (cc); there = λ f is. cc }

  -- the disk came back as it was
  module _ (second back : E) (image : g.image back ≡ g.image second) (moments : g.moments back ≡ g.moments second) where
    pub damaged_stays : (page : ℕ) → StaysOpened g params second (Damaged back page)
    damaged_stays page = record { kept = λ not_done calm. (image, moments); at_limit = λ f allotted is. absurd (cc); there = λ f is. cc }

    -- the stage was abandoned
    pub abandoned_stays : (f : StageFault) → ((n : ℕ) → f ≡ fault.PageLimit n → n ≡ params.pages) → StaysOpened g params second (abandoning_of f back)
    abandoned_stays fault.Disk limit = record { kept = λ not_done calm. (image, moments); at_limit = λ f allotted is. absurd (cc); there = λ f is. cc }
    abandoned_stays (fault.Damaged page) limit = damaged_stays page
    abandoned_stays (fault.PageLimit n) limit = record {
      kept = λ not_done calm. (image, moments);
      at_limit = λ f allotted is. let it : n ≡ allotted = cc in subst (λ (m : ℕ). m ≡ params.pages) it (limit n refl);
      there = λ f is. cc;
    }
    abandoned_stays fault.NoMemory limit = record { kept = λ not_done calm. (image, moments); at_limit = λ f allotted is. absurd (cc); there = λ f is. cc }

    -- nothing was gathered
    pub gathered_stays : (f : GatherFault) → StaysOpened g params second (gathering_of f back)
    gathered_stays gather_fault.Disk = record { kept = λ not_done calm. (image, moments); at_limit = λ f allotted is. absurd (cc); there = λ f is. cc }
    gathered_stays (gather_fault.Damaged page) = damaged_stays page
    gathered_stays gather_fault.NoMemory = record { kept = λ not_done calm. (image, moments); at_limit = λ f allotted is. absurd (cc); there = λ f is. cc }

  -- what may take spans may be left as well as what shows some
  taking : (version : ℕ) (start end : List Moment) → LeavesOnly (MayTakeSpans params) start end → LeavesOnly (MayShow g params version) start end
  taking version start end leaves = LeavesOnly-weaken (MayTakeSpans params) (MayShow g params version) start end (λ x takes. inl takes) leaves

  -- it was refused
  pub refused_ready : (version : ℕ) (second : E) (ended : Derived E) → IsRefused g params second ended → IsTrue (g.tells second) → MayTakeSpans params (g.image second)
      → LeavesOnly (MayTakeSpans params) (g.moments second) (g.moments (second_out ended)) → StaysReady g params version second ended
  refused_ready version second ended r told may moments = record {
    ready = λ not_done calm. (r.kept (λ e is. calm e is (r.early.disk e is)) told may, moments);
    shown = undone_shown g params version second ended r.early.not_done (taking version (g.moments second) (g.moments (second_out ended)) moments);
    none = λ e is. absurd (r.early.not_done e 0 is);
    at_limit = λ e allotted is. absurd (r.early.not_limited e allotted is);
    there = (r.sound told may).0;
  }

  -- it was opened
  pub opened_ready : (version : ℕ) (start second : E) (result : Derived E) → g.faults start ≤ g.faults second → IsStillReady params (g.image start) (g.image second)
      → LeavesOnly (MayTakeSpans params) (g.moments start) (g.moments second) → StaysOpened g params second result → LeavesShown g params version second result
      → ((e : E) → result ≡ Done e 0 → HoldsNoVersion params (g.image e) × (g.image e ≡ g.image second)) → StaysReady g params version start result
  opened_ready version start second result more still earlier r shown none = record {
    ready = λ not_done calm.
        let here = r.kept not_done (λ e is rose. calm e is (omega (arith, rose, more))) in (
          subst (λ (x : Image). IsStillReady params (g.image start) x) (sym here.0) still,
          subst (λ (ms : List Moment). LeavesOnly (MayTakeSpans params) (g.moments start) ms) (sym here.1) earlier,
        );
    shown = shown_before g params version start second result (taking version (g.moments start) (g.moments second) earlier) shown;
    none = λ e is. (let held = none e is in (held.0, subst (λ (x : Image). IsStillReady params (g.image start) x) (sym held.1) still));
    at_limit = r.at_limit;
    there = r.there;
  }
