-- The spans of a history that a warehouse holds, on a second disk.
use Rattle.std.proofs.Common.{◌≡◌, ◌≢◌, ℕ, IsTrue, List, [], ◌∷◌, refl, sym, subst, IsPermutation}
use Rattle.bw_types.specs.History.{History, last_version}
use Rattle.bw_types.specs.Lives.{lives}
use Rattle.bw_types.specs.declared.params.Params.{Params}
use Rattle.dom_index.specs.declared.index.DomIndex.{Ghosts as IndexGhosts}
use Rattle.page_warehouse.specs.Events.{AreEventsOf, events_of_lives}
use Rattle.page_warehouse.specs.declared.event.Event.{Event}
use Rattle.page_warehouse.specs.declared.gathering.GatherFault.{GatherFault}
use Rattle.page_warehouse.specs.declared.gathering.GatherFault.TheVariants as gather_fault
use Rattle.page_disk.specs.Image.{Image}
use Rattle.page_disk.specs.Moment.{Moment}
use Rattle.page_disk.specs.Since.{LeavesOnly}
use Rattle.page_disk.specs.SinceLaws.{LeavesOnly-same}
use Rattle.page_disk.specs.declared.disk.Disk.{Ghosts}
use Rattle.page_warehouse.specs.Holds.{Holds}
use Rattle.span_planes.specs.Ended.{gathering_of}
use Rattle.span_planes.specs.Made.{LeavesSpans, MayTakeSpans, second_out}
use Rattle.span_planes.specs.Readied.{IsRefused}
use Rattle.span_planes.specs.Writing.{AreAllOf}
use Rattle.span_planes.specs.declared.making.Derived.{Derived}
use Rattle.span_planes.specs.declared.making.Derived.TheVariants.{NoMemory}
use Rattle.span_planes.proofs.Written.{IsPossible, failed_leaves, undone_leaves}

-- what was gathered of a history that is held is all of it
pub all_of : {X : Type 0} (i : IndexGhosts X) (x : Image) (params : Params) (events : List Event) (last : ℕ) (h : History) → Holds i x params h → last ≡ last_version h → AreEventsOf events h
    → IsPermutation (events_of_lives (lives h)) events → AreAllOf params events last h
all_of i x params events last h held is all by_lives = record { last_is = is; lawful = held.lawful; weights = held.weights; all = all; by_lives = by_lives }

module _ {E X : Type 0} (g : Ghosts E) (i : IndexGhosts X) (params : Params) (h : History) where
  -- nothing was gathered
  pub gathered_leaves : (second back : E) (f : GatherFault) → g.moments back ≡ g.moments second → ((page : ℕ) → f ≢ gather_fault.Damaged page) → LeavesSpans g i params h second (gathering_of f back)
  gathered_leaves second back gather_fault.Disk same sound =
      failed_leaves g i params h second back (subst (λ (ms : List Moment). LeavesOnly (IsPossible g i params h) (g.moments second) ms) (sym same) (LeavesOnly-same (IsPossible g i params h) (g.moments second)))
  gathered_leaves second back (gather_fault.Damaged page) same sound = absurd (sound page refl)
  gathered_leaves second back gather_fault.NoMemory same sound =
      undone_leaves g i params h second (NoMemory back) (λ e version is. cc) (λ e allotted before is. absurd (cc)) (λ e page is. cc)
      (subst (λ (ms : List Moment). LeavesOnly (IsPossible g i params h) (g.moments second) ms) (sym same) (LeavesOnly-same (IsPossible g i params h) (g.moments second)))

  -- the second disk was refused
  pub refused_leaves : (second : E) (ended : Derived E) → IsRefused g params second ended → IsTrue (g.tells second) → MayTakeSpans params (g.image second)
      → LeavesOnly (IsPossible g i params h) (g.moments second) (g.moments (second_out ended)) → LeavesSpans g i params h second ended
  refused_leaves second ended r told may moments =
      undone_leaves g i params h second ended r.early.not_done (λ e allotted before is. absurd (r.early.not_limited e allotted is)) (r.sound told may).1 moments

-- a history without a version is the empty one
pub none_yet : (h : History) → 0 ≡ last_version h → h ≡ []
none_yet [] is = refl
none_yet (b ∷ h) is = cc
