-- What is left of a second disk to which the spans of a history are written.
use Rattle.std.proofs.Common.{◌≡◌, ◌≢◌, ◌⊎◌, ℕ, ◌+◌, ◌<◌, ◌≤◌, List, length, inl, inr, refl, sym, ◌∙◌, ap, subst, IsPermutation}
use Rattle.bw_types.specs.Fits.{IsInRange}
use Rattle.bw_types.specs.History.{History, changes, last_version}
use Rattle.bw_types.specs.declared.params.Params.{Params}
use Rattle.bw_types.specs.declared.point.Point.{Point}
use Rattle.bw_types.specs.declared.tree.Tree.{Tree}
use Rattle.dom_index.specs.declared.index.DomIndex.{Ghosts as IndexGhosts}
use Rattle.page_warehouse.specs.declared.event.Event.{Event}
use Rattle.page_disk.specs.Image.{Image}
use Rattle.page_disk.specs.Moment.{Moment, MayBeLeftNow}
use Rattle.page_disk.specs.Since.{LeavesNow, LeavesOnly}
use Rattle.page_disk.specs.SinceLaws.{LeavesOnly-same, LeavesOnly-then, LeavesOnly-weaken}
use Rattle.page_disk.specs.declared.disk.Disk.{Ghosts}
use Rattle.page_layout.specs.declared.meta.Meta.{Meta}
use Rattle.ports.specs.Pages.{PageMap}
use Rattle.ports.specs.declared.page.StageFault.{StageFault}
use Rattle.ports.specs.declared.page.StageFault.TheVariants as fault
use Rattle.page_space.specs.Begun.{Begun, OrderedUnder, map_under}
use Rattle.page_space.specs.Space.{HoldsSpace}
use Rattle.span_planes.specs.Ended.{abandoning_of}
use Rattle.span_planes.specs.Filled.{FilledTrees, entries_in, span_growth}
use Rattle.span_planes.specs.Made.{HasGivenOut, LeavesSpans, MayTakeSpans, second_out}
use Rattle.span_planes.specs.Readied.{TellNoVersion}
use Rattle.span_planes.specs.SpanHolds.{SpanHolds, without_degree}
use Rattle.span_planes.specs.Writing.{AreAllOf, IsMetaFor}
use Rattle.span_planes.specs.declared.making.Derived.{Derived}
use Rattle.span_planes.specs.declared.making.Derived.TheVariants.{Done, PageLimit, Damaged, NoMemory, Disk}
use Rattle.span_planes.proofs.EventEntries.{entries_permuted}
use Rattle.span_planes.proofs.InTurn.{event_number}
use Rattle.span_planes.proofs.NoVersionSpans.{in_order, space_none}
use Rattle.span_planes.proofs.StandingSpans.{spans_stand}

-- The space that was filled holds the spans.
module _ {X : Type 0} (i : IndexGhosts X)
    (any_order : (pages : PageMap) (dims : ℕ) (tree : Tree) (points others : List Point) → i.stands pages dims tree points → IsPermutation points others → i.stands pages dims tree others)
    (params : Params) (range : IsInRange params) (dims : params.dims ≤ i.DIMS) (events : List Event) (last : ℕ) (h : History) (all : AreAllOf params events last h)
    (before after : PageMap) (meta : Meta) (is : IsMetaFor params last (length events) meta) (filled : FilledTrees i before after params (entries_in events) meta.roots.items) where
  pub spans_held : (x : Image) (order : Type 0) → order → HoldsSpace x (without_degree params) meta after order → SpanHolds i x params h
  spans_held x order ordered space = record {
    meta = meta;
    pages = after;
    space = in_order x (without_degree params) meta after order ordered space;
    tells = record {
      version = is.version ∙ all.last_is;
      events = is.events;
      rows = is.rows_are ∙ event_number events h all.all;
      table = is.table;
      roots = is.roots;
    };
    range = range;
    lawful = all.lawful;
    weights = all.weights;
    trees = spans_stand i any_order before after params (entries_in events) meta.roots.items h dims (entries_permuted h events all.by_lives) filled;
    apart = filled.once;
  }

-- A commit over a space of spans of no version: a crash leaves what may take spans, or what the stage holds.
pub commit_leaves : (params : Params) (begun based : Begun) (meta : Meta) (map : PageMap) (order : Type 0) (P : Image → Type 0) (new : List Moment)
    → based ≡ begun → OrderedUnder begun → TellNoVersion params begun.params begun.meta → ((x : Image) → HoldsSpace x (without_degree params) meta map order → P x)
    → LeavesOnly (λ x. HoldsSpace x based.params based.meta (map_under based) (OrderedUnder based) ⊎ HoldsSpace x based.params meta map order) based.moments new
    → LeavesOnly (λ x. MayTakeSpans params x ⊎ P x) begun.moments new
commit_leaves params begun based meta map order P new is ordered told holds leaves =
    let own : based.params ≡ without_degree params = ap (λ (b : Begun). b.params) is ∙ told.own in
    let ordered_there : OrderedUnder based = subst OrderedUnder (sym is) ordered in
    let told_there : TellNoVersion params based.params based.meta = subst (λ (b : Begun). TellNoVersion params b.params b.meta) (sym is) told in
    subst (λ (b : Begun). LeavesOnly (λ x. MayTakeSpans params x ⊎ P x) b.moments new) is
    (LeavesOnly-weaken _ (λ x. MayTakeSpans params x ⊎ P x) based.moments new
    (λ x has. elim has [
      | inl before ↦ inl (inr (space_none params x based.params based.meta (map_under based) (OrderedUnder based) ordered_there before told_there))
      | inr after ↦ inr (holds x (subst (λ (p : Params). HoldsSpace x p meta map order) own after))
    ]) leaves)

module _ {E X : Type 0} (g : Ghosts E) (i : IndexGhosts X) (params : Params) (h : History) where
  abbrev pub IsPossible : Image → Type 0
  IsPossible x = MayTakeSpans params x ⊎ SpanHolds i x params h

  -- all was written
  pub done_leaves : (second e : E) (last : ℕ) → last ≡ last_version h → SpanHolds i (g.image e) params h → LeavesNow (g.moments e) (g.image e) → LeavesOnly IsPossible (g.moments second) (g.moments e)
      → ((before after : ℕ) → HasGivenOut params (g.image second) before → HasGivenOut params (g.image e) after → after ≤ before + span_growth params (length (changes h)))
      → LeavesSpans g i params h second (Done e last)
  done_leaves second e last is holds settled moments growth = record {
    done = λ f version same.
        let version_is : version ≡ last = cc in
        let disk_is : e ≡ f = cc in (
          version_is ∙ is,
          subst (λ (d : E). SpanHolds i (g.image d) params h × ((x : Image) → MayBeLeftNow (g.moments d) x → SpanHolds i x params h)) disk_is
              (holds, λ x left. subst (λ (y : Image). SpanHolds i y params h) (sym (settled x left)) holds),
        );
    moments = moments;
    growth = λ f version before after same first now.
        let disk_is : e ≡ f = cc in
        growth before after first (subst (λ (d : E). HasGivenOut params (g.image d) after) (sym disk_is) now);
    limit = λ f allotted before same. absurd (cc);
    sound = λ f page same. cc;
  }

  -- not all was written
  pub undone_leaves : (second : E) (ended : Derived E) → ((e : E) (version : ℕ) → ended ≢ Done e version)
      → ((e : E) (allotted before : ℕ) → ended ≡ PageLimit e allotted → HasGivenOut params (g.image second) before → params.pages < before + span_growth params (length (changes h)))
      → ((e : E) (page : ℕ) → ended ≢ Damaged e page) → LeavesOnly IsPossible (g.moments second) (g.moments (second_out ended)) → LeavesSpans g i params h second ended
  undone_leaves second ended not_done limit sound moments = record {
    done = λ e version same. absurd (not_done e version same);
    moments = moments;
    growth = λ e version before after same. absurd (not_done e version same);
    limit = limit;
    sound = sound;
  }

  -- the disk failed
  pub failed_leaves : (second e : E) → LeavesOnly IsPossible (g.moments second) (g.moments e) → LeavesSpans g i params h second (Disk e)
  failed_leaves second e moments = undone_leaves second (Disk e) (λ f version is. cc) (λ f allotted before is. absurd (cc)) (λ f page is. cc) moments

  unchanged : (second back : E) → g.moments back ≡ g.moments second → LeavesOnly IsPossible (g.moments second) (g.moments back)
  unchanged second back same = subst (λ (ms : List Moment). LeavesOnly IsPossible (g.moments second) ms) (sym same) (LeavesOnly-same IsPossible (g.moments second))

  -- the stage was abandoned
  pub abandoned_leaves : (second back : E) (f : StageFault) → g.moments back ≡ g.moments second → ((page : ℕ) → f ≢ fault.Damaged page)
      → ((n before : ℕ) → f ≡ fault.PageLimit n → HasGivenOut params (g.image second) before → params.pages < before + span_growth params (length (changes h))) → LeavesSpans g i params h second (abandoning_of f back)
  abandoned_leaves second back fault.Disk same sound limit = failed_leaves second back (unchanged second back same)
  abandoned_leaves second back (fault.Damaged page) same sound limit = absurd (sound page refl)
  abandoned_leaves second back (fault.PageLimit n) same sound limit =
      undone_leaves second (PageLimit back n) (λ e version is. cc) (λ e allotted before is. limit n before refl) (λ e page is. cc) (unchanged second back same)
  abandoned_leaves second back fault.NoMemory same sound limit =
      undone_leaves second (NoMemory back) (λ e version is. cc) (λ e allotted before is. absurd (cc)) (λ e page is. cc) (unchanged second back same)

  -- what was so before the second disk was opened
  pub leaves_before : (start second : E) (result : Derived E) → ((n : ℕ) → HasGivenOut params (g.image start) n → HasGivenOut params (g.image second) n) → LeavesOnly IsPossible (g.moments start) (g.moments second) → LeavesSpans g i params h second result → LeavesSpans g i params h start result
  leaves_before start second result given earlier l = record {
    done = l.done;
    moments = LeavesOnly-then IsPossible (g.moments start) (g.moments second) (g.moments (second_out result)) earlier l.moments;
    growth = λ e version before after is out. l.growth e version before after is (given before out);
    limit = λ e allotted before is out. l.limit e allotted before is (given before out);
    sound = l.sound;
  }

-- what an abandoned stage is not, and which disk it gives back
module _ {E : Type 0} where
  pub abandoned_out : (f : StageFault) (back : E) → second_out (abandoning_of f back) ≡ back
  abandoned_out fault.Disk back = refl
  abandoned_out (fault.Damaged page) back = refl
  abandoned_out (fault.PageLimit n) back = refl
  abandoned_out fault.NoMemory back = refl

  pub abandoned_done : (f : StageFault) (back e : E) (version : ℕ) → abandoning_of f back ≢ Done e version
  abandoned_done fault.Disk back e version same = cc
  abandoned_done (fault.Damaged page) back e version same = cc
  abandoned_done (fault.PageLimit n) back e version same = cc
  abandoned_done fault.NoMemory back e version same = cc

  pub abandoned_disk : (f : StageFault) (back e : E) → abandoning_of f back ≡ Disk e → (f ≡ fault.Disk) × (back ≡ e)
  abandoned_disk fault.Disk back e same = (refl, cc)
  abandoned_disk (fault.Damaged page) back e same = absurd (cc)
  abandoned_disk (fault.PageLimit n) back e same = absurd (cc)
  abandoned_disk fault.NoMemory back e same = absurd (cc)
