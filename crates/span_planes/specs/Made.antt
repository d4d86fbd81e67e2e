-- A disk on which spans are made.
use Rattle.std.specs.Prelude.{◌≡◌, ◌≢◌, ◌⊎◌, ◌↔◌, ℕ, ◌+◌, ◌<◌, ◌≤◌, true, [], length, replicate}
use Rattle.std.specs.List.{All}
use Rattle.bw_types.specs.Empty.{empty_tree}
use Rattle.bw_types.specs.Fits.{IsInRange}
use Rattle.bw_types.specs.History.{History, changes, last_version}
use Rattle.bw_types.specs.declared.params.Params.{Params}
use Rattle.ports.specs.Count.{Rose}
use Rattle.page_disk.specs.Image.{Image}
use Rattle.page_disk.specs.Moment.{MayBeLeftNow}
use Rattle.page_disk.specs.Since.{LeavesOnly}
use Rattle.page_disk.specs.declared.disk.Disk.{Ghosts}
use Rattle.page_layout.specs.Meta.{meta_page}
use Rattle.page_layout.specs.declared.meta.Meta.{Meta}
use Rattle.ports.specs.Pages.{PageMap}
use Rattle.page_space.specs.Opening.{StandsAlike}
use Rattle.page_space.specs.Space.{HoldsSpace, params_page}
use Rattle.redo_journal.specs.Gates.{IsCreated, is_empty}
use Rattle.dom_index.specs.declared.index.DomIndex.{Ghosts as IndexGhosts}
use Rattle.span_planes.specs.Filled.{span_growth}
use Rattle.span_planes.specs.SpanHolds.{SpanHolds, TellsSpans, without_degree}
use Rattle.span_planes.specs.SpanPoints.{span_roots}
use Rattle.span_planes.specs.declared.making.Derived.{Derived}
use Rattle.span_planes.specs.declared.making.Derived.TheVariants.{Done, AlreadyThere, PageLimit, Damaged, NoMemory, Disk}

-- the meta page of spans without versions: only its three first pages are given out
abbrev pub new_meta : Params → Meta
new_meta params = record {
  lives = 1;
  version = 0;
  events = 0;
  rows = 0;
  allotted = 3;
  free = 0;
  mass = 0;
  table = empty_tree;
  roots = record { items = replicate (span_roots params) empty_tree };
}

-- The disk has new spans of a warehouse with these params.
abbrev pub IsNew : Params → Image → Type 0
IsNew params x = IsCreated (params_page (without_degree params)) (meta_page (new_meta params)) x

-- The disk holds spans of no version, of a warehouse with these params: its meta page tells of none, each of its trees is empty, and its free
-- pages are in order.
pub record HoldsNoVersion (params : Params) (x : Image) : Type 0 where
  pub meta : Meta
  pub pages : PageMap
  pub space : HoldsSpace x (without_degree params) meta pages (Unit {0})
  pub tells : TellsSpans params meta []
  pub empty : All (λ t. t ≡ empty_tree) meta.roots.items

-- Spans may be made there: it is empty, or holds spans of no version.
abbrev pub MayTakeSpans : Params → Image → Type 0
MayTakeSpans params x = (is_empty x ≡ true) ⊎ HoldsNoVersion params x

-- The meta page is one of spans up to this version.
pub record TellsVersion (params : Params) (version : ℕ) (meta : Meta) : Type 0 where
  pub version_is : meta.version ≡ version
  pub events : meta.events ≡ 0
  pub table : meta.table ≡ empty_tree
  pub roots : length meta.roots.items ≡ span_roots params

-- The disk shows spans up to this version, of a warehouse with these params: a space with its free pages in order, whose meta page tells of
-- them. What its trees stand for is left open.
pub record ShowsSpans (params : Params) (version : ℕ) (x : Image) : Type 0 where
  pub meta : Meta
  pub pages : PageMap
  pub space : HoldsSpace x (without_degree params) meta pages (Unit {0})
  pub tells : TellsVersion params version meta

-- The disk is a space of a warehouse without its degree, and this is how many page numbers it has given out.
pub record GivesOut (params : Params) (x : Image) (n : ℕ) : Type 0 where
  pub meta : Meta
  pub pages : PageMap
  pub space : HoldsSpace x (without_degree params) meta pages ⊥
  pub allotted : meta.allotted ≡ n

-- How many page numbers a disk that may take spans has given out, before any are made: those of its three first pages where it is empty.
abbrev pub HasGivenOut : Params → Image → ℕ → Type 0
HasGivenOut params x n = ((is_empty x ≡ true) × (n ≡ 3)) ⊎ GivesOut params x n

-- The disk that may take spans is the one that might before: it stands for the same pages, and where it was empty it is so, or has new spans.
pub record IsStillReady (params : Params) (x y : Image) : Type 0 where
  pub alike : StandsAlike x y
  pub empty : is_empty x ≡ true → (is_empty y ≡ true) ⊎ IsNew params y

-- the second disk when the call is done
abbrev pub second_out : {E : Type 0} → Derived E → E
second_out (Done second version) = second
second_out (AlreadyThere second) = second
second_out (PageLimit second allotted) = second
second_out (Damaged second page) = second
second_out (NoMemory second) = second
second_out (Disk second) = second

module _ {X : Type 0} (i : IndexGhosts X) where
  -- New spans hold those of the empty history.
  abbrev pub NewSpansHoldNothing : Type 0
  NewSpansHoldNothing = (x : Image) (params : Params) → IsInRange params → params.dims ≤ i.DIMS → IsNew params x → SpanHolds i x params []

  -- A disk holds spans of no version exactly where it holds those of the empty history.
  abbrev pub NoVersionHoldsNothing : Type 0
  NoVersionHoldsNothing = (x : Image) (params : Params) → IsInRange params → params.dims ≤ i.DIMS → HoldsNoVersion params x ↔ SpanHolds i x params []

module _ {E X : Type 0} (g : Ghosts E) (i : IndexGhosts X) where
  -- What is left of a second disk that may take spans, when those of this history are written to it, however that ends.
  pub record LeavesSpans (params : Params) (h : History) (second : E) (result : Derived E) : Type 0 where
    -- Where it is done, it holds them, and a crash from now on leaves them.
    pub done : (e : E) (version : ℕ) → result ≡ Done e version
        → (version ≡ last_version h) × (SpanHolds i (g.image e) params h × ((x : Image) → MayBeLeftNow (g.moments e) x → SpanHolds i x params h))
    -- A crash at any moment left what it might have left before, what may take spans, or all of them.
    pub moments : LeavesOnly (λ x. MayTakeSpans params x ⊎ SpanHolds i x params h) (g.moments second) (g.moments (second_out result))
    -- It gives out no more page numbers than are stated, beside those of before.
    pub growth : (e : E) (version before after : ℕ) → result ≡ Done e version → HasGivenOut params (g.image second) before → HasGivenOut params (g.image e) after
        → after ≤ before + span_growth params (length (changes h))
    -- Pages lack only where the stated need passes the limit, beside what was given out before.
    pub limit : (e : E) (allotted before : ℕ) → result ≡ PageLimit e allotted → HasGivenOut params (g.image second) before
        → params.pages < before + span_growth params (length (changes h))
    pub sound : (e : E) (page : ℕ) → result ≢ Damaged e page

module _ {E : Type 0} (g : Ghosts E) where
  -- A second disk, when spans up to this version are to be written to it, whatever they stand for.
  pub record LeavesShown (params : Params) (version : ℕ) (second : E) (result : Derived E) : Type 0 where
    -- Where it is done, it shows them, and a crash from now on leaves them.
    pub done : (e : E) (last : ℕ) → result ≡ Done e last → ShowsSpans params version (g.image e) × ((x : Image) → MayBeLeftNow (g.moments e) x → ShowsSpans params version x)
    -- A crash at any moment left what it might have left before, what may take spans, or what shows them.
    pub moments : LeavesOnly (λ x. MayTakeSpans params x ⊎ ShowsSpans params version x) (g.moments second) (g.moments (second_out result))

  -- A second disk that may take spans, whatever the first one holds up to this version: it is not told to be there, and where it is done it
  -- shows spans up to that version. Unless spans were written or it failed, it is still ready for them, and what a crash at any moment left may
  -- take them, beside what it might have left before. Spans of no version may be replaced by those of more, and are those that were there.
  pub record StaysReady (params : Params) (version : ℕ) (second : E) (result : Derived E) : Type 0 where
    pub ready : ((e : E) (last : ℕ) → result ≢ Done e last) → ((e : E) → result ≡ Disk e → Rose (g.faults second) (g.faults e) → ⊥)
        → IsStillReady params (g.image second) (g.image (second_out result)) × LeavesOnly (MayTakeSpans params) (g.moments second) (g.moments (second_out result))
    pub shown : LeavesShown params version second result
    pub none : (e : E) → result ≡ Done e 0 → HoldsNoVersion params (g.image e) × IsStillReady params (g.image second) (g.image e)
    pub at_limit : (e : E) (allotted : ℕ) → result ≡ PageLimit e allotted → allotted ≡ params.pages
    pub there : (e : E) → result ≢ AlreadyThere e

  -- A second disk that may not take spans is told to be there, and never that it is damaged. It is as it was, whatever journal is open on it:
  -- no call writes to it.
  pub record StaysThere (second : E) (result : Derived E) : Type 0 where
    pub only : ((e : E) (version : ℕ) → result ≢ Done e version) × (((e : E) (allotted : ℕ) → result ≢ PageLimit e allotted) × ((e : E) (page : ℕ) → result ≢ Damaged e page))
    pub image : g.image (second_out result) ≡ g.image second
    pub moments : g.moments (second_out result) ≡ g.moments second
