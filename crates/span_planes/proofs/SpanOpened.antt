-- A space that is opened, and the spans that its disk holds.
use Rattle.std.proofs.Common.{◌≡◌, ℕ, ◌⊎◌, ◌<◌, ◌≤◌, true, false, List, inl, inr, refl, sym, ◌∙◌, ap, subst}
use Rattle.bw_types.specs.History.{History, last_version}
use Rattle.bw_types.specs.declared.params.Params.{Params}
use Rattle.page_disk.specs.Image.{Image, PageList}
use Rattle.page_disk.specs.Moment.{Moment}
use Rattle.page_disk.specs.Since.{LeavesOnly}
use Rattle.page_layout.specs.declared.meta.Meta.{Meta}
use Rattle.ports.specs.Pages.{PageMap}
use Rattle.redo_journal.specs.Gates.{is_empty, gate_of}
use Rattle.redo_journal.specs.Settled.{SettlesTo, SettlesToOne, IdleSettles}
use Rattle.redo_journal.specs.declared.gate.Gate.TheVariants.{Idle}
use Rattle.page_space.specs.Faults.{AtBadJournal, AtDamaged, AtEmpty}
use Rattle.page_space.specs.Laws.{HeldOpens, HoldsOne}
use Rattle.page_space.specs.Opening.{StandsAlike, StandsDamagedAt}
use Rattle.page_space.specs.Settling.{IsBadAt}
use Rattle.page_space.specs.Space.{HoldsSpace}
use Rattle.page_space.specs.declared.refusal.OpenFault.{OpenFault}
use Rattle.page_space.specs.declared.refusal.OpenFault.TheVariants.{Disk, Empty, Damaged, NoMemory, BadJournal}
use Rattle.dom_index.specs.declared.index.DomIndex.{Ghosts}
use Rattle.span_planes.specs.Opened.{IsDamagedToOpen, IsMetaOfSpans}
use Rattle.span_planes.specs.SpanHolds.{SpanHolds, SpansStand, without_degree}

-- a space whose free pages may be in order or not
pub unordered : (x : Image) (params : Params) (meta : Meta) (map : PageMap) (ordered : Type 0) → HoldsSpace x params meta map ordered → HoldsSpace x params meta map ⊥
unordered x params meta map ordered h = record {
  pages = h.pages;
  settled = h.settled;
  space = record {
    superblock = h.space.superblock;
    roots = h.space.roots;
    there = h.space.there;
    few = h.space.few;
    in_use = h.space.in_use;
    in_order = λ no. absurd no;
  };
}

-- whatever pages the disk stood for, the disk of the opened space stands for too
pub stands_alike : SettlesToOne → IdleSettles → (x y : Image) → SettlesTo x y.pages → gate_of y ≡ Idle → StandsAlike x y
stands_alike one idle x y settles gate = λ pages stands. subst (λ (ps : PageList). SettlesTo y ps) (one x y.pages pages settles stands) (idle y gate)

-- a page that an opening of the space may call damaged
pub damaged_space : (dims : ℕ) (x : Image) (told : Type 0) (fault : OpenFault) → AtDamaged fault (λ page. told → StandsDamagedAt x page) → AtDamaged fault (λ page. told → IsDamagedToOpen dims x page)
damaged_space dims x told Disk at = tt
damaged_space dims x told NoMemory at = tt
damaged_space dims x told Empty at = tt
damaged_space dims x told (BadJournal page) at = tt
damaged_space dims x told (Damaged page) at = λ is_told. inl (at is_told)

module _ {X : Type 0} (g : Ghosts X) where
  -- what a disk holds is said of the pages that it stands for
  pub spans_by_pages : SettlesToOne → (x y : Image) (pages : PageList) (params : Params) (h : History) → SettlesTo x pages → SettlesTo y pages → SpanHolds g x params h → SpanHolds g y params h
  spans_by_pages one x y pages params h sx sy held = record {
    meta = held.meta;
    pages = held.pages;
    space = record {
      pages = held.space.pages;
      settled = subst (λ (ps : PageList). SettlesTo y ps) (one x pages held.space.pages sx held.space.settled) sy;
      space = held.space.space;
    };
    tells = held.tells;
    range = held.range;
    lawful = held.lawful;
    weights = held.weights;
    trees = held.trees;
    apart = held.apart;
  }

  -- whatever a crash leaves stands for the same pages, and so holds the same spans
  pub any_moment : SettlesToOne → (x : Image) (old new : List Moment) → ((pages : PageList) → SettlesTo x pages → LeavesOnly (λ y. SettlesTo y pages) old new)
      → (params : Params) (h : History) → SpanHolds g x params h → LeavesOnly (λ y. SpanHolds g y params h) old new
  any_moment one x old new leaves params h held =
      let only = leaves held.space.pages held.space.settled in
      record {
        later = only.later;
        each = λ t y le left. elim (only.each t y le left) [
          | inl before ↦ inl before
          | inr settles ↦ inr (spans_by_pages one x y held.space.pages params h held.space.settled settles held)
        ];
      }

  -- a disk that stands for whatever the other stands for holds the same spans
  pub kept_alike : SettlesToOne → (x y : Image) → StandsAlike x y → (params : Params) (h : History) → SpanHolds g x params h → SpanHolds g y params h
  kept_alike one x y alike params h held =
      spans_by_pages one x y held.space.pages params h held.space.settled (alike held.space.pages held.space.settled) held

  -- so does the disk of an opened space
  pub held_in : SettlesToOne → IdleSettles → (x y : Image) → SettlesTo x y.pages → gate_of y ≡ Idle → (params : Params) (h : History) → SpanHolds g x params h → SpanHolds g y params h
  held_in one idle x y settles gate params h held = spans_by_pages one x y y.pages params h settles (idle y gate) held

  -- which faults an opening of the space may have on a disk that holds spans
  pub only_free : HeldOpens → (x : Image) (told : Type 0) → told → (fault : OpenFault) → AtEmpty fault (told → is_empty x ≡ true) → AtBadJournal fault (λ page. told → IsBadAt x page)
      → AtDamaged fault (λ page. told → StandsDamagedAt x page) → (params : Params) (h : History) → SpanHolds g x params h → (fault ≡ Disk) ⊎ (fault ≡ NoMemory)
  only_free opens x told is_told fault empty bad damaged params h held =
      let can = opens x (without_degree params) held.meta held.pages (unordered x (without_degree params) held.meta held.pages (Unit {0}) held.space) in
      each fault can.not_empty can.not_bad can.not_damaged empty bad damaged
    where
      each : (fault : OpenFault) → is_empty x ≡ false → ((page : ℕ) → IsBadAt x page → ⊥) → ((page : ℕ) → StandsDamagedAt x page → ⊥)
          → AtEmpty fault (told → is_empty x ≡ true) → AtBadJournal fault (λ page. told → IsBadAt x page) → AtDamaged fault (λ page. told → StandsDamagedAt x page)
          → (fault ≡ Disk) ⊎ (fault ≡ NoMemory)
      each Disk not_empty not_bad not_damaged empty bad damaged = inl refl
      each NoMemory not_empty not_bad not_damaged empty bad damaged = inr refl
      each Empty not_empty not_bad not_damaged empty bad damaged = let no : true ≡ false = sym (empty is_told) ∙ not_empty in absurd (cc)
      each (BadJournal page) not_empty not_bad not_damaged empty bad damaged = absurd (not_bad page (bad is_told))
      each (Damaged page) not_empty not_bad not_damaged empty bad damaged = absurd (not_damaged page (damaged is_told))

  module _ (one : HoldsOne) (x : Image) (params' : Params) (meta' : Meta) (map' : PageMap) (ordered : Type 0) (space : HoldsSpace x params' meta' map' ordered) where
    -- the params, the meta page and the pages of the spans are those of the space
    same : (params : Params) (h : History) → (held : SpanHolds g x params h) → (without_degree params ≡ params') × (held.meta ≡ meta') × (held.pages ≡ map')
    same params h held =
        one x (without_degree params) params' held.meta meta' held.pages map' (unordered x (without_degree params) held.meta held.pages (Unit {0}) held.space) (unordered x params' meta' map' ordered space)

    pub same_params : (params : Params) (h : History) → SpanHolds g x params h → params' ≡ without_degree params
    same_params params h held = sym (same params h held).0

    -- the last version is that of the meta page
    pub last_here : (params : Params) (h : History) → SpanHolds g x params h → meta'.version ≡ last_version h
    last_here params h held = sym (ap (λ (m : Meta). m.version) (same params h held).1) ∙ held.tells.version

    -- the trees of the space are those of the history
    pub trees_here : (params : Params) (h : History) → SpanHolds g x params h → SpansStand g params map' meta'.roots.items h
    trees_here params h held =
        subst (λ (m : Meta). SpansStand g params map' m.roots.items h) (same params h held).1
        (subst (λ (p : PageMap). SpansStand g params p held.meta.roots.items h) (same params h held).2 held.trees)

    -- the index has as many dimensions
    pub dims_held : (params : Params) (h : History) → SpanHolds g x params h → params'.dims ≤ g.DIMS
    dims_held params h held = subst (λ (p : Params). p.dims ≤ g.DIMS) (same params h held).0 held.trees.dims

    -- the meta page is one of spans
    pub meta_held : (params : Params) (h : History) → SpanHolds g x params h → IsMetaOfSpans params' meta'
    meta_held params h held =
        let own : IsMetaOfSpans (without_degree params) held.meta = record { events = held.tells.events; roots = held.tells.roots } in
        subst (λ (m : Meta). IsMetaOfSpans params' m) (same params h held).1 (subst (λ (p : Params). IsMetaOfSpans p held.meta) (same params h held).0 own)

    -- a page for which the space has no spans
    pub too_many_dims : g.DIMS < params'.dims → IsDamagedToOpen g.DIMS x 1
    too_many_dims more = inr (record { params = params'; meta = meta'; pages = map'; space = unordered x params' meta' map' ordered space; at = inl (refl, more) })

    pub no_spans : params'.dims ≤ g.DIMS → (IsMetaOfSpans params' meta' → ⊥) → IsDamagedToOpen g.DIMS x 2
    no_spans dims other = inr (record { params = params'; meta = meta'; pages = map'; space = unordered x params' meta' map' ordered space; at = inr (refl, dims, other) })
