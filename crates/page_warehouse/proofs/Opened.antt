-- A space that is opened, and the history that its disk holds.
use Rattle.std.proofs.Common.{◌≡◌, ℕ, ◌⊎◌, ◌<◌, ◌≤◌, true, false, List, length, inl, inr, refl, sym, ◌∙◌, ap, subst, arith}
use Rattle.bw_types.specs.History.{History, changes, last_version}
use Rattle.bw_types.specs.declared.params.Params.{Params}
use Rattle.page_disk.specs.Image.{Image, PageList}
use Rattle.page_disk.specs.Moment.{Moment}
use Rattle.page_disk.specs.Since.{LeavesOnly}
use Rattle.page_layout.specs.declared.meta.Meta.{Meta}
use Rattle.ports.specs.Pages.{PageMap}
use Rattle.redo_journal.specs.Gates.{is_empty, gate_of}
use Rattle.redo_journal.specs.Settled.{SettlesTo, SettlesToOne, IdleSettles}
use Rattle.redo_journal.specs.declared.gate.Gate.TheVariants.{Idle}
use Rattle.page_space.specs.Faults.{AtBadJournal, AtDamaged, AtEmpty}
use Rattle.page_space.specs.Laws.{HeldOpens, HoldsOne}
use Rattle.page_space.specs.Opening.{StandsAlike, StandsDamagedAt}
use Rattle.page_space.specs.Settling.{IsBadAt}
use Rattle.page_space.specs.Space.{HoldsSpace}
use Rattle.page_space.specs.declared.refusal.OpenFault.{OpenFault}
use Rattle.page_space.specs.declared.refusal.OpenFault.TheVariants.{Disk, Empty, Damaged, NoMemory, BadJournal}
use Rattle.dom_index.specs.declared.index.DomIndex.{Ghosts}
use Rattle.history_laws.specs.Bounds.{LawfulHasRoom}
use Rattle.page_warehouse.specs.Holds.{Holds, HoldsTrees, TreesStand}
use Rattle.page_warehouse.specs.Opened.{GoTogether, IsDamagedToOpen}
use Rattle.page_warehouse.proofs.ByPages.{holds_by_pages, trees_by_pages}

-- a space whose free pages may be in order or not
pub unordered : (x : Image) (params : Params) (meta : Meta) (map : PageMap) (ordered : Type 0) → HoldsSpace x params meta map ordered → HoldsSpace x params meta map ⊥
unordered x params meta map ordered h = record {
  pages = h.pages;
  settled = h.settled;
  space = record {
    superblock = h.space.superblock;
    roots = h.space.roots;
    there = h.space.there;
    few = h.space.few;
    in_use = h.space.in_use;
    in_order = λ no. absurd no;
  };
}

-- a page that an opening of the space may call damaged
pub damaged_space : (dims : ℕ) (x : Image) (told : Type 0) (fault : OpenFault) → AtDamaged fault (λ page. told → StandsDamagedAt x page) → AtDamaged fault (λ page. told → IsDamagedToOpen dims x page)
damaged_space dims x told Disk at = tt
damaged_space dims x told NoMemory at = tt
damaged_space dims x told Empty at = tt
damaged_space dims x told (BadJournal page) at = tt
damaged_space dims x told (Damaged page) at = λ is_told. inl (at is_told)

module _ {X : Type 0} (g : Ghosts X) where
  -- whatever a crash leaves stands for the same pages, and so holds the same history
  pub any_moment : SettlesToOne → (x : Image) (old new : List Moment) → ((pages : PageList) → SettlesTo x pages → LeavesOnly (λ y. SettlesTo y pages) old new)
      → (params : Params) (h : History) → Holds g x params h → LeavesOnly (λ y. Holds g y params h) old new
  any_moment one x old new leaves params h held =
      let only = leaves held.space.pages held.space.settled in
      record {
        later = only.later;
        each = λ t y le left. elim (only.each t y le left) [
          | inl before ↦ inl before
          | inr settles ↦ inr (holds_by_pages g one x y held.space.pages params h held.space.settled settles held)
        ];
      }

  -- a disk that stands for whatever the other stands for holds the same history
  pub kept_alike : SettlesToOne → (x y : Image) → StandsAlike x y → (params : Params) (h : History) → Holds g x params h → Holds g y params h
  kept_alike one x y alike params h held =
      holds_by_pages g one x y held.space.pages params h held.space.settled (alike held.space.pages held.space.settled) held

  -- the disk of an opened space holds the same history
  pub held_in : SettlesToOne → IdleSettles → (x y : Image) → SettlesTo x y.pages → gate_of y ≡ Idle → (params : Params) (h : History) → Holds g x params h → Holds g y params h
  held_in one idle x y settles gate params h held = holds_by_pages g one x y y.pages params h settles (idle y gate) held

  pub trees_in : SettlesToOne → IdleSettles → (x y : Image) → SettlesTo x y.pages → gate_of y ≡ Idle → (params : Params) (h : History) → HoldsTrees g x params h → HoldsTrees g y params h
  trees_in one idle x y settles gate params h held = trees_by_pages g one x y y.pages params h settles (idle y gate) held

  -- which faults an opening may have on a disk that holds a history
  pub only_free : HeldOpens → (x : Image) (told : Type 0) → told → (fault : OpenFault) → AtEmpty fault (told → is_empty x ≡ true) → AtBadJournal fault (λ page. told → IsBadAt x page)
      → AtDamaged fault (λ page. told → StandsDamagedAt x page) → (params : Params) (h : History) → HoldsTrees g x params h → (fault ≡ Disk) ⊎ (fault ≡ NoMemory)
  only_free opens x told is_told Disk empty bad damaged params h held = inl refl
  only_free opens x told is_told NoMemory empty bad damaged params h held = inr refl
  only_free opens x told is_told Empty empty bad damaged params h held =
      let not_empty = (opens x params held.meta held.pages held.space).not_empty in
      let no : true ≡ false = sym (empty is_told) ∙ not_empty in absurd (cc)
  only_free opens x told is_told (BadJournal page) empty bad damaged params h held = absurd ((opens x params held.meta held.pages held.space).not_bad page (bad is_told))
  only_free opens x told is_told (Damaged page) empty bad damaged params h held = absurd ((opens x params held.meta held.pages held.space).not_damaged page (damaged is_told))

  module _ (one : HoldsOne) (x : Image) (params' : Params) (meta' : Meta) (map' : PageMap) (ordered : Type 0) (space : HoldsSpace x params' meta' map' ordered) where
    -- the history's params and meta page are those of the space
    same : (params : Params) (h : History) → (held : HoldsTrees g x params h) → (params ≡ params') × (held.meta ≡ meta')
    same params h held =
        let both = one x params params' held.meta meta' held.pages map' held.space (unordered x params' meta' map' ordered space) in
        (both.0, both.1)

    pub same_params : (params : Params) (h : History) → HoldsTrees g x params h → params' ≡ params
    same_params params h held = sym (same params h held).0

    -- the index has as many dimensions
    pub dims_held : (params : Params) (h : History) → HoldsTrees g x params h → params'.dims ≤ g.DIMS
    dims_held params h held = subst (λ (p : Params). p.dims ≤ g.DIMS) (same params h held).0 held.trees.dims

    -- the numbers of the meta page go together
    pub together_held : LawfulHasRoom → (params : Params) (h : History) → HoldsTrees g x params h → GoTogether params' meta'
    together_held rooms params h held =
        let room = rooms params h held.lawful in
        let own : GoTogether params held.meta = record {
          roots = held.trees.forest.count;
          rows = let v = held.tells.version in let r = held.tells.rows in let e = held.tells.events in omega arith;
          events = let e = held.tells.events in let most = room.events in omega arith;
          mass = let m = held.tells.mass in let most = room.mass in omega arith;
        } in
        subst (λ (m : Meta). GoTogether params' m) (same params h held).1 (subst (λ (p : Params). GoTogether p held.meta) (same params h held).0 own)

    -- a page for which there is no warehouse
    pub too_many_dims : g.DIMS < params'.dims → IsDamagedToOpen g.DIMS x 1
    too_many_dims more = inr (record { params = params'; meta = meta'; pages = map'; space = unordered x params' meta' map' ordered space; at = inl (refl, more) })

    pub not_together : params'.dims ≤ g.DIMS → (GoTogether params' meta' → ⊥) → IsDamagedToOpen g.DIMS x 2
    not_together dims apart = inr (record { params = params'; meta = meta'; pages = map'; space = unordered x params' meta' map' ordered space; at = inr (refl, dims, apart) })

  -- what holds the history holds it as far as queries read
  pub for_queries : (x : Image) (params : Params) (h : History) → Holds g x params h → HoldsTrees g x params h
  for_queries x params h held = record {
    meta = held.meta;
    pages = held.pages;
    space = unordered x params held.meta held.pages (Unit {0}) held.space;
    tells = held.tells;
    lawful = held.lawful;
    weights = held.weights;
    trees = held.trees;
  }

module _ {X : Type 0} (g : Ghosts X) (one : HoldsOne) (x : Image) (params : Params) (meta : Meta) (map : PageMap) (ordered : Type 0) (space : HoldsSpace x params meta map ordered) where
  -- the trees of the space are those of the history
  pub trees_here : (h : History) → HoldsTrees g x params h → TreesStand g params map meta.roots.items h
  trees_here h held =
      let both = one x params params held.meta meta held.pages map held.space (unordered x params meta map ordered space) in
      subst (λ (m : Meta). TreesStand g params map m.roots.items h) both.1
      (subst (λ (p : PageMap). TreesStand g params p held.meta.roots.items h) both.2 held.trees)

  -- the last version is that of the meta page
  pub last_here : (h : History) → HoldsTrees g x params h → meta.version ≡ last_version h
  last_here h held =
      let both = one x params params held.meta meta held.pages map held.space (unordered x params meta map ordered space) in
      sym (ap (λ (m : Meta). m.version) both.1) ∙ held.tells.version

  -- and has as many adds and withdrawals
  pub rows_here : (h : History) → HoldsTrees g x params h → meta.rows ≡ length (changes h)
  rows_here h held =
      let both = one x params params held.meta meta held.pages map held.space (unordered x params meta map ordered space) in
      sym (ap (λ (m : Meta). m.rows) both.1) ∙ held.tells.rows

-- whatever pages the disk stood for, the disk of the opened space stands for too
pub stands_alike : SettlesToOne → IdleSettles → (x y : Image) → SettlesTo x y.pages → gate_of y ≡ Idle → StandsAlike x y
stands_alike one idle x y settles gate = λ pages stands. subst (λ (ps : PageList). SettlesTo y ps) (one x y.pages pages settles stands) (idle y gate)
