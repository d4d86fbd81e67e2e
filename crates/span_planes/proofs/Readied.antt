-- A second disk that is looked at, and opened or refused.
use Rattle.std.proofs.Common.{◌≡◌, ℕ, ◌≤◌, true, false, IsTrue, List, [], Result, Ok, Err, IfErr, IfOk, inl, inr, refl, sym, ◌∙◌, subst, arith}
use Rattle.std.specs.List.{All}
use Rattle.bw_types.specs.Empty.{empty_tree}
use Rattle.bw_types.specs.declared.params.Params.{Params}
use Rattle.ports.specs.Count.{Rose}
use Rattle.page_disk.specs.Image.{Image, PageList, page_at}
use Rattle.page_disk.specs.Moment.{Moment}
use Rattle.page_disk.specs.Since.{LeavesOnly}
use Rattle.page_disk.specs.SinceLaws.{LeavesOnly-weaken}
use Rattle.page_disk.specs.declared.disk.Disk.{Ghosts}
use Rattle.page_layout.specs.declared.meta.Meta.{Meta}
use Rattle.ports.specs.Pages.{PageMap}
use Rattle.redo_journal.specs.Gates.{is_empty}
use Rattle.redo_journal.specs.Settled.{IdleSettles, SettlesTo, SettlesToOne}
use Rattle.page_space.specs.Chain.{FreeInOrder}
use Rattle.page_space.specs.Laws.{HeldOpens, HoldsOne, HoldsOrder}
use Rattle.page_space.specs.Opened.{IsRefusedAsSpace, IsSpaceOf}
use Rattle.page_space.specs.Shown.{IsInOrder, disk_of, map_of, meta_of, params_of}
use Rattle.page_space.specs.Space.{HoldsSpace}
use Rattle.page_space.specs.declared.refusal.OpenFault.{OpenFault}
use Rattle.page_space.specs.declared.refusal.OpenFault.TheVariants as fault
use Rattle.page_space.specs.declared.space.Space.{Space}
use Rattle.span_planes.specs.Made.{HoldsNoVersion, IsNew, IsStillReady, MayTakeSpans, second_out}
use Rattle.span_planes.specs.Readied.{EndsEarly, IsNotOpened, IsReadied, IsRefused, IsSpaceOfNoVersion, TellNoVersion, refusal_of}
use Rattle.span_planes.specs.SpanHolds.{TellsSpans, without_degree}
use Rattle.span_planes.specs.declared.making.Derived.{Derived}
use Rattle.span_planes.specs.declared.making.Derived.TheVariants.{AlreadyThere, Damaged, NoMemory, Disk}
use Rattle.span_planes.proofs.NoVersionSpans.{none_by, not_empty, space_none, space_of}
use Rattle.span_planes.proofs.SpanOpened.{stands_alike, unordered}
use Rattle.span_planes.proofs.StillReady.{still_new, still_none, still_same}

-- a disk that stands for some pages, but does not hold spans of no version, may not take spans
pub takes_none : (params : Params) (x : Image) (pages : PageList) → SettlesTo x pages → (HoldsNoVersion params x → ⊥) → MayTakeSpans params x → ⊥
takes_none params x pages settles never may = elim may [
  | inl none ↦ let no : true ≡ false = sym none ∙ settles.made in absurd (cc)
  | inr held ↦ never held
]

-- the space that such a disk holds tells of no version, and its free pages are in order among the pages that it stands for
pub tells_none : HoldsOne → (params : Params) (x : Image) (read : Params) (meta : Meta) (map : PageMap) → HoldsSpace x read meta map ⊥ → HoldsNoVersion params x → TellNoVersion params read meta
tells_none one params x read meta map space none =
    let same = one x read (without_degree params) meta none.meta map none.pages space (space_of params x none) in
    record {
      own = same.0;
      tells = subst (λ (m : Meta). TellsSpans params m []) (sym same.1) none.tells;
      empty = subst (λ (m : Meta). All (λ t. t ≡ empty_tree) m.roots.items) (sym same.1) none.empty;
    }

pub order_none : HoldsOne → HoldsOrder → (params : Params) (x : Image) (pages : PageList) (read : Params) (meta : Meta) (map : PageMap) → HoldsSpace x read meta map ⊥ → SettlesTo x pages
    → HoldsNoVersion params x → FreeInOrder (page_at pages) meta.allotted meta.free
order_none one order params x pages read meta map space settles none =
    let same = one x read (without_degree params) meta none.meta map none.pages space (space_of params x none) in
    subst (λ (m : Meta). FreeInOrder (page_at pages) m.allotted m.free) (sym same.1) (order x pages (without_degree params) none.meta none.pages none.space settles)

-- a crash at any moment leaves what stands for the same pages, and so may take spans
pub moments_stand : (params : Params) (x : Image) (old new : List Moment) → ((pages : PageList) → SettlesTo x pages → LeavesOnly (λ y. SettlesTo y pages) old new)
    → HoldsNoVersion params x → LeavesOnly (MayTakeSpans params) old new
moments_stand params x old new leaves none =
    LeavesOnly-weaken (λ y. SettlesTo y none.space.pages) (MayTakeSpans params) old new
    (λ y settles. inr (none_by params x y none settles))
    (leaves none.space.pages none.space.settled)

-- what is so of a part of the results is so of the whole
pub if_refused : {S E : Type 0} (P Q : E → Type 0) (result : Result S E) → ((ended : E) → result ≡ Err ended → P ended → Q ended) → IfErr result P → IfErr result Q
if_refused P Q (Ok space) step p = tt
if_refused P Q (Err ended) step p = step ended refl p

pub if_readied : {S E : Type 0} (P Q : S → Type 0) (result : Result S E) → ((space : S) → result ≡ Ok space → P space → Q space) → IfOk result P → IfOk result Q
if_readied P Q (Ok space) step p = step space refl p
if_readied P Q (Err ended) step p = tt

module _ {E : Type 0} (g : Ghosts E) where
  -- a disk that holds spans of no version is opened as the space of those
  pub is_none_there : HoldsOne → (params : Params) (disk : E) (space : Space E g) → HoldsSpace (g.image disk) (params_of space) (meta_of space) (map_of space) (IsInOrder space)
      → HoldsNoVersion params (g.image disk) → IsSpaceOfNoVersion params space
  is_none_there one params disk space held none =
      tells_none one params (g.image disk) (params_of space) (meta_of space) (map_of space) (unordered (g.image disk) (params_of space) (meta_of space) (map_of space) (IsInOrder space) held) none

  pub readied_there : SettlesToOne → IdleSettles → HoldsOne → HoldsOrder → (params : Params) (disk : E) (space : Space E g) → IsSpaceOf g disk space
      → (IsTrue (g.tells disk) → HoldsNoVersion params (g.image disk)) → IsSpaceOfNoVersion params space → IsReadied g params disk space
  readied_there one idle holds order params disk space opened none is = record {
    none = is;
    ordered = λ told.
        order_none holds order params (g.image disk) (g.image (disk_of space)).pages (params_of space) (meta_of space) (map_of space)
        (unordered (g.image disk) (params_of space) (meta_of space) (map_of space) (IsInOrder space) (opened.holds told)) (opened.settles told) (none told);
    still = λ told.
        still_none params (g.image disk) (g.image (disk_of space)) (none told)
        (stands_alike one idle (g.image disk) (g.image (disk_of space)) (opened.settles told) (opened.idle told));
    settled = opened.settled;
  }

  -- what came before: new spans were made
  pub readied_new : (params : Params) (start second : E) (space : Space E g) → g.tells second ≡ g.tells start → (IsTrue (g.tells start) → is_empty (g.image start) ≡ true)
      → (IsTrue (g.tells start) → IsNew params (g.image second)) → (IsTrue (g.tells start) → g.image (disk_of space) ≡ g.image second) → IsReadied g params second space → IsReadied g params start space
  readied_new params start second space tells none new same r = record {
    none = r.none;
    ordered = λ told. r.ordered (subst IsTrue (sym tells) told);
    still = λ told. still_new params (g.image start) (g.image (disk_of space)) (none told) (subst (λ (x : Image). IsNew params x) (sym (same told)) (new told));
    settled = r.settled;
  }

  -- or the disk was looked at
  pub readied_seen : (params : Params) (start second : E) (space : Space E g) → g.tells second ≡ g.tells start → g.image second ≡ g.image start → IsReadied g params second space → IsReadied g params start space
  readied_seen params start second space tells same r = record {
    none = r.none;
    ordered = λ told. r.ordered (subst IsTrue (sym tells) told);
    still = λ told. subst (λ (x : Image). IsStillReady params x (g.image (disk_of space))) same (r.still (subst IsTrue (sym tells) told));
    settled = r.settled;
  }

  -- the disk of an opened space holds spans of no version
  pub none_there : (params : Params) (disk : E) (space : Space E g) → HoldsSpace (g.image disk) (params_of space) (meta_of space) (map_of space) (IsInOrder space)
      → IsInOrder space → IsSpaceOfNoVersion params space → HoldsNoVersion params (g.image disk)
  none_there params disk space held ordered is = space_none params (g.image disk) (params_of space) (meta_of space) (map_of space) (IsInOrder space) ordered held is

  pub out_refusal : (f : OpenFault) (second : E) → second_out (refusal_of f second) ≡ second
  out_refusal fault.Disk second = refl
  out_refusal fault.Empty second = refl
  out_refusal (fault.Damaged page) second = refl
  out_refusal fault.NoMemory second = refl
  out_refusal (fault.BadJournal page) second = refl

  -- the ways to end early
  pub damaged_early : (start second : E) (page : ℕ) → EndsEarly g start (Damaged second page)
  damaged_early start second page = record { not_done = λ e v is. cc; not_limited = λ e n is. cc; disk = λ e is. cc }

  pub there_early : (start second : E) → EndsEarly g start (AlreadyThere second)
  there_early start second = record { not_done = λ e v is. cc; not_limited = λ e n is. cc; disk = λ e is. cc }

  pub no_memory_early : (start second : E) → EndsEarly g start (NoMemory second)
  no_memory_early start second = record { not_done = λ e v is. cc; not_limited = λ e n is. cc; disk = λ e is. cc }

  pub failed_early : (start second : E) → Rose (g.faults start) (g.faults second) → EndsEarly g start (Disk second)
  failed_early start second rose = record {
    not_done = λ e v is. cc;
    not_limited = λ e n is. cc;
    disk = λ e is. let same : second ≡ e = cc in subst (λ (d : E). Rose (g.faults start) (g.faults d)) same rose;
  }

  -- a disk that may take spans is not told to be damaged
  pub damaged_ends : (params : Params) (start second : E) (page : ℕ) → (IsTrue (g.tells start) → ⊥) → IsNotOpened g params start (Damaged second page)
  damaged_ends params start second page never = record { early = damaged_early start second page; sound = λ told. absurd (never told); kept = λ other told. absurd (never told) }

  -- or to be there
  pub there_ends : (params : Params) (start second : E) → (IsTrue (g.tells start) → ⊥) → IsNotOpened g params start (AlreadyThere second)
  there_ends params start second never = record { early = there_early start second; sound = λ told. absurd (never told); kept = λ other told. absurd (never told) }

  -- but it may fail
  pub failed_ends : (params : Params) (start second : E) → Rose (g.faults start) (g.faults second) → IsNotOpened g params start (Disk second)
  failed_ends params start second rose = record {
    early = failed_early start second rose;
    sound = λ told. ((λ e is. cc), (λ e page is. cc));
    kept = λ other told. absurd (other second refl);
  }

  -- an opening that is refused
  module _ (opens : HeldOpens) (params : Params) (start : E) (none : IsTrue (g.tells start) → HoldsNoVersion params (g.image start)) where
    pub refused_ends : (f : OpenFault) (back : E) → IsRefusedAsSpace g start f back → ((f ≡ fault.Disk) → Rose (g.faults start) (g.faults back))
        → IsNotOpened g params start (refusal_of f back)
    refused_ends fault.Disk back r rose = failed_ends params start back (rose refl)
    refused_ends fault.NoMemory back r rose = record {
      early = no_memory_early start back;
      sound = λ told. ((λ e is. cc), (λ e page is. cc));
      kept = λ other told. still_none params (g.image start) (g.image back) (none told) (r.stands (λ is. cc) told);
    }
    refused_ends fault.Empty back r rose =
        damaged_ends params start back 0 (λ told. let no : true ≡ false = sym (r.empty told) ∙ not_empty params (g.image start) (none told) in absurd (cc))
    refused_ends (fault.Damaged page) back r rose =
        damaged_ends params start back page
        (λ told. (opens (g.image start) (without_degree params) (none told).meta (none told).pages (space_of params (g.image start) (none told))).not_damaged page (r.damaged told))
    refused_ends (fault.BadJournal page) back r rose =
        damaged_ends params start back page
        (λ told. (opens (g.image start) (without_degree params) (none told).meta (none told).pages (space_of params (g.image start) (none told))).not_bad page (r.bad_journal told))

  -- what came before the opening
  pub early_before : (start second : E) (ended : Derived E) → g.faults start ≤ g.faults second → EndsEarly g second ended → EndsEarly g start ended
  early_before start second ended more early = record {
    not_done = early.not_done;
    not_limited = early.not_limited;
    disk = λ e is. let rose = early.disk e is in omega (arith, rose, more);
  }

  -- new spans were made
  pub ends_new : (params : Params) (start second : E) (ended : Derived E) → g.faults start ≤ g.faults second → g.tells second ≡ g.tells start → (IsTrue (g.tells start) → is_empty (g.image start) ≡ true)
      → (IsTrue (g.tells start) → IsNew params (g.image second)) → (IsTrue (g.tells start) → g.image (second_out ended) ≡ g.image second)
      → IsNotOpened g params second ended → IsNotOpened g params start ended
  ends_new params start second ended more tells none new same n = record {
    early = early_before start second ended more n.early;
    sound = λ told. n.sound (subst IsTrue (sym tells) told);
    kept = λ other told. still_new params (g.image start) (g.image (second_out ended)) (none told) (subst (λ (x : Image). IsNew params x) (sym (same told)) (new told));
  }

  -- a disk that was seen to take spans
  pub ready_refused : (params : Params) (start second : E) (ended : Derived E) → g.faults start ≤ g.faults second → g.tells second ≡ g.tells start → g.image second ≡ g.image start
      → (IsTrue (g.tells start) → MayTakeSpans params (g.image start)) → IsNotOpened g params second ended → IsRefused g params start ended
  ready_refused params start second ended more tells same may n = record {
    early = early_before start second ended more n.early;
    sound = λ told _. n.sound (subst IsTrue (sym tells) told);
    kept = λ other told _. subst (λ (x : Image). IsStillReady params x (g.image (second_out ended))) same (n.kept other (subst IsTrue (sym tells) told));
    stays = λ told never. absurd (never (may told));
  }

  -- a disk that was looked at and no more
  module _ (params : Params) (start second : E) (image : g.image second ≡ g.image start) (moments : g.moments second ≡ g.moments start) where
    -- something else is there
    pub there_refused : (IsTrue (g.tells start) → MayTakeSpans params (g.image start) → ⊥) → IsRefused g params start (AlreadyThere second)
    there_refused never = record {
      early = there_early start second;
      sound = λ told may. absurd (never told may);
      kept = λ other told may. absurd (never told may);
      stays = λ told _. record { only = ((λ e v is. cc), ((λ e n is. cc), (λ e page is. cc))); image = image; moments = moments };
    }

    -- it failed
    pub failed_refused : Rose (g.faults start) (g.faults second) → IsRefused g params start (Disk second)
    failed_refused rose = record {
      early = failed_early start second rose;
      sound = λ told may. ((λ e is. cc), (λ e page is. cc));
      kept = λ other told may. absurd (other second refl);
      stays = λ told _. record { only = ((λ e v is. cc), ((λ e n is. cc), (λ e page is. cc))); image = image; moments = moments };
    }

    -- there was no memory
    pub no_memory_refused : IsRefused g params start (NoMemory second)
    no_memory_refused = record {
      early = no_memory_early start second;
      sound = λ told may. ((λ e is. cc), (λ e page is. cc));
      kept = λ other told may. still_same params (g.image start) (g.image second) image;
      stays = λ told _. record { only = ((λ e v is. cc), ((λ e n is. cc), (λ e page is. cc))); image = image; moments = moments };
    }
