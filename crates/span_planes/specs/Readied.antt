-- A second disk that is looked at, and opened to take spans.
use Rattle.std.specs.Prelude.{◌≡◌, ◌≢◌, ℕ, true, IsTrue, Result, Ok, Err, []}
use Rattle.std.specs.List.{All}
use Rattle.bw_types.specs.Empty.{empty_tree}
use Rattle.bw_types.specs.declared.params.Params.{Params}
use Rattle.ports.specs.Count.{Rose}
use Rattle.page_disk.specs.Image.{Image}
use Rattle.page_disk.specs.declared.disk.Disk.{Ghosts}
use Rattle.page_disk.specs.Since.{LeavesNow}
use Rattle.page_layout.specs.declared.meta.Meta.{Meta}
use Rattle.page_space.specs.Shown.{IsInOrder, disk_of, meta_of, params_of}
use Rattle.page_space.specs.declared.refusal.OpenFault.{OpenFault}
use Rattle.page_space.specs.declared.refusal.OpenFault.TheVariants as open_fault
use Rattle.page_space.specs.declared.space.Space.{Space}
use Rattle.redo_journal.specs.Gates.{is_empty}
use Rattle.span_planes.specs.Made.{HoldsNoVersion, IsStillReady, MayTakeSpans, StaysThere, second_out}
use Rattle.span_planes.specs.SpanHolds.{TellsSpans, without_degree}
use Rattle.span_planes.specs.declared.looking.Ground.{Ground}
use Rattle.span_planes.specs.declared.looking.Ground.TheVariants as seen
use Rattle.span_planes.specs.declared.making.Derived.{Derived}
use Rattle.span_planes.specs.declared.making.Derived.TheVariants.{Done, AlreadyThere, PageLimit, Damaged, NoMemory, Disk}

-- The params that were read and the meta page tell of spans of no version, of a warehouse with these params, and each tree is empty.
pub record TellNoVersion (params read : Params) (meta : Meta) : Type 0 where
  pub own : read ≡ without_degree params
  pub tells : TellsSpans params meta []
  pub empty : All (λ t. t ≡ empty_tree) meta.roots.items

-- A disk is to spans what was seen there.
abbrev pub IsGround : Params → Image → Ground → Type 0
IsGround params x seen.Empty = is_empty x ≡ true
IsGround params x seen.NoVersion = HoldsNoVersion params x
IsGround params x seen.Other = MayTakeSpans params x → ⊥

-- what becomes of a disk that may take spans, and on which no space was opened
abbrev pub refusal_of : {E : Type 0} → OpenFault → E → Derived E
refusal_of open_fault.Disk second = Disk second
refusal_of open_fault.Empty second = Damaged second 0
refusal_of (open_fault.Damaged page) second = Damaged second page
refusal_of open_fault.NoMemory second = NoMemory second
refusal_of (open_fault.BadJournal page) second = Damaged second page

module _ {E : Type 0} {g : Ghosts E} where
  -- The space is one of spans of no version.
  abbrev pub IsSpaceOfNoVersion : Params → Space E g → Type 0
  IsSpaceOfNoVersion params space = TellNoVersion params (params_of space) (meta_of space)

  -- the second disk when it was opened or refused
  abbrev pub readied_disk : Result (Space E g) (Derived E) → E
  readied_disk (Ok space) = disk_of space
  readied_disk (Err ended) = second_out ended

module _ {E : Type 0} (g : Ghosts E) where
  -- The space is one of spans of no version, whose free pages are in order. Its disk is still ready for spans, and nothing is pending there.
  pub record IsReadied (params : Params) (second : E) (space : Space E g) : Type 0 where
    pub none : IsSpaceOfNoVersion params space
    pub ordered : IsTrue (g.tells second) → IsInOrder space
    pub still : IsTrue (g.tells second) → IsStillReady params (g.image second) (g.image (disk_of space))
    pub settled : LeavesNow (g.moments (disk_of space)) (g.image (disk_of space))

  -- A derivation ended before spans were written.
  pub record EndsEarly (second : E) (ended : Derived E) : Type 0 where
    pub not_done : (e : E) (version : ℕ) → ended ≢ Done e version
    pub not_limited : (e : E) (allotted : ℕ) → ended ≢ PageLimit e allotted
    pub disk : (e : E) → ended ≡ Disk e → Rose (g.faults second) (g.faults e)

  -- It ended where a disk that may take spans was to be opened. That is still ready, and is refused neither for what it is nor as damaged.
  pub record IsNotOpened (params : Params) (second : E) (ended : Derived E) : Type 0 where
    pub early : EndsEarly second ended
    pub sound : IsTrue (g.tells second) → ((e : E) → ended ≢ AlreadyThere e) × ((e : E) (page : ℕ) → ended ≢ Damaged e page)
    pub kept : ((e : E) → ended ≢ Disk e) → IsTrue (g.tells second) → IsStillReady params (g.image second) (g.image (second_out ended))

  -- It ended before the disk was opened or there. A disk that may take spans is still ready, and any other one stays there.
  pub record IsRefused (params : Params) (second : E) (ended : Derived E) : Type 0 where
    pub early : EndsEarly second ended
    pub sound : IsTrue (g.tells second) → MayTakeSpans params (g.image second)
        → ((e : E) → ended ≢ AlreadyThere e) × ((e : E) (page : ℕ) → ended ≢ Damaged e page)
    pub kept : ((e : E) → ended ≢ Disk e) → IsTrue (g.tells second) → MayTakeSpans params (g.image second)
        → IsStillReady params (g.image second) (g.image (second_out ended))
    pub stays : IsTrue (g.tells second) → (MayTakeSpans params (g.image second) → ⊥) → StaysThere g second ended

  -- Spans were to be written to a disk that was opened for them: unless they are or it failed, it is as it was.
  pub record StaysOpened (params : Params) (second : E) (result : Derived E) : Type 0 where
    pub kept : ((e : E) (version : ℕ) → result ≢ Done e version) → ((e : E) → result ≡ Disk e → Rose (g.faults second) (g.faults e) → ⊥)
        → (g.image (second_out result) ≡ g.image second) × (g.moments (second_out result) ≡ g.moments second)
    pub at_limit : (e : E) (allotted : ℕ) → result ≡ PageLimit e allotted → allotted ≡ params.pages
    pub there : (e : E) → result ≢ AlreadyThere e
