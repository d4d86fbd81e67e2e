-- A sample, from what the run over its rows says.
use Rattle.std.proofs.Common.{◌≡◌, ◌≢◌, ◌⊎◌, ℕ, zero, suc, ◌≤◌, Bool, true, false, IsTrue, List, [], replicate, pos, inl, inr, refl, sym, ◌∙◌, ap, arith}
use Rattle.std.specs.List.{All}
use Rattle.std.proofs.lemmas.List.{append-nil}
use Rattle.std.proofs.lemmas.List.Elements.{All-cons, All-nil}
use Rattle.ports.specs.Count.{Rose}
use Rattle.bw_types.specs.Empty.{empty_tree}
use Rattle.bw_types.specs.declared.tree.Tree.{Tree}
use Rattle.bw_types.specs.History.{History}
use Rattle.bw_types.specs.declared.params.Params.{Params}
use Rattle.page_disk.specs.Image.{Image, PageList}
use Rattle.page_disk.specs.declared.disk.Area.{Area}
use Rattle.redo_journal.specs.Gates.{is_empty}
use Rattle.dom_index.specs.declared.index.DomIndex.{Ghosts as IndexGhosts}
use Rattle.page_warehouse.specs.Holds.{Holds}
use Rattle.boxsum.specs.Ends.{ends_sample}
use Rattle.redo_journal.specs.Settled.{SettlesTo}
use Rattle.page_layout.specs.Meta.{IsMeta, IsTyped, meta_in}
use Rattle.page_layout.specs.MetaLaws.{meta_in-page}
use Rattle.page_layout.specs.TreeValue.{IsTreeTyped, tree_fits}
use Rattle.page_warehouse.specs.Created.{IsNew, new_meta}
use Rattle.page_warehouse.specs.Needs.{meta_charge, pages_charge}
use Rattle.sample_rows.specs.Summary.{WritesSummary, sample_params, summary_with}
use Rattle.boxsum.specs.Held.{HoldsBetween, IsEmptyOrPart}
use Rattle.boxsum.specs.Statuses.{status_amid}
use Rattle.boxsum.specs.declared.status.Status.{Status}
use Rattle.boxsum.specs.declared.status.Status.TheVariants.{Fine, Usage, NoWarehouse, AlreadyThere, ReadFault, WriteFault, DiskFault, NoMemory, Damaged, InputLimit, PageLimit, NoVersion}
use Rattle.boxsum.proofs.Opened.{goes_on_same}

-- The status of a sample, by that of the run that loads it.
pub amid_ends : (s : Status) → IsTrue (ends_sample (status_amid s))
amid_ends Fine = refl
amid_ends Usage = refl
amid_ends NoWarehouse = refl
amid_ends AlreadyThere = refl
amid_ends ReadFault = refl
amid_ends WriteFault = refl
amid_ends DiskFault = refl
amid_ends NoMemory = refl
amid_ends (Damaged area page) = refl
amid_ends (InputLimit taken) = refl
amid_ends (PageLimit allotted) = refl
amid_ends (NoVersion last) = refl

pub amid_there : (s : Status) → status_amid s ≢ AlreadyThere
amid_there Fine = λ e. cc
amid_there Usage = λ e. cc
amid_there NoWarehouse = λ e. cc
amid_there AlreadyThere = λ e. cc
amid_there ReadFault = λ e. cc
amid_there WriteFault = λ e. cc
amid_there DiskFault = λ e. cc
amid_there NoMemory = λ e. cc
amid_there (Damaged area page) = λ e. cc
amid_there (InputLimit taken) = λ e. cc
amid_there (PageLimit allotted) = λ e. cc
amid_there (NoVersion last) = λ e. cc

pub amid_write : (s : Status) → status_amid s ≢ WriteFault
amid_write Fine = λ e. cc
amid_write Usage = λ e. cc
amid_write NoWarehouse = λ e. cc
amid_write AlreadyThere = λ e. cc
amid_write ReadFault = λ e. cc
amid_write WriteFault = λ e. cc
amid_write DiskFault = λ e. cc
amid_write NoMemory = λ e. cc
amid_write (Damaged area page) = λ e. cc
amid_write (InputLimit taken) = λ e. cc
amid_write (PageLimit allotted) = λ e. cc
amid_write (NoVersion last) = λ e. cc

-- with these the run ended
pub amid_fine : (s : Status) → status_amid s ≡ Fine → s ≡ Fine
amid_fine Fine e = refl
amid_fine Usage e = cc
amid_fine NoWarehouse e = cc
amid_fine AlreadyThere e = cc
amid_fine ReadFault e = cc
amid_fine WriteFault e = cc
amid_fine DiskFault e = cc
amid_fine NoMemory e = cc
amid_fine (Damaged area page) e = cc
amid_fine (InputLimit taken) e = cc
amid_fine (PageLimit allotted) e = cc
amid_fine (NoVersion last) e = cc

pub amid_disk : (s : Status) → status_amid s ≡ DiskFault → s ≡ DiskFault
amid_disk Fine e = cc
amid_disk Usage e = cc
amid_disk NoWarehouse e = cc
amid_disk AlreadyThere e = cc
amid_disk ReadFault e = cc
amid_disk WriteFault e = cc
amid_disk DiskFault e = refl
amid_disk NoMemory e = cc
amid_disk (Damaged area page) e = cc
amid_disk (InputLimit taken) e = cc
amid_disk (PageLimit allotted) e = cc
amid_disk (NoVersion last) e = cc

pub amid_limit : (s : Status) (allotted : ℕ) → status_amid s ≡ PageLimit allotted → s ≡ PageLimit allotted
amid_limit Fine allotted e = cc
amid_limit Usage allotted e = cc
amid_limit NoWarehouse allotted e = cc
amid_limit AlreadyThere allotted e = cc
amid_limit ReadFault allotted e = cc
amid_limit WriteFault allotted e = cc
amid_limit DiskFault allotted e = cc
amid_limit NoMemory allotted e = cc
amid_limit (Damaged area page) allotted e = cc
amid_limit (InputLimit taken) allotted e = cc
amid_limit (PageLimit limit) allotted e = e
amid_limit (NoVersion last) allotted e = cc

pub amid_damaged : (s : Status) (area : Area) (page : ℕ) → status_amid s ≡ Damaged area page → (s ≡ NoWarehouse) ⊎ (s ≡ Damaged area page)
amid_damaged Fine area page e = absurd cc
amid_damaged Usage area page e = absurd cc
amid_damaged NoWarehouse area page e = inl refl
amid_damaged AlreadyThere area page e = absurd cc
amid_damaged ReadFault area page e = absurd cc
amid_damaged WriteFault area page e = absurd cc
amid_damaged DiskFault area page e = absurd cc
amid_damaged NoMemory area page e = absurd cc
amid_damaged (Damaged which number) area page e = inr e
amid_damaged (InputLimit taken) area page e = absurd cc
amid_damaged (PageLimit allotted) area page e = absurd cc
amid_damaged (NoVersion last) area page e = absurd cc

-- where nothing else can be
pub amid_complete : (s : Status) → s ≢ NoWarehouse → s ≢ DiskFault → ((area : Area) (page : ℕ) → s ≢ Damaged area page) → ((allotted : ℕ) → s ≢ PageLimit allotted)
    → (status_amid s ≡ Fine) ⊎ (status_amid s ≡ NoMemory)
amid_complete Fine none disk damaged limit = inl refl
amid_complete Usage none disk damaged limit = inr refl
amid_complete NoWarehouse none disk damaged limit = absurd (none refl)
amid_complete AlreadyThere none disk damaged limit = inr refl
amid_complete ReadFault none disk damaged limit = inr refl
amid_complete WriteFault none disk damaged limit = inr refl
amid_complete DiskFault none disk damaged limit = absurd (disk refl)
amid_complete NoMemory none disk damaged limit = inr refl
amid_complete (Damaged area page) none disk damaged limit = absurd (damaged area page refl)
amid_complete (InputLimit taken) none disk damaged limit = inr refl
amid_complete (PageLimit allotted) none disk damaged limit = absurd (limit allotted refl)
amid_complete (NoVersion last) none disk damaged limit = inr refl

-- what a creation may end with, where it is none of these
pub not_made : (s t : Status) → (s ≡ Fine) ⊎ ((s ≡ AlreadyThere) ⊎ (s ≡ DiskFault)) → s ≡ t → t ≢ Fine → t ≢ AlreadyThere → t ≢ DiskFault → ⊥
not_made s t ends is fine there disk = elim ends [
  | inl a ↦ fine (sym is ∙ a)
  | inr rest ↦ elim rest [ inl b ↦ there (sym is ∙ b) | inr d ↦ disk (sym is ∙ d) ]
]

-- a creation that made nothing ends with a sample's status
pub made_ends : (s : Status) → (s ≡ Fine) ⊎ ((s ≡ AlreadyThere) ⊎ (s ≡ DiskFault)) → IsTrue (ends_sample s)
made_ends s ends = elim ends [
  | inl a ↦ ap ends_sample a
  | inr rest ↦ elim rest [ inl b ↦ ap ends_sample b | inr d ↦ ap ends_sample d ]
]

-- on an empty disk a creation makes a warehouse, unless the disk fails
pub not_there : (s : Status) (told : Type 0) (empty : Bool) → told → (s ≡ Fine) ⊎ ((s ≡ AlreadyThere) ⊎ (s ≡ DiskFault)) → (s ≡ AlreadyThere → told → empty ≡ false) → empty ≡ true → s ≢ Fine → s ≢ DiskFault → ⊥
not_there s told empty t ends only none fine disk = elim ends [
  | inl a ↦ fine a
  | inr rest ↦ elim rest [
    | inl b ↦ (let no : true ≡ false = sym none ∙ only b t in cc)
    | inr d ↦ disk d
  ]
]

-- what is there is so at three ends too
pub three_ends : {A B C : Type 0} → A ⊎ B → A ⊎ (B ⊎ C)
three_ends ends = elim ends [ inl a ↦ inl a | inr b ↦ inr (inl b) ]

-- a count that rose after a first part of a stretch rose in all of it
pub rose_later : (a b c : ℕ) → a ≤ b → Rose b c → Rose a c
rose_later a b c le rose = omega (arith, le, rose)

-- A new warehouse of a sample has given out three pages.
all_empty : (n : ℕ) (P : Tree → Type 0) → P empty_tree → All P (replicate n empty_tree)
all_empty zero P p = All-nil P
all_empty (suc n) P p = All-cons P empty_tree (replicate n empty_tree) p (all_empty n P p)

empty_typed : IsTreeTyped empty_tree
empty_typed = (omega arith, omega arith, omega arith, omega arith)

new_meta_rules : IsMeta (new_meta sample_params)
new_meta_rules = record {
  lives = omega arith;
  allotted = omega arith;
  free = refl;
  table = refl;
  few = omega arith;
  roots = all_empty 4 (λ (t : Tree). IsTrue (tree_fits t)) refl;
}

new_meta_typed : IsTyped (new_meta sample_params)
new_meta_typed = record {
  version = omega arith;
  events = omega arith;
  rows = omega arith;
  allotted = omega arith;
  free = omega arith;
  mass = omega arith;
  table = empty_typed;
  roots = all_empty 4 IsTreeTyped empty_typed;
}

pub new_charge : (x : Image) (pages : PageList) → IsNew sample_params x → SettlesTo x pages → pages_charge pages ≡ 3
new_charge x pages new settles =
    let here : pages_charge x.pages ≡ 3 =
    ap (λ (bytes : List ℕ). meta_charge (meta_in bytes)) new.meta_is ∙ ap meta_charge (meta_in-page (new_meta sample_params) new_meta_typed new_meta_rules) in
    elim settles.settled [
      | inl w ↦ ap pages_charge w.1 ∙ here
      | inr w ↦ absurd (let no : true ≡ false = sym w.0 ∙ new.closed in cc)
    ]

-- where nothing was written, a part of any summary was
pub no_summary : (count : ℕ) (written : List ℕ) → WritesSummary count written written
no_summary count written = record { total = pos 0; out = []; rest = summary_with count (pos 0); wrote = sym (append-nil written); part = refl }

module _ {X : Type 0} (i : IndexGhosts X) where
  -- a part of the history is one where a warehouse may be missing
  pub part_or_empty : (params : Params) (whole : History) (x : Image) → HoldsBetween i params [] whole x → IsEmptyOrPart i params whole x
  part_or_empty params whole x part = inr part

  -- a new warehouse has a part of any history
  pub new_part : (params : Params) (whole : History) (x : Image) → Holds i x params [] → IsEmptyOrPart i params whole x
  new_part params whole x holds = inr (record { kept = []; holds = holds; begins = goes_on_same []; within = record { later = whole; goes_on = refl } })

  -- a disk that holds a history has a warehouse
  pub held_not_empty : (x : Image) (params : Params) (h : History) → Holds i x params h → is_empty x ≡ true → ⊥
  held_not_empty x params h holds none = let made : is_empty x ≡ false = holds.space.settled.made in cc
