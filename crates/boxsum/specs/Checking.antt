-- What `check` prints of a disk on which nothing is known, and that it leaves the disk alone.
use Rattle.std.specs.Prelude.{◌≡◌, ◌≢◌, ◌≤◌, ◌⊎◌, ℕ, true, IsTrue, List, ◌++◌, length, codes}
use Rattle.std.specs.Fmt.{decimal}
use Rattle.ports.specs.Count.{Rose}
use Rattle.bw_types.specs.History.{History, changes, last_version}
use Rattle.bw_types.specs.declared.params.Params.{Params}
use Rattle.ports.specs.Written.{WritesPart}
use Rattle.ports.specs.declared.Sink.{Ghosts as SinkGhosts}
use Rattle.page_disk.specs.declared.disk.Disk.{Ghosts as DiskGhosts}
use Rattle.redo_journal.specs.Gates.{is_empty}
use Rattle.dom_index.specs.declared.index.DomIndex.{Ghosts as IndexGhosts}
use Rattle.page_warehouse.specs.Shown.{HoldsHistory}
use Rattle.image_check.specs.Parts.{IsBrokenAt, IsGood}
use Rattle.boxsum.specs.declared.status.Ran.{Ran}
use Rattle.boxsum.specs.declared.status.Status.TheVariants as status

-- the line of a disk that holds a history: its last version, and how many adds and withdrawals there are
abbrev pub good_line : ℕ → ℕ → List ℕ
good_line version rows = codes "good," ++ decimal version ++ codes "," ++ decimal rows ++ codes "\n"

-- the line of a disk of which this part is the first that is broken
abbrev pub broken_line : ℕ → List ℕ
broken_line part = codes "broken," ++ decimal part ++ codes "\n"

module _ {D K X : Type 0} (d : DiskGhosts D) (k : SinkGhosts K) (i : IndexGhosts X) (disk : D) (sink sink' : K) (ran : Ran D) where
  -- The line was printed: all of it where the command is fine, and else a part.
  pub record Prints (line : List ℕ) : Type 0 where
    pub fine : ran.status ≡ status.Fine → IsTrue (k.tells sink) → IsTrue (k.tells sink') × (k.written sink' ≡ k.written sink ++ line)
    pub part : IsTrue (k.tells sink) → IsTrue (k.tells sink') → WritesPart (k.written sink) (k.written sink') line

  -- The disk that comes back holds a history, and its line was printed. So a run on that disk needs no other premise.
  pub record SaysGood : Type 0 where
    pub version : ℕ
    pub rows : ℕ
    pub good : IsGood i (d.image ran.disk) version rows
    pub line : Prints (good_line version rows)

  -- This part of the disk is the first that is broken, and its line was printed.
  pub record SaysBroken : Type 0 where
    pub part : ℕ
    pub broken : IsBrokenAt i part (d.image ran.disk)
    pub line : Prints (broken_line part)

  -- One line was printed, that of a good disk, or that of one of the five parts.
  abbrev pub HasForm : Type 0
  HasForm = ((version : ℕ) × (rows : ℕ) × Prints (good_line version rows)) ⊎ ((part : ℕ) × (1 ≤ part) × (part ≤ 5) × Prints (broken_line part))

  -- The disk was checked.
  pub record Checks : Type 0 where
    -- Nothing is written to it, and no sync is made.
    pub image : d.image ran.disk ≡ d.image disk
    pub moments : d.moments ran.disk ≡ d.moments disk
    -- Without a warehouse there is nothing to check.
    pub empty : IsTrue (d.tells disk) → is_empty (d.image disk) ≡ true
        → (ran.status ≡ status.NoWarehouse) ⊎ ((ran.status ≡ status.DiskFault) ⊎ (ran.status ≡ status.NoMemory))
    pub empty_only : ran.status ≡ status.NoWarehouse → IsTrue (d.tells disk) → is_empty (d.image disk) ≡ true
    -- One line is printed, and that is right; where the check ends otherwise, nothing is.
    pub says : (ran.status ≡ status.Fine) ⊎ (ran.status ≡ status.WriteFault) → IsTrue (d.tells disk) → SaysGood ⊎ SaysBroken
    -- It has this form, whatever the disk tells.
    pub form : (ran.status ≡ status.Fine) ⊎ (ran.status ≡ status.WriteFault) → HasForm
    pub silent : ran.status ≢ status.Fine → ran.status ≢ status.WriteFault → sink' ≡ sink
    -- Of a disk that holds a history its line is printed.
    pub good : (params : Params) (h : History) → HoldsHistory d i true disk params h → (ran.status ≡ status.Fine) ⊎ (ran.status ≡ status.WriteFault)
        → Prints (good_line (last_version h) (length (changes h)))
    -- With no fault and ample memory the check is fine, save on an empty disk.
    pub complete : (Rose (k.faults sink) (k.faults sink') → ⊥) → ran.status ≢ status.DiskFault
        → (ran.status ≡ status.Fine) ⊎ ((ran.status ≡ status.NoWarehouse) ⊎ (ran.status ≡ status.NoMemory))
