-- What a house answers, by cases.
use Rattle.std.specs.Prelude.{◌≡◌, ℕ, ◌<◌, ◌≤◌, ⊤, ℤ, List, [], ◌∷◌, ◌++◌, Option, Some, None, Result, Ok, Err}
use Rattle.bw_types.specs.Answers.{answer}
use Rattle.bw_types.specs.History.{History, flat, last_version}
use Rattle.bw_types.specs.declared.params.Params.{Params}
use Rattle.bw_types.specs.declared.query.Query.{Query}
use Rattle.bw_types.specs.declared.refusal.Refusal.{Refusal}
use Rattle.bw_types.specs.declared.row.Row.{Row}
use Rattle.warehouse.specs.declared.committed.Committed.{Committed}
use Rattle.warehouse.specs.declared.committed.Committed.TheVariants.{Done, Refused, PageLimit, NoMemory, Damaged, Disk}
use Rattle.warehouse.specs.declared.committed.QueryFault.{QueryFault}
use Rattle.warehouse.specs.declared.committed.QueryFault.TheVariants as fault

-- the answer to a query at a version is that of the history; that there is no such version is said exactly where there is none
abbrev pub Answers : Params → History → ℕ → Query → Result ℤ QueryFault → Type 0
Answers params h version query (Ok x) = (version ≤ last_version h) × (x ≡ answer params h version query)
Answers params h version query (Err fault.Disk) = version ≤ last_version h
Answers params h version query (Err (fault.Damaged page)) = ⊥
Answers params h version query (Err (fault.NoVersion last)) = (last_version h < version) × (last ≡ last_version h)

-- the history with the batch of rows
abbrev pub with_batch : History → List Row → History
with_batch h rows = h ++ flat rows ∷ []

-- the history after a commit of a batch that has this first refusal
abbrev pub after_commit : Option Refusal → History → List Row → History
after_commit (Some refusal) h rows = h
after_commit None h rows = with_batch h rows

module _ {H D : Type 0} where
  -- the device when the call is done
  abbrev pub device_out : (H → D) → Committed H D → D
  device_out device (Done house version) = device house
  device_out device (Refused house refusal) = device house
  device_out device (PageLimit house allotted) = device house
  device_out device (NoMemory house) = device house
  device_out device (Damaged house page) = device house
  device_out device (Disk d) = d

  abbrev pub IfDone : Committed H D → (H → ℕ → Type 0) → Type 0
  IfDone (Done house version) P = P house version
  IfDone (Refused house refusal) P = ⊤
  IfDone (PageLimit house allotted) P = ⊤
  IfDone (NoMemory house) P = ⊤
  IfDone (Damaged house page) P = ⊤
  IfDone (Disk d) P = ⊤

  -- the house and the number of pages, where there was no page to be had
  abbrev pub IfPageLimit : Committed H D → (H → ℕ → Type 0) → Type 0
  IfPageLimit (Done house version) P = ⊤
  IfPageLimit (Refused house refusal) P = ⊤
  IfPageLimit (PageLimit house allotted) P = P house allotted
  IfPageLimit (NoMemory house) P = ⊤
  IfPageLimit (Damaged house page) P = ⊤
  IfPageLimit (Disk d) P = ⊤

  -- a house that comes back without a version
  abbrev pub IfKept : Committed H D → (H → Type 0) → Type 0
  IfKept (Done house version) P = ⊤
  IfKept (Refused house refusal) P = P house
  IfKept (PageLimit house allotted) P = P house
  IfKept (NoMemory house) P = P house
  IfKept (Damaged house page) P = P house
  IfKept (Disk d) P = ⊤

  -- what a refusal, the limit of pages and damage come from, where the batch has this first refusal on the history
  abbrev pub IsCommitCause : Option Refusal → Committed H D → Type 0
  IsCommitCause first (Done house version) = first ≡ None
  IsCommitCause first (Refused house refusal) = first ≡ Some refusal
  IsCommitCause first (PageLimit house allotted) = first ≡ None
  IsCommitCause first (NoMemory house) = ⊤
  IsCommitCause first (Damaged house page) = ⊥
  IsCommitCause first (Disk d) = ⊤

  abbrev pub IfDisk : Committed H D → Type 0 → Type 0
  IfDisk (Done house version) P = ⊤
  IfDisk (Refused house refusal) P = ⊤
  IfDisk (PageLimit house allotted) P = ⊤
  IfDisk (NoMemory house) P = ⊤
  IfDisk (Damaged house page) P = ⊤
  IfDisk (Disk d) P = P
