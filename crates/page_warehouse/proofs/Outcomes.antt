-- What becomes of a batch, by cases.
use Rattle.std.proofs.Common.{ℕ}
use Rattle.warehouse.specs.Committed.{IfDisk, IfDone, IfKept, IfPageLimit}
use Rattle.warehouse.specs.declared.committed.Committed.{Committed}
use Rattle.warehouse.specs.declared.committed.Committed.TheVariants.{Done, Refused, PageLimit, NoMemory, Damaged, Disk}

module _ {H D : Type 0} where
  pub if_done : (r : Committed H D) (P Q : H → ℕ → Type 0) → ((house : H) (version : ℕ) → P house version → Q house version) → IfDone r P → IfDone r Q
  if_done (Done house version) P Q f p = f house version p
  if_done (Refused house refusal) P Q f p = tt
  if_done (PageLimit house allotted) P Q f p = tt
  if_done (NoMemory house) P Q f p = tt
  if_done (Damaged house page) P Q f p = tt
  if_done (Disk d) P Q f p = tt

  pub if_kept : (r : Committed H D) (P Q : H → Type 0) → ((house : H) → P house → Q house) → IfKept r P → IfKept r Q
  if_kept (Done house version) P Q f p = tt
  if_kept (Refused house refusal) P Q f p = f house p
  if_kept (PageLimit house allotted) P Q f p = f house p
  if_kept (NoMemory house) P Q f p = f house p
  if_kept (Damaged house page) P Q f p = f house p
  if_kept (Disk d) P Q f p = tt

  pub if_page_limit : (r : Committed H D) (P Q : H → ℕ → Type 0) → ((house : H) (allotted : ℕ) → P house allotted → Q house allotted) → IfPageLimit r P → IfPageLimit r Q
  if_page_limit (Done house version) P Q f p = tt
  if_page_limit (Refused house refusal) P Q f p = tt
  if_page_limit (PageLimit house allotted) P Q f p = f house allotted p
  if_page_limit (NoMemory house) P Q f p = tt
  if_page_limit (Damaged house page) P Q f p = tt
  if_page_limit (Disk d) P Q f p = tt

  pub if_disk : (r : Committed H D) (P Q : Type 0) → (P → Q) → IfDisk r P → IfDisk r Q
  if_disk (Done house version) P Q f p = tt
  if_disk (Refused house refusal) P Q f p = tt
  if_disk (PageLimit house allotted) P Q f p = tt
  if_disk (NoMemory house) P Q f p = tt
  if_disk (Damaged house page) P Q f p = tt
  if_disk (Disk d) P Q f p = f p
