-- How a compaction ends, by what became of the second disk.
use Rattle.std.specs.Prelude.{◌≡◌, ℕ, List, ◌++◌, codes}
use Rattle.std.specs.Fmt.{decimal}
use Rattle.ports.specs.declared.Sink.{Ghosts as SinkGhosts}
use Rattle.compact_store.specs.declared.compacting.Compacted.{Compacted}
use Rattle.compact_store.specs.declared.compacting.Compacted.TheVariants as compacted
use Rattle.page_disk.specs.declared.disk.Area.TheVariants.{Pages}
use Rattle.boxsum.specs.Printing.{PutsLine}
use Rattle.boxsum.specs.declared.status.Status.{Status}
use Rattle.boxsum.specs.declared.status.Status.TheVariants as status

-- the line that is printed: the last version, and how many adds and withdrawals there are
abbrev pub compacted_line : ℕ → ℕ → List ℕ
compacted_line last rows = codes "compacted," ++ decimal last ++ codes "," ++ decimal rows ++ codes "\n"

module _ {K : Type 0} (k : SinkGhosts K) (last : ℕ) (before after : K) where
  -- The line was put, or a part of it, and the status is by that.
  abbrev pub PutsCompacted : ℕ → Status → Type 0
  PutsCompacted rows ended = PutsLine k before after (compacted_line last rows) ended

  module _ {E : Type 0} where
    -- The status is by what became of the second disk. Where that is done the line is put, and else nothing is.
    abbrev pub EndsAs : Compacted E → Status → Type 0
    EndsAs (compacted.Done second rows) ended = PutsCompacted rows ended
    EndsAs (compacted.NoVersion second version) ended = (ended ≡ status.NoVersion version) × (after ≡ before)
    EndsAs (compacted.AlreadyThere second) ended = (ended ≡ status.AlreadyThere) × (after ≡ before)
    EndsAs (compacted.PageLimit second allotted) ended = (ended ≡ status.PageLimit allotted) × (after ≡ before)
    EndsAs (compacted.Damaged second page) ended = (ended ≡ status.Damaged Pages page) × (after ≡ before)
    EndsAs (compacted.NoMemory second) ended = (ended ≡ status.NoMemory) × (after ≡ before)
    EndsAs (compacted.Disk second) ended = (ended ≡ status.DiskFault) × (after ≡ before)
