-- How a command ends that has one line to print.
use Rattle.std.specs.Prelude.{◌≡◌, ◌⊎◌, ℕ, IsTrue, List, ◌++◌, Option, Some, None}
use Rattle.ports.specs.Count.{Rose}
use Rattle.ports.specs.declared.Sink.{Ghosts as SinkGhosts}
use Rattle.ports.specs.Written.{WritesPart}
use Rattle.boxsum.specs.declared.status.Status.{Status}
use Rattle.boxsum.specs.declared.status.Status.TheVariants as status

module _ {K : Type 0} (k : SinkGhosts K) (before after : K) where
  -- The line was put, or a part of it, and the status is by that.
  pub record PutsLine (line : List ℕ) (ended : Status) : Type 0 where
    pub may_end : (ended ≡ status.Fine) ⊎ ((ended ≡ status.WriteFault) ⊎ (ended ≡ status.NoMemory))
    pub fine : ended ≡ status.Fine → IsTrue (k.tells before) → IsTrue (k.tells after) × (k.written after ≡ k.written before ++ line)
    pub part : IsTrue (k.tells before) → IsTrue (k.tells after) → WritesPart (k.written before) (k.written after) line
    pub silent : ended ≡ status.NoMemory → after ≡ before
    pub write_fault : ended ≡ status.WriteFault → Rose (k.faults before) (k.faults after)

  -- Where something failed, it gives the status, and nothing is put. Else the line is put.
  abbrev pub EndsBy : List ℕ → Option Status → Status → Type 0
  EndsBy line None ended = PutsLine line ended
  EndsBy line (Some failed) ended = (ended ≡ failed) × (after ≡ before)
