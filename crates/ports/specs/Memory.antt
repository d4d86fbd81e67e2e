-- What contracts see of the source and the sink in memory.
use Rattle.std.specs.Prelude.{ℕ, List}

-- what is left, the most bytes of a call, the numbers of the calls that fail, and the counts of calls and of faults
pub record SourceState : Type 0 where
  pub left : List ℕ
  pub most : ℕ
  pub failing : List ℕ
  pub calls : ℕ
  pub faults : ℕ

-- what was written, the numbers of the calls that fail, and the counts of calls and of faults
pub record SinkState : Type 0 where
  pub written : List ℕ
  pub failing : List ℕ
  pub calls : ℕ
  pub faults : ℕ
