-- What contracts see of the buffer between a source and its lines.
use Rattle.std.specs.Prelude.{◌≡◌, ℕ, ◌+◌, ◌<◌, Bool, true, IsTrue, List, [], ◌++◌, length, take, slice_index}
use Rattle.ports.specs.Count.{Rose}
use Rattle.line_reader.specs.Lines.{is_line_feed, HasNoLineFeed}
use Rattle.line_reader.specs.Reader.{IsCalm}
use Rattle.line_reader.specs.declared.lines.intake.Stop.{Stop}
use Rattle.line_reader.specs.declared.lines.intake.Stop.TheVariants.{End, Fault, Limit}

-- the bytes that are held, how many more the buffer can hold behind them,
-- how many were taken from the source in all, and how many may be
pub record IntakeState : Type 0 where
  pub held : List ℕ
  pub room : ℕ
  pub taken : ℕ
  pub limit : ℕ

-- from one moment to the other every byte is held or left, where the source tells what it has left at both
pub record LosesNothing (old new : IntakeState) (left left' : List ℕ) : Type 0 where
  pub bytes : old.held ++ left ≡ new.held ++ left'
  pub counts : new.taken + length left' ≡ old.taken + length left

-- why no more bytes came
abbrev pub IsStop : Stop → ℕ → ℕ → Bool → Bool → ℕ → ℕ → List ℕ → Type 0
IsStop End taken limit tells tells' faults faults' left' =
    IsCalm tells tells' faults faults' × (taken < limit) × (IsTrue tells → left' ≡ [])
IsStop Fault taken limit tells tells' faults faults' left' = Rose faults faults'
IsStop Limit taken limit tells tells' faults faults' left' = IsCalm tells tells' faults faults' × (taken ≡ limit)

-- the first line feed stands at this index
pub record IsLineEnd (bytes : List ℕ) (at : ℕ) : Type 0 where
  pub within : at < length bytes
  pub is : is_line_feed (slice_index bytes at) ≡ true
  pub first : HasNoLineFeed (take at bytes)
