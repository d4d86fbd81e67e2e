-- What contracts see of a reader of lines, and what each of its answers says.
use Rattle.std.specs.Prelude.{◌≡◌, ℕ, ◌<◌, ⊤, Bool, IsTrue, List, [], ◌++◌, length, Option, None, Some, IfSome}
use Rattle.ports.specs.Count.{Rose}
use Rattle.line_reader.specs.Lines.{TakesLine, PassesNoLineFeed}
use Rattle.line_reader.specs.declared.lines.Line.{Line}
use Rattle.line_reader.specs.declared.lines.Line.TheVariants.{Text, Long, End, Fault, Limit}

-- the text of the last line, the bytes that were taken from the source and belong to no line that was given yet,
-- how many bytes were taken in all, how many may be, and the answer at which the reader stopped
pub record ReaderState : Type 0 where
  pub text : List ℕ
  pub pending : List ℕ
  pub taken : ℕ
  pub limit : ℕ
  pub stopped : Option Line

abbrev pub unless_stopped : Option Line → List ℕ → List ℕ
unless_stopped None bytes = bytes
unless_stopped (Some answer) bytes = []

-- the bytes that are still to be cut into lines, where left is what the source has left: none once the reader stopped
abbrev pub to_come : ReaderState → List ℕ → List ℕ
to_come state left = unless_stopped state.stopped (state.pending ++ left)

-- where the reader stands after an answer: after a line it goes on, or it stopped at the end if that was seen
abbrev pub StopsAfter : Line → Option Line → Type 0
StopsAfter Text stopped = IfSome stopped (λ answer. answer ≡ End)
StopsAfter Long stopped = IfSome stopped (λ answer. answer ≡ End)
StopsAfter End stopped = stopped ≡ Some End
StopsAfter Fault stopped = stopped ≡ Some Fault
StopsAfter Limit stopped = stopped ≡ Some Limit

-- a reader stops at the end, at a fault and at the limit alone
abbrev pub IsStopped : Option Line → Type 0
IsStopped None = ⊤
IsStopped (Some Text) = ⊥
IsStopped (Some Long) = ⊥
IsStopped (Some End) = ⊤
IsStopped (Some Fault) = ⊤
IsStopped (Some Limit) = ⊤

-- the next of the lines that were to come is longer than a line may be
pub record TakesLongLine (most : ℕ) (before after : List ℕ) (stopped : Option Line) : Type 0 where
  pub line : List ℕ
  pub long : most < length line
  pub takes : TakesLine before line after stopped

-- an answer takes the next line off what was to come before it, and leaves what is to come after it
abbrev pub Cuts : ℕ → Line → List ℕ → List ℕ → List ℕ → Option Line → Type 0
Cuts most Text before text after stopped = TakesLine before text after stopped
Cuts most Long before text after stopped = TakesLongLine most before after stopped
Cuts most End before text after stopped = before ≡ []
Cuts most Fault before text after stopped = ⊤
Cuts most Limit before text after stopped = ⊤

abbrev pub IsLine : Line → Type 0
IsLine Text = ⊤
IsLine Long = ⊤
IsLine End = ⊥
IsLine Fault = ⊥
IsLine Limit = ⊥

abbrev pub EndsOrLine : Line → Type 0
EndsOrLine Text = ⊤
EndsOrLine Long = ⊤
EndsOrLine End = ⊤
EndsOrLine Fault = ⊥
EndsOrLine Limit = ⊥

-- a fault, after which the source still tells, and the limit come within a line: the bytes that were taken
-- and belong to no line that was given hold no line feed
abbrev pub StopsInLine : Line → List ℕ → Bool → List ℕ → Type 0
StopsInLine Text before tells left = ⊤
StopsInLine Long before tells left = ⊤
StopsInLine End before tells left = ⊤
StopsInLine Fault before tells left = IsTrue tells → PassesNoLineFeed before left
StopsInLine Limit before tells left = PassesNoLineFeed before left

-- an answer for which the end had to be seen comes below the limit
abbrev pub SeesEnd : Line → ℕ → ℕ → Type 0
SeesEnd Text taken limit = taken < limit
SeesEnd Long taken limit = taken < limit
SeesEnd End taken limit = taken < limit
SeesEnd Fault taken limit = ⊤
SeesEnd Limit taken limit = ⊤

-- a source did not fail, and tells what it has left if it told before
pub record IsCalm (tells tells' : Bool) (faults faults' : ℕ) : Type 0 where
  pub still_tells : IsTrue tells → IsTrue tells'
  pub no_fault : faults' ≡ faults

-- what an answer says of the source: at a fault its faults rose, else it did not fail
abbrev pub LeavesSource : Line → Bool → Bool → ℕ → ℕ → Type 0
LeavesSource Text tells tells' faults faults' = IsCalm tells tells' faults faults'
LeavesSource Long tells tells' faults faults' = IsCalm tells tells' faults faults'
LeavesSource End tells tells' faults faults' = IsCalm tells tells' faults faults'
LeavesSource Fault tells tells' faults faults' = Rose faults faults'
LeavesSource Limit tells tells' faults faults' = IsCalm tells tells' faults faults'
