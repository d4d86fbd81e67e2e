-- What serving lines does to the input, the machine, its device and the output.
use Rattle.std.specs.Prelude.{◌≡◌, ◌⊎◌, ℕ, ◌+◌, ◌<◌, ◌≤◌, ⊤, Bool, true, false, IsTrue, List, [], ◌∷◌, ◌++◌, length, Option, Some, None, IfSome, Result, Ok, Err}
use Rattle.bw_types.specs.History.{History}
use Rattle.bw_types.specs.declared.params.Params.{Params}
use Rattle.bw_types.specs.declared.query.Query.{Query}
use Rattle.bw_types.specs.declared.row.Row.{Row}
use Rattle.csv_rows.specs.Input.{input}
use Rattle.csv_rows.specs.declared.input.Input.TheVariants.{Commit}
use Rattle.line_reader.specs.Lines.{lines, whole_part, TakesLine}
use Rattle.line_reader.specs.Reader.{ReaderState}
use Rattle.csv_rows.specs.Machine.{State, Step, step, replied, replies, state_after}
use Rattle.line_reader.specs.declared.lines.Line.{Line}
use Rattle.line_reader.specs.declared.lines.Line.TheVariants.{End}
use Rattle.warehouse.specs.declared.house.House.{Ghosts}
use Rattle.row_machine.specs.declared.desk.Desk.{Desk}
use Rattle.row_machine.specs.declared.ending.RunEnd.{RunEnd}
use Rattle.row_machine.specs.declared.ending.Ending.{Ending}
use Rattle.row_machine.specs.declared.ending.Ending.TheVariants.{Fine, ReadFault, WriteFault, NoMemory, InputLimit, DiskFault, Damaged, PageLimit}
use Rattle.row_machine.specs.Housed.{GoesOnFrom, IsAt, IsHouseEnding, IsVersion, KeepsDevice, MayTake, Settled, SettledBetween, SettledFrom, OnlyBetween, OnlyFrom, input_cost, rows_committed, version_need}
use Rattle.ports.specs.Written.{WritesPart}

-- a reader that has not stopped, or has stopped at the end of the input
abbrev pub MayGoOn : Option Line → Type 0
MayGoOn stopped = IfSome stopped (λ answer. answer ≡ End)

-- where the reader has stopped at the end, it took fewer bytes than it may, and nothing is left, where that is told
abbrev pub SeenEnd : ReaderState → Bool → List ℕ → Type 0
SeenEnd reader tells left = reader.stopped ≡ Some End → (reader.taken < reader.limit) × (IsTrue tells → left ≡ [])

-- from one line to the next a reader uses up at least one of the bytes that it took
pub record GoesOn (old new : ReaderState) : Type 0 where
  pub stopped : MayGoOn new.stopped
  pub used : old.taken + length new.pending < new.taken + length old.pending
  pub taken : new.taken ≤ new.limit

-- On a device that is not whole for commits, none of the lines is a commit.
abbrev pub MayServe : Bool → Params → List (List ℕ) → Type 0
MayServe whole params [] = ⊤
MayServe whole params (line ∷ rest) = MayTake whole (input params line) × MayServe whole params rest

-- the most reads that a line asks for, where a query has this cost
abbrev pub line_cost : (Params → History → Query → ℕ) → Params → History → List ℕ → ℕ
line_cost cost params h line = input_cost cost params h (input params line)

-- the sum over the lines, the first of which has the number n, of what each adds in the state before it
abbrev pub lines_sum : (ℕ → State → List ℕ → ℕ) → Params → ℕ → State → List (List ℕ) → ℕ
lines_sum part params n s [] = 0
lines_sum part params n s (line ∷ rest) = part n s line + lines_sum part params (n + 1) (step params n s line).state rest

-- the most reads that the lines ask for, the first of which has the number n
abbrev pub lines_cost : (Params → History → Query → ℕ) → Params → ℕ → State → List (List ℕ) → ℕ
lines_cost cost params n s ls = lines_sum (λ k t line. line_cost cost params t.history line) params n s ls

-- the pages that a line needs, which has the number n: those of its batch, where that is put last
abbrev pub line_need : (Params → History → List Row → ℕ) → Params → ℕ → State → List ℕ → ℕ
line_need need params n s line = version_need (step params n s line).reply (need params s.history (rows_committed s (input params line)))

-- the pages that the lines need, the first of which has the number n
abbrev pub lines_need : (Params → History → List Row → ℕ) → Params → ℕ → State → List (List ℕ) → ℕ
lines_need need params n s ls = lines_sum (line_need need params) params n s ls

-- the rows that the next line commits
abbrev pub next_rows : Params → State → List (List ℕ) → List Row
next_rows params s [] = []
next_rows params s (line ∷ rest) = rows_committed s (input params line)

-- The next line, which has the number n, is a commit that is accepted.
abbrev pub NextIsVersion : Params → ℕ → State → List (List ℕ) → Type 0
NextIsVersion params n s [] = ⊥
NextIsVersion params n s (line ∷ rest) = IsVersion (step params n s line).reply

-- The input ends the run within a line: the source failed, or the input is too long.
abbrev pub IsInputEnding : Ending → Type 0
IsInputEnding ReadFault = ⊤
IsInputEnding (InputLimit taken) = ⊤
IsInputEnding Fine = ⊥
IsInputEnding WriteFault = ⊥
IsInputEnding NoMemory = ⊥
IsInputEnding DiskFault = ⊥
IsInputEnding (Damaged page) = ⊥
IsInputEnding (PageLimit allotted) = ⊥

-- The run ends between two lines: no line was begun.
abbrev pub IsBetweenLines : Ending → Type 0
IsBetweenLines Fine = ⊤
IsBetweenLines ReadFault = ⊤
IsBetweenLines (InputLimit taken) = ⊤
IsBetweenLines WriteFault = ⊥
IsBetweenLines NoMemory = ⊥
IsBetweenLines DiskFault = ⊥
IsBetweenLines (Damaged page) = ⊥
IsBetweenLines (PageLimit allotted) = ⊥

-- All replies are written when the run ends so.
abbrev pub IsFlushed : Ending → Type 0
IsFlushed Fine = ⊤
IsFlushed ReadFault = ⊤
IsFlushed (InputLimit taken) = ⊤
IsFlushed WriteFault = ⊥
IsFlushed NoMemory = ⊤
IsFlushed DiskFault = ⊥
IsFlushed (Damaged page) = ⊤
IsFlushed (PageLimit allotted) = ⊤

-- Of the input all was taken but what is left, and the lines are those up to the last line feed that was taken.
pub record TakesWhole (input left : List ℕ) (served : List (List ℕ)) : Type 0 where
  pub taken : List ℕ
  pub cut : input ≡ taken ++ left
  pub whole : served ≡ lines (whole_part taken)

-- Of the input all was taken but what is left, and the lines of what was taken begin with these.
pub record TakesLines (input left : List ℕ) (first : List (List ℕ)) : Type 0 where
  pub taken : List ℕ
  pub more : List (List ℕ)
  pub cut : input ≡ taken ++ left
  pub begins : lines taken ≡ first ++ more

-- The next line is taken off the input and spells a commit of the session.
pub record LeavesLine (params : Params) (before after : List ℕ) (stopped : Option Line) (session : ℕ) : Type 0 where
  pub line : List ℕ
  pub takes : TakesLine before line after stopped
  pub spells : input params line ≡ Some (Commit session)

-- The later of these lines put no batch into the history.
abbrev pub PutNothing : Params → State → List (List ℕ) → List (List ℕ) → Type 0
PutNothing params begin first later = length (state_after params 1 begin (first ++ later)).history ≤ length (state_after params 1 begin first).history

-- Of the later lines none but the last put a batch into the history.
pub record LastMayPut (params : Params) (begin : State) (first later : List (List ℕ)) : Type 0 where
  pub before : List (List ℕ)
  pub line : List ℕ
  pub cut : later ≡ before ++ line ∷ []
  pub nothing : PutNothing params begin first before

-- All replies were written whole but those of some last lines. These put no batch into the history, or the last of them did, and then no
-- line was begun after it.
pub record PutsAllButOne (params : Params) (begin : State) (served begun : List (List ℕ)) (written written' : List ℕ) : Type 0 where
  pub first : List (List ℕ)
  pub later : List (List ℕ)
  pub more : List ℕ
  pub cut : served ≡ first ++ later
  pub wrote : written' ≡ written ++ (replies params 1 begin first ++ more)
  pub last : PutNothing params begin first later ⊎ ((begun ≡ []) × LastMayPut params begin first later)

module _ {H D : Type 0} (g : Ghosts H D) where
  abbrev pub state_at : History → Desk H D g → State
  state_at h desk = record { history = h; staged = desk.sessions }

  -- the device after a line
  abbrev pub device_after : Result (Desk H D g) (RunEnd D) → D
  device_after (Ok desk) = g.device desk.house
  device_after (Err ran) = ran.device

  -- What is said of a line on a desk where it stands: it is served, or the run ends in it, or a session is left to commit.
  abbrev pub OnServed : (Result (Desk H D g) (RunEnd D) → Type 0) → (ℕ → Type 0) → Desk H D g → Result (Option ℕ) Ending → Type 0
  OnServed served commits desk (Ok None) = served (Ok desk)
  OnServed served commits desk (Ok (Some session)) = commits session
  OnServed served commits desk (Err ending) = served (Err (record { ending = ending; device = g.device desk.house }))

  -- From the history h the machine made this step, which commits these rows, and its reply was gathered. Where the line only
  -- reads, the reads are counted, and nothing of the device is changed. Where the replies are not urgent then, it is no version.
  pub record Serves (whole : Bool) (params : Params) (h : History) (t : Step) (rows : List Row) (reading : Type 0) (cost : ℕ) (before : D) (new : Desk H D g) (gathered gathered' : List ℕ) (is_urgent : Bool) : Type 0 where
    pub at : IsAt g whole params t.state new
    pub replies : gathered' ≡ gathered ++ replied t.reply
    pub urgent : is_urgent ≡ false → IsVersion t.reply → ⊥
    pub reads : reading → g.reads (g.device new.house) ≤ g.reads before + cost
    pub quiet : reading → KeepsDevice g before (g.device new.house)
    pub charge : whole ≡ true → g.charge (g.device new.house) ≤ g.charge before + version_need t.reply (g.need params h rows)
    pub any_moment : whole ≡ true → OnlyBetween g params h t.state.history before (g.device new.house)
    pub settled : whole ≡ true → Settled g params h before → Settled g params t.state.history (g.device new.house)

  -- From the history h the machine was to make this step, which commits these rows, and the run ended in it. The history that is sure is that
  -- before the step or that after it, and what a crash may leave lies between the sure one and that after it; where the device did not
  -- fail, it is the sure one.
  pub record Breaks (whole : Bool) (params : Params) (h : History) (t : Step) (rows : List Row) (reading : Type 0) (cost : ℕ) (before : D) (ran : RunEnd D) : Type 0 where
    pub sure : History
    pub which : (sure ≡ h) ⊎ (sure ≡ t.state.history)
    pub stands : (ran.ending ≡ DiskFault → ⊥) → g.stands whole ran.device params sure
    pub undamaged : (page : ℕ) → ran.ending ≡ Damaged page → ⊥
    pub page_limit : (allotted : ℕ) → ran.ending ≡ PageLimit allotted
        → IsVersion t.reply × (sure ≡ h) × (allotted ≡ params.pages) × g.lacks_pages ran.device params h rows
        × (whole ≡ true → params.pages < g.charge before + g.need params h rows)
    pub reads : reading → g.reads ran.device ≤ g.reads before + cost
    pub quiet : reading → KeepsDevice g before ran.device
    pub any_moment : whole ≡ true → OnlyBetween g params h t.state.history before ran.device
    pub settled : whole ≡ true → Settled g params h before → SettledBetween g params sure t.state.history ran.device
    pub surely : whole ≡ true → Settled g params h before → (ran.ending ≡ DiskFault → ⊥) → Settled g params sure ran.device

  -- The line is served, or the run ends in it.
  abbrev pub ServesText : Bool → Params → History → Step → List Row → Type 0 → ℕ → D → List ℕ → List ℕ → Bool → Result (Desk H D g) (RunEnd D) → Type 0
  ServesText whole params h t rows reading cost before gathered gathered' is_urgent (Ok desk) = Serves whole params h t rows reading cost before desk gathered gathered' is_urgent
  ServesText whole params h t rows reading cost before gathered gathered' is_urgent (Err ran) = Breaks whole params h t rows reading cost before ran

  -- The next line, which has the number n, is taken off the input and served.
  pub record ServesLine (whole : Bool) (params : Params) (n : ℕ) (before after : List ℕ) (stopped : Option Line) (h : History) (old new : Desk H D g) (gathered gathered' : List ℕ) (is_urgent : Bool) : Type 0 where
    pub line : List ℕ
    pub takes : TakesLine before line after stopped
    pub serves : Serves whole params h (step params n (state_at h old) line) (rows_committed (state_at h old) (input params line)) (MayTake false (input params line)) (line_cost g.cost params h line) (g.device old.house) new gathered gathered' is_urgent

  -- The next line, which has the number n, is taken off the input, and the run ends in it.
  pub record BreaksOff (whole : Bool) (params : Params) (n : ℕ) (before after : List ℕ) (stopped : Option Line) (h : History) (old : Desk H D g) (ran : RunEnd D) : Type 0 where
    pub line : List ℕ
    pub takes : TakesLine before line after stopped
    pub goes : MayGoOn stopped
    pub breaks : Breaks whole params h (step params n (state_at h old) line) (rows_committed (state_at h old) (input params line)) (MayTake false (input params line)) (line_cost g.cost params h line) (g.device old.house) ran

  -- What is left when a run over an input ends. Some of its lines were served whole, at most one was begun then, and the rest
  -- was not begun. What was written are replies to the lines that were served, from the first on; at most one batch is in the
  -- history whose reply was not written whole. The history that is sure has all that these lines have committed, or the line
  -- that was begun too; the device stands for it, unless it failed, and so does what a crash may leave now, which else goes on from it. Where no
  -- line commits, nothing of the device is changed.
  pub record Ends (whole tells tells' still : Bool) (params : Params) (begin : State) (input left : List ℕ) (before : D) (ran : RunEnd D) (written written' : List ℕ) : Type 0 where
    pub served : List (List ℕ)
    pub begun : List (List ℕ)
    pub rest : List (List ℕ)
    pub cut : lines input ≡ served ++ (begun ++ rest)
    pub one : length begun ≤ 1
    pub between : IsBetweenLines ran.ending → begun ≡ []
    pub fine : ran.ending ≡ Fine → rest ≡ []
    pub taken : IsInputEnding ran.ending → IsTrue still → TakesWhole input left served
    pub read : IsTrue still → TakesLines input left (served ++ begun)
    pub wrote : IsTrue tells → IsTrue tells' → WritesPart written written' (replies params 1 begin served)
    pub put : IsTrue tells → IsTrue tells' → PutsAllButOne params begin served begun written written'
    pub flushed : IsFlushed ran.ending → IsTrue tells → IsTrue tells' → written' ≡ written ++ replies params 1 begin served
    pub sure : History
    pub which : (sure ≡ (state_after params 1 begin served).history) ⊎ (sure ≡ (state_after params 1 begin (served ++ begun)).history)
    pub stands : (ran.ending ≡ DiskFault → ⊥) → g.stands whole ran.device params sure
    pub undamaged : (page : ℕ) → ran.ending ≡ Damaged page → ⊥
    pub page_limit : (allotted : ℕ) → ran.ending ≡ PageLimit allotted
        → NextIsVersion params (1 + length served) (state_after params 1 begin served) begun × (sure ≡ (state_after params 1 begin served).history)
        × (allotted ≡ params.pages) × g.lacks_pages ran.device params sure (next_rows params (state_after params 1 begin served) begun)
        × (whole ≡ true → params.pages < g.charge before + lines_need g.need params 1 begin (served ++ begun))
    pub reads : MayServe false params (lines input) → g.reads ran.device ≤ g.reads before + lines_cost g.cost params 1 begin (served ++ begun)
    pub quiet : MayServe false params (lines input) → KeepsDevice g before ran.device
    pub any_moment : whole ≡ true → OnlyBetween g params begin.history (state_after params 1 begin (served ++ begun)).history before ran.device
    pub settled : whole ≡ true → Settled g params begin.history before → SettledBetween g params sure (state_after params 1 begin (served ++ begun)).history ran.device
    pub surely : whole ≡ true → Settled g params begin.history before → (ran.ending ≡ DiskFault → ⊥) → Settled g params sure ran.device

  -- What lasts when a run ends, over whatever input: the device stands for a history that goes on from the first, unless it failed,
  -- and what a crash may leave goes on from that.
  pub record Lasts (params : Params) (h : History) (before : D) (ran : RunEnd D) : Type 0 where
    pub sure : History
    pub begins : GoesOnFrom h sure
    pub stands : (ran.ending ≡ DiskFault → ⊥) → g.stands true ran.device params sure
    pub undamaged : (page : ℕ) → ran.ending ≡ Damaged page → ⊥
    pub page_limit : (allotted : ℕ) → ran.ending ≡ PageLimit allotted
        → (allotted ≡ params.pages) × (rows : List Row) × g.lacks_pages ran.device params sure rows
    pub any_moment : OnlyFrom g params h before ran.device
    pub settled : Settled g params h before → SettledFrom g params sure ran.device

  -- The same between two lines, where the run goes on.
  pub record LastsSoFar (params : Params) (h : History) (before now : D) : Type 0 where
    pub sure : History
    pub begins : GoesOnFrom h sure
    pub stands : g.stands true now params sure
    pub any_moment : OnlyFrom g params h before now
    pub settled : Settled g params h before → Settled g params sure now

  abbrev pub LastsBeyond : Params → History → D → Result (Desk H D g) (RunEnd D) → Type 0
  LastsBeyond params h before (Ok desk) = LastsSoFar params h before (g.device desk.house)
  LastsBeyond params h before (Err ran) = IsHouseEnding ran.ending → Lasts params h before ran
