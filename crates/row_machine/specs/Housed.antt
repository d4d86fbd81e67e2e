-- What a line does to a desk over any house, and to the device below it.
use Rattle.std.specs.Prelude.{◌≡◌, ℕ, ◌+◌, ◌<◌, ◌≤◌, ⊤, Bool, true, false, List, [], ◌++◌, Option, Some, None, Result, Ok, Err, IfErr, unwrap_or, nat_le, if◌then◌else◌}
use Rattle.bw_types.specs.History.{History, last_version}
use Rattle.bw_types.specs.declared.params.Params.{Params}
use Rattle.bw_types.specs.declared.query.Query.{Query}
use Rattle.bw_types.specs.declared.row.Row.{Row}
use Rattle.csv_rows.specs.Machine.{State, Step, line_step, rows_of}
use Rattle.csv_rows.specs.declared.input.Input.{Input}
use Rattle.csv_rows.specs.declared.input.Input.TheVariants.{Stage, Commit, Drop, Ask}
use Rattle.csv_rows.specs.declared.reply.Reply.{Reply}
use Rattle.csv_rows.specs.declared.reply.Reply.TheVariants.{Version, Refused, Dropped, Answer, Bad, Full, NoVersion}
use Rattle.ports.specs.Count.{Rose}
use Rattle.warehouse.specs.Crashes.{OnlyLeaves}
use Rattle.warehouse.specs.declared.house.House.{Ghosts}
use Rattle.row_machine.specs.declared.desk.Desk.{Desk}
use Rattle.row_machine.specs.declared.desk.LineTaken.{LineTaken}
use Rattle.row_machine.specs.declared.desk.LineTaken.TheVariants.{Done, Commits}
use Rattle.row_machine.specs.declared.desk.Taken.{Taken}
use Rattle.row_machine.specs.declared.ending.RunEnd.{RunEnd}
use Rattle.row_machine.specs.declared.ending.Ending.{Ending}
use Rattle.row_machine.specs.declared.ending.Ending.TheVariants.{Fine, ReadFault, WriteFault, NoMemory, InputLimit, DiskFault, Damaged, PageLimit}

-- the history goes on from the other
pub record GoesOnFrom (front whole : History) : Type 0 where
  pub later : History
  pub goes_on : whole ≡ front ++ later

-- on a device that is not whole for commits the line may be any but a commit
abbrev pub MayTake : Bool → Option Input → Type 0
MayTake true i = ⊤
MayTake false None = ⊤
MayTake false (Some (Stage session r)) = ⊤
MayTake false (Some (Commit session)) = ⊥
MayTake false (Some (Drop session)) = ⊤
MayTake false (Some (Ask version q)) = ⊤

abbrev pub IsVersion : Option Reply → Type 0
IsVersion None = ⊥
IsVersion (Some (Version version)) = ⊤
IsVersion (Some (Refused refusal)) = ⊥
IsVersion (Some (Dropped session)) = ⊥
IsVersion (Some (Answer kind version value)) = ⊥
IsVersion (Some (Bad line)) = ⊥
IsVersion (Some (Full line)) = ⊥
IsVersion (Some (NoVersion line)) = ⊥

-- the most reads of a line, where a query has this cost
abbrev pub input_cost : (Params → History → Query → ℕ) → Params → History → Option Input → ℕ
input_cost cost params h None = 0
input_cost cost params h (Some (Stage session r)) = 0
input_cost cost params h (Some (Commit session)) = 0
input_cost cost params h (Some (Drop session)) = 0
input_cost cost params h (Some (Ask version q)) = if nat_le (unwrap_or version (last_version h)) (last_version h) then cost params h q else 0

-- the endings with which a house or the machine ends a run
abbrev pub IsHouseEnding : Ending → Type 0
IsHouseEnding Fine = ⊥
IsHouseEnding ReadFault = ⊥
IsHouseEnding WriteFault = ⊥
IsHouseEnding (InputLimit taken) = ⊥
IsHouseEnding NoMemory = ⊤
IsHouseEnding DiskFault = ⊤
IsHouseEnding (Damaged page) = ⊤
IsHouseEnding (PageLimit allotted) = ⊤

-- the pages that a step needs, of those that its batch needs where it is put last
abbrev pub version_need : Option Reply → ℕ → ℕ
version_need None n = 0
version_need (Some (Version version)) n = n
version_need (Some (Refused refusal)) n = 0
version_need (Some (Dropped session)) n = 0
version_need (Some (Answer kind version value)) n = 0
version_need (Some (Bad line)) n = 0
version_need (Some (Full line)) n = 0
version_need (Some (NoVersion line)) n = 0

-- the rows that a line commits: those that its session has staged
abbrev pub rows_committed : State → Option Input → List Row
rows_committed s None = []
rows_committed s (Some (Stage session r)) = []
rows_committed s (Some (Commit session)) = rows_of s session
rows_committed s (Some (Drop session)) = []
rows_committed s (Some (Ask version q)) = []

module _ {H D : Type 0} (g : Ghosts H D) where
  abbrev pub device_of : Desk H D g → D
  device_of desk = g.device desk.house

  -- the device after a line
  abbrev pub device_left : Result (Taken H D g) (RunEnd D) → D
  device_left (Ok taken) = g.device taken.desk.house
  device_left (Err ran) = ran.device

  -- the desk is at a state of the machine
  pub record IsAt (whole : Bool) (params : Params) (s : State) (desk : Desk H D g) : Type 0 where
    pub stands : g.stands whole (g.device desk.house) params s.history
    pub staged : desk.sessions ≡ s.staged

  -- the machine made this step
  abbrev pub Went : Bool → Params → Step → Result (Taken H D g) (RunEnd D) → Type 0
  Went whole params t (Ok taken) = IsAt whole params t.state taken.desk × (taken.reply ≡ t.reply)
  Went whole params t (Err ran) = ⊤

  -- Where a line that was to commit these rows ends the run, the device stands as before, unless it failed.
  abbrev pub StopsFor : Bool → Params → History → Step → List Row → Ending → D → Type 0
  StopsFor whole params h t rows Fine d = ⊥
  StopsFor whole params h t rows ReadFault d = ⊥
  StopsFor whole params h t rows WriteFault d = ⊥
  StopsFor whole params h t rows (InputLimit taken) d = ⊥
  StopsFor whole params h t rows (Damaged page) d = ⊥
  StopsFor whole params h t rows NoMemory d = g.stands whole d params h
  StopsFor whole params h t rows (PageLimit allotted) d =
      g.stands whole d params h × IsVersion t.reply × (allotted ≡ params.pages) × g.lacks_pages d params h rows
      × (params.pages < g.charge d + g.need params h rows)
  StopsFor whole params h t rows DiskFault d = ⊤

  abbrev pub Stops : Bool → Params → History → Step → List Row → Result (Taken H D g) (RunEnd D) → Type 0
  Stops whole params h t rows (Ok taken) = ⊤
  Stops whole params h t rows (Err ran) = StopsFor whole params h t rows ran.ending ran.device

  -- the image holds a history that goes on from the first and of which the second goes on
  pub record KeepsBetween (params : Params) (first second : History) (x : g.Image) : Type 0 where
    pub between : History
    pub keeps : g.keeps x params between
    pub begins : GoesOnFrom first between
    pub within : GoesOnFrom between second

  -- what a crash may leave now holds this history
  abbrev pub Settled : Params → History → D → Type 0
  Settled params h d = (x : g.Image) → g.now (g.moments d) x → g.keeps x params h

  abbrev pub SettledBetween : Params → History → History → D → Type 0
  SettledBetween params first second d = (x : g.Image) → g.now (g.moments d) x → KeepsBetween params first second x

  abbrev pub OnlyBetween : Params → History → History → D → D → Type 0
  OnlyBetween params first second old new = OnlyLeaves g.clock g.since (KeepsBetween params first second) (g.moments old) (g.moments new)

  -- after a line that was taken, the history that the machine has is settled
  abbrev pub SettledAfter : Params → History → Result (Taken H D g) (RunEnd D) → Type 0
  SettledAfter params h (Ok taken) = Settled params h (g.device taken.desk.house)
  SettledAfter params h (Err ran) = ⊤

  -- Where a line ends the run and the device did not fail, a crash leaves this history.
  abbrev pub SettledStill : Params → History → Result (Taken H D g) (RunEnd D) → Type 0
  SettledStill params h (Ok taken) = ⊤
  SettledStill params h (Err ran) = (ran.ending ≡ DiskFault → ⊥) → Settled params h ran.device

  -- What a line that brings the history h to h' does to what a crash may leave.
  pub record Leaves (params : Params) (h h' : History) (before : D) (result : Result (Taken H D g) (RunEnd D)) : Type 0 where
    pub any_moment : OnlyBetween params h h' before (device_left result)
    pub settled : Settled params h before → SettledAfter params h' result
    pub kept : Settled params h before → SettledStill params h result
    pub lost : Settled params h before → SettledBetween params h h' (device_left result)

  -- a line that is taken needs no more pages than its step does, and one that ends the run needs none
  abbrev pub Charges : Params → History → D → Step → List Row → Result (Taken H D g) (RunEnd D) → Type 0
  Charges params h before t rows (Ok taken) = g.charge (g.device taken.desk.house) ≤ g.charge before + version_need t.reply (g.need params h rows)
  Charges params h before t rows (Err ran) = (ran.ending ≡ DiskFault → ⊥) → g.charge ran.device ≡ g.charge before

  -- the image holds a history that goes on from this one
  pub record KeepsFrom (params : Params) (first : History) (x : g.Image) : Type 0 where
    pub kept : History
    pub keeps : g.keeps x params kept
    pub begins : GoesOnFrom first kept

  abbrev pub SettledFrom : Params → History → D → Type 0
  SettledFrom params first d = (x : g.Image) → g.now (g.moments d) x → KeepsFrom params first x

  abbrev pub OnlyFrom : Params → History → D → D → Type 0
  OnlyFrom params first old new = OnlyLeaves g.clock g.since (KeepsFrom params first) (g.moments old) (g.moments new)

  abbrev pub KeepsParams : Params → Result (Taken H D g) (RunEnd D) → Type 0
  KeepsParams params (Ok taken) = taken.desk.params ≡ params
  KeepsParams params (Err ran) = ⊤

  -- the device failed in this call, where that is why the run ends
  abbrev pub DiskCause : D → Result (Taken H D g) (RunEnd D) → Type 0
  DiskCause before (Ok taken) = ⊤
  DiskCause before (Err ran) = ran.ending ≡ DiskFault → Rose (g.faults before) (g.faults ran.device)

  -- What reads of the device give, and what a crash may leave of it, are as before.
  abbrev pub KeepsDevice : D → D → Type 0
  KeepsDevice before after = (g.image after ≡ g.image before) × (g.moments after ≡ g.moments before)

  -- What a line did. From each history that the device stands for the machine is to make this step, which commits these
  -- rows, and where the line is none that commits it may ask for so many reads, and changes nothing of the device. On a device
  -- that is whole for queries alone that is said only of lines that may be taken there.
  pub record Takes (ps : Params) (before : D) (may : Bool → Type 0) (t : History → Step) (rows : History → List Row) (cost : History → ℕ) (result : Result (Taken H D g) (RunEnd D)) : Type 0 where
    pub params : KeepsParams ps result
    pub went : (whole : Bool) (h : History) → may whole → g.stands whole before ps h → Went whole ps (t h) result
    pub stops : (whole : Bool) (h : History) → may whole → g.stands whole before ps h → Stops whole ps h (t h) (rows h) result
    pub reads : (whole : Bool) (h : History) → may false → g.stands whole before ps h → g.reads (device_left result) ≤ g.reads before + cost h
    pub quiet : may false → KeepsDevice before (device_left result)
    pub leaves : (h : History) → g.stands true before ps h → Leaves ps h (t h).state.history before result
    pub charge : (h : History) → g.stands true before ps h → Charges ps h before (t h) (rows h) result
    pub tells : g.tells (device_left result) ≡ g.tells before
    pub faults : g.faults before ≤ g.faults (device_left result)
    pub own : IfErr result (λ ran. IsHouseEnding ran.ending)
    pub limit : IfErr result (λ ran. (allotted : ℕ) → ran.ending ≡ PageLimit allotted → allotted ≡ ps.pages)
    pub disk : DiskCause before result

  -- What is said of a line that a desk took where it stands: it is done, or the run ends in it, or a session is left to commit.
  abbrev pub OnTaken : (Result (Taken H D g) (RunEnd D) → Type 0) → (ℕ → Type 0) → Desk H D g → Result LineTaken Ending → Type 0
  OnTaken takes commits desk (Ok (Done reply)) = takes (Ok (record { desk = desk; reply = reply }))
  OnTaken takes commits desk (Ok (Commits session)) = commits session
  OnTaken takes commits desk (Err ending) = takes (Err (record { ending = ending; device = g.device desk.house }))

  -- The line spells a commit of the session, and the desk is as before.
  pub record LeavesCommit (spelled : Option Input) (old new : Desk H D g) (session : ℕ) : Type 0 where
    pub spells : spelled ≡ Some (Commit session)
    pub some : 1 ≤ session
    pub sixteen : session ≤ 16
    pub same : new ≡ old

  -- What a line did that has the number n and spells this.
  abbrev pub DoesLine : ℕ → Desk H D g → Option Input → Desk H D g → Result LineTaken Ending → Type 0
  DoesLine n old spelled new result =
      OnTaken (Takes old.params (g.device old.house) (λ whole. MayTake whole spelled)
      (λ h. line_step old.params n (record { history = h; staged = old.sessions }) spelled)
      (λ h. rows_committed (record { history = h; staged = old.sessions }) spelled)
      (λ h. input_cost g.cost old.params h spelled)) (LeavesCommit spelled old new) new result
