-- A line that is taken off the input and served.
use Rattle.std.proofs.Common.{◌≡◌, ℕ, ◌<◌, Bool, false, IsTrue, List, ◌∷◌, length, ◌⊎◌, inr, Option, None, Some, Result, Ok, Err, IfOk, IfErr, IfSome, ◌≤◌, sym, ◌∙◌, subst}
use Rattle.std.specs.Prelude.{⊤}
use Rattle.bw_types.specs.History.{History}
use Rattle.bw_types.specs.declared.params.Params.{Params}
use Rattle.csv_rows.specs.Input.{input}
use Rattle.line_reader.specs.Lines.{lines, TakesLine}
use Rattle.line_reader.specs.Reader.{TakesLongLine}
use Rattle.csv_rows.specs.Machine.{step}
use Rattle.line_reader.specs.declared.lines.Line.{Line}
use Rattle.warehouse.specs.declared.house.House.{Ghosts}
use Rattle.row_machine.specs.declared.desk.Desk.{Desk}
use Rattle.row_machine.specs.declared.ending.RunEnd.{RunEnd}
use Rattle.row_machine.specs.declared.ending.Ending.{Ending}
use Rattle.row_machine.specs.declared.ending.Ending.TheVariants.{Fine, ReadFault, WriteFault, NoMemory, InputLimit, DiskFault, Damaged, PageLimit}
use Rattle.row_machine.specs.Housed.{IsHouseEnding, LeavesCommit, MayTake, rows_committed}
use Rattle.row_machine.specs.Serving.{state_at, LeavesLine, OnServed, ServesText, ServesLine, BreaksOff, IsBetweenLines, MayGoOn, MayServe, line_cost}

pub not_both : (ending : Ending) → IsHouseEnding ending → IsBetweenLines ending → ⊥
not_both Fine w b = w
not_both ReadFault w b = w
not_both (InputLimit taken) w b = w
not_both WriteFault w b = w
not_both NoMemory w b = b
not_both DiskFault w b = b
not_both (Damaged page) w b = b
not_both (PageLimit allotted) w b = b

within_not : (ending other : Ending) → IsHouseEnding ending → ending ≡ other → IsHouseEnding other
within_not ending other w e = subst (λ (s : Ending). IsHouseEnding s) e w

pub reply_no_limit : {A D : Type 0} (P : ℕ → Type 0) (d : D) (result : Result A (RunEnd D)) → IfErr result (λ ran. (ran.device ≡ d) × (ran.ending ≡ NoMemory))
    → IfErr result (λ ran. (allotted : ℕ) → ran.ending ≡ PageLimit allotted → P allotted)
reply_no_limit P d (Ok x) w = tt
reply_no_limit P d (Err ran) w = λ allotted e. absurd (let no : NoMemory ≡ PageLimit allotted = sym w.1 ∙ e in cc)

pub reply_within : {A D : Type 0} (d : D) (result : Result A (RunEnd D)) → IfErr result (λ ran. (ran.device ≡ d) × (ran.ending ≡ NoMemory)) → IfErr result (λ ran. IsHouseEnding ran.ending)
reply_within d (Ok x) w = tt
reply_within d (Err ran) w = subst (λ (s : Ending). IsHouseEnding s) (sym w.1) tt

module _ {A : Type 0} where
  pub done_within : (result : Result A Ending) → IfErr result (λ ending. ending ≡ NoMemory) → IfErr result (λ ending. IsHouseEnding ending)
  done_within (Ok x) w = tt
  done_within (Err ending) w = subst (λ (s : Ending). IsHouseEnding s) (sym w) tt

  pub done_no_fault : (P : Ending → Type 0) (result : Result A Ending) → IfErr result (λ ending. ending ≡ NoMemory) → IfErr result (λ ending. ending ≡ DiskFault → P ending)
  done_no_fault P (Ok x) w = tt
  done_no_fault P (Err ending) w = λ e. absurd (let no : NoMemory ≡ DiskFault = sym w ∙ e in cc)

  pub done_no_limit : (P : ℕ → Type 0) (result : Result A Ending) → IfErr result (λ ending. ending ≡ NoMemory) → IfErr result (λ ending. (allotted : ℕ) → ending ≡ PageLimit allotted → P allotted)
  done_no_limit P (Ok x) w = tt
  done_no_limit P (Err ending) w = λ allotted e. absurd (let no : NoMemory ≡ PageLimit allotted = sym w ∙ e in cc)

  pub ends_within_line : (result : Result A Ending) → IfErr result (λ ending. IsHouseEnding ending) → IfErr result (λ ending. IsBetweenLines ending ⊎ IsHouseEnding ending)
  ends_within_line (Ok x) w = tt
  ends_within_line (Err ending) w = inr w

  pub never_between : (P : Ending → Type 0) (result : Result A Ending) → IfErr result (λ ending. IsHouseEnding ending) → IfErr result (λ ending. IsBetweenLines ending → P ending)
  never_between P (Ok x) w = tt
  never_between P (Err ending) w = λ b. absurd (not_both ending w b)

  pub never_fine : (P : Ending → Type 0) (result : Result A Ending) → IfErr result (λ ending. IsHouseEnding ending) → IfErr result (λ ending. ending ≡ Fine → P ending)
  never_fine P (Ok x) w = tt
  never_fine P (Err ending) w = λ e. absurd (within_not ending Fine w e)

  pub never_read_fault : (P : Ending → Type 0) (result : Result A Ending) → IfErr result (λ ending. IsHouseEnding ending) → IfErr result (λ ending. ending ≡ ReadFault → P ending)
  never_read_fault P (Ok x) w = tt
  never_read_fault P (Err ending) w = λ e. absurd (within_not ending ReadFault w e)

  pub never_limit : (P : ℕ → Ending → Type 0) (result : Result A Ending) → IfErr result (λ ending. IsHouseEnding ending) → IfErr result (λ ending. (taken : ℕ) → ending ≡ InputLimit taken → P taken ending)
  never_limit P (Ok x) w = tt
  never_limit P (Err ending) w = λ taken e. absurd (within_not ending (InputLimit taken) w e)

-- nothing is said of a session where none is left
pub none_left : (P : ℕ → Type 0) (result : Result (Option ℕ) Ending) → IfOk result (λ left. left ≡ None) → IfOk result (λ left. IfSome left P)
none_left P (Ok None) none = tt
none_left P (Ok (Some session)) none = absurd cc
none_left P (Err ending) none = tt

-- the first of the lines may be taken
pub first_may : (whole : Bool) (params : Params) (all : List (List ℕ)) (line : List ℕ) (rest : List (List ℕ)) → all ≡ line ∷ rest
    → MayServe whole params all → MayTake whole (input params line)
first_may whole params all line rest e may = (subst (λ (ls : List (List ℕ)). MayServe whole params ls) e may).0

module _ {H D : Type 0} (g : Ghosts H D) (source : Bool) (params : Params) (n : ℕ) (before after : List ℕ) (stopped : Option Line) (old new : Desk H D g) (gathered gathered' : List ℕ) (is_urgent : Bool) where
  pub text_line : (text line : List ℕ) (result : Result (Option ℕ) Ending) → text ≡ line → (IsTrue source → TakesLine before line after stopped)
      → ((whole : Bool) (h : History) → MayTake whole (input params text) → g.stands whole (g.device old.house) params h
      → OnServed g (ServesText g whole params h (step params n (state_at g h old) text) (rows_committed (state_at g h old) (input params text)) (MayTake false (input params text)) (line_cost g.cost params h text) (g.device old.house) gathered gathered' is_urgent) (λ session. ⊤) new result)
      → IfOk result (λ left. left ≡ None → IsTrue source → (whole : Bool) (h : History) → MayServe whole params (lines before) → g.stands whole (g.device old.house) params h
      → ServesLine g whole params n before after stopped h old new gathered gathered' is_urgent)
  text_line text line (Ok None) e takes serves = λ none told whole h may stands.
      let t : TakesLine before text after stopped = subst (λ (l : List ℕ). TakesLine before l after stopped) (sym e) (takes told) in
      record { line = text; takes = t; serves = serves whole h (first_may whole params (lines before) text (lines after) t.all_lines may) stands }
  text_line text line (Ok (Some session)) e takes serves = λ none. absurd cc
  text_line text line (Err ending) e takes serves = tt

  pub text_breaks : (text line : List ℕ) (result : Result (Option ℕ) Ending) → text ≡ line → MayGoOn stopped → (IsTrue source → TakesLine before line after stopped)
      → ((whole : Bool) (h : History) → MayTake whole (input params text) → g.stands whole (g.device old.house) params h
      → OnServed g (ServesText g whole params h (step params n (state_at g h old) text) (rows_committed (state_at g h old) (input params text)) (MayTake false (input params text)) (line_cost g.cost params h text) (g.device old.house) gathered gathered' is_urgent) (λ session. ⊤) new result)
      → IfErr result (λ ending. IsHouseEnding ending → IsTrue source → (whole : Bool) (h : History) → MayServe whole params (lines before) → g.stands whole (g.device old.house) params h
      → BreaksOff g whole params n before after stopped h old (record { ending = ending; device = g.device new.house }))
  text_breaks text line (Ok left) e going takes serves = tt
  text_breaks text line (Err ending) e going takes serves = λ w told whole h may stands.
      let t : TakesLine before text after stopped = subst (λ (l : List ℕ). TakesLine before l after stopped) (sym e) (takes told) in
      record { line = text; takes = t; goes = going; breaks = serves whole h (first_may whole params (lines before) text (lines after) t.all_lines may) stands }

  pub text_commits : (text line : List ℕ) (result : Result (Option ℕ) Ending) → text ≡ line → (IsTrue source → TakesLine before line after stopped)
      → IfOk result (λ left. IfSome left (λ session. LeavesCommit g (input params text) old new session × (gathered' ≡ gathered)))
      → IfOk result (λ left. IfSome left (λ session. (1 ≤ session) × (session ≤ 16) × (new ≡ old) × (gathered' ≡ gathered)
      × (IsTrue source → LeavesLine params before after stopped session)))
  text_commits text line (Ok None) e takes commits = tt
  text_commits text line (Ok (Some session)) e takes commits = (
    commits.0.some,
    commits.0.sixteen,
    commits.0.same,
    commits.1,
    λ told. record { line = text; takes = subst (λ (l : List ℕ). TakesLine before l after stopped) (sym e) (takes told); spells = commits.0.spells },
  )
  text_commits text line (Err ending) e takes commits = tt

  pub long_line : (most : ℕ) (result : Result (Option ℕ) Ending) → (IsTrue source → TakesLongLine most before after stopped)
      → ((whole : Bool) (h : History) (line : List ℕ) → most < length line → g.stands whole (g.device old.house) params h
      → OnServed g (ServesText g whole params h (step params n (state_at g h old) line) (rows_committed (state_at g h old) (input params line)) (MayTake false (input params line)) (line_cost g.cost params h line) (g.device old.house) gathered gathered' is_urgent) (λ session. ⊤) new result)
      → IfOk result (λ left. left ≡ None → IsTrue source → (whole : Bool) (h : History) → MayServe whole params (lines before) → g.stands whole (g.device old.house) params h
      → ServesLine g whole params n before after stopped h old new gathered gathered' is_urgent)
  long_line most (Ok None) takes serves = λ none told whole h may stands.
      record { line = (takes told).line; takes = (takes told).takes; serves = serves whole h (takes told).line (takes told).long stands }
  long_line most (Ok (Some session)) takes serves = λ none. absurd cc
  long_line most (Err ending) takes serves = tt

  pub long_breaks : (most : ℕ) (result : Result (Option ℕ) Ending) → MayGoOn stopped → (IsTrue source → TakesLongLine most before after stopped)
      → ((whole : Bool) (h : History) (line : List ℕ) → most < length line → g.stands whole (g.device old.house) params h
      → OnServed g (ServesText g whole params h (step params n (state_at g h old) line) (rows_committed (state_at g h old) (input params line)) (MayTake false (input params line)) (line_cost g.cost params h line) (g.device old.house) gathered gathered' is_urgent) (λ session. ⊤) new result)
      → IfErr result (λ ending. IsHouseEnding ending → IsTrue source → (whole : Bool) (h : History) → MayServe whole params (lines before) → g.stands whole (g.device old.house) params h
      → BreaksOff g whole params n before after stopped h old (record { ending = ending; device = g.device new.house }))
  long_breaks most (Ok left) going takes serves = tt
  long_breaks most (Err ending) going takes serves = λ w told whole h may stands.
      record { line = (takes told).line; takes = (takes told).takes; goes = going; breaks = serves whole h (takes told).line (takes told).long stands }
