-- What follows from how a run ended.
use Rattle.std.specs.Prelude.{◌≡◌, ℕ, ◌+◌, Bool, true, IsTrue, List, [], ◌++◌, length}
use Rattle.bw_types.specs.History.{History}
use Rattle.bw_types.specs.declared.params.Params.{Params}
use Rattle.line_reader.specs.Lines.{is_whole, lines, whole_part}
use Rattle.csv_rows.specs.Machine.{State, replies, state_after, text, after, begun}
use Rattle.warehouse.specs.declared.house.House.{Ghosts}
use Rattle.row_machine.specs.declared.ending.RunEnd.{RunEnd}
use Rattle.row_machine.specs.declared.ending.Ending.TheVariants.{Fine}
use Rattle.row_machine.specs.Housed.{GoesOnFrom, OnlyBetween, Settled, SettledBetween}
use Rattle.ports.specs.Written.{WritesPart}
use Rattle.row_machine.specs.Serving.{Ends, IsInputEnding, MayServe}

module _ {H D : Type 0} (g : Ghosts H D) where
  -- The replies to the lines were written, and no more; the device stands for the history after them.
  pub record Served (whole tells tells' : Bool) (params : Params) (begin : State) (served : List (List ℕ)) (ran : RunEnd D) (written written' : List ℕ) : Type 0 where
    pub wrote : IsTrue tells → IsTrue tells' → written' ≡ written ++ replies params 1 begin served
    pub stands : g.stands whole ran.device params (state_after params 1 begin served).history

  -- Of the input all was taken but what is left, and its lines up to the last line feed that was taken were served.
  pub record ServedWhole (whole tells tells' : Bool) (params : Params) (begin : State) (input left : List ℕ) (ran : RunEnd D) (written written' : List ℕ) : Type 0 where
    pub taken : List ℕ
    pub cut : input ≡ taken ++ left
    pub served : Served whole tells tells' params begin (lines (whole_part taken)) ran written written'

  -- However a run ends, a part of the replies to all lines was written, from its beginning.
  abbrev pub EndsInPart : Type 0
  EndsInPart = (whole tells tells' still : Bool) (params : Params) (begin : State) (input left : List ℕ) (before : D) (ran : RunEnd D) (written written' : List ℕ)
      → Ends g whole tells tells' still params begin input left before ran written written' → IsTrue tells → IsTrue tells'
      → WritesPart written written' (replies params 1 begin (lines input))

  -- A run that is fine served all lines.
  abbrev pub FineServesAll : Type 0
  FineServesAll = (whole tells tells' still : Bool) (params : Params) (begin : State) (input left : List ℕ) (before : D) (ran : RunEnd D) (written written' : List ℕ)
      → Ends g whole tells tells' still params begin input left before ran written written' → ran.ending ≡ Fine
      → Served whole tells tells' params begin (lines input) ran written written'

  -- A run that the input ended served the lines up to the last line feed that was taken.
  abbrev pub InputServesWhole : Type 0
  InputServesWhole = (whole tells tells' still : Bool) (params : Params) (begin : State) (input left : List ℕ) (before : D) (ran : RunEnd D) (written written' : List ℕ)
      → Ends g whole tells tells' still params begin input left before ran written written' → IsInputEnding ran.ending → IsTrue still
      → ServedWhole whole tells tells' params begin input left ran written written'

  -- Where nothing but the history of the beginning may be left then, a crash after a fine run leaves the history after all lines.
  abbrev pub FineSettles : Type 0
  FineSettles = (tells tells' still : Bool) (params : Params) (begin : State) (input left : List ℕ) (before : D) (ran : RunEnd D) (written written' : List ℕ)
      → Ends g true tells tells' still params begin input left before ran written written' → ran.ending ≡ Fine
      → Settled g params begin.history before → Settled g params (state_after params 1 begin (lines input)).history ran.device

  -- Whatever is sure, or may be left, lies between the history of the beginning and that after all lines.
  pub record WithinAll (params : Params) (begin : State) (input : List ℕ) (before : D) (sure : History) (ran : RunEnd D) : Type 0 where
    pub begins : GoesOnFrom begin.history sure
    pub within : GoesOnFrom sure (state_after params 1 begin (lines input)).history
    pub any_moment : OnlyBetween g params begin.history (state_after params 1 begin (lines input)).history before ran.device
    pub settled : Settled g params begin.history before → SettledBetween g params sure (state_after params 1 begin (lines input)).history ran.device

  abbrev pub EndsWithinAll : Type 0
  EndsWithinAll = (tells tells' still : Bool) (params : Params) (begin : State) (input left : List ℕ) (before : D) (ran : RunEnd D) (written written' : List ℕ)
      → (e : Ends g true tells tells' still params begin input left before ran written written') → WithinAll params begin input before e.sure ran

  -- The history that is sure has all that those lines have committed whose replies were written whole.
  abbrev pub HoldsAcknowledged : Type 0
  HoldsAcknowledged = (whole tells tells' still : Bool) (params : Params) (begin : State) (input left : List ℕ) (before : D) (ran : RunEnd D) (written written' : List ℕ)
      → (e : Ends g whole tells tells' still params begin input left before ran written written') → IsTrue tells → IsTrue tells'
      → (first later : List (List ℕ)) (more : List ℕ) → lines input ≡ first ++ later → written' ≡ written ++ (replies params 1 begin first ++ more)
      → GoesOnFrom (state_after params 1 begin first).history e.sure

-- Where the device is whole for commits, all lines may be served.
abbrev pub AllMayBeServed : Type 0
AllMayBeServed = (params : Params) (ls : List (List ℕ)) → MayServe true params ls

-- The history after an input goes on from the one before it.
abbrev pub AfterGoesOn : Type 0
AfterGoesOn = (params : Params) (h : History) (bytes : List ℕ) → GoesOnFrom h (after params h bytes)

-- So does the history after any lines.
abbrev pub LinesGoOn : Type 0
LinesGoOn = (params : Params) (h : History) (ls : List (List ℕ)) → GoesOnFrom h (state_after params 1 (begun h) ls).history

-- Lines without a reply leave the history.
abbrev pub SilentLinesKeep : Type 0
SilentLinesKeep = (params : Params) (n : ℕ) (s : State) (ls : List (List ℕ)) → replies params n s ls ≡ [] → (state_after params n s ls).history ≡ s.history

-- What is written for two inputs that meet at a line's end is what is written for the first, and then the replies to the
-- second from the state that the first leaves.
abbrev pub TextJoins : Type 0
TextJoins = (params : Params) (h : History) (first second : List ℕ) → IsTrue (is_whole first)
    → text params h (first ++ second) ≡ text params h first ++ replies params (1 + length (lines first)) (state_after params 1 (begun h) (lines first)) (lines second)

-- The history after two inputs that meet at a line's end is that after the second, from the state that the first leaves.
abbrev pub AfterJoins : Type 0
AfterJoins = (params : Params) (h : History) (first second : List ℕ) → IsTrue (is_whole first)
    → after params h (first ++ second) ≡ (state_after params (1 + length (lines first)) (state_after params 1 (begun h) (lines first)) (lines second)).history
