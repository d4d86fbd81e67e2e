-- What a run of the program has read, written and kept when it ends.
use Rattle.std.specs.Prelude.{◌≡◌, ◌≢◌, ◌⊎◌, ℕ, ◌+◌, ◌≤◌, Bool, IsTrue, List, [], ◌∷◌, ◌++◌, length}
use Rattle.bw_types.specs.History.{History}
use Rattle.bw_types.specs.declared.params.Params.{Params}
use Rattle.bw_types.specs.declared.query.Query.{Query}
use Rattle.line_reader.specs.Lines.{lines, whole_part}
use Rattle.csv_rows.specs.Input.{input as input_of}
use Rattle.csv_rows.specs.Machine.{State, begun, replies, state_after, step}
use Rattle.page_disk.specs.Image.{Image}
use Rattle.dom_index.specs.declared.index.DomIndex.{Ghosts as IndexGhosts}
use Rattle.page_warehouse.specs.Holds.{Holds}
use Rattle.page_warehouse.specs.Needs.{LacksPages}
use Rattle.row_machine.specs.Housed.{IsVersion, rows_committed}
use Rattle.ports.specs.Written.{WritesPart}
use Rattle.row_machine.specs.Serving.{PutsAllButOne, TakesLines, TakesWhole, lines_cost}
use Rattle.boxsum.specs.declared.status.Status.{Status}
use Rattle.boxsum.specs.declared.status.Status.TheVariants.{Fine, WriteFault, DiskFault, ReadFault, InputLimit}

-- the input ended the run within a line
abbrev pub IsInputStatus : Status → Type 0
IsInputStatus status = (status ≡ ReadFault) ⊎ ((taken : ℕ) × (status ≡ InputLimit taken))

-- Of the input all was taken but what is left, and what was written is the text of the bytes up to the last line feed
-- that was taken.
pub record WritesWholeLines (text : List ℕ → List ℕ) (input left before after : List ℕ) : Type 0 where
  pub taken : List ℕ
  pub cut : input ≡ taken ++ left
  pub wrote : after ≡ before ++ text (whole_part taken)

-- the state after lines, from this history on
abbrev pub state_by : Params → History → List (List ℕ) → State
state_by params h ls = state_after params 1 (begun h) ls

-- the history after lines, from this one on
abbrev pub history_by : Params → History → List (List ℕ) → History
history_by params h ls = (state_by params h ls).history

-- The first of the input's lines, all of whose replies are written whole: what they commit is acknowledged.
pub record AreReplied (params : Params) (h : History) (input before after : List ℕ) (first : List (List ℕ)) : Type 0 where
  pub later : List (List ℕ)
  pub more : List ℕ
  pub cut : lines input ≡ first ++ later
  pub wrote : after ≡ before ++ (replies params 1 (begun h) first ++ more)

-- Which lines of the input were carried out when a run ends so: some were served, at most one was cut off by the end, all of them lines
-- that were taken from the source, and none of the rest was begun. Where the run is fine or the input ends it, none was cut off: these are
-- all lines, or all whole ones that were taken. What was written is a part of their replies, from its beginning; all of them, unless the
-- sink or the disk failed. And at most one batch is put into the history whose reply is not written whole, that of the last of these lines.
pub record ServesLines (params : Params) (h : History) (input left : List ℕ) (still : Bool) (status : Status) (told told' : Bool) (before after : List ℕ) : Type 0 where
  pub served : List (List ℕ)
  pub cut_off : List (List ℕ)
  pub rest : List (List ℕ)
  pub cut : lines input ≡ served ++ (cut_off ++ rest)
  pub one : length cut_off ≤ 1
  pub none_cut_off : (status ≡ Fine) ⊎ IsInputStatus status → cut_off ≡ []
  pub all : status ≡ Fine → rest ≡ []
  pub whole_lines : IsInputStatus status → IsTrue still → TakesWhole input left served
  pub read : IsTrue still → TakesLines input left (served ++ cut_off)
  pub part : IsTrue told → IsTrue told' → WritesPart before after (replies params 1 (begun h) served)
  pub wrote : status ≢ WriteFault → status ≢ DiskFault → IsTrue told → IsTrue told' × (after ≡ before ++ replies params 1 (begun h) served)
  pub put : IsTrue told → IsTrue told' → PutsAllButOne params (begun h) served cut_off before after

-- So many reads at most, from so many on: a query among those lines may read what it costs.
pub record ReadsForLines (cost : Params → History → Query → ℕ) (params : Params) (h : History) (still : Bool) (input left : List ℕ) (status : Status) (told told' : Bool) (before after : List ℕ) (first last : ℕ) : Type 0 where
  pub lines : ServesLines params h input left still status told told' before after
  pub most : last ≤ first + lines_cost cost params 1 (begun h) (lines.served ++ lines.cut_off)

module _ {X : Type 0} (i : IndexGhosts X) where
  -- A commit of the input that no rule refuses lacks pages on this disk, which still holds the history before it.
  pub record LacksPagesAmid (params : Params) (h : History) (input : List ℕ) (x : Image) (allotted : ℕ) : Type 0 where
    pub served : List (List ℕ)
    pub line : List ℕ
    pub rest : List (List ℕ)
    pub cut : lines input ≡ served ++ line ∷ rest
    pub accepted : IsVersion (step params (1 + length served) (state_by params h served) line).reply
    pub kept : Holds i x params (history_by params h served)
    pub limit : allotted ≡ params.pages
    pub lacks : LacksPages x params (history_by params h served) (rows_committed (state_by params h served) (input_of params line))

  -- Such a commit comes next: the lines before it were replied.
  pub record LacksPagesNext (params : Params) (h : History) (input : List ℕ) (x : Image) (told told' : Bool) (before after : List ℕ) (allotted : ℕ) : Type 0 where
    pub amid : LacksPagesAmid params h input x allotted
    pub wrote : IsTrue told → IsTrue told' → after ≡ before ++ replies params 1 (begun h) amid.served
