-- What is written where each line of an input is answered and none changes anything.
use Rattle.std.specs.Prelude.{◌≡◌, ◌≢◌, ◌⊎◌, ℕ, ◌+◌, ◌≤◌, ◌++◌, Bool, IsTrue, List, [], length}
use Rattle.ports.specs.Written.{WritesPart}
use Rattle.line_reader.specs.Lines.{lines}
use Rattle.row_machine.specs.Answering.{reads_by, replies_by}
use Rattle.row_machine.specs.Serving.{TakesLines, TakesWhole}
use Rattle.boxsum.specs.Runs.{IsInputStatus}
use Rattle.boxsum.specs.declared.status.Status.{Status}
use Rattle.boxsum.specs.declared.status.Status.TheVariants.{Fine, WriteFault, DiskFault}

-- what is written for a whole input, by the replies to its lines
abbrev pub text_by : (ℕ → List ℕ → List ℕ) → List ℕ → List ℕ
text_by reply bytes = replies_by reply 1 (lines bytes)

-- Which lines of the input were answered when a run ends so: some were answered whole, at most one was cut off by the end, all of them lines
-- that were taken from the source, and none of the rest was begun. Where the run is fine or the input ends it, none was cut off: these are
-- all lines, or all whole ones that were taken. What was written is a part of the replies to the lines that were answered, from its
-- beginning; all of them, unless the sink or the disk failed. No more was read than these lines ask for.
pub record AnswersEach (reply : ℕ → List ℕ → List ℕ) (cost : List ℕ → ℕ) (input left : List ℕ) (still : Bool) (status : Status)
    (told told' : Bool) (before after : List ℕ) (first last : ℕ) : Type 0 where
  pub answered : List (List ℕ)
  pub cut_off : List (List ℕ)
  pub rest : List (List ℕ)
  pub cut : lines input ≡ answered ++ (cut_off ++ rest)
  pub one : length cut_off ≤ 1
  pub none_cut_off : (status ≡ Fine) ⊎ IsInputStatus status → cut_off ≡ []
  pub all : status ≡ Fine → rest ≡ []
  pub whole_lines : IsInputStatus status → IsTrue still → TakesWhole input left answered
  pub read : IsTrue still → TakesLines input left (answered ++ cut_off)
  pub part : IsTrue told → IsTrue told' → WritesPart before after (replies_by reply 1 answered)
  pub wrote : status ≢ WriteFault → status ≢ DiskFault → IsTrue told → IsTrue told' × (after ≡ before ++ replies_by reply 1 answered)
  pub most : last ≤ first + reads_by cost (answered ++ cut_off)
