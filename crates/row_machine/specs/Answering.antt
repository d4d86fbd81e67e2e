-- What is written where each line of an input is answered and none changes anything.
use Rattle.std.specs.Prelude.{◌≡◌, ℕ, ◌+◌, ◌≤◌, nat_le, if◌then◌else◌, Bool, IsTrue, List, [], ◌∷◌, ◌++◌, length}
use Rattle.ports.specs.Written.{WritesPart}
use Rattle.line_reader.specs.Lines.{lines}
use Rattle.csv_rows.specs.Input.{longest_line}
use Rattle.csv_rows.specs.Replies.{reply_text}
use Rattle.csv_rows.specs.declared.reply.Reply.TheVariants.{Bad}
use Rattle.row_machine.specs.Serving.{IsBetweenLines, IsFlushed, IsInputEnding, TakesLines, TakesWhole}
use Rattle.row_machine.specs.declared.ending.Ending.{Ending}
use Rattle.row_machine.specs.declared.ending.Ending.TheVariants.{Fine}

-- the replies to the line with the number n: a line that is longer than a line may be is bad
abbrev pub reply_within : (ℕ → List ℕ → List ℕ) → ℕ → List ℕ → List ℕ
reply_within reply n line = if nat_le (length line) longest_line then reply n line else reply_text (Bad n)

-- the replies to lines, the first of them having the number n
abbrev pub replies_by : (ℕ → List ℕ → List ℕ) → ℕ → List (List ℕ) → List ℕ
replies_by reply n [] = []
replies_by reply n (line ∷ ls) = reply_within reply n line ++ replies_by reply (n + 1) ls

-- the most reads that a line asks for: a line that is too long asks for none
abbrev pub reads_within : (List ℕ → ℕ) → List ℕ → ℕ
reads_within cost line = if nat_le (length line) longest_line then cost line else 0

-- the most reads that lines ask for
abbrev pub reads_by : (List ℕ → ℕ) → List (List ℕ) → ℕ
reads_by cost [] = 0
reads_by cost (line ∷ ls) = reads_within cost line + reads_by cost ls

-- Which lines of the input were answered when a run ends so. Some were answered whole, at most one was begun then, and the rest was not
-- begun; where the run ends between two lines none was begun, and where it is fine these are all lines. What was written is a part of the
-- replies to the lines that were answered, from the first on, and all of them where neither the sink nor the device failed. From the first
-- number of reads to the last there are no more than these lines ask for.
pub record AnswersLines (reply : ℕ → List ℕ → List ℕ) (cost : List ℕ → ℕ) (tells tells' still : Bool) (input left : List ℕ) (ending : Ending) (written written' : List ℕ) (first last : ℕ) : Type 0 where
  pub answered : List (List ℕ)
  pub begun : List (List ℕ)
  pub rest : List (List ℕ)
  pub cut : lines input ≡ answered ++ (begun ++ rest)
  pub one : length begun ≤ 1
  pub between : IsBetweenLines ending → begun ≡ []
  pub fine : ending ≡ Fine → rest ≡ []
  pub taken : IsInputEnding ending → IsTrue still → TakesWhole input left answered
  pub read : IsTrue still → TakesLines input left (answered ++ begun)
  pub wrote : IsTrue tells → IsTrue tells' → WritesPart written written' (replies_by reply 1 answered)
  pub flushed : IsFlushed ending → IsTrue tells → written' ≡ written ++ replies_by reply 1 answered
  pub reads : last ≤ first + reads_by cost (answered ++ begun)
