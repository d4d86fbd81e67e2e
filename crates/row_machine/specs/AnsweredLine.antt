-- What is done with the next line, where lines are answered from what no line changes.
use Rattle.std.specs.Prelude.{◌≡◌, ℕ, ◌+◌, ◌≤◌, List, ◌++◌, Option}
use Rattle.line_reader.specs.Lines.{TakesLine}
use Rattle.line_reader.specs.declared.lines.Line.{Line}
use Rattle.row_machine.specs.Answering.{reads_within, reply_within}
use Rattle.row_machine.specs.Serving.{MayGoOn}
use Rattle.row_machine.specs.declared.answering.Responder.{Ghosts}

module _ {R : Type 0} (g : Ghosts R) (facts : g.Facts) where
  -- The next line, which has the number n, is taken off the input, and its replies are gathered.
  pub record AnswersLine (n : ℕ) (before after : List ℕ) (stopped : Option Line) (old new : R) (gathered gathered' : List ℕ) : Type 0 where
    pub line : List ℕ
    pub takes : TakesLine before line after stopped
    pub replies : gathered' ≡ gathered ++ reply_within (g.reply facts) n line
    pub reads : g.reads new ≤ g.reads old + reads_within (g.cost facts) line

  -- The next line is taken off the input, and the run ends in it.
  pub record BeginsLine (before after : List ℕ) (stopped : Option Line) (old new : R) : Type 0 where
    pub line : List ℕ
    pub takes : TakesLine before line after stopped
    pub goes : MayGoOn stopped
    pub reads : g.reads new ≤ g.reads old + reads_within (g.cost facts) line
