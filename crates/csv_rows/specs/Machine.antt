-- What is written for an input: one reply a line, from a history and sixteen empty sessions on.
use Rattle.std.specs.Prelude.{ℕ, ◌+◌, ◌-◌, nat_lt, nat_le, if◌then◌else◌, List, [], ◌∷◌, ◌++◌, length, replicate, Option, Some, None, unwrap_or, slice_index_or, slice_set}
use Rattle.std.specs.Option.{option_map_or}
use Rattle.bw_types.specs.History.{History, flat, last_version}
use Rattle.bw_types.specs.Refusals.{first_refusal}
use Rattle.bw_types.specs.Answers.{answer}
use Rattle.bw_types.specs.declared.params.Params.{Params}
use Rattle.bw_types.specs.declared.row.Row.{Row}
use Rattle.bw_types.specs.declared.query.Query.{Query}
use Rattle.bw_types.specs.declared.refusal.Refusal.{Refusal}
use Rattle.line_reader.specs.Lines.{lines}
use Rattle.csv_rows.specs.Input.{input}
use Rattle.csv_rows.specs.Replies.{reply_text}
use Rattle.csv_rows.specs.declared.input.Input.{Input}
use Rattle.csv_rows.specs.declared.input.Input.TheVariants.{Stage, Commit, Drop, Ask}
use Rattle.csv_rows.specs.declared.reply.Reply.{Reply}
use Rattle.csv_rows.specs.declared.reply.Reply.TheVariants.{Version, Refused, Dropped, Answer, Bad, Full, NoVersion}

-- a history, and what each session has staged: session S's rows are the list at place S - 1
pub record State : Type 0 where
  pub history : History
  pub staged : List (List Row)

-- a state and what was replied on the way to it
pub record Step : Type 0 where
  pub state : State
  pub reply : Option Reply

-- the most rows that a session may have staged
abbrev pub most_staged : ℕ
most_staged = 4096

-- what the session has staged
abbrev pub rows_of : State → ℕ → List Row
rows_of s session = slice_index_or s.staged (session - 1) []

-- the state with these rows staged in the session
abbrev pub with_rows : State → ℕ → List Row → State
with_rows s session rows = record s { staged = slice_set s.staged (session - 1) rows }

-- a row that a session is to stage: it is put last, unless the session is full
abbrev pub stage_step : ℕ → State → ℕ → Row → Step
stage_step n s session r =
    if nat_lt (length (rows_of s session)) most_staged
    then record { state = with_rows s session (rows_of s session ++ r ∷ []); reply = None }
    else record { state = s; reply = Some (Full n) }

-- a commit that has this first refusal: the session is empty afterwards; without one the batch is put last in the history
abbrev pub commit_step : State → ℕ → Option Refusal → Step
commit_step s session (Some refusal) = record { state = with_rows s session []; reply = Some (Refused refusal) }
commit_step s session None =
    record {
      state = record { history = s.history ++ flat (rows_of s session) ∷ []; staged = slice_set s.staged (session - 1) [] };
      reply = Some (Version (last_version s.history + 1));
    }

-- a query at a version
abbrev pub ask_step : Params → ℕ → State → ℕ → Query → Step
ask_step params n s version q =
    if nat_le version (last_version s.history)
    then record { state = s; reply = Some (Answer q.kind version (answer params s.history version q)) }
    else record { state = s; reply = Some (NoVersion n) }

-- the step on what line number n spells
abbrev pub input_step : Params → ℕ → State → Input → Step
input_step params n s (Stage session r) = stage_step n s session r
input_step params n s (Commit session) = commit_step s session (first_refusal params s.history (rows_of s session))
input_step params n s (Drop session) = record { state = with_rows s session []; reply = Some (Dropped session) }
input_step params n s (Ask version q) = ask_step params n s (unwrap_or version (last_version s.history)) q

-- the step on line number n
abbrev pub line_step : Params → ℕ → State → Option Input → Step
line_step params n s None = record { state = s; reply = Some (Bad n) }
line_step params n s (Some i) = input_step params n s i

-- the text of a reply, or nothing where there is none
abbrev pub replied : Option Reply → List ℕ
replied reply = option_map_or reply_text reply []

-- the step on a line
abbrev pub step : Params → ℕ → State → List ℕ → Step
step params n s line = line_step params n s (input params line)

-- the replies to lines, the first of them having the number n
abbrev pub replies : Params → ℕ → State → List (List ℕ) → List ℕ
replies params n s [] = []
replies params n s (line ∷ ls) = replied (step params n s line).reply ++ replies params (n + 1) (step params n s line).state ls

-- the state after lines, the first of them having the number n
abbrev pub state_after : Params → ℕ → State → List (List ℕ) → State
state_after params n s [] = s
state_after params n s (line ∷ ls) = state_after params (n + 1) (step params n s line).state ls

-- a history with nothing staged
abbrev pub begun : History → State
begun h = record { history = h; staged = replicate 16 [] }

-- what is written for the whole input
abbrev pub text : Params → History → List ℕ → List ℕ
text params h bytes = replies params 1 (begun h) (lines bytes)

-- the history after the whole input
abbrev pub after : Params → History → List ℕ → History
after params h bytes = (state_after params 1 (begun h) (lines bytes)).history
