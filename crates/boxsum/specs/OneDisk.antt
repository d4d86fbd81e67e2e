-- Which commands work on one disk.
use Rattle.std.specs.Prelude.{ℕ, Bool, true, false, List, Option, Some, None}
use Rattle.csv_rows.specs.Input.{given, provided}
use Rattle.command_words.specs.Command.{command_of}
use Rattle.command_words.specs.declared.command.Command.{Command}
use Rattle.command_words.specs.declared.command.Command.TheVariants.{Spans, SpanRun, Compact}

-- the command works on one disk
abbrev pub is_for_one_disk : Command → Bool
is_for_one_disk (Compact version) = false
is_for_one_disk Spans = false
is_for_one_disk SpanRun = false
is_for_one_disk _ = true

-- a command is asked for that works on one disk, or none
abbrev pub asks_one_disk : Option Command → Bool
asks_one_disk None = true
asks_one_disk (Some command) = is_for_one_disk command

-- the command that the words ask for where there is one disk: a command that needs two is none then
abbrev pub command_on_one : List (List ℕ) → Option Command
command_on_one words = given (command_of words) (λ command. provided (is_for_one_disk command) command)
