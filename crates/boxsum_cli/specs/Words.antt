-- What the words of the command line say of the files.
use Rattle.std.specs.Prelude.{◌≡◌, ℕ, Bool, true, false, ◌||◌, List, [], ◌∷◌, Some, codes}
use Rattle.std.specs.Str.{bytes_eq}
use Rattle.command_words.specs.Command.{command_of}
use Rattle.command_words.specs.declared.command.Command.{Command}
use Rattle.command_words.specs.declared.command.Command.TheVariants.{Spans, SpanRun}

-- the first word is that of a command on the files of the spans
abbrev pub begins_with_spans : List (List ℕ) → Bool
begins_with_spans [] = false
begins_with_spans (word ∷ words) = bytes_eq word (codes "spans") || bytes_eq word (codes "spanrun")

-- the command is one on the files of the spans
abbrev pub is_on_spans : Command → Bool
is_on_spans Spans = true
is_on_spans SpanRun = true
is_on_spans _ = false

-- Words that ask for a command begin so exactly where that is one on the files of the spans.
abbrev pub SpansBeginSo : Type 0
SpansBeginSo = (words : List (List ℕ)) (command : Command) → command_of words ≡ Some command → begins_with_spans words ≡ is_on_spans command
