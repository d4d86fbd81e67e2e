-- When the words of the command line are refused, and what holds of a command that was read.
use Rattle.std.specs.Prelude.{◌≡◌, ℕ, List, None, MatchResult, Result, ⊤}
use Rattle.bw_types.specs.Fits.{IsInRange}
use Rattle.command_words.specs.Command.{command_of}
use Rattle.command_words.specs.declared.command.Command.{Command}
use Rattle.command_words.specs.declared.command.Command.TheVariants.{Create, Scratch}
use Rattle.command_words.specs.declared.words.WordsFault.{WordsFault}
use Rattle.command_words.specs.declared.words.WordsFault.TheVariants.{Usage, NoMemory}

-- the fault is want of memory, or this holds
abbrev pub IfUsage : WordsFault → Type 0 → Type 0
IfUsage Usage fact = fact
IfUsage NoMemory fact = ⊤

-- words are faulty exactly where they are not in the grammar; memory may always run out
abbrev pub ExplainsWords : WordsFault → List (List ℕ) → Type 0
ExplainsWords fault words = IfUsage fault (command_of words ≡ None)

-- the params of the command are in their ranges
abbrev pub CommandFits : Command → Type 0
CommandFits (Create params) = IsInRange params
CommandFits (Scratch params) = IsInRange params
CommandFits _ = ⊤

-- memory ran out, or the result is this value
abbrev pub IsReadAs : {T : Type 0} → Result T WordsFault → T → Type 0
IsReadAs result value = MatchResult result (λ read. read ≡ value) (λ fault. fault ≡ NoMemory)
