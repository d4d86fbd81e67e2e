-- The lines of an input, and how one line after another is taken off its front.
use Rattle.std.specs.Prelude.{◌≡◌, ℕ, ◌==◌, ◌||◌, if◌then◌else◌, Bool, true, false, IsTrue, ◌⊎◌, List, [], ◌∷◌, ◌++◌, map, Option, Some}
use Rattle.std.specs.List.{All, list_any, slice_split}
use Rattle.std.specs.Str.Lines.{strip_carriage_return}
use Rattle.line_reader.specs.declared.lines.Line.{Line}
use Rattle.line_reader.specs.declared.lines.Line.TheVariants.{End}

abbrev pub is_line_feed : ℕ → Bool
is_line_feed byte = byte == 10

-- the parts without the last one, where that has no bytes
abbrev pub without_empty_last : List (List ℕ) → List (List ℕ)
without_empty_last [] = []
without_empty_last ([] ∷ []) = []
without_empty_last (part ∷ parts) = part ∷ without_empty_last parts

-- the lines of an input: it is cut at each line feed, a last part with no bytes is no line,
-- and from each line one carriage return at its end is dropped
abbrev pub lines : List ℕ → List (List ℕ)
lines bytes = map strip_carriage_return (without_empty_last (slice_split is_line_feed bytes))

abbrev pub HasNoLineFeed : List ℕ → Type 0
HasNoLineFeed bytes = All (λ byte. is_line_feed byte ≡ false) bytes

-- no bytes, or a line feed comes last: no line is cut off by the end
abbrev pub is_whole : List ℕ → Bool
is_whole [] = true
is_whole (byte ∷ []) = is_line_feed byte
is_whole (byte ∷ next ∷ bytes) = is_whole (next ∷ bytes)

-- the bytes up to and with the last line feed: none where there is no line feed
abbrev pub whole_part : List ℕ → List ℕ
whole_part [] = []
whole_part (byte ∷ bytes) =
    if is_line_feed byte || list_any is_line_feed bytes then byte ∷ whole_part bytes else []

-- a piece at the front of the input before is a line of its own, and after is what follows the piece; the piece
-- ends with its line feed, unless the reader has seen the end and stopped there
pub record TakesLine (before line after : List ℕ) (stopped : Option Line) : Type 0 where
  pub piece : List ℕ
  pub cut : before ≡ piece ++ after
  pub one_line : lines piece ≡ line ∷ []
  pub ends : IsTrue (is_whole piece) ⊎ (stopped ≡ Some End)
  pub all_lines : lines before ≡ line ∷ lines after

-- from the input before some bytes were passed, up to after, and no line feed was among them
pub record PassesNoLineFeed (before after : List ℕ) : Type 0 where
  pub passed : List ℕ
  pub cut : before ≡ passed ++ after
  pub in_line : HasNoLineFeed passed
