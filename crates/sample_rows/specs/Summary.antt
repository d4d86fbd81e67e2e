-- What is printed of a sample.
use Rattle.std.specs.Prelude.{◌≡◌, ℕ, ◌+◌, ◌^◌, ◌<◌, ◌==◌, if◌then◌else◌, List, [], ◌∷◌, ◌++◌, drop, map, position, None, ℤ, pos, ◌+ℤ◌, codes}
use Rattle.std.specs.Fmt.{decimal, signed_decimal}
use Rattle.std.specs.Int.{int_wrap, w128}
use Rattle.std.specs.List.{slice_split, starts_with}
use Rattle.std.specs.Option.{option_map_or}
use Rattle.std.specs.Str.{all_ascii_digits}
use Rattle.std.specs.Str.Parse.{digits_value}
use lib.IntN.{neg_ℤ}
use Rattle.bw_types.specs.History.{History}
use Rattle.bw_types.specs.declared.params.Params.{Params}
use Rattle.csv_rows.specs.Machine.{after, text}
use Rattle.sample_rows.specs.Generator.{commits, rows}

-- the number that digits spell, however many they are, and 0 where a byte is no digit
abbrev pub number_in : List ℕ → ℕ
number_in digits = if all_ascii_digits digits then digits_value 10 digits else 0

-- the number that bytes spell, with a minus sign where it is negative
abbrev pub value_in : List ℕ → ℤ
value_in [] = pos 0
value_in (byte ∷ rest) = if byte == 45 then neg_ℤ (pos (number_in rest)) else pos (number_in (byte ∷ rest))

-- the number that stands after the first comma, and 0 where there is none
abbrev pub value_after_comma : List ℕ → ℤ
value_after_comma bytes = option_map_or (λ at. value_in (drop (at + 1) bytes)) (position (λ b. b == 44) bytes) (pos 0)

-- the answer that a reply line `sum,VERSION,ANSWER` gives, and 0 where the line is another
abbrev pub answer_in : List ℕ → ℤ
answer_in line = if starts_with (λ a b. a == b) line (codes "sum,") then value_after_comma (drop 4 line) else pos 0

abbrev pub total_of : List ℤ → ℤ
total_of [] = pos 0
total_of (number ∷ numbers) = number +ℤ total_of numbers

-- the total of the answers to sums in a text of replies
abbrev pub answers_in : List ℕ → ℤ
answers_in replies = total_of (map answer_in (slice_split (λ b. b == 10) replies))

-- a warehouse of two dimensions, with the limits that are the default
abbrev pub sample_params : Params
sample_params = record { dims = 2; degree = None; events = 1000000; pages = 1048576; origin = 0 }

-- the three lines that are printed of a sample with this total
abbrev pub summary_with : ℕ → ℤ → List ℕ
summary_with count total =
    codes "objects," ++ decimal count ++ codes "\nversions," ++ decimal (commits count) ++ codes "\nsums," ++ signed_decimal total ++ codes "\n"

-- From before to after the summary of so many objects was written, with some total, or a part of it, from its beginning.
pub record WritesSummary (count : ℕ) (before after : List ℕ) : Type 0 where
  pub total : ℤ
  pub out : List ℕ
  pub rest : List ℕ
  pub wrote : after ≡ before ++ out
  pub part : summary_with count total ≡ out ++ rest

-- the history after the sample
abbrev pub sample_history : ℕ → ℕ → History
sample_history start count = after sample_params [] (rows start count)

-- what is printed of the sample
abbrev pub summary : ℕ → ℕ → List ℕ
summary start count = summary_with count (answers_in (text sample_params [] (rows start count)))

-- the total of a sample's answers has less than 128 bits: modulo 2^128 it is the same
abbrev pub TotalsAreSmall : Type 0
TotalsAreSmall = (start count : ℕ) → count < 2 ^ 32 → int_wrap w128 (answers_in (text sample_params [] (rows start count))) ≡ answers_in (text sample_params [] (rows start count))
