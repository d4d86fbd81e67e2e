-- Where a reader of `csv` stands that is kept from one line to the next.
use Rattle.std.specs.Prelude.{◌≡◌, ◌∷◌, ◌++◌, ℕ, List, Option, Some, true}
use Rattle.csv.specs.Reading.{Ready, default_config, is_flexible, reader_config, reader_state, reader_trim, source_of}
use Rattle.csv.specs.declared.reader.Reader.{Reader}
use Rattle.csv.specs.declared.reader.Trim.TheVariants as trim
use Rattle.csv.specs.declared.parser.State.TheVariants as st

-- a reader with the defaults is between two records, and these bytes come next
abbrev pub Stands : {R : Type 0} → (R → Option (List ℕ)) → Reader R → List ℕ → Type 0
Stands remaining reader rest = (reader_config reader ≡ default_config) × (reader_trim reader ≡ trim.None) × (is_flexible reader ≡ true)
    × Ready reader × (reader_state reader ≡ st.StartRecord) × (source_of remaining reader ≡ Some rest)

-- a text begins with a comma, a line and a line feed
abbrev pub BeginsWithLine : List ℕ → List ℕ → Type 0
BeginsWithLine text line = (rest : List ℕ) × (text ≡ 44 ∷ line ++ 10 ∷ rest)
