-- The grammar of the command line.
use Rattle.std.specs.Prelude.{ℕ, ◌==◌, nat_le, if◌then◌else◌, List, [], ◌∷◌, Option, Some, None, option_map, codes}
use Rattle.std.specs.Option.{option_map_or}
use Rattle.std.specs.Str.{bytes_eq}
use Rattle.bw_types.specs.declared.params.Params.{Params}
use Rattle.csv_rows.specs.Numbers.{number_of}
use Rattle.csv_rows.specs.Input.{given, provided}
use Rattle.command_words.specs.Grammar.{Setting, Table, settings_of, value_of}
use Rattle.command_words.specs.declared.command.Command.{Command}
use Rattle.command_words.specs.declared.command.Command.TheVariants.{Create, Run, Scratch, Sample, Check, Spans, SpanRun, Report, Export, Compact}

-- what each command takes
abbrev pub create_table : Table
create_table = record { options = codes "degree" ∷ codes "events" ∷ codes "pages" ∷ codes "signed" ∷ []; places = codes "dims" ∷ [] }

abbrev pub scratch_table : Table
scratch_table = record { options = codes "degree" ∷ codes "events" ∷ codes "signed" ∷ []; places = codes "dims" ∷ [] }

abbrev pub sample_table : Table
sample_table = record { options = []; places = codes "start" ∷ codes "count" ∷ [] }

abbrev pub compact_table : Table
compact_table = record { options = []; places = codes "version" ∷ [] }

abbrev pub bare_table : Table
bare_table = record { options = []; places = [] }

-- a value that is a number from least to most
abbrev pub value_from : ℕ → ℕ → List ℕ → Option ℕ
value_from least most word = given (number_of most word) (λ n. provided (nat_le least n) n)

-- what a value is read as, or the default where there is none
abbrev pub read_or : {A : Type 0} → A → (List ℕ → Option A) → Option (List ℕ) → Option A
read_or default read value = option_map_or read value (Some default)

-- the words of a command that makes params
pub record ParamsWords : Type 0 where
  pub dims : Option (List ℕ)
  pub degree : Option (List ℕ)
  pub events : Option (List ℕ)
  pub pages : Option (List ℕ)
  pub signed : Option (List ℕ)

-- the words, by what is found under a name
abbrev pub params_words : (List ℕ → Option (List ℕ)) → ParamsWords
params_words found = record {
  dims = found (codes "dims");
  degree = found (codes "degree");
  events = found (codes "events");
  pages = found (codes "pages");
  signed = found (codes "signed");
}

-- the params that words give
abbrev pub params_from : ParamsWords → Option Params
params_from t =
    given (given t.dims (value_from 1 3)) (λ dims.
    given (read_or None (λ v. option_map Some (value_from 0 2 v)) t.degree) (λ degree.
    given (read_or 1000000 (value_from 1 268435456) t.events) (λ events.
    given (read_or 1048576 (value_from 3 4294967295) t.pages) (λ pages.
    given (read_or 0 (value_from 0 1) t.signed) (λ signed.
    Some (record { dims = dims; degree = degree; events = events; pages = pages; origin = if signed == 0 then 0 else 2147483647 }))))))

-- the start and the count of a sample
abbrev pub sample_from : Option (List ℕ) → Option (List ℕ) → Option (ℕ × ℕ)
sample_from start count =
    given (given start (value_from 0 18446744073709551615)) (λ s. given (given count (value_from 0 20000)) (λ c. Some (s, c)))

abbrev pub version_from : Option (List ℕ) → Option ℕ
version_from version = given version (value_from 0 4294967295)

-- what settings give
abbrev pub params_of : List Setting → Option Params
params_of settings = params_from (params_words (λ name. value_of name settings))

abbrev pub sample_of : List Setting → Option (ℕ × ℕ)
sample_of settings = sample_from (value_of (codes "start") settings) (value_of (codes "count") settings)

abbrev pub version_of : List Setting → Option ℕ
version_of settings = version_from (value_of (codes "version") settings)

-- what is made of the settings that words give
abbrev pub read_by : {X : Type 0} → Table → (List Setting → Option X) → List (List ℕ) → Option X
read_by t read words = given (settings_of t [] None words) read

-- the command of this name, where it takes nothing
abbrev pub plain_named : List ℕ → Option Command
plain_named name =
    if bytes_eq name (codes "run") then Some Run
    else (if bytes_eq name (codes "check") then Some Check
    else (if bytes_eq name (codes "spans") then Some Spans
    else (if bytes_eq name (codes "spanrun") then Some SpanRun
    else (if bytes_eq name (codes "report") then Some Report
    else (if bytes_eq name (codes "export") then Some Export
    else None)))))

-- the command of this name with these words after it
abbrev pub command_named : List ℕ → List (List ℕ) → Option Command
command_named name words =
    if bytes_eq name (codes "create") then option_map Create (read_by create_table params_of words)
    else (if bytes_eq name (codes "scratch") then option_map Scratch (read_by scratch_table params_of words)
    else (if bytes_eq name (codes "sample") then option_map (λ sample. Sample sample.0 sample.1) (read_by sample_table sample_of words)
    else (if bytes_eq name (codes "compact") then option_map Compact (read_by compact_table version_of words)
    else given (plain_named name) (λ command. read_by bare_table (λ _. Some command) words))))

-- the command that the words of the command line ask for, or None where they are not in the grammar
abbrev pub command_of : List (List ℕ) → Option Command
command_of [] = None
command_of (name ∷ words) = command_named name words
