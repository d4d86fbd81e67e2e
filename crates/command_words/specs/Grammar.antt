-- What the words after a command's name give its options and places.
use Rattle.std.specs.Prelude.{ℕ, Bool, ◌&&◌, ◌==◌, not, if◌then◌else◌, List, [], ◌∷◌, ◌++◌, drop, find, Option, Some, None, option_map, option_and_then, codes}
use Rattle.std.specs.List.{list_any, starts_with, before_first, after_first}
use Rattle.std.specs.Str.{bytes_eq}

-- what a command takes: options, by their names without the dashes, and positional words, each by the name of its place
pub record Table : Type 0 where
  pub options : List (List ℕ)
  pub places : List (List ℕ)

-- an option or a place with the word that it is given
pub record Setting : Type 0 where
  pub name : List ℕ
  pub value : List ℕ

abbrev pub and_setting : List Setting → List ℕ → List ℕ → List Setting
and_setting seen name value = seen ++ record { name = name; value = value } ∷ []

abbrev pub is_set : List ℕ → List Setting → Bool
is_set name seen = list_any (λ s. bytes_eq s.name name) seen

abbrev pub value_of : List ℕ → List Setting → Option (List ℕ)
value_of name seen = option_map (λ s. s.value) (find (λ s. bytes_eq s.name name) seen)

-- the place has no word yet
abbrev pub is_open : List Setting → List ℕ → Bool
is_open seen place = not (is_set place seen)

-- the command has the option
abbrev pub has_option : Table → List ℕ → Bool
has_option t name = list_any (λ option. bytes_eq option name) t.options

-- an option of the command, which is not set yet, may be set
abbrev pub may_set : Table → List Setting → List ℕ → Bool
may_set t seen name = has_option t name && not (is_set name seen)

-- all that was given, once no place is open
abbrev pub complete : Table → List Setting → Option (List Setting)
complete t seen = if list_any (is_open seen) t.places then None else Some seen

abbrev pub two_dashes : List ℕ
two_dashes = codes "--"

-- the word begins with two dashes
abbrev pub is_option : List ℕ → Bool
is_option word = starts_with (λ a b. a == b) word two_dashes

-- `name` or `name=VALUE`: whether there is an equals sign, what stands before the first, which is all where there is none,
-- and what stands after it
abbrev pub has_value : List ℕ → Bool
has_value option = list_any (λ b. b == 61) option

abbrev pub name_in : List ℕ → List ℕ
name_in option = before_first (λ b. b == 61) option

abbrev pub value_in : List ℕ → List ℕ
value_in option = after_first (λ b. b == 61) option

-- what words give that are all positional: each goes to the first open place
abbrev pub positional_of : Table → List Setting → List (List ℕ) → Option (List Setting)
positional_of t seen [] = complete t seen
positional_of t seen (word ∷ words) = option_and_then (λ place. positional_of t (and_setting seen place word) words) (find (is_open seen) t.places)

-- what words give after what was given before them, where an option may wait for the next word as its value: after the
-- word `--` every word is positional; `--name=VALUE`, or `--name` and the next word, which is not `--`, gives an option
-- its value; all other words are positional
abbrev pub settings_of : Table → List Setting → Option (List ℕ) → List (List ℕ) → Option (List Setting)
settings_of t seen None [] = complete t seen
settings_of t seen (Some name) [] = None
settings_of t seen (Some name) (word ∷ words) =
    if bytes_eq word two_dashes then None
    else (if may_set t seen name then settings_of t (and_setting seen name word) None words else None)
settings_of t seen None (word ∷ words) =
    if bytes_eq word two_dashes then positional_of t seen words
    else (if not (is_option word) then option_and_then (λ place. settings_of t (and_setting seen place word) None words) (find (is_open seen) t.places)
    else (if not (has_value (drop 2 word)) then settings_of t seen (Some (name_in (drop 2 word))) words
    else (if may_set t seen (name_in (drop 2 word)) then settings_of t (and_setting seen (name_in (drop 2 word)) (value_in (drop 2 word))) None words
    else None)))
