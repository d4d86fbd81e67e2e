-- The commands of clap, and what is read of what they find.
use Rattle.std.specs.Prelude.{ℕ, true, List, [], ◌∷◌, Option, Some, None, option_map, codes}
use Rattle.bw_types.specs.declared.params.Params.{Params}
use Rattle.clap.specs.Faults.{fault_of}
use Rattle.clap.specs.Kinds.{Kinds}
use Rattle.clap.specs.Words.{App, Row, Rule, first_of, matches_of, new_app, new_rule, with_rule}
use Rattle.clap.specs.Simple.{on_top}
use Rattle.clap.specs.declared.builder.action.ArgAction.TheVariants.{Set}
use Rattle.command_words.specs.Command.{ParamsWords, params_from, params_words, sample_from, version_from}
use Rattle.command_words.specs.declared.words.values.ParamsText.{ParamsText}

abbrev pub option_rule : List ℕ → Rule
option_rule name = record (new_rule name) { long = Some name; action = Some Set }

abbrev pub positional_rule : List ℕ → Rule
positional_rule name = record (new_rule name) { action = Some Set; required = true }

-- a command with no help flag, whose words are arguments from the first on
abbrev pub bare_app : App
bare_app = on_top (λ s. record s { disable_help_flag = true; no_binary_name = true }) (new_app (codes "boxsum"))

abbrev pub common_app : App
common_app = with_rule (with_rule bare_app (option_rule (codes "degree"))) (option_rule (codes "events"))

abbrev pub create_app : App
create_app = with_rule (with_rule (with_rule common_app (option_rule (codes "pages"))) (option_rule (codes "signed"))) (positional_rule (codes "dims"))

abbrev pub scratch_app : App
scratch_app = with_rule (with_rule common_app (option_rule (codes "signed"))) (positional_rule (codes "dims"))

abbrev pub sample_app : App
sample_app = with_rule (with_rule bare_app (positional_rule (codes "start"))) (positional_rule (codes "count"))

abbrev pub compact_app : App
compact_app = with_rule bare_app (positional_rule (codes "version"))

-- what is made where there is no fault
abbrev pub unless : {X : Type 0} → Kinds → Option X → Option X
unless [] o = o
unless (k ∷ ks) o = None

-- what clap finds in words, where it takes them
abbrev pub found_in : App → List (List ℕ) → Option (List Row)
found_in app words = unless (fault_of app words) (Some (matches_of app words))

-- what is read of what clap found
abbrev pub params_in : List Row → Option Params
params_in rows = params_from (params_words (λ name. first_of name rows))

abbrev pub sample_in : List Row → Option (ℕ × ℕ)
sample_in rows = sample_from (first_of (codes "start") rows) (first_of (codes "count") rows)

abbrev pub version_in : List Row → Option ℕ
version_in rows = version_from (first_of (codes "version") rows)

-- texts as words
abbrev pub words_of_text : ParamsText → ParamsWords
words_of_text t = record {
  dims = option_map (λ v. v.now) t.dims;
  degree = option_map (λ v. v.now) t.degree;
  events = option_map (λ v. v.now) t.events;
  pages = option_map (λ v. v.now) t.pages;
  signed = option_map (λ v. v.now) t.signed;
}
