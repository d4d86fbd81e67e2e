-- The first words of the commands on the files of the spans.
use Rattle.std.proofs.Common.{◌≡◌, ◌∙◌, ℕ, Bool, true, false, List, [], ◌∷◌, Option, Some, None, IfSome, option_and_then, option_map, refl, sym, ap, subst, if◌then◌else◌, codes}
use Rattle.std.proofs.lemmas.Option.{none-some}
use Rattle.std.proofs.lemmas.Slice.Eq.{bytes_eq-Decides}
use Rattle.std.specs.Str.{bytes_eq}
use Rattle.command_words.specs.Command.{bare_table, command_named, compact_table, create_table, params_of, plain_named, read_by, sample_of, sample_table, scratch_table, version_of}
use Rattle.command_words.specs.Grammar.{settings_of}
use Rattle.command_words.specs.declared.command.Command.{Command}
use Rattle.command_words.specs.declared.command.Command.TheVariants.{Create, Run, Scratch, Sample, Check, Spans, SpanRun, Report, Export, Compact}
use Rattle.boxsum_cli.specs.Words.{SpansBeginSo, begins_with_spans, is_on_spans}

-- the word is that of a command on the files of the spans
abbrev is_spans_word : List ℕ → Bool
is_spans_word word = begins_with_spans (word ∷ [])

-- the command, where there is one, is on the files of the spans exactly where this is so
abbrev OnSpans : Bool → Option Command → Type 0
OnSpans so found = IfSome found (λ command. so ≡ is_on_spans command)

-- what is found where the name is this text, and where it is not
by_name : (so : Bool) (name text : List ℕ) (x y : Option Command) → (name ≡ text → OnSpans so x) → OnSpans so y → OnSpans so (if bytes_eq name text then x else y)
by_name so name text x y here other = go (bytes_eq name text) refl
  where
    go : (same : Bool) → bytes_eq name text ≡ same → OnSpans so (if same then x else y)
    go true e = here ((bytes_eq-Decides name text).0 e)
    go false e = other

-- a command that is made of values, and is on other files
made : {X : Type 0} (so : Bool) (make : X → Command) (values : Option X) → ((x : X) → is_on_spans (make x) ≡ false) → so ≡ false → OnSpans so (option_map make values)
made so make None elsewhere e = tt
made so make (Some x) elsewhere e = e ∙ sym (elsewhere x)

-- a command that takes nothing, where nothing is given
alone : {X : Type 0} (so : Bool) (found : Option Command) (nothing : Option X) → OnSpans so found → OnSpans so (option_and_then (λ command. option_and_then (λ _. Some command) nothing) found)
alone so None nothing on = tt
alone so (Some command) None on = tt
alone so (Some command) (Some x) on = on

plain_on_spans : (name : List ℕ) → OnSpans (is_spans_word name) (plain_named name)
plain_on_spans name =
    by_name (is_spans_word name) name (codes "run") (Some Run) _ (λ e. ap is_spans_word e)
    (by_name (is_spans_word name) name (codes "check") (Some Check) _ (λ e. ap is_spans_word e)
    (by_name (is_spans_word name) name (codes "spans") (Some Spans) _ (λ e. ap is_spans_word e)
    (by_name (is_spans_word name) name (codes "spanrun") (Some SpanRun) _ (λ e. ap is_spans_word e)
    (by_name (is_spans_word name) name (codes "report") (Some Report) _ (λ e. ap is_spans_word e)
    (by_name (is_spans_word name) name (codes "export") (Some Export) None (λ e. ap is_spans_word e) tt)))))

on_spans : (name : List ℕ) (words : List (List ℕ)) → OnSpans (is_spans_word name) (command_named name words)
on_spans name words =
    by_name (is_spans_word name) name (codes "create") (option_map Create (read_by create_table params_of words)) _
    (λ e. made (is_spans_word name) Create (read_by create_table params_of words) (λ params. refl) (ap is_spans_word e))
    (by_name (is_spans_word name) name (codes "scratch") (option_map Scratch (read_by scratch_table params_of words)) _
    (λ e. made (is_spans_word name) Scratch (read_by scratch_table params_of words) (λ params. refl) (ap is_spans_word e))
    (by_name (is_spans_word name) name (codes "sample") (option_map (λ sample. Sample sample.0 sample.1) (read_by sample_table sample_of words)) _
    (λ e. made (is_spans_word name) (λ (sample : ℕ × ℕ). Sample sample.0 sample.1) (read_by sample_table sample_of words) (λ sample. refl) (ap is_spans_word e))
    (by_name (is_spans_word name) name (codes "compact") (option_map Compact (read_by compact_table version_of words)) _
    (λ e. made (is_spans_word name) Compact (read_by compact_table version_of words) (λ version. refl) (ap is_spans_word e))
    (alone (is_spans_word name) (plain_named name) (settings_of bare_table [] None words) (plain_on_spans name)))))

-- words that ask for a command begin so exactly where that is one on the files of the spans
pub spans_begin : SpansBeginSo
spans_begin [] command e = absurd (none-some command e)
spans_begin (name ∷ words) command e = subst (OnSpans (is_spans_word name)) e (on_spans name words)
