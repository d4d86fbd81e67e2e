-- What each command reads through clap is what the grammar gives it.
use Rattle.std.proofs.Common.{◌≡◌, ◌∙◌, ◌⊎◌, inl, inr, ℕ, ◌+◌, Bool, true, false, cond, not, ◌&&◌, ◌||◌, List, [], ◌∷◌, ◌++◌, map, drop, fold, Option, Some, None, option_map, option_and_then, is_some, refl, sym, ap, subst, true≢false, codes}
use Rattle.std.specs.Prelude.{⊤}
use Rattle.std.proofs.lemmas.Slice.Eq.{bytes_eq-Decides}
use Rattle.std.proofs.lemmas.List.Folds.{list_any-append}
use Rattle.std.specs.List.{list_any}
use Rattle.std.specs.Str.{bytes_eq}
use Rattle.clap.specs.Faults.{built_fault, check_fault, defaults_fault, entered_fault, fault_of, is_free_app, is_simple_and_free, level_fault, settle_fault, walk_fault}
use Rattle.clap.proofs.WalkLemmas.{both}
use Rattle.clap.specs.Kinds.{HasKind, IsAmong, Kinds, or_else}
use Rattle.clap.specs.Matches.{found_of}
use Rattle.clap.specs.Values.{kind_of}
use Rattle.clap.specs.declared.error.Error.{Error}
use Rattle.clap.specs.declared.error.kind.ErrorKind.TheVariants as kind
use Rattle.clap.specs.declared.parser.matches.ArgMatches.{ArgMatches}
use Rattle.clap.specs.Takes.{is_given}
use Rattle.clap.specs.Walk.{Row, Rule, Text, arg_by_id, arg_by_index, arg_by_long, arg_by_short, finished, has_row, nothing_held, rows_after, rows_of, settled, walk, walk_from, with_default}
use Rattle.clap.specs.Simple.{App, HasMatchesOf, Shape, built, entered, is_simple, matches_of, names_of}
use Rattle.csv_rows.specs.Input.{given}
use Rattle.command_words.specs.Grammar.{Setting, Table, and_setting, has_option, is_set, settings_of, value_of}
use Rattle.command_words.specs.Command.{bare_table, compact_table, create_table, params_of, read_by, read_or, sample_of, sample_table, scratch_table, value_from, version_of}
use Rattle.command_words.specs.Reading.{bare_app, compact_app, create_app, found_in, params_in, sample_app, sample_in, scratch_app, unless, version_in}
use Rattle.command_words.proofs.WordsWalk.{Fits, HasNext, IsFull, Strict, bytes_same, first_of-value_of, option_of, place_of, reads_words, rows_for, shape, unless_or}

-- ---- the rules of a table

abbrev places_from : ℕ → List Text → List Rule
places_from i [] = []
places_from i (p ∷ ps) = place_of p i ∷ places_from (i + 1) ps

abbrev rules_for : Table → List Rule
rules_for t = map option_of t.options ++ places_from 1 t.places

same_either : {A : Type 0} (b : Bool) (x : A) → cond b x x ≡ x
same_either true x = refl
same_either false x = refl

or_true : (b : Bool) → (b || true) ≡ true
or_true true = refl
or_true false = refl

long_in : (i : ℕ) (ps os : List Text) (name : Text) → arg_by_long (map option_of os ++ places_from i ps) name ≡ cond (list_any (λ o. bytes_eq o name) os) (Some (option_of name)) None
long_in i [] [] name = refl
long_in i (p ∷ ps) [] name = long_in (i + 1) ps [] name
long_in i ps (o ∷ os) name = go (bytes_eq o name) refl (long_in i ps os name)
  where
    go : (b : Bool) → bytes_eq o name ≡ b → arg_by_long (map option_of os ++ places_from i ps) name ≡ cond (list_any (λ o. bytes_eq o name) os) (Some (option_of name)) None
        → arg_by_long (map option_of (o ∷ os) ++ places_from i ps) name ≡ cond (bytes_eq o name || list_any (λ o. bytes_eq o name) os) (Some (option_of name)) None
    go true e more = rw e (ap (λ (n : Text). Some (option_of n)) ((bytes_eq-Decides o name).0 e))
    go false e more = rw e more

short_in : (i : ℕ) (ps os : List Text) (x : ℕ) → arg_by_short (map option_of os ++ places_from i ps) x ≡ None
short_in i [] [] x = refl
short_in i (p ∷ ps) [] x = short_in (i + 1) ps [] x
short_in i ps (o ∷ os) x = short_in i ps os x

by_id_in : (rest : List Rule) (os : List Text) (name : Text) → list_any (λ o. bytes_eq o name) os ≡ true → arg_by_id (map option_of os ++ rest) name ≡ Some (option_of name)
by_id_in rest [] name e = absurd (true≢false (sym e))
by_id_in rest (o ∷ os) name e = go (bytes_eq o name) refl (by_id_in rest os name)
  where
    go : (b : Bool) → bytes_eq o name ≡ b → (list_any (λ o. bytes_eq o name) os ≡ true → arg_by_id (map option_of os ++ rest) name ≡ Some (option_of name))
        → arg_by_id (map option_of (o ∷ os) ++ rest) name ≡ Some (option_of name)
    go true same more = rw same (ap (λ (n : Text). Some (option_of n)) ((bytes_eq-Decides o name).0 same))
    go false other more = rw other (more (rw other at e))

no_defaults : (i : ℕ) (ps os : List Text) (rows : List Row) → defaults_fault rows (map option_of os ++ places_from i ps) ≡ []
unfolding defaults_fault
no_defaults i [] [] rows = refl
no_defaults i (p ∷ ps) [] rows = rw (or_true (has_row p rows), same_either (has_row p rows) rows) (no_defaults (i + 1) ps [] rows)
no_defaults i ps (o ∷ os) rows = rw (or_true (has_row o rows), same_either (has_row o rows) rows) (no_defaults i ps os rows)

as_found : (i : ℕ) (ps os : List Text) (rows : List Row) → fold with_default rows (map option_of os ++ places_from i ps) ≡ rows
as_found i [] [] rows = refl
as_found i (p ∷ ps) [] rows = ap (λ found. fold with_default found (places_from (i + 1) ps)) (same_either (has_row p rows) rows) ∙ as_found (i + 1) ps [] rows
as_found i ps (o ∷ os) rows = ap (λ found. fold with_default found (map option_of os ++ places_from i ps)) (same_either (has_row o rows) rows) ∙ as_found i ps os rows

wanted_in : (i : ℕ) (ps os : List Text) (rows : List Row) → list_any (λ a. a.required && not (is_given a.id rows)) (map option_of os ++ places_from i ps) ≡ list_any (λ p. not (is_given p rows)) ps
wanted_in i [] [] rows = refl
wanted_in i (p ∷ ps) [] rows = ap (λ b. not (is_given p rows) || b) (wanted_in (i + 1) ps [] rows)
wanted_in i ps (o ∷ os) rows = wanted_in i ps os rows

fits_table : (t : Table) → Fits (rules_for t) t
fits_table t = record {
  long = long_in 1 t.places t.options;
  short = short_in 1 t.places t.options;
  by_id = by_id_in (places_from 1 t.places) t.options;
  defaults = no_defaults 1 t.places t.options;
  finished = as_found 1 t.places t.options;
  wants = wanted_in 1 t.places t.options;
}

-- ---- a parse at its top

no_stop : (s : Shape) (words : List Text) (o : Option (Text × List Text)) (app : App) → app.subs ≡ []
    → level_fault s [] nothing_held words (is_some (entered app o)) (entered_fault app o) ≡ level_fault s [] nothing_held words false []
no_stop s words None app none = refl
no_stop s words (Some p) app none = rw none refl

then_unless : {A B : Type 0} (f : A → Option B) (ks : Kinds) (x : A) → option_and_then f (unless ks (Some x)) ≡ unless ks (f x)
then_unless f [] x = refl
then_unless f (k ∷ ks) x = refl

-- the top of a command with this table
abbrev built_for : Table → App
built_for t = record { top = shape (rules_for t); subs = [] }

-- ---- which names are set

or_none : (b : Bool) → (b || false) ≡ b
or_none true = refl
or_none false = refl

set_now : (p v : Text) (seen : List Setting) → is_set p (and_setting seen p v) ≡ true
set_now p v seen = list_any-append (λ s. bytes_eq s.name p) seen (record { name = p; value = v } ∷ []) ∙ rw (bytes_same p) (or_true (is_set p seen))

set_still : (p n v : Text) (seen : List Setting) → is_set p seen ≡ true → is_set p (and_setting seen n v) ≡ true
set_still p n v seen e = list_any-append (λ s. bytes_eq s.name p) seen (record { name = n; value = v } ∷ []) ∙ rw e refl

set_else : (p n v : Text) (seen : List Setting) → bytes_eq n p ≡ false → is_set p (and_setting seen n v) ≡ is_set p seen
set_else p n v seen e = list_any-append (λ s. bytes_eq s.name p) seen (record { name = n; value = v } ∷ []) ∙ rw e (or_none (is_set p seen))

no_place : (t : Table) (n p : Text) → has_option t n ≡ true → has_option t p ≡ false → bytes_eq n p ≡ false
no_place t n p known unknown = go (bytes_eq n p) refl
  where
    go : (b : Bool) → bytes_eq n p ≡ b → b ≡ false
    go false e = refl
    go true e = absurd (true≢false (sym known ∙ ap (has_option t) ((bytes_eq-Decides n p).0 e) ∙ unknown))

-- ---- what is read through clap

module _ {X : Type 0} (t : Table) (K : List Setting → Option X) (K' : List Row → Option X) (same : (seen : List Setting) → K' (rows_for seen) ≡ K seen)
    (strict : (n : Text) → has_option t n ≡ true → Strict K n) (app : App) (is : built app ≡ built_for t) (named : app.top.no_binary_name ≡ true) where
  c : List Rule
  c = rules_for t

  through : (Stand : ℕ → List Setting → Type 0) → ((position : ℕ) (seen : List Setting) → Stand position seen → IsFull (rules_for t) t position seen ⊎ HasNext (rules_for t) t K Stand position seen)
      → ((position : ℕ) (seen : List Setting) (n v : Text) → has_option t n ≡ true → Stand position seen → Stand position (and_setting seen n v)) → Stand 1 []
      → (words : List Text) → option_and_then K' (found_in app words) ≡ option_and_then K (settings_of t [] None words)
  through Stand next_place kept stand words =
      let end = (walk (rules_for t) [] nothing_held words).held in
      let found = K' (finished (rules_for t) end) in
      let walks = walk_fault (shape (rules_for t)) [] (walk_from nothing_held) words in
      let settles = settle_fault (rules_for t) false end in
      let defaults = defaults_fault (settled (rules_for t) end).rows (rules_for t) in
      let checks = check_fault (shape (rules_for t)) (finished (rules_for t) end) false in
      ap (λ (b : Bool). option_and_then K' (unless (built_fault (built app) nothing_held (cond b words (drop 1 words))) (Some (rows_after (built app).top.rules (names_of (built app)) (cond b words (drop 1 words)))))) named
      ∙ ap (λ (a : App). option_and_then K' (unless (built_fault a nothing_held words) (Some (rows_after a.top.rules (names_of a) words)))) is
      ∙ then_unless K' (built_fault (built_for t) nothing_held words) (rows_after (rules_for t) [] words)
      ∙ ap (λ ks. unless ks found) (no_stop (shape (rules_for t)) words (walk (rules_for t) [] nothing_held words).stopped (built_for t) refl)
      ∙ unless_or walks (or_else settles (or_else defaults checks)) found
      ∙ ap (unless walks) (unless_or settles (or_else defaults checks) found ∙ ap (unless settles) (unless_or defaults checks found))
      ∙ reads_words (rules_for t) t (fits_table t) K K' same Stand next_place kept strict stand words

  -- a command with no place
  pub through_none : t.places ≡ [] → arg_by_index (rules_for t) 1 ≡ None → (words : List Text)
      → option_and_then K' (found_in app words) ≡ option_and_then K (settings_of t [] None words)
  through_none none first =
      through (λ position seen. position ≡ 1) (λ position seen e. inl (rw e first, rw none refl)) (λ position seen n v known e. e) refl

  -- a command with one place
  OneStand : Text → ℕ → List Setting → Type 0
  OneStand p position seen = ((is_set p seen ≡ false) × (position ≡ 1)) ⊎ ((is_set p seen ≡ true) × (position ≡ 2))

  pub through_one : (p : Text) → t.places ≡ p ∷ [] → has_option t p ≡ false → Strict K p → arg_by_index (rules_for t) 1 ≡ Some (place_of p 1) → arg_by_index (rules_for t) 2 ≡ None
      → arg_by_id (rules_for t) p ≡ Some (place_of p 1) → (words : List Text) → option_and_then K' (found_in app words) ≡ option_and_then K (settings_of t [] None words)
  unfolding OneStand
  through_one p only other strict_p first second own = through (OneStand p) next_place kept (inl (refl, refl))
    where
      next_place : (position : ℕ) (seen : List Setting) → OneStand p position seen → IsFull (rules_for t) t position seen ⊎ HasNext (rules_for t) t K (OneStand p) position seen
      next_place position seen (inl (fresh, e)) =
          inr (p, 1, rw e first, own, rw (only, fresh) refl, fresh, strict_p, λ v. inr (set_now p v seen, rw e refl))
      next_place position seen (inr (set, e)) = inl (rw e second, rw (only, set) refl)

      kept : (position : ℕ) (seen : List Setting) (n v : Text) → has_option t n ≡ true → OneStand p position seen → OneStand p position (and_setting seen n v)
      kept position seen n v known (inl (fresh, e)) = inl (set_else p n v seen (no_place t n p known other) ∙ fresh, e)
      kept position seen n v known (inr (set, e)) = inr (set_still p n v seen set, e)

-- ---- the commands

none1 : {A R : Type 0} (a : Option A) → given {A = A} {B = R} a (λ _. None) ≡ None
none1 None = refl
none1 (Some x) = refl

none2 : {A B R : Type 0} (a : Option A) (b : Option B) → given {A = A} {B = R} a (λ _. given b (λ _. None)) ≡ None
none2 None b = refl
none2 (Some x) b = none1 b

none3 : {A B C R : Type 0} (a : Option A) (b : Option B) (c : Option C) → given {A = A} {B = R} a (λ _. given b (λ _. given c (λ _. None))) ≡ None
none3 None b c = refl
none3 (Some x) b c = none2 b c

none4 : {A B C D R : Type 0} (a : Option A) (b : Option B) (c : Option C) (d : Option D) → given {A = A} {B = R} a (λ _. given b (λ _. given c (λ _. given d (λ _. None)))) ≡ None
none4 None b c d = refl
none4 (Some x) b c d = none3 b c d

abbrev Stricts : {X : Type 0} → (List Setting → Option X) → List Text → Type 0
Stricts K [] = ⊤
Stricts K (o ∷ os) = Strict K o × Stricts K os

strict_among : {X : Type 0} (K : List Setting → Option X) (os : List Text) → Stricts K os → (n : Text) → list_any (λ o. bytes_eq o n) os ≡ true → Strict K n
strict_among K [] h n e = absurd (true≢false (sym e))
strict_among K (o ∷ os) h n e = go (bytes_eq o n) refl (strict_among K os h.1 n)
  where
    go : (b : Bool) → bytes_eq o n ≡ b → (list_any (λ o. bytes_eq o n) os ≡ true → Strict K n) → Strict K n
    go true same more = subst (Strict K) ((bytes_eq-Decides o n).0 same) h.0
    go false other more = more (rw other at e)

-- a value that begins with a dash is no number
dims_strict : Strict params_of (codes "dims")
dims_strict seen v e = rw e refl

degree_strict : Strict params_of (codes "degree")
degree_strict seen v e = rw e (none1 (given (value_of (codes "dims") seen) (value_from 1 3)))

abbrev degree_read : List Setting → Option (Option ℕ)
degree_read seen = read_or None (λ v. option_map Some (value_from 0 2 v)) (value_of (codes "degree") seen)

events_strict : Strict params_of (codes "events")
events_strict seen v e = rw e (none2 (given (value_of (codes "dims") seen) (value_from 1 3)) (degree_read seen))

abbrev events_read : List Setting → Option ℕ
events_read seen = read_or 1000000 (value_from 1 268435456) (value_of (codes "events") seen)

pages_strict : Strict params_of (codes "pages")
pages_strict seen v e = rw e (none3 (given (value_of (codes "dims") seen) (value_from 1 3)) (degree_read seen) (events_read seen))

signed_strict : Strict params_of (codes "signed")
signed_strict seen v e =
    rw e (none4 (given (value_of (codes "dims") seen) (value_from 1 3)) (degree_read seen) (events_read seen) (read_or 1048576 (value_from 3 4294967295) (value_of (codes "pages") seen)))

params_same : (seen : List Setting) → params_in (rows_for seen) ≡ params_of seen
params_same seen =
    rw (first_of-value_of (codes "dims") seen, first_of-value_of (codes "degree") seen, first_of-value_of (codes "events") seen, first_of-value_of (codes "pages") seen, first_of-value_of (codes "signed") seen) refl

pub scratch_reads : (words : List Text) → given (found_in scratch_app words) params_in ≡ read_by scratch_table params_of words
scratch_reads =
    through_one scratch_table params_of params_in params_same (strict_among params_of scratch_table.options (degree_strict, (events_strict, (signed_strict, tt)))) scratch_app refl refl
    (codes "dims") refl refl dims_strict refl refl refl

pub create_reads : (words : List Text) → given (found_in create_app words) params_in ≡ read_by create_table params_of words
create_reads =
    through_one create_table params_of params_in params_same (strict_among params_of create_table.options (degree_strict, (events_strict, (pages_strict, (signed_strict, tt))))) create_app refl refl
    (codes "dims") refl refl dims_strict refl refl refl

version_same : (seen : List Setting) → version_in (rows_for seen) ≡ version_of seen
version_same seen = rw (first_of-value_of (codes "version") seen) refl

pub compact_reads : (words : List Text) → given (found_in compact_app words) version_in ≡ read_by compact_table version_of words
compact_reads =
    through_one compact_table version_of version_in version_same (strict_among version_of [] tt) compact_app refl refl
    (codes "version") refl refl (λ seen v e. rw e refl) refl refl refl

-- a command that takes nothing
pub bare_reads : {X : Type 0} (x : X) (words : List Text) → given (found_in bare_app words) (λ _. Some x) ≡ read_by bare_table (λ _. Some x) words
bare_reads x = through_none bare_table (λ _. Some x) (λ _. Some x) (λ _. refl) (strict_among (λ _. Some x) [] tt) bare_app refl refl refl refl

-- the two places of a sample
abbrev SampleStand : ℕ → List Setting → Type 0
SampleStand position seen =
    ((is_set (codes "start") seen ≡ false) × (is_set (codes "count") seen ≡ false) × (position ≡ 1))
    ⊎ (((is_set (codes "start") seen ≡ true) × (is_set (codes "count") seen ≡ false) × (position ≡ 2))
    ⊎ ((is_set (codes "start") seen ≡ true) × (is_set (codes "count") seen ≡ true) × (position ≡ 3)))

start_strict : Strict sample_of (codes "start")
start_strict seen v e = rw e refl

count_strict : Strict sample_of (codes "count")
count_strict seen v e = rw e (none1 (given (value_of (codes "start") seen) (value_from 0 18446744073709551615)))

sample_same : (seen : List Setting) → sample_in (rows_for seen) ≡ sample_of seen
sample_same seen = rw (first_of-value_of (codes "start") seen, first_of-value_of (codes "count") seen) refl

sample_next : (position : ℕ) (seen : List Setting) → SampleStand position seen
    → IsFull (rules_for sample_table) sample_table position seen ⊎ HasNext (rules_for sample_table) sample_table sample_of SampleStand position seen
sample_next position seen (inl (a, b, e)) =
    inr (codes "start", 1, rw e refl, refl, rw a refl, a, start_strict, λ v. inr (inl (set_now (codes "start") v seen, set_else (codes "count") (codes "start") v seen refl ∙ b, rw e refl)))
sample_next position seen (inr (inl (a, b, e))) =
    inr (codes "count", 2, rw e refl, refl, rw (a, b) refl, b, count_strict, λ v. inr (inr (set_still (codes "start") (codes "count") v seen a, set_now (codes "count") v seen, rw e refl)))
sample_next position seen (inr (inr (a, b, e))) = inl (rw e refl, rw (a, b) refl)

pub sample_reads : (words : List Text) → given (found_in sample_app words) sample_in ≡ read_by sample_table sample_of words
sample_reads =
    through sample_table sample_of sample_in sample_same (strict_among sample_of [] tt) sample_app refl refl SampleStand sample_next
    (λ position seen n v known stand. absurd (true≢false (sym known))) (inl (refl, refl, refl))

-- ---- the outcomes of a parse

pub found_some : (app : App) (words : List Text) (m : ArgMatches) → is_simple_and_free app ≡ true → (is_simple_and_free app ≡ true → fault_of app words ≡ []) → HasMatchesOf app words m
    → Some (rows_of (found_of m)) ≡ found_in app words
found_some app words m simple fine has = rw (fine simple) (ap Some (has (both (is_simple app) (is_free_app (built app)) simple).0).0)

pub found_none : (app : App) (words : List Text) (e : Error) → (is_simple_and_free app ≡ true → HasKind (fault_of app words) e) → is_simple_and_free app ≡ true → (kind_of e ≡ kind.OutOfMemory → ⊥)
    → ◌≡◌ {A = Option (List Row)} None (found_in app words)
found_none app words e kinds simple other = elim (kinds simple) [
  | inl memory ↦ absurd (other memory)
  | inr among ↦ go (fault_of app words) among
]
  where
    go : (ks : Kinds) → IsAmong (kind_of e) ks → ◌≡◌ {A = Option (List Row)} None (unless ks (Some (matches_of app words)))
    go [] none = absurd none
    go (k ∷ ks) some = refl

-- what a command reads, by what clap found
pub reads_none : {X : Type 0} (app other : App) (words : List Text) (found : Option ArgMatches) (read : List Row → Option X) (value : Option X) → found ≡ None
    → option_map (λ m. rows_of (found_of m)) found ≡ found_in app words → app ≡ other → given (found_in other words) read ≡ value → None ≡ value
reads_none app other words found read value none is same reads =
    ap (λ o. given (option_map (λ m. rows_of (found_of m)) o) read) (sym none) ∙ ap (λ rows. given rows read) (is ∙ ap (λ a. found_in a words) same) ∙ reads

pub reads_some : {X : Type 0} (app other : App) (words : List Text) (found : Option ArgMatches) (read : List Row → Option X) (value : Option X) (m : ArgMatches) → found ≡ Some m
    → option_map (λ m. rows_of (found_of m)) found ≡ found_in app words → app ≡ other → given (found_in other words) read ≡ value → read (rows_of (found_of m)) ≡ value
reads_some app other words found read value m some is same reads =
    ap (λ o. given (option_map (λ m. rows_of (found_of m)) o) read) (sym some) ∙ ap (λ rows. given rows read) (is ∙ ap (λ a. found_in a words) same) ∙ reads
