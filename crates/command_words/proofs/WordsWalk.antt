-- A walk of clap over words, and what the grammar makes of them.
use Rattle.std.proofs.Common.{◌≡◌, ◌∙◌, ◌⊎◌, inl, inr, ℕ, Bool, true, false, cond, not, ◌&&◌, ◌||◌, List, [], ◌∷◌, ◌++◌, map, drop, find, fold, Option, Some, None, option_map, option_and_then, refl, sym, ap, subst, true≢false, eqb, eqb-true, ne_eqb, append-nil, slice_get, chars, codes}
use Rattle.std.proofs.lemmas.Bool.{eqb-false}
use Rattle.std.proofs.lemmas.Slice.Eq.{bytes_eq-Decides}
use Rattle.std.proofs.lemmas.List.Folds.{find-append}
use Rattle.std.proofs.lemmas.List.{map-append}
use Rattle.std.specs.List.{list_any}
use Rattle.std.specs.Option.{option_or}
use Rattle.std.specs.Str.{bytes_eq}
use Rattle.clap.specs.Faults.{check_fault, defaults_fault, flags_fault, settle_fault, turn_fault, use_fault, walk_fault, word_fault}
use Rattle.clap.specs.Kinds.{Kinds, or_else}
use Rattle.clap.specs.Lexer.{long_of, long_of_rest, short_of, short_of_rest, strip_byte}
use Rattle.clap.specs.Takes.{is_given}
use Rattle.clap.specs.Walk.{Held, Row, Rule, Text, Waiting, Walk, idle, option, subcommand_met, positional, used, arg_by_id, arg_by_index, arg_by_long, arg_by_short, at_row, bundle_met, finished, first_of, has_row, more_values, next_position, settled, settled_rows, plain_word, walked, with_default, with_values, without, word_met}
use Rattle.clap.specs.Simple.{Shape, new_shape, filled, with_index}
use Rattle.clap.specs.Values.{reading_of}
use Rattle.clap.specs.declared.builder.value_parser.ValueParser.TheVariants as vp
use Rattle.clap.specs.declared.error.kind.ErrorKind.TheVariants as kind
use Rattle.clap.specs.declared.parser.matches.ValueSource.TheVariants.{CommandLine}
use Rattle.command_words.specs.Grammar.{Setting, Table, and_setting, complete, has_option, has_value, is_open, is_option, is_set, may_set, name_in, positional_of, settings_of, two_dashes, value_in, value_of}
use Rattle.command_words.specs.Reading.{option_rule, positional_rule, unless}

-- ---- kinds of faults, and what is read where there is none

pub unless_or : {X : Type 0} (a b : Kinds) (o : Option X) → unless (or_else a b) o ≡ unless a (unless b o)
unless_or [] b o = refl
unless_or (k ∷ ks) b o = refl

-- ---- rows of settings

abbrev pub row_for : Setting → Row
row_for s = record { id = s.name; values = s.value ∷ []; count = None; source = Some CommandLine; reading = reading_of vp.String }

abbrev pub rows_for : List Setting → List Row
rows_for seen = map row_for seen

pub has_row-is_set : (n : Text) (seen : List Setting) → has_row n (rows_for seen) ≡ is_set n seen
has_row-is_set n [] = refl
has_row-is_set n (s ∷ ss) = ap (λ b. bytes_eq s.name n || b) (has_row-is_set n ss)

pub given-is_set : (n : Text) (seen : List Setting) → is_given n (rows_for seen) ≡ is_set n seen
given-is_set n [] = refl
given-is_set n (s ∷ ss) = go (bytes_eq s.name n) refl (given-is_set n ss)
  where
    go : (b : Bool) → bytes_eq s.name n ≡ b → is_given n (rows_for ss) ≡ is_set n ss → is_given n (rows_for (s ∷ ss)) ≡ is_set n (s ∷ ss)
    go true e more = rw e refl
    go false e more = rw e more

pub first_of-value_of : (n : Text) (seen : List Setting) → first_of n (rows_for seen) ≡ value_of n seen
first_of-value_of n [] = refl
first_of-value_of n (s ∷ ss) = go (bytes_eq s.name n) refl (first_of-value_of n ss)
  where
    go : (b : Bool) → bytes_eq s.name n ≡ b → first_of n (rows_for ss) ≡ value_of n ss → first_of n (rows_for (s ∷ ss)) ≡ value_of n (s ∷ ss)
    go true e more = rw e refl
    go false e more = rw e more

neither : (a b : Bool) → (a || b) ≡ false → (a ≡ false) × (b ≡ false)
neither false b e = (refl, e)
neither true b e = absurd (true≢false e)

absent : (n : Text) (change : Row → List Row) (missing rows : List Row) → has_row n rows ≡ false → at_row n change missing rows ≡ rows ++ missing
absent n change missing [] e = refl
absent n change missing (r ∷ rs) e =
    let parts = neither (bytes_eq r.id n) (has_row n rs) e in
    rw parts.0 (ap (λ x. r ∷ x) (absent n change missing rs parts.1))

-- a first use of an argument adds its row
added : (n : Text) (v : Text) (seen : List Setting) → is_set n seen ≡ false
    → with_values n (reading_of vp.String) CommandLine (v ∷ []) (without n (rows_for seen)) ≡ rows_for (and_setting seen n v)
added n v seen e =
    let none : has_row n (rows_for seen) ≡ false = has_row-is_set n seen ∙ e in
    let same : without n (rows_for seen) ≡ rows_for seen = absent n (λ _. []) [] (rows_for seen) none ∙ append-nil (rows_for seen) in
    ap (with_values n (reading_of vp.String) CommandLine (v ∷ [])) same ∙ absent n (more_values CommandLine (v ∷ [])) (row_for (record { name = n; value = v }) ∷ []) (rows_for seen) none ∙ sym (map-append row_for seen (record { name = n; value = v } ∷ []))

-- ---- rules

abbrev pub option_of : Text → Rule
option_of name = filled (option_rule name)

abbrev pub place_of : Text → ℕ → Rule
place_of name i = with_index i (filled (positional_rule name))

-- what the walk asks of the arguments of a command
pub record Fits (c : List Rule) (t : Table) : Type 0 where
  pub long : (name : Text) → arg_by_long c name ≡ cond (has_option t name) (Some (option_of name)) None
  pub short : (x : ℕ) → arg_by_short c x ≡ None
  pub by_id : (name : Text) → has_option t name ≡ true → arg_by_id c name ≡ Some (option_of name)
  pub defaults : (rows : List Row) → defaults_fault rows c ≡ []
  pub finished : (rows : List Row) → fold with_default rows c ≡ rows
  pub wants : (rows : List Row) → list_any (λ a. a.required && not (is_given a.id rows)) c ≡ list_any (λ p. not (is_given p rows)) t.places

abbrev pub shape : List Rule → Shape
shape c = record (new_shape (codes "boxsum")) { rules = c; no_binary_name = true; disable_help_flag = true; disable_help_subcommand = true; is_built = true }

module _ (c : List Rule) where
  -- a walk that met no subcommand
  abbrev pub at : List Row → Option (Text × List Text) → Waiting → ℕ → Bool → Walk
  at rows pending waiting position trailing =
      record { held = record { rows = rows; pending = pending; skip = 0 }; waiting = waiting; position = position; is_trailing = trailing; stopped = None }

-- no settings in which this name has a value that begins with a dash are read
abbrev pub Strict : {X : Type 0} → (List Setting → Option X) → Text → Type 0
Strict K n = (seen : List Setting) (v : Text) → value_of n seen ≡ Some (45 ∷ v) → K seen ≡ None

-- where no further positional word is taken, and where the next one goes
abbrev pub IsFull : List Rule → Table → ℕ → List Setting → Type 0
IsFull c t position seen = (arg_by_index c position ≡ None) × (find (is_open seen) t.places ≡ None)

abbrev pub HasNext : {X : Type 0} → List Rule → Table → (List Setting → Option X) → (ℕ → List Setting → Type 0) → ℕ → List Setting → Type 0
HasNext c t K Stand position seen = (p : Text) × (i : ℕ) × (arg_by_index c position ≡ Some (place_of p i)) × (arg_by_id c p ≡ Some (place_of p i))
    × (find (is_open seen) t.places ≡ Some p) × (is_set p seen ≡ false) × Strict K p × ((v : Text) → Stand (next_position (place_of p i) position) (and_setting seen p v))

value_kept : (n m w x : Text) (seen : List Setting) → value_of n seen ≡ Some x → value_of n (and_setting seen m w) ≡ Some x
value_kept n m w x seen e =
    ap (option_map (λ (s : Setting). s.value)) (find-append (λ s. bytes_eq s.name n) seen (record { name = m; value = w } ∷ []))
    ∙ go (find (λ s. bytes_eq s.name n) seen) (find (λ s. bytes_eq s.name n) (record { name = m; value = w } ∷ [])) e
  where
    go : (o rest : Option Setting) → option_map (λ (s : Setting). s.value) o ≡ Some x → option_map (λ (s : Setting). s.value) (option_or o rest) ≡ Some x
    go None rest h = cc
    go (Some s) rest h = h

pub bytes_same : (n : Text) → bytes_eq n n ≡ true
bytes_same n = (bytes_eq-Decides n n).1 refl

pub value_fresh : (n v : Text) (seen : List Setting) → is_set n seen ≡ false → value_of n (and_setting seen n v) ≡ Some v
value_fresh n v [] e = rw (bytes_same n) refl
value_fresh n v (s ∷ ss) e =
    let parts = neither (bytes_eq s.name n) (is_set n ss) e in
    rw parts.0 (value_fresh n v ss parts.1)

and_false : (b : Bool) → (b && false) ≡ false
and_false true = refl
and_false false = refl

-- ---- the forms of a word

module _ (c : List Rule) where
  abbrev pub holds : List Row → Option (Text × List Text) → Held
  holds rows pending = record { rows = rows; pending = pending; skip = 0 }

  -- where `--` was not met: a refused word begins with a dash, and a plain one is no flag
  pub data Form : Text → Type 0 where
    two : Form (45 ∷ 45 ∷ [])
    long : (z : ℕ) (zs : Text) → Form (45 ∷ 45 ∷ z ∷ zs)
    refused : (y : ℕ) (ys : Text) → eqb y 45 ≡ false → ((rows : List Row) (pending : Option (Text × List Text)) (waiting : Waiting)
        → word_fault (shape c) [] false waiting (45 ∷ y ∷ ys) (holds rows pending) ≡ kind.UnknownArgument ∷ []) → Form (45 ∷ y ∷ ys)
    plain : (word : Text) → bytes_eq word two_dashes ≡ false → is_option word ≡ false
        → ((rows : List Row) (pending : Option (Text × List Text)) (waiting : Waiting) → word_fault (shape c) [] false waiting word (holds rows pending) ≡ [])
        → ((rows : List Row) (pending : Option (Text × List Text)) (waiting : Waiting) (position : ℕ) → word_met c [] false waiting position word (holds rows pending) ≡ plain_word c waiting word (holds rows pending))
        → Form word

no_subcommand : (waiting : Waiting) (word : Text) → subcommand_met [] waiting word ≡ None
no_subcommand idle word = refl
no_subcommand (option n) word = refl
no_subcommand positional word = refl

other_way : (x : ℕ) → eqb x 45 ≡ false → eqb 45 x ≡ false
other_way x e = ne_eqb 45 x (λ h. eqb-false x 45 e (sym h))

long_of_other : (x : ℕ) (xs : Text) → eqb x 45 ≡ false → long_of (x ∷ xs) ≡ None
long_of_other x xs e = ap (λ b. option_and_then long_of_rest (option_and_then (strip_byte 45) (cond b (Some xs) None))) e

short_of_other : (x : ℕ) (xs : Text) → eqb x 45 ≡ false → short_of (x ∷ xs) ≡ None
short_of_other x xs e = ap (λ b. option_and_then short_of_rest (cond b (Some xs) None)) e

long_of_short : (y : ℕ) (ys : Text) → eqb y 45 ≡ false → long_of (45 ∷ y ∷ ys) ≡ None
long_of_short y ys e = ap (λ b. option_and_then long_of_rest (cond b (Some ys) None)) e

short_of_short : (y : ℕ) (ys : Text) → eqb y 45 ≡ false → short_of (45 ∷ y ∷ ys) ≡ Some (y ∷ ys)
short_of_short y ys e = ap (λ b. cond b None (Some (y ∷ ys))) e

not_two : (y : ℕ) (ys : Text) → eqb y 45 ≡ false → bytes_eq (45 ∷ y ∷ ys) two_dashes ≡ false
not_two y ys e = rw e refl

module _ (c : List Rule) (short : (x : ℕ) → arg_by_short c x ≡ None) where
  plain_form : (word : Text) → bytes_eq word two_dashes ≡ false → is_option word ≡ false → long_of word ≡ None → short_of word ≡ None → Form c word
  plain_form word other no_option no_long no_short =
      plain word other no_option (λ rows pending waiting. rw (no_subcommand waiting word, other, no_long, no_short) refl)
      (λ rows pending waiting position. rw (no_subcommand waiting word, other, no_long, no_short) refl)

  short_form : (y : ℕ) (ys : Text) → eqb y 45 ≡ false → (first : Option ℕ) → slice_get (chars (y ∷ ys)) 0 ≡ first → Form c (45 ∷ y ∷ ys)
  unfolding flags_fault bundle_met
  short_form y ys e None none =
      plain (45 ∷ y ∷ ys) (not_two y ys e) (rw (other_way y e) refl) (λ rows pending waiting. rw (no_subcommand waiting (45 ∷ y ∷ ys), not_two y ys e, long_of_short y ys e, short_of_short y ys e, none) refl)
      (λ rows pending waiting position. rw (no_subcommand waiting (45 ∷ y ∷ ys), not_two y ys e, long_of_short y ys e, short_of_short y ys e, none) refl)
  short_form y ys e (Some x) some = refused y ys e (λ rows pending waiting. rw (no_subcommand waiting (45 ∷ y ∷ ys), not_two y ys e, long_of_short y ys e, short_of_short y ys e, some, short x) refl)

  dashes_form : (zs : Text) → Form c (45 ∷ 45 ∷ zs)
  dashes_form [] = two
  dashes_form (z ∷ zs) = long z zs

  dash_form : (xs : Text) → Form c (45 ∷ xs)
  dash_form [] = plain_form (45 ∷ []) refl refl refl refl
  dash_form (y ∷ ys) = go (eqb y 45) refl
    where
      go : (b : Bool) → eqb y 45 ≡ b → Form c (45 ∷ y ∷ ys)
      go true e = subst (λ (d : ℕ). Form c (45 ∷ d ∷ ys)) (sym (eqb-true y 45 e)) (dashes_form ys)
      go false e = short_form y ys e (slice_get (chars (y ∷ ys)) 0) refl

  pub form : (word : Text) → Form c word
  form [] = plain_form [] refl refl refl refl
  form (x ∷ xs) = go (eqb x 45) refl
    where
      go : (b : Bool) → eqb x 45 ≡ b → Form c (x ∷ xs)
      go true e = subst (λ (d : ℕ). Form c (d ∷ xs)) (sym (eqb-true x 45 e)) (dash_form xs)
      go false e = plain_form (x ∷ xs) (rw e refl) (rw (other_way x e) refl) (long_of_other x xs e) (short_of_other x xs e)

module _ {X : Type 0} (c : List Rule) (t : Table) (fits : Fits c t) (K : List Setting → Option X) (K' : List Row → Option X) (same : (seen : List Setting) → K' (rows_for seen) ≡ K seen)
    (Stand : ℕ → List Setting → Type 0) (next_place : (position : ℕ) (seen : List Setting) → Stand position seen → IsFull c t position seen ⊎ HasNext c t K Stand position seen)
    (kept : (position : ℕ) (seen : List Setting) (n v : Text) → has_option t n ≡ true → Stand position seen → Stand position (and_setting seen n v))
    (strict : (n : Text) → has_option t n ≡ true → Strict K n) where
  -- what is read where the walk ends
  abbrev end : Held → Option X
  end h = unless (settle_fault c false h) (unless (defaults_fault (settled c h).rows c) (unless (check_fault (shape c) (finished c h) false) (K' (finished c h))))

  -- what is read from a place in the walk on
  abbrev reads : Walk → List Text → Option X
  reads w words = unless (walk_fault (shape c) [] w words) (end (fold (walked c []) w words).held)

  step : (w : Walk) (word : Text) (words : List Text) → reads w (word ∷ words) ≡ unless (turn_fault (shape c) [] w word) (reads (walked c [] w word) words)
  unfolding walk_fault
  step w word words = unless_or (turn_fault (shape c) [] w word) (walk_fault (shape c) [] (walked c [] w word) words) (end (fold (walked c []) (walked c [] w word) words).held)

  wanted : (seen : List Setting) → list_any (λ a. a.required && not (is_given a.id (rows_for seen))) c ≡ list_any (is_open seen) t.places
  wanted seen = fits.wants (rows_for seen) ∙ all t.places
    where
      all : (ps : List Text) → list_any (λ p. not (is_given p (rows_for seen))) ps ≡ list_any (is_open seen) ps
      all [] = refl
      all (p ∷ ps) = rw (given-is_set p seen, all ps) refl

  -- the end of a walk with nothing pending
  ended : (seen : List Setting) → end (record { rows = rows_for seen; pending = None; skip = 0 }) ≡ option_and_then K (complete t seen)
  ended seen = rw (fits.defaults (rows_for seen), fits.finished (rows_for seen), wanted seen) (go (list_any (is_open seen) t.places))
    where
      go : (b : Bool) → unless (cond b (kind.MissingRequiredArgument ∷ []) []) (K' (rows_for seen)) ≡ option_and_then K (cond b None (Some seen))
      go true = refl
      go false = same seen

  -- what a held state comes to once its pending argument is used
  Settles : List Row → Option (Text × List Text) → List Setting → Type 0
  Settles rows pending seen = (settle_fault c false (record { rows = rows; pending = pending; skip = 0 }) ≡ []) × (settled_rows c pending rows ≡ rows_for seen)

  ended_at : (rows : List Row) (pending : Option (Text × List Text)) (seen : List Setting) → Settles rows pending seen
      → end (record { rows = rows; pending = pending; skip = 0 }) ≡ option_and_then K (complete t seen)
  unfolding Settles
  ended_at rows pending seen h = rw (h.0, h.1) (ended seen)

  -- a use of an option or a place that is not yet set
  settles : (seen : List Setting) (n v : Text) (a : Rule) → arg_by_id c n ≡ Some a → (a ≡ option_of n) ⊎ ((i : ℕ) × (a ≡ place_of n i)) → is_set n seen ≡ false
      → Settles (rows_for seen) (Some (n, v ∷ [])) (and_setting seen n v)
  unfolding Settles
  settles seen n v a found (inl is) fresh = rw (found, is, has_row-is_set n seen, fresh) (refl, added n v seen fresh)
  settles seen n v a found (inr is) fresh = rw (found, is.1, has_row-is_set n seen, fresh) (refl, added n v seen fresh)

  -- a walk that cannot settle is refused
  Stuck : List Row → Option (Text × List Text) → Type 0
  Stuck rows pending = (k : _) × (ks : Kinds) × (settle_fault c false (record { rows = rows; pending = pending; skip = 0 }) ≡ k ∷ ks)

  stuck_trailing : (rows : List Row) (pending : Option (Text × List Text)) (waiting : Waiting) (position : ℕ) (seen : List Setting) → Stand position seen → Stuck rows pending
      → (words : List Text) → reads (at c rows pending waiting position true) words ≡ None
  unfolding Stuck walk_fault
  stuck_trailing rows pending waiting position seen stand h [] = rw h.2 refl
  stuck_trailing rows pending waiting position seen stand h (word ∷ words) =
      step (at c rows pending waiting position true) word words ∙ elim (next_place position seen stand) [
        | inl full ↦ rw full.0 refl
        | inr more ↦ rw (more.2, and_false, h.2) refl
      ]

  -- a value that begins with a dash is read by nothing
  complete_dead : (n v : Text) → Strict K n → (seen : List Setting) → value_of n seen ≡ Some (45 ∷ v) → option_and_then K (complete t seen) ≡ None
  complete_dead n v strict_n seen e = go (list_any (is_open seen) t.places)
    where
      go : (b : Bool) → option_and_then K (cond b None (Some seen)) ≡ None
      go true = refl
      go false = strict_n seen v e

  none_or : (b : Bool) (o p : Option (List Setting)) → option_and_then K o ≡ None → option_and_then K p ≡ None → option_and_then K (cond b o p) ≡ None
  none_or true o p h k = h
  none_or false o p h k = k

  none_then : (o : Option Text) (f : Text → Option (List Setting)) → ((p : Text) → option_and_then K (f p) ≡ None) → option_and_then K (option_and_then f o) ≡ None
  none_then None f h = refl
  none_then (Some p) f h = h p

  positional_dead : (n v : Text) → Strict K n → (words : List Text) (seen : List Setting) → value_of n seen ≡ Some (45 ∷ v) → option_and_then K (positional_of t seen words) ≡ None
  positional_dead n v strict_n [] seen e = complete_dead n v strict_n seen e
  positional_dead n v strict_n (word ∷ words) seen e =
      none_then (find (is_open seen) t.places) (λ place. positional_of t (and_setting seen place word) words)
      (λ place. positional_dead n v strict_n words (and_setting seen place word) (value_kept n place word (45 ∷ v) seen e))

  dead : (n v : Text) → Strict K n → (words : List Text) (waiting : Option Text) (seen : List Setting) → value_of n seen ≡ Some (45 ∷ v) → option_and_then K (settings_of t seen waiting words) ≡ None
  dead n v strict_n [] None seen e = complete_dead n v strict_n seen e
  dead n v strict_n [] (Some name) seen e = refl
  dead n v strict_n (word ∷ words) (Some name) seen e =
      none_or (bytes_eq word two_dashes) None (cond (may_set t seen name) (settings_of t (and_setting seen name word) None words) None) refl
      (none_or (may_set t seen name) (settings_of t (and_setting seen name word) None words) None
      (dead n v strict_n words None (and_setting seen name word) (value_kept n name word (45 ∷ v) seen e)) refl)
  dead n v strict_n (word ∷ words) None seen e =
      let option = drop 2 word in
      none_or (bytes_eq word two_dashes) (positional_of t seen words) _ (positional_dead n v strict_n words seen e)
      (none_or (not (is_option word)) _ _
      (none_then (find (is_open seen) t.places) (λ place. settings_of t (and_setting seen place word) None words)
      (λ place. dead n v strict_n words None (and_setting seen place word) (value_kept n place word (45 ∷ v) seen e)))
      (none_or (not (has_value option)) (settings_of t seen (Some (name_in option)) words) _ (dead n v strict_n words (Some (name_in option)) seen e)
      (none_or (may_set t seen (name_in option)) (settings_of t (and_setting seen (name_in option) (value_in option)) None words) None
      (dead n v strict_n words None (and_setting seen (name_in option) (value_in option)) (value_kept n (name_in option) (value_in option) (45 ∷ v) seen e)) refl)))

  -- the words after `--`
  trailing_reads : (words : List Text) (rows : List Row) (pending : Option (Text × List Text)) (waiting : Waiting) (position : ℕ) (seen : List Setting) → Settles rows pending seen
      → Stand position seen → reads (at c rows pending waiting position true) words ≡ option_and_then K (positional_of t seen words)
  unfolding walk_fault walked Settles
  trailing_reads [] rows pending waiting position seen h stand = ended_at rows pending seen h
  trailing_reads (word ∷ words) rows pending waiting position seen h stand =
      step (at c rows pending waiting position true) word words ∙ elim (next_place position seen stand) [
        | inl full ↦ rw (full.0, full.1) refl
        | inr more ↦
            rw (more.2, and_false, h.0, h.1, more.4)
            (trailing_reads words (rows_for seen) (Some (more.0, word ∷ [])) idle (next_position (place_of more.0 more.1) position) (and_setting seen more.0 word)
            (settles seen more.0 word (place_of more.0 more.1) more.3 (inr (more.1, refl)) more.5) (more.7 word))
      ]

  -- a walk that cannot settle, where nothing waits
  stuck_idle : (rows : List Row) (pending : Option (Text × List Text)) (position : ℕ) (seen : List Setting) → Stand position seen → Stuck rows pending
      → (words : List Text) → reads (at c rows pending idle position false) words ≡ None
  unfolding Stuck walk_fault walked
  stuck_idle rows pending position seen stand h [] = rw h.2 refl
  stuck_idle rows pending position seen stand h (word ∷ words) = step (at c rows pending idle position false) word words ∙ go word (form c fits.short word)
    where
      known : (z : ℕ) (zs : Text) (b v : Bool) → has_option t (name_in (z ∷ zs)) ≡ b → has_value (z ∷ zs) ≡ v
          → unless (turn_fault (shape c) [] (at c rows pending idle position false) (45 ∷ 45 ∷ z ∷ zs)) (reads (walked c [] (at c rows pending idle position false) (45 ∷ 45 ∷ z ∷ zs)) words) ≡ None
      known z zs false v e f = rw (fits.long (name_in (z ∷ zs)), e) refl
      known z zs true true e f = rw (fits.long (name_in (z ∷ zs)), e, f, h.2) refl
      known z zs true false e f = rw (fits.long (name_in (z ∷ zs)), e, f, h.2) refl

      go : (word : Text) → Form c word → unless (turn_fault (shape c) [] (at c rows pending idle position false) word) (reads (walked c [] (at c rows pending idle position false) word) words) ≡ None
      go word two = stuck_trailing rows pending idle position seen stand h words
      go word (long z zs) = known z zs (has_option t (name_in (z ∷ zs))) (has_value (z ∷ zs)) refl refl
      go word (refused y ys other fault) = rw (fault rows pending idle) refl
      go word (plain w other no_option fault met) = elim (next_place position seen stand) [
        | inl full ↦ rw (fault rows pending idle, met rows pending idle position, full.0) refl
        | inr more ↦ rw (fault rows pending idle, met rows pending idle position, more.2, and_false, h.2) refl
      ]

  -- what a walk with nothing that waits, and one whose option waits for its value, read of the words
  IdleReads : List Text → Type 0
  IdleReads words = (rows : List Row) (pending : Option (Text × List Text)) (position : ℕ) (seen : List Setting) → Settles rows pending seen → Stand position seen
      → reads (at c rows pending idle position false) words ≡ option_and_then K (settings_of t seen None words)

  WaitingReads : List Text → Type 0
  WaitingReads words = (n : Text) (position : ℕ) (seen : List Setting) → has_option t n ≡ true → Stand position seen
      → reads (at c (rows_for seen) (Some (n, [])) (option n) position false) words ≡ option_and_then K (settings_of t seen (Some n) words)

  -- an option that got no value
  no_value : (n : Text) (seen : List Setting) → has_option t n ≡ true → Stuck (rows_for seen) (Some (n, []))
  unfolding Stuck
  no_value n seen known = (kind.InvalidValue, [], rw (fits.by_id n known) refl)

  repeated : (n v : Text) (seen : List Setting) → has_option t n ≡ true → is_set n seen ≡ true → Stuck (rows_for seen) (Some (n, v ∷ []))
  unfolding Stuck
  repeated n v seen known again = (kind.ArgumentConflict, [], rw (fits.by_id n known, has_row-is_set n seen, again) refl)

  -- an option's value, which an earlier one excludes
  value_reads : (words : List Text) → IdleReads words → (n v : Text) (position : ℕ) (seen : List Setting) → has_option t n ≡ true → Stand position seen
      → reads (at c (rows_for seen) (Some (n, v ∷ [])) idle position false) words
      ≡ option_and_then K (cond (may_set t seen n) (settings_of t (and_setting seen n v) None words) None)
  unfolding IdleReads
  value_reads words idle_reads n v position seen known stand = go (is_set n seen) refl
    where
      go : (b : Bool) → is_set n seen ≡ b → reads (at c (rows_for seen) (Some (n, v ∷ [])) idle position false) words
          ≡ option_and_then K (cond (has_option t n && not (is_set n seen)) (settings_of t (and_setting seen n v) None words) None)
      go true e = rw (known, e) (stuck_idle (rows_for seen) (Some (n, v ∷ [])) position seen stand (repeated n v seen known e) words)
      go false e =
          rw (known, e) (idle_reads (rows_for seen) (Some (n, v ∷ [])) position (and_setting seen n v) (settles seen n v (option_of n) (fits.by_id n known) (inl refl) e) (kept position seen n v known stand))

  -- the grammar has no value that begins with a dash, where it would be set
  dash_dead : (words : List Text) (n v : Text) (seen : List Setting) → has_option t n ≡ true
      → option_and_then K (cond (may_set t seen n) (settings_of t (and_setting seen n (45 ∷ v)) None words) None) ≡ None
  dash_dead words n v seen known = go (is_set n seen) refl
    where
      go : (b : Bool) → is_set n seen ≡ b → option_and_then K (cond (has_option t n && not (is_set n seen)) (settings_of t (and_setting seen n (45 ∷ v)) None words) None) ≡ None
      go true e = rw (known, e) refl
      go false e = rw (known, e) (dead n v (strict n known) words None (and_setting seen n (45 ∷ v)) (value_fresh n (45 ∷ v) seen e))

  waiting_step : (words : List Text) → IdleReads words → (word : Text) → WaitingReads (word ∷ words)
  unfolding Stuck walk_fault walked WaitingReads
  waiting_step words idle_reads word n position seen known stand =
      step (at c (rows_for seen) (Some (n, [])) (option n) position false) word words ∙ go word (form c fits.short word)
    where
      named : (z : ℕ) (zs : Text) (b v : Bool) → has_option t (name_in (z ∷ zs)) ≡ b → has_value (z ∷ zs) ≡ v
          → unless (turn_fault (shape c) [] (at c (rows_for seen) (Some (n, [])) (option n) position false) (45 ∷ 45 ∷ z ∷ zs))
          (reads (walked c [] (at c (rows_for seen) (Some (n, [])) (option n) position false) (45 ∷ 45 ∷ z ∷ zs)) words) ≡ None
      named z zs false v e f = rw (fits.long (name_in (z ∷ zs)), e) refl
      named z zs true true e f = rw (fits.long (name_in (z ∷ zs)), e, f, fits.by_id n known) refl
      named z zs true false e f = rw (fits.long (name_in (z ∷ zs)), e, f, fits.by_id n known) refl

      go : (word : Text) → Form c word → unless (turn_fault (shape c) [] (at c (rows_for seen) (Some (n, [])) (option n) position false) word)
          (reads (walked c [] (at c (rows_for seen) (Some (n, [])) (option n) position false) word) words) ≡ option_and_then K (settings_of t seen (Some n) (word ∷ words))
      go word two = stuck_trailing (rows_for seen) (Some (n, [])) (option n) position seen stand (no_value n seen known) words
      go word (long z zs) = named z zs (has_option t (name_in (z ∷ zs))) (has_value (z ∷ zs)) refl refl ∙ sym (dash_dead words n (45 ∷ z ∷ zs) seen known)
      go word (refused y ys other fault) = rw (fault (rows_for seen) (Some (n, [])) (option n), other) (sym (dash_dead words n (y ∷ ys) seen known))
      go word (plain w other no_option fault met) =
          rw (fault (rows_for seen) (Some (n, [])) (option n), met (rows_for seen) (Some (n, [])) (option n) position, fits.by_id n known, bytes_same n, other)
          (value_reads words idle_reads n w position seen known stand)

  unknown_waits : (words : List Text) (n : Text) (seen : List Setting) → has_option t n ≡ false → settings_of t seen (Some n) words ≡ None
  unknown_waits [] n seen e = refl
  unknown_waits (word ∷ words) n seen e = go (bytes_eq word two_dashes)
    where
      go : (b : Bool) → cond b None (cond (has_option t n && not (is_set n seen)) (settings_of t (and_setting seen n word) None words) None) ≡ None
      go true = refl
      go false = rw e refl

  idle_step : (words : List Text) → IdleReads words → WaitingReads words → (word : Text) → IdleReads (word ∷ words)
  unfolding Settles walk_fault walked IdleReads WaitingReads
  idle_step words idle_reads waiting_reads word rows pending position seen h stand = step (at c rows pending idle position false) word words ∙ go word (form c fits.short word)
    where
      set_once : (n v : Text) (b : Bool) → has_option t n ≡ true → is_set n seen ≡ b
          → unless (or_else (or_else [] (use_fault false (option_of n) (v ∷ []) (rows_for seen))) [])
          (reads (at c (used (option_of n) (v ∷ []) (rows_for seen)) None idle position false) words)
          ≡ option_and_then K (cond (not (is_set n seen)) (settings_of t (and_setting seen n v) None words) None)
      set_once n v true known e = rw (has_row-is_set n seen, e) refl
      set_once n v false known e =
          rw (has_row-is_set n seen, e, added n v seen e) (idle_reads (rows_for (and_setting seen n v)) None position (and_setting seen n v) (refl, refl) (kept position seen n v known stand))

      named : (z : ℕ) (zs : Text) (b v : Bool) → has_option t (name_in (z ∷ zs)) ≡ b → has_value (z ∷ zs) ≡ v
          → unless (turn_fault (shape c) [] (at c rows pending idle position false) (45 ∷ 45 ∷ z ∷ zs)) (reads (walked c [] (at c rows pending idle position false) (45 ∷ 45 ∷ z ∷ zs)) words)
          ≡ option_and_then K (cond (not (has_value (z ∷ zs))) (settings_of t seen (Some (name_in (z ∷ zs))) words)
          (cond (may_set t seen (name_in (z ∷ zs))) (settings_of t (and_setting seen (name_in (z ∷ zs)) (value_in (z ∷ zs))) None words) None))
      named z zs false true e f = rw (fits.long (name_in (z ∷ zs)), e, f) refl
      named z zs false false e f = rw (fits.long (name_in (z ∷ zs)), e, f, unknown_waits words (name_in (z ∷ zs)) seen e) refl
      named z zs true true e f = rw (fits.long (name_in (z ∷ zs)), e, f, h.0, h.1) (set_once (name_in (z ∷ zs)) (value_in (z ∷ zs)) (is_set (name_in (z ∷ zs)) seen) e refl)
      named z zs true false e f = rw (fits.long (name_in (z ∷ zs)), e, f, h.0, h.1) (waiting_reads (name_in (z ∷ zs)) position seen e stand)

      go : (word : Text) → Form c word → unless (turn_fault (shape c) [] (at c rows pending idle position false) word) (reads (walked c [] (at c rows pending idle position false) word) words)
          ≡ option_and_then K (settings_of t seen None (word ∷ words))
      go word two = trailing_reads words rows pending idle position seen h stand
      go word (long z zs) = named z zs (has_option t (name_in (z ∷ zs))) (has_value (z ∷ zs)) refl refl
      go word (refused y ys other fault) = elim (next_place position seen stand) [
        | inl full ↦ rw (fault rows pending idle, other, other_way y other, full.1) refl
        | inr more ↦
            rw (fault rows pending idle, other, other_way y other, more.4)
            (sym (dead more.0 (y ∷ ys) more.6 words None (and_setting seen more.0 (45 ∷ y ∷ ys)) (value_fresh more.0 (45 ∷ y ∷ ys) seen more.5)))
      ]
      go word (plain w other no_option fault met) = elim (next_place position seen stand) [
        | inl full ↦ rw (fault rows pending idle, met rows pending idle position, other, no_option, full.0, full.1) refl
        | inr more ↦
            rw (fault rows pending idle, met rows pending idle position, other, no_option, more.2, and_false, h.0, h.1, more.4)
            (idle_reads (rows_for seen) (Some (more.0, w ∷ [])) (next_position (place_of more.0 more.1) position) (and_setting seen more.0 w)
            (settles seen more.0 w (place_of more.0 more.1) more.3 (inr (more.1, refl)) more.5) (more.7 w))
      ]

  both_read : (words : List Text) → IdleReads words × WaitingReads words
  unfolding IdleReads WaitingReads Stuck walk_fault
  both_read [] = (λ rows pending position seen h stand. ended_at rows pending seen h, λ n position seen known stand. rw ((no_value n seen known).2) refl)
  both_read (word ∷ words) = let more = both_read words in (idle_step words more.0 more.1 word, waiting_step words more.0 word)

  -- what a parse reads is what the grammar gives
  pub reads_words : Stand 1 [] → (words : List Text) → reads (at c [] None idle 1 false) words ≡ option_and_then K (settings_of t [] None words)
  unfolding IdleReads Settles
  reads_words stand words = (both_read words).0 [] None 1 [] (refl, refl) stand
