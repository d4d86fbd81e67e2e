-- The laws of lines.
use Rattle.std.proofs.Common.{◌≡◌, ℕ, Option, Some, ◌+◌, ◌<◌, Bool, true, false, IsTrue, List, [], ◌∷◌, ◌++◌, length, map, take, drop, slice_index, arith, sym, ◌∙◌, ap, subst, refl, inl, inr, append_assoc, ◌||◌}
use Rattle.std.specs.Prelude.{if◌then◌else◌}
use Rattle.std.proofs.lemmas.List.{map-append, append-nil, take-append-drop, take_more}
use Rattle.std.proofs.lemmas.List.Elements.{All-head, All-tail}
use Rattle.std.proofs.lemmas.List.Splits.{slice_split-cons_yes, slice_split-cons_no}
use Rattle.std.proofs.lemmas.Bool.{cases_Bool, or_left, or_right, or_from}
use Rattle.std.specs.List.{list_any, slice_split, onto_first}
use Rattle.std.specs.Str.Lines.{strip_carriage_return}
use Rattle.line_reader.specs.Lines.{is_line_feed, without_empty_last, lines, HasNoLineFeed, is_whole, whole_part, TakesLine}
use Rattle.line_reader.specs.Intake.{IsLineEnd}
use Rattle.line_reader.specs.declared.lines.Line.{Line}
use Rattle.line_reader.specs.declared.lines.Line.TheVariants.{End}

abbrev IsCons : {X : Type 0} → List X → Type 0
IsCons [] = ⊥
IsCons (x ∷ xs) = Unit {0}

-- the lines before their carriage returns are dropped
abbrev raw_lines : List ℕ → List (List ℕ)
raw_lines bytes = without_empty_last (slice_split is_line_feed bytes)

IsCons-onto_first : (b : ℕ) (parts : List (List ℕ)) → IsCons (onto_first b parts)
IsCons-onto_first b [] = tt
IsCons-onto_first b (part ∷ parts) = tt

IsCons-slice_split : (bytes : List ℕ) → IsCons (slice_split is_line_feed bytes)
IsCons-slice_split [] = tt
IsCons-slice_split (b ∷ bs) =
    elim (cases_Bool (is_line_feed b)) [
      | inl e ↦ subst IsCons (sym (slice_split-cons_yes is_line_feed b bs e)) tt
      | inr e ↦ subst IsCons (sym (slice_split-cons_no is_line_feed b bs e)) (IsCons-onto_first b (slice_split is_line_feed bs))
    ]

without_empty_last-nil : (parts : List (List ℕ)) → IsCons parts → without_empty_last ([] ∷ parts) ≡ [] ∷ without_empty_last parts
without_empty_last-nil [] c = absurd c
without_empty_last-nil (part ∷ parts) c = refl

without_empty_last-onto_first : (b : ℕ) (parts : List (List ℕ)) → IsCons parts → without_empty_last (onto_first b parts) ≡ onto_first b (without_empty_last parts)
without_empty_last-onto_first b [] c = absurd c
without_empty_last-onto_first b ([] ∷ []) c = refl
without_empty_last-onto_first b ([] ∷ part ∷ parts) c = refl
without_empty_last-onto_first b ((x ∷ xs) ∷ parts) c = refl

raw_lines-line_feed : (b : ℕ) (bs : List ℕ) → is_line_feed b ≡ true → raw_lines (b ∷ bs) ≡ [] ∷ raw_lines bs
raw_lines-line_feed b bs e =
    ap without_empty_last (slice_split-cons_yes is_line_feed b bs e)
    ∙ without_empty_last-nil (slice_split is_line_feed bs) (IsCons-slice_split bs)

raw_lines-byte : (b : ℕ) (bs : List ℕ) → is_line_feed b ≡ false → raw_lines (b ∷ bs) ≡ onto_first b (raw_lines bs)
raw_lines-byte b bs e =
    ap without_empty_last (slice_split-cons_no is_line_feed b bs e)
    ∙ without_empty_last-onto_first b (slice_split is_line_feed bs) (IsCons-slice_split bs)

IsCons-raw_lines : (b : ℕ) (bs : List ℕ) → IsCons (raw_lines (b ∷ bs))
IsCons-raw_lines b bs =
    elim (cases_Bool (is_line_feed b)) [
      | inl e ↦ subst IsCons (sym (raw_lines-line_feed b bs e)) tt
      | inr e ↦ subst IsCons (sym (raw_lines-byte b bs e)) (IsCons-onto_first b (raw_lines bs))
    ]

onto_first-append : (b : ℕ) (parts more : List (List ℕ)) → IsCons parts → onto_first b (parts ++ more) ≡ onto_first b parts ++ more
onto_first-append b [] more c = absurd c
onto_first-append b (part ∷ parts) more c = refl

raw_lines-append : (given more : List ℕ) → IsTrue (is_whole given) → raw_lines (given ++ more) ≡ raw_lines given ++ raw_lines more
raw_lines-append [] more whole = refl
raw_lines-append (b ∷ []) more whole =
    raw_lines-line_feed b more whole ∙ sym (ap (λ (l : List (List ℕ)). l ++ raw_lines more) (raw_lines-line_feed b [] whole))
raw_lines-append (b ∷ c ∷ bs) more whole =
    let joined = raw_lines-append (c ∷ bs) more whole in
    elim (cases_Bool (is_line_feed b)) [
      | inl e ↦
          raw_lines-line_feed b (c ∷ (bs ++ more)) e ∙ ap (λ (l : List (List ℕ)). [] ∷ l) joined
          ∙ sym (ap (λ (l : List (List ℕ)). l ++ raw_lines more) (raw_lines-line_feed b (c ∷ bs) e))
      | inr e ↦
          raw_lines-byte b (c ∷ (bs ++ more)) e ∙ ap (onto_first b) joined
          ∙ onto_first-append b (raw_lines (c ∷ bs)) (raw_lines more) (IsCons-raw_lines c bs)
          ∙ sym (ap (λ (l : List (List ℕ)). l ++ raw_lines more) (raw_lines-byte b (c ∷ bs) e))
    ]

pub lines_join : (given more : List ℕ) → IsTrue (is_whole given) → lines (given ++ more) ≡ lines given ++ lines more
lines_join given more whole =
    ap (map strip_carriage_return) (raw_lines-append given more whole)
    ∙ map-append strip_carriage_return (raw_lines given) (raw_lines more)

-- one line with its line feed, and one at the end
raw_lines-one : (raw : List ℕ) (b : ℕ) → HasNoLineFeed raw → is_line_feed b ≡ true → raw_lines (raw ++ b ∷ []) ≡ raw ∷ []
raw_lines-one [] b none e = raw_lines-line_feed b [] e
raw_lines-one (x ∷ xs) b none e =
    let P : ℕ → Type 0 = λ byte. is_line_feed byte ≡ false in
    raw_lines-byte x (xs ++ b ∷ []) (All-head P x xs none)
    ∙ ap (onto_first x) (raw_lines-one xs b (All-tail P x xs none) e)

raw_lines-last : (x : ℕ) (xs : List ℕ) → HasNoLineFeed (x ∷ xs) → raw_lines (x ∷ xs) ≡ (x ∷ xs) ∷ []
raw_lines-last x [] none = let P : ℕ → Type 0 = λ byte. is_line_feed byte ≡ false in raw_lines-byte x [] (All-head P x [] none)
raw_lines-last x (y ∷ ys) none =
    let P : ℕ → Type 0 = λ byte. is_line_feed byte ≡ false in
    raw_lines-byte x (y ∷ ys) (All-head P x (y ∷ ys) none)
    ∙ ap (onto_first x) (raw_lines-last y ys (All-tail P x (y ∷ ys) none))

is_whole-end : (raw : List ℕ) (b : ℕ) → is_line_feed b ≡ true → IsTrue (is_whole (raw ++ b ∷ []))
is_whole-end [] b e = e
is_whole-end (x ∷ []) b e = e
is_whole-end (x ∷ y ∷ ys) b e = is_whole-end (y ∷ ys) b e

pub takes_line_feed : (stopped : Option Line) (before raw : List ℕ) (b : ℕ) (after : List ℕ) → before ≡ (raw ++ b ∷ []) ++ after → HasNoLineFeed raw → is_line_feed b ≡ true → TakesLine before (strip_carriage_return raw) after stopped
takes_line_feed stopped before raw b after cut none e =
    let one : lines (raw ++ b ∷ []) ≡ strip_carriage_return raw ∷ [] = ap (map strip_carriage_return) (raw_lines-one raw b none e) in
    let whole : IsTrue (is_whole (raw ++ b ∷ [])) = is_whole-end raw b e in
    record {
      piece = raw ++ b ∷ [];
      cut = cut;
      one_line = one;
      ends = inl whole;
      all_lines = ap lines cut ∙ lines_join (raw ++ b ∷ []) after whole ∙ ap (λ (l : List (List ℕ)). l ++ lines after) one;
    }

pub takes_last : (stopped : Option Line) (bytes : List ℕ) → stopped ≡ Some End → HasNoLineFeed bytes → 0 < length bytes → TakesLine bytes (strip_carriage_return bytes) [] stopped
takes_last stopped [] holds none some = absurd (omega arith)
takes_last stopped (x ∷ xs) holds none some =
    let one : lines (x ∷ xs) ≡ strip_carriage_return (x ∷ xs) ∷ [] = ap (map strip_carriage_return) (raw_lines-last x xs none) in
    record { piece = x ∷ xs; cut = sym (append-nil (x ∷ xs)); one_line = one; ends = inr holds; all_lines = one }

-- a list at the place of its first line feed
pub split_at_end : (held : List ℕ) (at : ℕ) → at < length held → held ≡ (take at held ++ slice_index held at ∷ []) ++ drop (at + 1) held
split_at_end held at within =
    sym (take-append-drop (at + 1) held) ∙ ap (λ (l : List ℕ). l ++ drop (at + 1) held) (take_more held at 0 within)

pub takes_at : (stopped : Option Line) (before held left : List ℕ) (at : ℕ) → before ≡ held ++ left → IsLineEnd held at → TakesLine before (strip_carriage_return (take at held)) (drop (at + 1) held ++ left) stopped
takes_at stopped before held left at cut end =
    takes_line_feed stopped before (take at held) (slice_index held at) (drop (at + 1) held ++ left)
    (cut ∙ ap (λ (l : List ℕ). l ++ left) (split_at_end held at end.within)
    ∙ append_assoc (take at held ++ slice_index held at ∷ []) (drop (at + 1) held) left)
    end.first end.is

pub whole_joins : (given piece : List ℕ) → IsTrue (is_whole given) → IsTrue (is_whole piece) → IsTrue (is_whole (given ++ piece))
whole_joins [] piece whole whole' = whole'
whole_joins (b ∷ []) [] whole whole' = whole
whole_joins (b ∷ []) (c ∷ cs) whole whole' = whole'
whole_joins (b ∷ c ∷ bs) piece whole whole' = whole_joins (c ∷ bs) piece whole whole'

-- a line feed is among bytes of which it is the last
has_line_feed : (b : ℕ) (bs more : List ℕ) → IsTrue (is_whole (b ∷ bs)) → (is_line_feed b || list_any is_line_feed (bs ++ more)) ≡ true
has_line_feed b [] more whole = or_left (is_line_feed b) (list_any is_line_feed more) whole
has_line_feed b (c ∷ bs) more whole =
    or_right (is_line_feed b) (is_line_feed c || list_any is_line_feed (bs ++ more)) (has_line_feed c bs more whole)

no_line_feed : (bytes : List ℕ) → HasNoLineFeed bytes → list_any is_line_feed bytes ≡ false
no_line_feed [] none = refl
no_line_feed (b ∷ bs) none =
    let P : ℕ → Type 0 = λ byte. is_line_feed byte ≡ false in
    or_from (is_line_feed b) (list_any is_line_feed bs) (All-head P b bs none) (no_line_feed bs (All-tail P b bs none))

whole_part-passed : (passed : List ℕ) → HasNoLineFeed passed → whole_part passed ≡ []
whole_part-passed [] none = refl
whole_part-passed (b ∷ bs) none =
    ap (λ (t : Bool). if t then b ∷ whole_part bs else []) (no_line_feed (b ∷ bs) none)

pub whole_part_of_passed : (given passed : List ℕ) → IsTrue (is_whole given) → HasNoLineFeed passed → whole_part (given ++ passed) ≡ given
whole_part_of_passed [] passed whole none = whole_part-passed passed none
whole_part_of_passed (b ∷ []) passed whole none =
    ap (λ (t : Bool). if t then b ∷ whole_part passed else []) (has_line_feed b [] passed whole)
    ∙ ap (λ (l : List ℕ). b ∷ l) (whole_part-passed passed none)
whole_part_of_passed (b ∷ c ∷ bs) passed whole none =
    ap (λ (t : Bool). if t then b ∷ whole_part (c ∷ (bs ++ passed)) else []) (has_line_feed b (c ∷ bs) passed whole)
    ∙ ap (λ (l : List ℕ). b ∷ l) (whole_part_of_passed (c ∷ bs) passed whole none)
