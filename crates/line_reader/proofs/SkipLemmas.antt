-- The passing over of a line that is too long.
use Rattle.std.proofs.Common.{◌≡◌, ℕ, Option, Some, ◌+◌, ◌-◌, ◌≤◌, Bool, true, false, List, [], ◌∷◌, ◌++◌, length, take, drop, slice_index, arith, sym, ◌∙◌, ap, subst, refl, append_assoc, length-append, length-take, cond, eqb}
use Rattle.std.proofs.lemmas.List.{append-nil, drop_at, take_at}
use Rattle.std.proofs.lemmas.List.Elements.{All-append, All-same, All-drop, All-take, All-get_or}
use Rattle.std.proofs.lemmas.Bool.{both_ways}
use Rattle.std.specs.Str.Lines.{strip_carriage_return}
use Rattle.line_reader.specs.Lines.{is_line_feed, HasNoLineFeed, TakesLine}
use Rattle.line_reader.specs.Intake.{IsLineEnd, IntakeState, LosesNothing}
use Rattle.line_reader.specs.Reader.{TakesLongLine}
use Rattle.line_reader.specs.Skip.{SkipsTo}
use Rattle.line_reader.specs.declared.lines.Line.{Line}
use Rattle.line_reader.specs.declared.lines.Line.TheVariants.{End}
use Rattle.line_reader.proofs.LinesLemmas.{takes_line_feed, takes_last, split_at_end}

-- a line feed among some bytes stands against none among them and what follows
pub line_end_stands : (before held left : List ℕ) (at : ℕ) → before ≡ held ++ left → IsLineEnd held at → HasNoLineFeed before → ⊥
line_end_stands before held left at cut end none =
    let P : ℕ → Type 0 = λ byte. is_line_feed byte ≡ false in
    let all : HasNoLineFeed (held ++ left) = All-same P (held ++ left) before (sym cut) none in
    let front : HasNoLineFeed held = All-same P held (take (length held) (held ++ left)) (sym (take_at held left (length held) refl)) (All-take P (length held) (held ++ left) all) in
    both_ways (is_line_feed (slice_index held at)) (All-get_or P held at 0 end.within front) end.is

length-cut : (line : List ℕ) (t : Bool) → length line ≤ length (cond t (take (length line - 1) line) line) + 1
length-cut line true = omega (arith, length-take (length line - 1) line)
length-cut line false = omega arith

length-strip : (line : List ℕ) → length line ≤ length (strip_carriage_return line) + 1
length-strip line = length-cut line (eqb (slice_index line (length line - 1)) 13)

pub skips_more : (most : ℕ) (before held left left' : List ℕ) → SkipsTo most before left → left ≡ held ++ left' → HasNoLineFeed held → SkipsTo most before left'
skips_more most before held left left' skips cut none = record {
  passed = skips.passed ++ held;
  cut = skips.cut ∙ ap (λ (l : List ℕ). skips.passed ++ l) cut ∙ sym (append_assoc skips.passed held left');
  in_line = All-append (λ byte. is_line_feed byte ≡ false) skips.passed held skips.in_line none;
  long = omega (arith, length-append skips.passed held, skips.long);
}

regrouped : (a b c d e : List ℕ) → a ++ (((b ++ c) ++ d) ++ e) ≡ ((a ++ b) ++ c) ++ (d ++ e)
regrouped a b c d e = simp append_assoc

pub skips_line : (stopped : Option Line) (before held left left' : List ℕ) (at : ℕ) → SkipsTo 4097 before left → left ≡ held ++ left' → IsLineEnd held at → TakesLongLine 4096 before (drop (at + 1) held ++ left') stopped
skips_line stopped before held left left' at skips cut end =
    let raw = skips.passed ++ take at held in
    record {
      line = strip_carriage_return raw;
      long = omega (arith, length-strip raw, length-append skips.passed (take at held), skips.long);
      takes =
          takes_line_feed stopped before raw (slice_index held at) (drop (at + 1) held ++ left')
          (skips.cut ∙ ap (λ (l : List ℕ). skips.passed ++ l) cut ∙ ap (λ (l : List ℕ). skips.passed ++ (l ++ left')) (split_at_end held at end.within)
          ∙ regrouped skips.passed (take at held) (slice_index held at ∷ []) (drop (at + 1) held) left')
          (All-append (λ byte. is_line_feed byte ≡ false) skips.passed (take at held) skips.in_line end.first) end.is;
    }

pub skips_ended : (before held left left' : List ℕ) (at : ℕ) → SkipsTo 4097 before left → left ≡ held ++ left' → IsLineEnd held at → HasNoLineFeed before → ⊥
skips_ended before held left left' at skips cut end none =
    let P : ℕ → Type 0 = λ byte. is_line_feed byte ≡ false in
    let all : HasNoLineFeed (skips.passed ++ left) = All-same P (skips.passed ++ left) before (sym skips.cut) none in
    let rest : HasNoLineFeed left = All-same P left (drop (length skips.passed) (skips.passed ++ left)) (sym (drop_at skips.passed left (length skips.passed) refl)) (All-drop P (length skips.passed) (skips.passed ++ left) all) in
    line_end_stands left held left' at cut end rest

pub skips_all : (stopped : Option Line) (before left : List ℕ) → stopped ≡ Some End → SkipsTo 4097 before left → left ≡ [] → TakesLongLine 4096 before [] stopped
skips_all stopped before left holds skips none =
    let whole : before ≡ skips.passed = skips.cut ∙ ap (λ (l : List ℕ). skips.passed ++ l) none ∙ append-nil skips.passed in
    record {
      line = strip_carriage_return skips.passed;
      long = omega (arith, length-strip skips.passed, skips.long);
      takes = subst (λ (b : List ℕ). TakesLine b (strip_carriage_return skips.passed) [] stopped) (sym whole) (takes_last stopped skips.passed holds skips.in_line (omega (arith, skips.long)));
    }

left_from_empty : (old new : IntakeState) (left left' : List ℕ) → old.held ≡ [] → LosesNothing old new left left' → left ≡ new.held ++ left'
left_from_empty old new left left' empty none_lost = ap (λ (l : List ℕ). l ++ left) (sym empty) ∙ none_lost.bytes

-- the next bytes end the line
pub skipped_line : (stopped : Option Line) (before : List ℕ) (old new : IntakeState) (left left' shown rest : List ℕ) (at : ℕ) → SkipsTo 4097 before left → old.held ≡ [] → LosesNothing old new left left' → shown ≡ new.held → IsLineEnd shown at → rest ≡ drop (at + 1) new.held → TakesLongLine 4096 before (rest ++ left') stopped
skipped_line stopped before old new left left' shown rest at skips empty none_lost is end rest_is =
    subst (λ (l : List ℕ). TakesLongLine 4096 before (l ++ left') stopped) (ap (drop (at + 1)) is ∙ sym rest_is)
    (skips_line stopped before shown left left' at skips (left_from_empty old new left left' empty none_lost ∙ ap (λ (l : List ℕ). l ++ left') (sym is)) end)

pub skipped_ended : (before : List ℕ) (old new : IntakeState) (left left' shown : List ℕ) (at : ℕ) → SkipsTo 4097 before left → old.held ≡ [] → LosesNothing old new left left' → shown ≡ new.held → IsLineEnd shown at → HasNoLineFeed before → ⊥
skipped_ended before old new left left' shown at skips empty none_lost is end =
    skips_ended before shown left left' at skips (left_from_empty old new left left' empty none_lost ∙ ap (λ (l : List ℕ). l ++ left') (sym is)) end

-- the next bytes do not end it
pub skipped_more : (before : List ℕ) (old new : IntakeState) (left left' shown : List ℕ) → SkipsTo 4097 before left → old.held ≡ [] → LosesNothing old new left left' → shown ≡ new.held → HasNoLineFeed shown → SkipsTo 4097 before left'
skipped_more before old new left left' shown skips empty none_lost is none =
    skips_more 4097 before shown left left' skips (left_from_empty old new left left' empty none_lost ∙ ap (λ (l : List ℕ). l ++ left') (sym is)) none
