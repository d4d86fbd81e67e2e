-- What an answer says, by cases.
use Rattle.std.proofs.Common.{◌≡◌, ℕ, ◌+◌, ◌<◌, ◌≤◌, List, [], ◌++◌, Option, None, Some, length, take, drop, arith, refl, subst, ap, sym, ◌∙◌, length-take}
use Rattle.std.proofs.lemmas.List.{take_all}
use Rattle.std.specs.Str.Lines.{strip_carriage_return}
use Rattle.line_reader.specs.Intake.{IsLineEnd}
use Rattle.line_reader.specs.Lines.{HasNoLineFeed, TakesLine}
use Rattle.line_reader.proofs.LinesLemmas.{takes_at, takes_last}
use Rattle.line_reader.specs.Reader.{Cuts, IsLine, unless_stopped}
use Rattle.line_reader.specs.declared.lines.Line.{Line}
use Rattle.line_reader.specs.declared.lines.Line.TheVariants.{Text, Long, End, Fault, Limit}

pub Cuts-line : (most : ℕ) (answer : Line) (before line text after : List ℕ) (stopped : Option Line) → IsLine answer → (answer ≡ Long → most < length text) → text ≡ line → TakesLine before line after stopped → Cuts most answer before text after stopped
Cuts-line most Text before line text after stopped is long same takes = subst (λ (t : List ℕ). TakesLine before t after stopped) (sym same) takes
Cuts-line most Long before line text after stopped is long same takes = record { line = line; long = subst (λ (t : List ℕ). most < length t) same (long refl); takes = takes }
Cuts-line most End before line text after stopped is long same takes = absurd is
Cuts-line most Fault before line text after stopped is long same takes = absurd is
Cuts-line most Limit before line text after stopped is long same takes = absurd is

-- a line that is held with its line feed
pub Cuts-ended : (most : ℕ) (answer : Line) (before held left shown : List ℕ) (at text_len used : ℕ) (stopped : Option Line) → before ≡ held ++ left → shown ≡ held → IsLineEnd held at → IsLine answer → (answer ≡ Long → most < text_len) → take text_len shown ≡ strip_carriage_return (take at shown) → text_len ≤ at → used ≡ at + 1 → stopped ≡ None → Cuts most answer before (take text_len held) (unless_stopped stopped (drop used held ++ left)) stopped
Cuts-ended most answer before held left shown at text_len used stopped cut is end is_line long text within used_is stopped_is =
    let text_is : take text_len held ≡ strip_carriage_return (take at held) =
    ap (take text_len) (sym is) ∙ text ∙ ap (λ (l : List ℕ). strip_carriage_return (take at l)) is in
    let here : Cuts most answer before (take text_len held) (drop (at + 1) held ++ left) None =
    Cuts-line most answer before (strip_carriage_return (take at held)) (take text_len held) (drop (at + 1) held ++ left) None is_line
    (λ e. let more : most < text_len = long e in omega (arith, more, end.within, within, length-take text_len held)) text_is
    (takes_at None before held left at cut end) in
    subst (λ (s : Option Line). Cuts most answer before (take text_len held) (unless_stopped s (drop used held ++ left)) s) (sym stopped_is)
    (subst (λ (u : ℕ). Cuts most answer before (take text_len held) (drop u held ++ left) None) (sym used_is) here)

-- the last line
pub Cuts-last : (most : ℕ) (answer : Line) (held : List ℕ) (text_len : ℕ) (stopped : Option Line) → stopped ≡ Some End → HasNoLineFeed held → 0 < length held → IsLine answer → (answer ≡ Long → most < text_len) → take text_len held ≡ strip_carriage_return (take (length held) held) → text_len ≤ length held → Cuts most answer held (take text_len held) [] stopped
Cuts-last most answer held text_len stopped at_end none some is_line long text within =
    Cuts-line most answer held (strip_carriage_return held) (take text_len held) [] stopped is_line
    (λ e. let more : most < text_len = long e in omega (arith, more, within, length-take text_len held))
    (text ∙ ap strip_carriage_return (take_all (length held) held (omega arith))) (takes_last stopped held at_end none some)
