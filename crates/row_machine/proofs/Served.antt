-- How far an input is served: the lines that were taken off it are replied, and the others are to come.
use Rattle.std.proofs.Common.{◌≡◌, ℕ, ◌+◌, Bool, true, IsTrue, List, [], ◌∷◌, ◌++◌, length, ◌⊎◌, inl, inr, Option, None, Some, sym, ◌∙◌, ap, refl, append_assoc, arith, length-append}
use Rattle.std.proofs.lemmas.List.{append-nil}
use Rattle.bw_types.specs.declared.params.Params.{Params}
use Rattle.line_reader.specs.Lines.{lines, is_whole, whole_part, HasNoLineFeed, TakesLine, PassesNoLineFeed}
use Rattle.row_machine.specs.Serving.{TakesLines, TakesWhole}
use Rattle.line_reader.specs.declared.lines.Line.{Line}
use Rattle.line_reader.specs.declared.lines.Line.TheVariants.{End}
use Rattle.csv_rows.specs.Machine.{State, step, replied, replies, state_after}
use Rattle.row_machine.proofs.Replies.{replies-append, state_after-append}

-- the laws of lines that are used here
pub record LineLaws : Type 0 where
  pub join : (given more : List ℕ) → is_whole given ≡ true → lines (given ++ more) ≡ lines given ++ lines more
  pub whole : (given piece : List ℕ) → is_whole given ≡ true → is_whole piece ≡ true → is_whole (given ++ piece) ≡ true
  pub passed : (given passed : List ℕ) → is_whole given ≡ true → HasNoLineFeed passed → whole_part (given ++ passed) ≡ given

-- of the input some bytes were given as lines and the others are to come; the state, the next line's number and what was written are those after the lines given
pub record Served (tells : Bool) (params : Params) (first now : State) (n : ℕ) (input come : List ℕ) (stopped : Option Line) (before written : List ℕ) : Type 0 where
  pub given : List ℕ
  pub cut : input ≡ given ++ come
  pub ends : (is_whole given ≡ true) ⊎ (stopped ≡ Some End)
  pub nothing : stopped ≡ Some End → come ≡ []
  pub number : n ≡ 1 + length (lines given)
  pub state : now ≡ state_after params 1 first (lines given)
  pub wrote : IsTrue tells → written ≡ before ++ replies params 1 first (lines given)

-- the next line, which has the number n, is taken off the input, the machine makes its step, and the reply is written
pub record OneLine (tells : Bool) (params : Params) (n : ℕ) (before after : List ℕ) (stopped : Option Line) (old new : State) (written written' : List ℕ) : Type 0 where
  pub line : List ℕ
  pub takes : TakesLine before line after stopped
  pub state : new ≡ (step params n old line).state
  pub wrote : IsTrue tells → written' ≡ written ++ replied (step params n old line).reply

-- nothing is served yet
abbrev pub served_nothing : (tells : Bool) (params : Params) (first : State) (input : List ℕ) (before : List ℕ) → Served tells params first first 1 input input None before before
served_nothing tells params first input before = record {
  given = [];
  cut = refl;
  ends = inl refl;
  nothing = λ e. cc;
  number = refl;
  state = refl;
  wrote = λ told. sym (append-nil before);
}

-- the step on the line after those given
pub after_line : (params : Params) (first now : State) (n : ℕ) (ls : List (List ℕ)) (line : List ℕ) → n ≡ 1 + length ls → now ≡ state_after params 1 first ls → (step params n now line).state ≡ state_after params 1 first (ls ++ line ∷ [])
after_line params first now n ls line en es =
    ap (λ (k : ℕ). (step params k now line).state) en
    ∙ (ap (λ (s : State). (step params (1 + length ls) s line).state) es
    ∙ sym (state_after-append params 1 first ls (line ∷ [])))

-- the reply to the line after those given
line_reply : (params : Params) (first now : State) (n : ℕ) (ls : List (List ℕ)) (line : List ℕ) → n ≡ 1 + length ls → now ≡ state_after params 1 first ls → replies params 1 first ls ++ replied (step params n now line).reply ≡ replies params 1 first (ls ++ line ∷ [])
line_reply params first now n ls line en es =
    ap (λ (k : ℕ). replies params 1 first ls ++ replied (step params k now line).reply) en
    ∙ (ap (λ (s : State). replies params 1 first ls ++ replied (step params (1 + length ls) s line).reply) es
    ∙ (ap (λ (t : List ℕ). replies params 1 first ls ++ t) (sym (append-nil (replied (step params (1 + length ls) (state_after params 1 first ls) line).reply)))
    ∙ sym (replies-append params 1 first ls (line ∷ []))))

-- what a piece of no bytes would give as its one line
no_piece : (piece after line : List ℕ) → piece ++ after ≡ [] → lines piece ≡ line ∷ [] → ⊥
no_piece [] after line e one = cc
no_piece (b ∷ bs) after line e one = cc

-- the lines given and one line more
lines_more : (laws : LineLaws) (given piece line : List ℕ) → is_whole given ≡ true → lines piece ≡ line ∷ [] → lines (given ++ piece) ≡ lines given ++ line ∷ []
lines_more laws given piece line w one = laws.join given piece w ∙ ap (λ (ls : List (List ℕ)). lines given ++ ls) one

-- one line more is served, after bytes that end with a line feed
served_whole_line : (laws : LineLaws) (tells : Bool) (params : Params) (first now now' : State) (n : ℕ) (input come come' : List ℕ) (stopped stopped' : Option Line) (before written written' : List ℕ) → (served : Served tells params first now n input come stopped before written) → is_whole served.given ≡ true → (stopped' ≡ Some End → come' ≡ []) → (line : OneLine tells params n come come' stopped' now now' written written')
    → (later : Served tells params first now' (n + 1) input come' stopped' before written') × (lines later.given ≡ lines served.given ++ line.line ∷ [])
served_whole_line laws tells params first now now' n input come come' stopped stopped' before written written' served w nothing l =
    let more : lines (served.given ++ l.takes.piece) ≡ lines served.given ++ l.line ∷ [] = lines_more laws served.given l.takes.piece l.line w l.takes.one_line in (
      record {
        given = served.given ++ l.takes.piece;
        cut = served.cut ∙ (ap (λ (t : List ℕ). served.given ++ t) l.takes.cut ∙ sym (append_assoc served.given l.takes.piece come'));
        ends = elim l.takes.ends [ inl whole ↦ inl (laws.whole served.given l.takes.piece w whole) | inr stop ↦ inr stop ];
        nothing = nothing;
        number = omega (arith, served.number, ap length more, length-append (lines served.given) (l.line ∷ []));
        state = l.state ∙ (after_line params first now n (lines served.given) l.line served.number served.state ∙ ap (state_after params 1 first) (sym more));
        wrote = λ told. l.wrote told ∙ (ap (λ (t : List ℕ). t ++ replied (step params n now l.line).reply) (served.wrote told)
            ∙ (append_assoc before (replies params 1 first (lines served.given)) (replied (step params n now l.line).reply)
            ∙ ap (λ (t : List ℕ). before ++ t) (line_reply params first now n (lines served.given) l.line served.number served.state ∙ ap (replies params 1 first) (sym more))));
      },
      more,
    )

-- one line more is served
pub served_line : (laws : LineLaws) (tells : Bool) (params : Params) (first now now' : State) (n : ℕ) (input come come' : List ℕ) (stopped stopped' : Option Line) (before written written' : List ℕ) → (served : Served tells params first now n input come stopped before written) → (stopped' ≡ Some End → come' ≡ []) → (line : OneLine tells params n come come' stopped' now now' written written')
    → (later : Served tells params first now' (n + 1) input come' stopped' before written') × (lines later.given ≡ lines served.given ++ line.line ∷ [])
served_line laws tells params first now now' n input come come' stopped stopped' before written written' served nothing l =
    elim served.ends [
      | inl w ↦ served_whole_line laws tells params first now now' n input come come' stopped stopped' before written written' served w nothing l
      | inr stop ↦ absurd (no_piece l.takes.piece come' l.line (sym l.takes.cut ∙ served.nothing stop) l.takes.one_line)
    ]

-- the lines of the whole input are those given and those to come
pub lines_split : (laws : LineLaws) (tells : Bool) (params : Params) (first now : State) (n : ℕ) (input come : List ℕ) (stopped : Option Line) (before written : List ℕ) → (served : Served tells params first now n input come stopped before written) → lines input ≡ lines served.given ++ lines come
lines_split laws tells params first now n input come stopped before written served = elim served.ends [
  | inl w ↦ ap lines served.cut ∙ laws.join served.given come w
  | inr stop ↦ ap lines (served.cut ∙ (ap (λ (t : List ℕ). served.given ++ t) (served.nothing stop) ∙ append-nil served.given))
      ∙ (sym (append-nil (lines served.given)) ∙ ap (λ (t : List ℕ). lines served.given ++ lines t) (sym (served.nothing stop)))
]

not_both : (s : Option Line) → s ≡ None → s ≡ Some End → ⊥
not_both s e f = cc

-- where the input ends the run within a line, the lines given are those up to the last line feed that was taken
pub served_whole : (laws : LineLaws) (tells : Bool) (params : Params) (first now : State) (n : ℕ) (input come left : List ℕ) (stopped : Option Line) (before written : List ℕ) → (served : Served tells params first now n input come stopped before written) → stopped ≡ None → PassesNoLineFeed come left → TakesWhole input left (lines served.given)
served_whole laws tells params first now n input come left stopped before written served going passes = elim served.ends [
  | inl w ↦ record {
    taken = served.given ++ passes.passed;
    cut = served.cut ∙ (ap (λ (t : List ℕ). served.given ++ t) passes.cut ∙ sym (append_assoc served.given passes.passed left));
    whole = ap lines (sym (laws.passed served.given passes.passed w passes.in_line));
  }
  | inr stop ↦ absurd (not_both stopped going stop)
]

-- nothing stands behind bytes that are none together
nothing_behind : (passed left : List ℕ) → passed ++ left ≡ [] → left ≡ []
nothing_behind [] left e = e
nothing_behind (b ∷ bs) left e = cc

-- what was given as lines was taken, with what was passed behind it
pub takes_given : (laws : LineLaws) (tells : Bool) (params : Params) (first now : State) (n : ℕ) (input come left : List ℕ) (stopped : Option Line) (before written : List ℕ) → (served : Served tells params first now n input come stopped before written)
    → (passed : List ℕ) → come ≡ passed ++ left → TakesLines input left (lines served.given)
takes_given laws tells params first now n input come left stopped before written served passed goes = elim served.ends [
  | inl w ↦ record {
    taken = served.given ++ passed;
    more = lines passed;
    cut = served.cut ∙ (ap (λ (t : List ℕ). served.given ++ t) goes ∙ sym (append_assoc served.given passed left));
    begins = laws.join served.given passed w;
  }
  | inr stop ↦ record {
    taken = served.given;
    more = [];
    cut = served.cut ∙ ap (λ (t : List ℕ). served.given ++ t) (served.nothing stop ∙ sym (nothing_behind passed left (sym goes ∙ served.nothing stop)));
    begins = sym (append-nil (lines served.given));
  }
]

-- so was a line more
pub takes_one_more : (laws : LineLaws) (tells : Bool) (params : Params) (first now : State) (n : ℕ) (input come after left : List ℕ) (stopped stopped' : Option Line) (before written line : List ℕ) → (served : Served tells params first now n input come stopped before written)
    → TakesLine come line after stopped' → (stopped' ≡ Some End → after ≡ []) → (passed : List ℕ) → after ≡ passed ++ left → TakesLines input left (lines served.given ++ line ∷ [])
takes_one_more laws tells params first now n input come after left stopped stopped' before written line served takes nothing passed goes =
    elim served.ends [
      | inl w ↦
          let more : lines (served.given ++ takes.piece) ≡ lines served.given ++ line ∷ [] = lines_more laws served.given takes.piece line w takes.one_line in
          let cut : input ≡ (served.given ++ takes.piece) ++ after = served.cut ∙ (ap (λ (t : List ℕ). served.given ++ t) takes.cut ∙ sym (append_assoc served.given takes.piece after)) in
          elim takes.ends [
            | inl whole ↦ record {
              taken = (served.given ++ takes.piece) ++ passed;
              more = lines passed;
              cut = cut ∙ (ap (λ (t : List ℕ). (served.given ++ takes.piece) ++ t) goes ∙ sym (append_assoc (served.given ++ takes.piece) passed left));
              begins = laws.join (served.given ++ takes.piece) passed (laws.whole served.given takes.piece w whole) ∙ ap (λ (ls : List (List ℕ)). ls ++ lines passed) more;
            }
            | inr stop ↦ record {
              taken = served.given ++ takes.piece;
              more = [];
              cut = cut ∙ ap (λ (t : List ℕ). (served.given ++ takes.piece) ++ t) (nothing stop ∙ sym (nothing_behind passed left (sym goes ∙ nothing stop)));
              begins = more ∙ sym (append-nil (lines served.given ++ line ∷ []));
            }
          ]
      | inr stop ↦ absurd (no_piece takes.piece after line (sym takes.cut ∙ served.nothing stop) takes.one_line)
    ]
