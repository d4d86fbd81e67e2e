-- The invariant of the loop that answers line after line.
use Rattle.std.proofs.Common.{◌≡◌, ℕ, ◌+◌, ◌≤◌, Bool, IsTrue, List, [], ◌∷◌, ◌++◌, length, ◌⊎◌, inl, inr, None, Some, refl, sym, ◌∙◌, ap, subst, arith}
use Rattle.std.proofs.lemmas.List.{append-nil}
use Rattle.ports.specs.Written.{WritesMore, WritesPart}
use Rattle.line_reader.specs.Lines.{lines, PassesNoLineFeed}
use Rattle.line_reader.specs.Reader.{ReaderState, to_come}
use Rattle.line_reader.specs.declared.lines.Line.TheVariants.{End}
use Rattle.row_machine.specs.AnsweredLine.{AnswersLine, BeginsLine}
use Rattle.row_machine.specs.Answering.{AnswersLines}
use Rattle.row_machine.specs.Housed.{IsHouseEnding}
use Rattle.row_machine.specs.Serving.{GoesOn, IsBetweenLines, IsFlushed, IsInputEnding, MayGoOn, SeenEnd, TakesLines}
use Rattle.row_machine.specs.declared.answering.Responder.{Ghosts}
use Rattle.row_machine.specs.declared.ending.Ending.{Ending}
use Rattle.row_machine.specs.declared.ending.Ending.TheVariants.{Fine, WriteFault, DiskFault, Damaged}
use Rattle.row_machine.specs.declared.serving.TheConstants.{INPUT_LIMIT}
use Rattle.row_machine.proofs.AnsweredLines.{Answered, answered_line, answered_nothing, ends_here}
use Rattle.row_machine.proofs.GivenLines.{given_taken, given_whole, one_more_taken}
use Rattle.row_machine.proofs.Going.{Calm, Closes, Port, between_both, calm_twice, closes_same, come_passes, ended_by_input, nothing_to_come, passes_between, seen_after}
use Rattle.row_machine.proofs.Parts.{more_twice, nothing_more}
use Rattle.row_machine.proofs.Served.{LineLaws}

-- Between two lines: the responder, the source and the sink at entry and now, the replies that are gathered, the reader and the next line's number.
pub record Answering {R : Type 0} (g : Ghosts R) (first now : R) (source source' sink sink' : Port) (gathered : List ℕ) (reader : ReaderState) (number : ℕ) : Type 0 where
  pub limit : reader.limit ≡ INPUT_LIMIT
  pub taken : reader.taken ≤ reader.limit
  pub number_small : number + length reader.pending ≤ reader.taken + 1
  pub may_go_on : MayGoOn reader.stopped
  pub seen_end : SeenEnd reader source.tells source'.bytes
  pub source_calm : Calm source source'
  pub sink_calm : Calm sink sink'
  pub more : IsTrue sink.tells → WritesMore sink.bytes sink'.bytes
  pub kept : g.as_before first now
  pub faults : g.faults first ≤ g.faults now
  pub counts : IsTrue source.tells → reader.taken + length source'.bytes ≡ length source.bytes
  pub answered : IsTrue source.tells → (facts : g.Facts) → g.stands first facts
      → Answered g facts sink.tells first now number source.bytes (to_come reader source'.bytes) reader.stopped sink.bytes (sink'.bytes ++ gathered)

-- what the laws of answering say
pub record AnswerLaws {R : Type 0} (g : Ghosts R) : Type 0 where
  pub same : (now : R) → g.as_before now now
  pub twice : (first next last : R) → g.as_before first next → g.as_before next last → g.as_before first last
  pub stands : (old new : R) (facts : g.Facts) → g.stands old facts → g.as_before old new → g.stands new facts

module _ {R : Type 0} (g : Ghosts R) where
  -- before the first line
  pub answering_first : (laws : AnswerLaws g) (first : R) (source sink : Port) (gathered : List ℕ) (reader : ReaderState)
      → reader ≡ record { text = []; pending = []; taken = 0; limit = INPUT_LIMIT; stopped = None } → gathered ≡ []
      → Answering g first first source source sink sink gathered reader 1
  answering_first laws first source sink gathered reader e none = subst (λ (r : ReaderState). Answering g first first source source sink sink gathered r 1) (sym e) (record {
    limit = refl;
    taken = omega arith;
    number_small = omega arith;
    may_go_on = tt;
    seen_end = λ f. absurd cc;
    source_calm = record { faults = refl; tells = λ t. t };
    sink_calm = record { faults = refl; tells = λ t. t };
    more = λ told. nothing_more sink.bytes sink.bytes refl;
    kept = laws.same first;
    faults = omega arith;
    counts = λ told. omega arith;
    answered = λ told facts stands. subst (λ (b : List ℕ). Answered g facts sink.tells first first 1 source.bytes source.bytes None sink.bytes b)
        (sym (append-nil sink.bytes) ∙ ap (λ (t : List ℕ). sink.bytes ++ t) (sym none))
        (answered_nothing g facts sink.tells first source.bytes sink.bytes);
  })

  -- what was gathered is put, or stays gathered
  pub answering_put : (first now : R) (source source' sink sink' sink'' : Port) (gathered gathered' : List ℕ) (reader : ReaderState) (number : ℕ)
      → Answering g first now source source' sink sink' gathered reader number
      → Calm sink' sink'' → (IsTrue sink'.tells → WritesMore sink'.bytes sink''.bytes) → (IsTrue sink'.tells → sink''.bytes ++ gathered' ≡ sink'.bytes ++ gathered)
      → Answering g first now source source' sink sink'' gathered' reader number
  answering_put first now source source' sink sink' sink'' gathered gathered' reader number o still more same = record {
    limit = o.limit;
    taken = o.taken;
    number_small = o.number_small;
    may_go_on = o.may_go_on;
    seen_end = o.seen_end;
    source_calm = o.source_calm;
    sink_calm = calm_twice sink sink' sink'' o.sink_calm still;
    more = λ told. more_twice sink.bytes sink'.bytes sink''.bytes (o.more told) (more (o.sink_calm.tells told));
    kept = o.kept;
    faults = o.faults;
    counts = o.counts;
    answered = λ told facts stands.
        let r = o.answered told facts stands in
        record { so_far = r.so_far; number = r.number; wrote = λ tells. same (o.sink_calm.tells tells) ∙ r.wrote tells; reads = r.reads };
  }

  -- a line that changed nothing, or left what is as before
  pub kept_on : (laws : AnswerLaws g) (first now now' : R) → g.as_before first now → (now' ≡ now) ⊎ g.as_before now now' → g.as_before first now'
  kept_on laws first now now' kept next = elim next [
    | inl same ↦ subst (λ (r : R). g.as_before first r) (sym same) kept
    | inr as_before ↦ laws.twice first now now' kept as_before
  ]

  -- one line more
  pub answering_on : (lines_laws : LineLaws) (laws : AnswerLaws g) (first now now' : R) (source source' source'' sink sink' : Port) (gathered gathered' : List ℕ) (reader reader' : ReaderState) (number : ℕ)
      → Answering g first now source source' sink sink' gathered reader number
      → reader'.limit ≡ reader.limit → GoesOn reader reader' → Calm source' source''
      → (now' ≡ now) ⊎ g.as_before now now' → g.faults now ≤ g.faults now'
      → (reader.stopped ≡ None → SeenEnd reader' source'.tells source''.bytes)
      → (reader.stopped ≡ Some End → (reader' ≡ reader) × (source''.bytes ≡ source'.bytes))
      → (IsTrue source'.tells → IsTrue source''.tells → reader'.taken + length source''.bytes ≡ reader.taken + length source'.bytes)
      → (IsTrue source'.tells → (facts : g.Facts) → g.stands now facts
      → AnswersLine g facts number (to_come reader source'.bytes) (to_come reader' source''.bytes) reader'.stopped now now' gathered gathered')
      → Answering g first now' source source'' sink sink' gathered' reader' (number + 1)
  answering_on lines_laws laws first now now' source source' source'' sink sink' gathered gathered' reader reader' number o limit goes calm kept faults seen stays counts answers = record {
    limit = limit ∙ o.limit;
    taken = goes.taken;
    number_small = omega (arith, o.number_small, goes.used);
    may_go_on = goes.stopped;
    seen_end = seen_after source source' source'' reader reader' o.may_go_on o.source_calm o.seen_end seen stays;
    source_calm = calm_twice source source' source'' o.source_calm calm;
    sink_calm = o.sink_calm;
    more = o.more;
    kept = kept_on laws first now now' o.kept kept;
    faults = omega (arith, o.faults, faults);
    counts = λ told. counts (o.source_calm.tells told) (calm.tells (o.source_calm.tells told)) ∙ o.counts told;
    answered = λ told facts stands.
        answered_line g facts lines_laws sink.tells first now now' number source.bytes (to_come reader source'.bytes) (to_come reader' source''.bytes) reader.stopped reader'.stopped sink.bytes sink'.bytes gathered gathered'
        (o.answered told facts stands) (nothing_to_come reader' source''.bytes)
        (answers (o.source_calm.tells told) facts (laws.stands first now facts stands o.kept));
  }

  -- the sink fails, between two lines
  pub answering_stops : (lines_laws : LineLaws) (first now : R) (source source' sink sink' : Port) (gathered : List ℕ) (reader : ReaderState) (number : ℕ) (tells' : Bool) (written' : List ℕ)
      → Answering g first now source source' sink sink' gathered reader number
      → (IsTrue sink'.tells → IsTrue tells' → WritesPart sink'.bytes written' gathered)
      → IsTrue source.tells → (facts : g.Facts) → g.stands first facts
      → AnswersLines (g.reply facts) (g.cost facts) sink.tells tells' source'.tells source.bytes source'.bytes WriteFault sink.bytes written' (g.reads first) (g.reads now)
  answering_stops lines_laws first now source source' sink sink' gathered reader number tells' written' o part told facts stands =
      let r = o.answered told facts stands in
      let passes = come_passes reader source'.bytes o.may_go_on (λ e. (o.seen_end e).1 told) in
      ends_here g facts lines_laws sink.tells tells' source'.tells first now now number source.bytes (to_come reader source'.bytes) source'.bytes reader.stopped sink.bytes sink'.bytes gathered written' WriteFault
      r [] (lines (to_come reader source'.bytes)) refl (omega arith) (λ b. refl) (λ f. absurd cc) (λ i. absurd i)
      (λ still. subst (λ (ls : List (List ℕ)). TakesLines source.bytes source'.bytes ls) (sym (append-nil (lines r.so_far.given)))
      (given_taken lines_laws source.bytes (to_come reader source'.bytes) reader.stopped r.so_far source'.bytes passes.0 passes.1))
      o.more (λ tells tells'. part (o.sink_calm.tells tells) tells') (λ f. absurd f) (omega arith)

  -- the run ends between two lines or in one, and the replies that are gathered are put
  pub answering_ends : (lines_laws : LineLaws) (laws : AnswerLaws g) (first now now' : R) (source source' source'' sink sink' : Port) (gathered : List ℕ) (reader reader' : ReaderState) (number : ℕ) (tells' : Bool) (written' : List ℕ) (ended ending : Ending)
      → Answering g first now source source' sink sink' gathered reader number
      → ((ending ≡ ended) ⊎ ((ending ≡ WriteFault) × (ended ≡ DiskFault → ⊥)))
      → (IsBetweenLines ended ⊎ IsHouseEnding ended)
      → (IsBetweenLines ended → now' ≡ now)
      → (ended ≡ Fine → IsTrue source'.tells → to_come reader source'.bytes ≡ [])
      → (IsInputEnding ended → IsTrue source'.tells → IsTrue source''.tells → (reader.stopped ≡ None) × PassesNoLineFeed (to_come reader source'.bytes) source''.bytes)
      → (IsHouseEnding ended → IsTrue source'.tells → (facts : g.Facts) → g.stands now facts
      → BeginsLine g facts (to_come reader source'.bytes) (to_come reader' source''.bytes) reader'.stopped now now')
      → (reader.stopped ≡ None → SeenEnd reader' source'.tells source''.bytes)
      → (reader.stopped ≡ Some End → (reader' ≡ reader) × (source''.bytes ≡ source'.bytes))
      → (ended ≡ Fine → reader'.stopped ≡ Some End)
      → (IsTrue sink'.tells → IsTrue tells' → WritesPart sink'.bytes written' gathered)
      → (IsFlushed ending → IsTrue sink'.tells → written' ≡ sink'.bytes ++ gathered)
      → IsTrue source.tells → (facts : g.Facts) → g.stands first facts
      → AnswersLines (g.reply facts) (g.cost facts) sink.tells tells' source''.tells source.bytes source''.bytes ending sink.bytes written' (g.reads first) (g.reads now')
  answering_ends lines_laws laws first now now' source source' source'' sink sink' gathered reader reader' number tells' written' ended ending o ends why between fine input begins seen stays at_end part flushed told facts stands =
      let r = o.answered told facts stands in
      let come : List ℕ = to_come reader source'.bytes in
      let told' = o.source_calm.tells told in
      let closes : Closes (record { ending = ended; device = now' }) (record { ending = ending; device = now' }) = record { device = refl; ending = ends } in
      let seen' : SeenEnd reader' source.tells source''.bytes = seen_after source source' source'' reader reader' o.may_go_on o.source_calm o.seen_end seen stays in
      let taken = λ (i : IsInputEnding ending) (still : IsTrue source''.tells).
      let p = input (ended_by_input _ _ closes i) told' still in
      given_whole lines_laws source.bytes come reader.stopped r.so_far source''.bytes p.0 p.1 in
      elim why [
        | inl b ↦
            let passes = λ (still : IsTrue source''.tells). passes_between ended come source''.bytes b
            (λ e. let none : source''.bytes ≡ [] = (seen' (at_end e)).1 told in fine e told' ∙ sym none)
            (λ i. (input i told' still).1) in
            ends_here g facts lines_laws sink.tells tells' source''.tells first now now' number source.bytes come source''.bytes reader.stopped sink.bytes sink'.bytes gathered written' ending
            r [] (lines come) refl (omega arith) (λ f. refl) (λ f. ap lines (fine (closes_same _ _ closes Fine (λ e. cc) f) told')) taken
            (λ still. subst (λ (ls : List (List ℕ)). TakesLines source.bytes source''.bytes ls) (sym (append-nil (lines r.so_far.given)))
            (given_taken lines_laws source.bytes come reader.stopped r.so_far source''.bytes (passes still).0 (passes still).1))
            o.more (λ tells tells'. part (o.sink_calm.tells tells) tells') (λ f tells. flushed f (o.sink_calm.tells tells))
            (let same = ap g.reads (between b) in omega (arith, same))
        | inr w ↦
            let l = begins w told' facts (laws.stands first now facts stands o.kept) in
            let passes = come_passes reader' source''.bytes l.goes (λ e. (seen' e).1 told) in
            ends_here g facts lines_laws sink.tells tells' source''.tells first now now' number source.bytes come source''.bytes reader.stopped sink.bytes sink'.bytes gathered written' ending
            r (l.line ∷ []) (lines (to_come reader' source''.bytes)) l.takes.all_lines (omega arith) (λ f. absurd (between_both _ _ closes w f))
            (λ f. absurd (between_both _ _ closes w (subst (λ (s : Ending). IsBetweenLines s) (sym f) tt))) taken
            (λ still. one_more_taken lines_laws source.bytes come reader.stopped r.so_far l.line (to_come reader' source''.bytes) source''.bytes reader'.stopped l.takes (nothing_to_come reader' source''.bytes) passes.0 passes.1)
            o.more (λ tells tells'. part (o.sink_calm.tells tells) tells') (λ f tells. flushed f (o.sink_calm.tells tells))
            (omega (arith, l.reads))
      ]

  -- nothing is found damaged
  pub answering_sound : (laws : AnswerLaws g) (first now : R) (source source' sink sink' : Port) (gathered : List ℕ) (reader : ReaderState) (number : ℕ) (ended ending : Ending)
      → Answering g first now source source' sink sink' gathered reader number
      → ((ending ≡ ended) ⊎ ((ending ≡ WriteFault) × (ended ≡ DiskFault → ⊥)))
      → ((facts : g.Facts) (page : ℕ) → g.stands now facts → ended ≡ Damaged page → ⊥)
      → (facts : g.Facts) (page : ℕ) → g.stands first facts → ending ≡ Damaged page → ⊥
  answering_sound laws first now source source' sink sink' gathered reader number ended ending o ends sound facts page stands e =
      sound facts page (laws.stands first now facts stands o.kept) (elim ends [ inl same ↦ sym same ∙ e | inr wrote ↦ absurd (let no : WriteFault ≡ Damaged page = sym wrote.0 ∙ e in cc) ])
