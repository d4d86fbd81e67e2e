-- How far lines are answered: the replies to those that were given are written or gathered, and the reads are no more than they ask for.
use Rattle.std.proofs.Common.{◌≡◌, ℕ, ◌+◌, ◌≤◌, Bool, IsTrue, List, [], ◌∷◌, ◌++◌, length, inl, Option, None, Some, refl, sym, ◌∙◌, ap, append_assoc, arith, add-zero, length-append}
use Rattle.std.proofs.lemmas.List.{append-nil}
use Rattle.ports.specs.Written.{WritesMore, WritesPart}
use Rattle.line_reader.specs.Lines.{lines}
use Rattle.line_reader.specs.declared.lines.Line.{Line}
use Rattle.line_reader.specs.declared.lines.Line.TheVariants.{End}
use Rattle.row_machine.specs.AnsweredLine.{AnswersLine}
use Rattle.row_machine.specs.Answering.{AnswersLines, reads_by, replies_by, reply_within}
use Rattle.row_machine.specs.Serving.{IsBetweenLines, IsFlushed, IsInputEnding, TakesLines, TakesWhole}
use Rattle.row_machine.specs.declared.answering.Responder.{Ghosts}
use Rattle.row_machine.specs.declared.ending.Ending.{Ending}
use Rattle.row_machine.specs.declared.ending.Ending.TheVariants.{Fine}
use Rattle.row_machine.proofs.GivenLines.{Given, given_and_coming, given_line}
use Rattle.row_machine.proofs.Parts.{part_of_all}
use Rattle.row_machine.proofs.Replies.{one_more}
use Rattle.row_machine.proofs.Served.{LineLaws}

module _ {R : Type 0} (g : Ghosts R) (facts : g.Facts) where
  -- after some lines the replies go on from the number that these lines leave
  replies_by-append : (n : ℕ) (xs ys : List (List ℕ)) → replies_by (g.reply facts) n (xs ++ ys) ≡ replies_by (g.reply facts) n xs ++ replies_by (g.reply facts) (n + length xs) ys
  replies_by-append n [] ys = ap (λ (k : ℕ). replies_by (g.reply facts) k ys) (sym (add-zero n))
  replies_by-append n (x ∷ xs) ys =
      ap (λ (t : List ℕ). reply_within (g.reply facts) n x ++ t) (replies_by-append (n + 1) xs ys)
      ∙ (sym (append_assoc (reply_within (g.reply facts) n x) (replies_by (g.reply facts) (n + 1) xs) (replies_by (g.reply facts) (n + 1 + length xs) ys))
      ∙ ap (λ (k : ℕ). (reply_within (g.reply facts) n x ++ replies_by (g.reply facts) (n + 1) xs) ++ replies_by (g.reply facts) k ys) (one_more n (length xs)))

  reads_by-append : (xs ys : List (List ℕ)) → reads_by (g.cost facts) (xs ++ ys) ≡ reads_by (g.cost facts) xs + reads_by (g.cost facts) ys
  reads_by-append [] ys = omega arith
  reads_by-append (x ∷ xs) ys = let later = reads_by-append xs ys in omega (arith, later)

  -- From the first moment to now the lines given were answered, the next of which has the number n.
  pub record Answered (tells : Bool) (first now : R) (n : ℕ) (input come : List ℕ) (stopped : Option Line) (before replied : List ℕ) : Type 0 where
    pub so_far : Given input come stopped
    pub number : n ≡ 1 + length (lines so_far.given)
    pub wrote : IsTrue tells → replied ≡ before ++ replies_by (g.reply facts) 1 (lines so_far.given)
    pub reads : g.reads now ≤ g.reads first + reads_by (g.cost facts) (lines so_far.given)

  pub answered_nothing : (tells : Bool) (first : R) (input before : List ℕ) → Answered tells first first 1 input input None before before
  answered_nothing tells first input before = record {
    so_far = record { given = []; cut = refl; ends = inl refl; nothing = λ e. cc };
    number = refl;
    wrote = λ told. sym (append-nil before);
    reads = omega arith;
  }

  -- the reply to the line after those given
  next_reply : (n : ℕ) (ls : List (List ℕ)) (line : List ℕ) → n ≡ 1 + length ls → replies_by (g.reply facts) 1 ls ++ reply_within (g.reply facts) n line ≡ replies_by (g.reply facts) 1 (ls ++ line ∷ [])
  next_reply n ls line number =
      ap (λ (k : ℕ). replies_by (g.reply facts) 1 ls ++ reply_within (g.reply facts) k line) number
      ∙ (ap (λ (t : List ℕ). replies_by (g.reply facts) 1 ls ++ t) (sym (append-nil (reply_within (g.reply facts) (1 + length ls) line)))
      ∙ sym (replies_by-append 1 ls (line ∷ [])))

  -- one line more
  pub answered_line : (laws : LineLaws) (tells : Bool) (first now new : R) (n : ℕ) (input come come' : List ℕ) (stopped stopped' : Option Line) (before written gathered gathered' : List ℕ)
      → Answered tells first now n input come stopped before (written ++ gathered) → (stopped' ≡ Some End → come' ≡ [])
      → AnswersLine g facts n come come' stopped' now new gathered gathered'
      → Answered tells first new (n + 1) input come' stopped' before (written ++ gathered')
  answered_line laws tells first now new n input come come' stopped stopped' before written gathered gathered' r nothing l =
      let given : List (List ℕ) = lines r.so_far.given in
      let reply : List ℕ = reply_within (g.reply facts) n l.line in
      let more = given_line laws input come stopped r.so_far l.line come' stopped' nothing l.takes in
      record {
        so_far = more.0;
        number = omega (arith, r.number, ap length more.1, length-append given (l.line ∷ []));
        wrote = λ told. ap (λ (t : List ℕ). written ++ t) l.replies
            ∙ (sym (append_assoc written gathered reply)
            ∙ (ap (λ (t : List ℕ). t ++ reply) (r.wrote told)
            ∙ (append_assoc before (replies_by (g.reply facts) 1 given) reply
            ∙ ap (λ (t : List ℕ). before ++ t) (next_reply n given l.line r.number ∙ ap (replies_by (g.reply facts) 1) (sym more.1)))));
        reads = omega (arith, r.reads, l.reads, ap (reads_by (g.cost facts)) more.1, reads_by-append given (l.line ∷ []));
      }

  -- The run ends here: of the lines to come these were begun, and the rest was not.
  pub ends_here : (laws : LineLaws) (tells tells' still : Bool) (first now new : R) (n : ℕ) (input come left : List ℕ) (stopped : Option Line) (before now_written gathered written' : List ℕ) (ending : Ending)
      → (r : Answered tells first now n input come stopped before (now_written ++ gathered)) → (begun rest : List (List ℕ)) → lines come ≡ begun ++ rest
      → length begun ≤ 1 → (IsBetweenLines ending → begun ≡ []) → (ending ≡ Fine → rest ≡ [])
      → (IsInputEnding ending → IsTrue still → TakesWhole input left (lines r.so_far.given))
      → (IsTrue still → TakesLines input left (lines r.so_far.given ++ begun))
      → (IsTrue tells → WritesMore before now_written)
      → (IsTrue tells → IsTrue tells' → WritesPart now_written written' gathered)
      → (IsFlushed ending → IsTrue tells → written' ≡ now_written ++ gathered)
      → g.reads new ≤ g.reads now + reads_by (g.cost facts) begun
      → AnswersLines (g.reply facts) (g.cost facts) tells tells' still input left ending before written' (g.reads first) (g.reads new)
  ends_here laws tells tells' still first now new n input come left stopped before now_written gathered written' ending r begun rest coming one between fine taken read more part flushed reads =
      let given : List (List ℕ) = lines r.so_far.given in
      record {
        answered = given;
        begun = begun;
        rest = rest;
        cut = given_and_coming laws input come stopped r.so_far ∙ ap (λ (ls : List (List ℕ)). given ++ ls) coming;
        one = one;
        between = between;
        fine = fine;
        taken = taken;
        read = read;
        wrote = λ told told'. part_of_all before now_written written' gathered (replies_by (g.reply facts) 1 given) (more told) (r.wrote told) (part told told');
        flushed = λ put told. flushed put told ∙ r.wrote told;
        reads = omega (arith, r.reads, reads, reads_by-append given begun);
      }
