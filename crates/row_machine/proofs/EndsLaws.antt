-- What is left when a run ends.
use Rattle.std.proofs.Common.{◌≡◌, ℕ, ◌+◌, ◌≤◌, Bool, false, IsTrue, List, [], ◌∷◌, ◌++◌, length, inl, inr, Option, None, Some, refl, sym, ◌∙◌, ap, subst, arith}
use Rattle.bw_types.specs.History.{History}
use Rattle.bw_types.specs.declared.params.Params.{Params}
use Rattle.bw_types.specs.declared.row.Row.{Row}
use Rattle.csv_rows.specs.Input.{input as input_of}
use Rattle.line_reader.specs.Lines.{lines}
use Rattle.line_reader.specs.declared.lines.Line.{Line}
use Rattle.line_reader.specs.declared.lines.Line.TheVariants.{End}
use Rattle.csv_rows.specs.Machine.{State, step, replies, state_after}
use Rattle.warehouse.specs.declared.house.House.{Ghosts}
use Rattle.row_machine.specs.declared.desk.Desk.{Desk}
use Rattle.row_machine.specs.declared.ending.RunEnd.{RunEnd}
use Rattle.row_machine.specs.declared.ending.Ending.{Ending}
use Rattle.row_machine.specs.declared.ending.Ending.TheVariants.{Fine, DiskFault, Damaged, PageLimit}
use Rattle.row_machine.specs.Housed.{GoesOnFrom, IsHouseEnding, IsVersion, KeepsDevice, MayTake, rows_committed, Settled, SettledBetween, OnlyBetween, version_need}
use Rattle.ports.specs.Written.{WritesPart}
use Rattle.row_machine.specs.Serving.{state_at, Breaks, BreaksOff, Ends, IsBetweenLines, IsFlushed, IsInputEnding, MayServe, NextIsVersion, PutsAllButOne, TakesLines, TakesWhole, line_cost, line_need, lines_cost, next_rows}
use Rattle.csv_rows.specs.declared.reply.Reply.{Reply}
use Rattle.csv_rows.specs.declared.reply.Reply.TheVariants.{Version, Refused, Dropped, Answer, Bad, Full, NoVersion}
use Rattle.row_machine.proofs.Housing.{goes_on_same, keeps_twice, step_goes_on, only_twice, settled_between}
use Rattle.row_machine.proofs.Lined.{first_may}
use Rattle.row_machine.proofs.Replies.{sums_more}
use Rattle.row_machine.proofs.Served.{LineLaws, after_line, lines_split, takes_given, takes_one_more}
use Rattle.std.proofs.lemmas.List.{append-nil}
use Rattle.row_machine.proofs.Reached.{Reached, coming_may, state_is}

-- an accepted commit needs what its batch needs
version_needs : (reply : Option Reply) (n : ℕ) → IsVersion reply → version_need reply n ≡ n
version_needs None n v = absurd v
version_needs (Some (Version version)) n v = refl
version_needs (Some (Refused refusal)) n v = absurd v
version_needs (Some (Dropped session)) n v = absurd v
version_needs (Some (Answer kind version value)) n v = absurd v
version_needs (Some (Bad line)) n v = absurd v
version_needs (Some (Full line)) n v = absurd v
version_needs (Some (NoVersion line)) n v = absurd v

-- what was written of the replies when the run ended, and where the input stood
pub record Written (tells tells' still : Bool) (ending : Ending) (params : Params) (begin : State) (input left : List ℕ) (served : List (List ℕ)) (before written' : List ℕ) : Type 0 where
  pub taken : IsInputEnding ending → IsTrue still → TakesWhole input left served
  pub wrote : IsTrue tells → IsTrue tells' → WritesPart before written' (replies params 1 begin served)
  pub flushed : IsFlushed ending → IsTrue tells → IsTrue tells' → written' ≡ before ++ replies params 1 begin served

-- the next line is an accepted commit, by the state and the number that the lines so far leave
next_version : (params : Params) (after state : State) (n k : ℕ) (line : List ℕ) (come rest : List (List ℕ)) → after ≡ state → n ≡ k → come ≡ line ∷ rest
    → IsVersion (step params n state line).reply → NextIsVersion params k after come
next_version params after state n k line come rest same number coming version =
    subst (λ (ls : List (List ℕ)). NextIsVersion params k after ls) (sym coming)
    (subst (λ (s : State). IsVersion (step params k s line).reply) (sym same)
    (subst (λ (m : ℕ). IsVersion (step params m state line).reply) number version))

module _ {H D : Type 0} (g : Ghosts H D) (laws : LineLaws) (whole tells tells' still : Bool) (params : Params) (h : History) (first now : Desk H D g) (n : ℕ) (input come left : List ℕ) (stopped : Option Line) (before virtual written' : List ℕ) (ran : RunEnd D) where
  -- the run ends between two lines, or in the output
  pub ends_between : (reached : Reached g whole tells params h first now n input come stopped before virtual)
      → ran.device ≡ g.device now.house → (ran.ending ≡ Fine → come ≡ []) → (IsHouseEnding ran.ending → ⊥) → (IsTrue still → (passed : List ℕ) × (come ≡ passed ++ left))
      → Written tells tells' still ran.ending params (state_at g h first) input left (lines reached.served.given) before written'
      → (IsTrue tells → IsTrue tells' → PutsAllButOne params (state_at g h first) (lines reached.served.given) [] before written')
      → Ends g whole tells tells' still params (state_at g h first) input left (g.device first.house) ran before written'
  ends_between r disk fine outside passes written put =
      let begin = state_at g h first in
      let given = lines r.served.given in
      let all : given ≡ given ++ [] = sym (append-nil given) in
      let same : r.state.history ≡ (state_after params 1 begin (given ++ [])).history =
      ap (λ (s : State). s.history) (r.served.state ∙ ap (state_after params 1 begin) all) in
      record {
        served = given;
        begun = [];
        rest = lines come;
        cut = lines_split laws tells params begin r.state n input come stopped before virtual r.served;
        one = omega arith;
        between = λ b. refl;
        fine = λ f. ap lines (fine f);
        taken = written.taken;
        read = λ told. let p = passes told in
            subst (λ (ls : List (List ℕ)). TakesLines input left ls) all (takes_given laws tells params begin r.state n input come left stopped before virtual r.served p.0 p.1);
        wrote = written.wrote;
        put = put;
        flushed = written.flushed;
        sure = r.state.history;
        which = inl (ap (λ (s : State). s.history) r.served.state);
        stands = λ other. subst (λ (d : D). g.stands whole d params r.state.history) (sym disk) r.at.stands;
        undamaged = λ page e. outside (subst (λ (s : Ending). IsHouseEnding s) (sym e) tt);
        page_limit = λ allotted e. absurd (outside (subst (λ (s : Ending). IsHouseEnding s) (sym e) tt));
        reads = λ reading. subst (λ (d : D). g.reads d ≤ g.reads (g.device first.house) + lines_cost g.cost params 1 begin (given ++ [])) (sym disk)
            (subst (λ (ls : List (List ℕ)). g.reads (g.device now.house) ≤ g.reads (g.device first.house) + lines_cost g.cost params 1 begin ls) all (r.reads reading));
        quiet = λ reading. subst (λ (d : D). KeepsDevice g (g.device first.house) d) (sym disk) (r.quiet reading);
        any_moment = λ e. subst (λ (k : History). OnlyBetween g params h k (g.device first.house) ran.device) same
            (subst (λ (d : D). OnlyBetween g params h r.state.history (g.device first.house) d) (sym disk) (r.any_moment e));
        settled = λ e s. subst (λ (k : History). SettledBetween g params r.state.history k ran.device) same
            (subst (λ (d : D). SettledBetween g params r.state.history r.state.history d) (sym disk) (settled_between g params _ _ _ _ (goes_on_same _) (goes_on_same _) (r.settled e s)));
        surely = λ e s other. subst (λ (d : D). Settled g params r.state.history d) (sym disk) (r.settled e s);
      }

  -- the run ends in a line, or in the output after it
  pub ends_within : (ended : RunEnd D) (after_it : List ℕ) (stopped' : Option Line) → (reached : Reached g whole tells params h first now n input come stopped before virtual)
      → (breaks : BreaksOff g whole params n come after_it stopped' reached.state.history now ended)
      → (stopped' ≡ Some End → after_it ≡ []) → (IsTrue still → (passed : List ℕ) × (after_it ≡ passed ++ left))
      → ran.device ≡ ended.device → (ended.ending ≡ DiskFault → ran.ending ≡ DiskFault)
      → (IsBetweenLines ran.ending → ⊥)
      → ((page : ℕ) → ran.ending ≡ Damaged page → ended.ending ≡ Damaged page) → ((allotted : ℕ) → ran.ending ≡ PageLimit allotted → ended.ending ≡ PageLimit allotted)
      → Written tells tells' still ran.ending params (state_at g h first) input left (lines reached.served.given) before written'
      → (IsTrue tells → IsTrue tells' → PutsAllButOne params (state_at g h first) (lines reached.served.given) (breaks.line ∷ []) before written')
      → Ends g whole tells tells' still params (state_at g h first) input left (g.device first.house) ran before written'
  ends_within ended after_it stopped' r b nothing passes disk fault outside damaged limit written put =
      let begin = state_at g h first in
      let given = lines r.served.given in
      let line = b.line in
      let is : state_at g r.state.history now ≡ r.state = state_is g r.state now r.at.staged in
      let breaks : Breaks g whole params r.state.history (step params n r.state line) (rows_committed r.state (input_of params line)) (MayTake false (input_of params line)) (line_cost g.cost params r.state.history line) (g.device now.house) ended =
      subst (λ (s : State). Breaks g whole params r.state.history (step params n s line) (rows_committed s (input_of params line)) (MayTake false (input_of params line)) (line_cost g.cost params r.state.history line) (g.device now.house) ended) is b.breaks in
      let coming : lines come ≡ line ∷ lines after_it = b.takes.all_lines in
      let state : r.state.history ≡ (state_after params 1 begin given).history = ap (λ (s : State). s.history) r.served.state in
      let after : (step params n r.state line).state.history ≡ (state_after params 1 begin (given ++ line ∷ [])).history =
      ap (λ (s : State). s.history) (after_line params begin r.state n given line r.served.number r.served.state) in
      let goes : GoesOnFrom r.state.history (step params n r.state line).state.history = step_goes_on params n r.state line in
      let rows : rows_committed r.state (input_of params line) ≡ next_rows params (state_after params 1 begin given) (line ∷ []) =
      ap (λ (s : State). rows_committed s (input_of params line)) r.served.state in
      let reads_line : MayServe false params (lines input) → MayTake false (input_of params line) =
      λ reading. first_may false params (lines come) line (lines after_it) coming
      (coming_may laws false tells params begin r.state n input come stopped before virtual r.served reading) in
      let reads : MayServe false params (lines input) → g.reads ran.device ≤ g.reads (g.device now.house) + line_cost g.cost params r.state.history line =
      λ reading. subst (λ (d : D). g.reads d ≤ g.reads (g.device now.house) + line_cost g.cost params r.state.history line) (sym disk)
      (breaks.reads (reads_line reading)) in
      record {
        served = given;
        begun = line ∷ [];
        rest = lines after_it;
        cut = lines_split laws tells params begin r.state n input come stopped before virtual r.served ∙ ap (λ (ls : List (List ℕ)). given ++ ls) coming;
        one = omega arith;
        between = λ k. absurd (outside k);
        fine = λ e. absurd (outside (subst (λ (s : Ending). IsBetweenLines s) (sym e) tt));
        taken = written.taken;
        read = λ told. let p = passes told in
            takes_one_more laws tells params begin r.state n input come after_it left stopped stopped' before virtual line r.served b.takes nothing p.0 p.1;
        wrote = written.wrote;
        put = put;
        flushed = written.flushed;
        sure = breaks.sure;
        which = elim breaks.which [ inl e ↦ inl (e ∙ state) | inr e ↦ inr (e ∙ after) ];
        stands = λ other. subst (λ (d : D). g.stands whole d params breaks.sure) (sym disk) (breaks.stands (λ e. other (fault e)));
        undamaged = λ page e. breaks.undamaged page (damaged page e);
        page_limit = λ allotted e.
            let p = breaks.page_limit allotted (limit allotted e) in (
              next_version params (state_after params 1 begin given) r.state n (1 + length given) line (line ∷ []) [] (sym r.served.state) r.served.number refl p.0,
              p.1 ∙ state,
              p.2,
              subst (λ (k : History). g.lacks_pages ran.device params k (next_rows params (state_after params 1 begin given) (line ∷ []))) (sym p.1)
                  (subst (λ (rs : List Row). g.lacks_pages ran.device params r.state.history rs) rows
                  (subst (λ (d : D). g.lacks_pages d params r.state.history (rows_committed r.state (input_of params line))) (sym disk) p.3)),
              λ is_whole.
                  let most = p.4 is_whole in
                  let needs = version_needs (step params n r.state line).reply (g.need params r.state.history (rows_committed r.state (input_of params line))) p.0 in
                  let one : g.charge (g.device now.house) + g.need params r.state.history (rows_committed r.state (input_of params line)) ≤ g.charge (g.device now.house) + line_need g.need params n r.state line = omega (arith, needs) in
                  let up_to = sums_more (line_need g.need params) params begin r.state n given line (g.charge (g.device now.house)) _ (g.charge (g.device first.house)) r.served.number r.served.state (r.charge is_whole) one in
                  omega (arith, most, up_to),
            );
        reads = λ reading. sums_more (λ k t l. line_cost g.cost params t.history l) params begin r.state n given line _ _ _ r.served.number r.served.state (r.reads reading) (reads reading);
        quiet = λ reading. keeps_twice g _ _ _ (r.quiet reading)
            (subst (λ (d : D). KeepsDevice g (g.device now.house) d) (sym disk) (breaks.quiet (reads_line reading)));
        any_moment = λ e. subst (λ (k : History). OnlyBetween g params h k (g.device first.house) ran.device) after
            (subst (λ (d : D). OnlyBetween g params h (step params n r.state line).state.history (g.device first.house) d) (sym disk)
            (only_twice g params _ _ _ _ _ _ r.goes goes (r.any_moment e) (breaks.any_moment e)));
        settled = λ e s. subst (λ (k : History). SettledBetween g params breaks.sure k ran.device) after
            (subst (λ (d : D). SettledBetween g params breaks.sure (step params n r.state line).state.history d) (sym disk) (breaks.settled e (r.settled e s)));
        surely = λ e s other. subst (λ (d : D). Settled g params breaks.sure d) (sym disk) (breaks.surely e (r.settled e s) (λ f. other (fault f)));
      }
