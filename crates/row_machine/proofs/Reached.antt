-- How far a run has come between two lines.
use Rattle.std.proofs.Common.{◌≡◌, ℕ, ◌+◌, ◌≤◌, Bool, true, false, List, [], ◌∷◌, ◌++◌, length, Option, None, Some, refl, sym, ◌∙◌, ap, subst, append_assoc, arith}
use Rattle.bw_types.specs.History.{History}
use Rattle.bw_types.specs.declared.params.Params.{Params}
use Rattle.csv_rows.specs.Input.{input as input_of}
use Rattle.line_reader.specs.Lines.{lines}
use Rattle.line_reader.specs.declared.lines.Line.{Line}
use Rattle.line_reader.specs.declared.lines.Line.TheVariants.{End}
use Rattle.csv_rows.specs.Machine.{State, step, replied, state_after}
use Rattle.warehouse.specs.declared.house.House.{Ghosts}
use Rattle.row_machine.specs.declared.desk.Desk.{Desk}
use Rattle.row_machine.specs.Housed.{GoesOnFrom, IsAt, IsVersion, KeepsDevice, MayTake, Settled, OnlyBetween, rows_committed}
use Rattle.row_machine.specs.Serving.{state_at, Serves, ServesLine, MayServe, line_cost, line_need, lines_cost, lines_need}
use Rattle.row_machine.proofs.Replies.{state_after-append, sums_more, MayServe-later}
use Rattle.row_machine.proofs.Lined.{first_may}
use Rattle.row_machine.proofs.Housing.{goes_on_same, goes_on_twice, keeps_device, keeps_twice, step_goes_on, only_same, only_twice}
use Rattle.row_machine.proofs.Served.{Served, OneLine, LineLaws, served_nothing, served_line, lines_split}

-- the lines to come may be served where all lines may
pub coming_may : (laws : LineLaws) (whole tells : Bool) (params : Params) (first now : State) (n : ℕ) (input come : List ℕ) (stopped : Option Line) (before written : List ℕ)
    → Served tells params first now n input come stopped before written → MayServe whole params (lines input) → MayServe whole params (lines come)
coming_may laws whole tells params first now n input come stopped before written served may =
    MayServe-later whole params (lines served.given) (lines come)
    (subst (λ (ls : List (List ℕ)). MayServe whole params ls) (lines_split laws tells params first now n input come stopped before written served) may)

module _ {H D : Type 0} (g : Ghosts H D) where
  -- From the history h of the first desk some lines were served, which left the desk now. The replies to them are those
  -- that were written and those that are gathered.
  pub record Reached (whole tells : Bool) (params : Params) (h : History) (first now : Desk H D g) (n : ℕ) (input come : List ℕ) (stopped : Option Line) (before replied_so_far : List ℕ) : Type 0 where
    pub state : State
    pub at : IsAt g whole params state now
    pub served : Served tells params (state_at g h first) state n input come stopped before replied_so_far
    pub goes : GoesOnFrom h state.history
    pub reads : MayServe false params (lines input) → g.reads (g.device now.house) ≤ g.reads (g.device first.house) + lines_cost g.cost params 1 (state_at g h first) (lines served.given)
    pub quiet : MayServe false params (lines input) → KeepsDevice g (g.device first.house) (g.device now.house)
    pub charge : whole ≡ true → g.charge (g.device now.house) ≤ g.charge (g.device first.house) + lines_need g.need params 1 (state_at g h first) (lines served.given)
    pub any_moment : whole ≡ true → OnlyBetween g params h state.history (g.device first.house) (g.device now.house)
    pub settled : whole ≡ true → Settled g params h (g.device first.house) → Settled g params state.history (g.device now.house)

  abbrev pub reached_nothing : (whole tells : Bool) (params : Params) (h : History) (first : Desk H D g) (input before : List ℕ) → g.stands whole (g.device first.house) params h
      → Reached whole tells params h first first 1 input input None before before
  reached_nothing whole tells params h first input before stands = record {
    state = state_at g h first;
    at = record { stands = stands; staged = refl };
    served = served_nothing tells params (state_at g h first) input before;
    goes = goes_on_same h;
    reads = λ reading. omega arith;
    quiet = λ reading. keeps_device g (g.device first.house);
    charge = λ e. omega arith;
    any_moment = λ e. only_same g params h h _ _ refl;
    settled = λ e s. s;
  }

  -- the desk's state is what the machine has
  pub state_is : (state : State) (desk : Desk H D g) → desk.sessions ≡ state.staged → state_at g state.history desk ≡ state
  state_is state desk e = ap (λ (st : _). let s : State = record { history = state.history; staged = st } in s) e

  -- one line more
  pub reached_line : (laws : LineLaws) (whole tells : Bool) (params : Params) (h : History) (first now new : Desk H D g) (n : ℕ) (input come come' : List ℕ) (stopped stopped' : Option Line) (before written gathered gathered' : List ℕ) (is_urgent : Bool)
      → (reached : Reached whole tells params h first now n input come stopped before (written ++ gathered))
      → (stopped' ≡ Some End → come' ≡ [])
      → ServesLine g whole params n come come' stopped' reached.state.history now new gathered gathered' is_urgent
      → (later : Reached whole tells params h first new (n + 1) input come' stopped' before (written ++ gathered'))
      × (line : List ℕ) × (lines later.served.given ≡ lines reached.served.given ++ line ∷ [])
      × (is_urgent ≡ false → IsVersion (step params n reached.state line).reply → ⊥)
  reached_line laws whole tells params h first now new n input come come' stopped stopped' before written gathered gathered' is_urgent r nothing l =
      let line = l.line in
      let same : state_at g r.state.history now ≡ r.state = state_is r.state now r.at.staged in
      let serves : Serves g whole params r.state.history (step params n r.state line) (rows_committed r.state (input_of params line)) (MayTake false (input_of params line)) (line_cost g.cost params r.state.history line) (g.device now.house) new gathered gathered' is_urgent =
      subst (λ (s : State). Serves g whole params r.state.history (step params n s line) (rows_committed s (input_of params line)) (MayTake false (input_of params line)) (line_cost g.cost params r.state.history line) (g.device now.house) new gathered gathered' is_urgent) same l.serves in
      let goes : GoesOnFrom r.state.history (step params n r.state line).state.history = step_goes_on params n r.state line in
      let one : OneLine tells params n come come' stopped' r.state (step params n r.state line).state (written ++ gathered) (written ++ gathered') =
      record {
        line = line;
        takes = l.takes;
        state = refl;
        wrote = λ t. ap (λ (b : List ℕ). written ++ b) serves.replies ∙ sym (append_assoc written gathered (replied (step params n r.state line).reply));
      } in
      let reads_line : MayServe false params (lines input) → MayTake false (input_of params line) =
      λ reading. first_may false params (lines come) line (lines come') l.takes.all_lines
      (coming_may laws false tells params (state_at g h first) r.state n input come stopped before (written ++ gathered) r.served reading) in
      let served = served_line laws tells params (state_at g h first) r.state (step params n r.state line).state n input come come' stopped stopped' before
      (written ++ gathered) (written ++ gathered') r.served nothing one in (
        record {
          state = (step params n r.state line).state;
          at = serves.at;
          served = served.0;
          goes = goes_on_twice _ _ _ r.goes goes;
          reads = λ reading. subst (λ (ls : List (List ℕ)). g.reads (g.device new.house) ≤ g.reads (g.device first.house) + lines_cost g.cost params 1 (state_at g h first) ls) (sym served.1)
              (sums_more (λ k t l. line_cost g.cost params t.history l) params (state_at g h first) r.state n (lines r.served.given) line _ _ _ r.served.number r.served.state (r.reads reading)
              (serves.reads (reads_line reading)));
          quiet = λ reading. keeps_twice g _ _ _ (r.quiet reading) (serves.quiet (reads_line reading));
          charge = λ e. subst (λ (ls : List (List ℕ)). g.charge (g.device new.house) ≤ g.charge (g.device first.house) + lines_need g.need params 1 (state_at g h first) ls) (sym served.1)
              (sums_more (line_need g.need params) params (state_at g h first) r.state n (lines r.served.given) line _ _ _ r.served.number r.served.state (r.charge e) (serves.charge e));
          any_moment = λ e. only_twice g params _ _ _ _ _ _ r.goes goes (r.any_moment e) (serves.any_moment e);
          settled = λ e s. serves.settled e (r.settled e s);
        },
        line,
        served.1,
        serves.urgent,
      )

  -- the history after all lines goes on from that of now
  pub to_all : (laws : LineLaws) (tells : Bool) (params : Params) (first now : State) (n : ℕ) (input come : List ℕ) (stopped : Option Line) (before written : List ℕ) → (served : Served tells params first now n input come stopped before written)
      → (state_after params 1 first (lines input)) ≡ state_after params (1 + length (lines served.given)) now (lines come)
  to_all laws tells params first now n input come stopped before written served =
      ap (state_after params 1 first) (lines_split laws tells params first now n input come stopped before written served)
      ∙ (state_after-append params 1 first (lines served.given) (lines come)
      ∙ ap (λ (s : State). state_after params (1 + length (lines served.given)) s (lines come)) (sym served.state))
