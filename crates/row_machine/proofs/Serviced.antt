-- A line that the machine takes and whose reply is gathered.
use Rattle.std.proofs.Common.{◌≡◌, ℕ, ◌+◌, ◌≤◌, Bool, true, false, arith, inl, inr, List, ◌++◌, Option, None, Some, Result, Ok, Err, OnOk, IfOk, IfErr, refl, sym, ◌∙◌, ap, subst}
use Rattle.std.specs.Prelude.{⊤}
use Rattle.bw_types.specs.History.{History}
use Rattle.bw_types.specs.declared.params.Params.{Params}
use Rattle.bw_types.specs.declared.row.Row.{Row}
use Rattle.csv_rows.specs.Machine.{Step, replied}
use Rattle.csv_rows.specs.declared.reply.Reply.{Reply}
use Rattle.warehouse.specs.declared.house.House.{Ghosts}
use Rattle.row_machine.specs.declared.desk.Desk.{Desk}
use Rattle.row_machine.specs.declared.desk.Taken.{Taken}
use Rattle.row_machine.specs.declared.ending.RunEnd.{RunEnd}
use Rattle.row_machine.specs.declared.ending.Ending.{Ending}
use Rattle.row_machine.specs.declared.ending.Ending.TheVariants.{Fine, ReadFault, WriteFault, NoMemory, InputLimit, DiskFault, Damaged, PageLimit}
use Rattle.row_machine.specs.Housed.{GoesOnFrom, IsAt, IsVersion, KeepsDevice, Went, Stops, StopsFor, Settled, SettledBetween, OnlyBetween, Leaves, version_need}
use Rattle.row_machine.specs.Serving.{Breaks, OnServed, ServesText}
use Rattle.row_machine.proofs.Housing.{goes_on_same, settled_between}

module _ {H D : Type 0} (g : Ghosts H D) (whole : Bool) (params : Params) (h : History) (t : Step) (rows : List Row) (reading : Type 0) (cost : ℕ) (before : D) where
  -- the step was made, and its reply is gathered, or there was no memory for it
  pub text_served : (taken : Taken H D g) (gathered gathered' : List ℕ) (was is_urgent : Bool) (result : Result (Desk H D g) (RunEnd D))
      → Went g whole params t (Ok taken) → (whole ≡ true → Leaves g params h t.state.history before (Ok taken)) → GoesOnFrom h t.state.history
      → (reading → g.reads (g.device taken.desk.house) ≤ g.reads before + cost) → (reading → KeepsDevice g before (g.device taken.desk.house))
      → (whole ≡ true → g.charge (g.device taken.desk.house) ≤ g.charge before + version_need t.reply (g.need params h rows))
      → IfOk result (λ new. new ≡ taken.desk)
      → OnOk result (gathered' ≡ gathered ++ replied taken.reply)
      → OnOk result (is_urgent ≡ false → (was ≡ false) × (IsVersion taken.reply → ⊥))
      → IfErr result (λ ran. (ran.device ≡ g.device taken.desk.house) × (ran.ending ≡ NoMemory))
      → ServesText g whole params h t rows reading cost before gathered gathered' is_urgent result
  text_served taken gathered gathered' was is_urgent (Ok desk) went leaves goes reads quiet charge same gathers urges ended = record {
    at = subst (λ (d : Desk H D g). IsAt g whole params t.state d) (sym same) went.0;
    replies = gathers ∙ ap (λ r. gathered ++ replied r) went.1;
    urgent = λ calm. subst (λ (r : Option Reply). IsVersion r → ⊥) went.1 (urges calm).1;
    charge = λ e. subst (λ (d : Desk H D g). g.charge (g.device d.house) ≤ g.charge before + version_need t.reply (g.need params h rows)) (sym same) (charge e);
    reads = λ r. subst (λ (d : Desk H D g). g.reads (g.device d.house) ≤ g.reads before + cost) (sym same) (reads r);
    quiet = λ r. subst (λ (d : Desk H D g). KeepsDevice g before (g.device d.house)) (sym same) (quiet r);
    any_moment = λ e. subst (λ (d : Desk H D g). OnlyBetween g params h t.state.history before (g.device d.house)) (sym same) (leaves e).any_moment;
    settled = λ e s. subst (λ (d : Desk H D g). Settled g params t.state.history (g.device d.house)) (sym same) ((leaves e).settled s);
  }
  text_served taken gathered gathered' was is_urgent (Err ran) went leaves goes reads quiet charge same gathers urges ended = record {
    sure = t.state.history;
    which = inr refl;
    stands = λ other. subst (λ (d : D). g.stands whole d params t.state.history) (sym ended.0) went.0.stands;
    undamaged = λ page e. let no : NoMemory ≡ Damaged page = sym ended.1 ∙ e in cc;
    page_limit = λ n e. absurd (let no : NoMemory ≡ PageLimit n = sym ended.1 ∙ e in cc);
    reads = λ r. subst (λ (d : D). g.reads d ≤ g.reads before + cost) (sym ended.0) (reads r);
    quiet = λ r. subst (λ (d : D). KeepsDevice g before d) (sym ended.0) (quiet r);
    any_moment = λ e. subst (λ (d : D). OnlyBetween g params h t.state.history before d) (sym ended.0) (leaves e).any_moment;
    settled = λ e s. subst (λ (d : D). SettledBetween g params t.state.history t.state.history d) (sym ended.0)
        (settled_between g params t.state.history t.state.history t.state.history _ (goes_on_same t.state.history) (goes_on_same t.state.history) ((leaves e).settled s));
    surely = λ e s other. subst (λ (d : D). Settled g params t.state.history d) (sym ended.0) ((leaves e).settled s);
  }

  -- the same of a desk that stays where it is
  pub done_served : (desk : Desk H D g) (reply : Option Reply) (gathered gathered' : List ℕ) (was is_urgent : Bool) (result : Result (Option ℕ) Ending)
      → Went g whole params t (Ok (record { desk = desk; reply = reply })) → (whole ≡ true → Leaves g params h t.state.history before (Ok (record { desk = desk; reply = reply }))) → GoesOnFrom h t.state.history
      → (reading → g.reads (g.device desk.house) ≤ g.reads before + cost) → (reading → KeepsDevice g before (g.device desk.house))
      → (whole ≡ true → g.charge (g.device desk.house) ≤ g.charge before + version_need t.reply (g.need params h rows))
      → OnOk result (gathered' ≡ gathered ++ replied reply)
      → OnOk result (is_urgent ≡ false → (was ≡ false) × (IsVersion reply → ⊥))
      → IfErr result (λ ending. ending ≡ NoMemory)
      → OnServed g (ServesText g whole params h t rows reading cost before gathered gathered' is_urgent) (λ session. ⊤) desk result
  done_served desk reply gathered gathered' was is_urgent (Ok None) went leaves goes reads quiet charge gathers urges ended =
      text_served (record { desk = desk; reply = reply }) gathered gathered' was is_urgent (Ok desk) went leaves goes reads quiet charge refl gathers urges tt
  done_served desk reply gathered gathered' was is_urgent (Ok (Some session)) went leaves goes reads quiet charge gathers urges ended = tt
  done_served desk reply gathered gathered' was is_urgent (Err ending) went leaves goes reads quiet charge gathers urges ended =
      text_served (record { desk = desk; reply = reply }) gathered gathered' was is_urgent (Err (record { ending = ending; device = g.device desk.house })) went leaves goes reads quiet charge tt tt tt (refl, ended)

  -- where the run ends in the step itself, the history of before is there, unless the device failed
  still_stands : (ending : Ending) (d : D) → StopsFor g whole params h t rows ending d → (ending ≡ DiskFault → ⊥) → g.stands whole d params h
  still_stands Fine d stops other = absurd stops
  still_stands ReadFault d stops other = absurd stops
  still_stands WriteFault d stops other = absurd stops
  still_stands (InputLimit taken) d stops other = absurd stops
  still_stands (Damaged page) d stops other = absurd stops
  still_stands NoMemory d stops other = stops
  still_stands (PageLimit allotted) d stops other = stops.0
  still_stands DiskFault d stops other = absurd (other refl)

  -- the run ended in the step
  pub step_broke : (ran : RunEnd D) → Stops g whole params h t rows (Err ran) → (whole ≡ true → Leaves g params h t.state.history before (Err ran)) → GoesOnFrom h t.state.history
      → (reading → g.reads ran.device ≤ g.reads before + cost) → (reading → KeepsDevice g before ran.device) → (whole ≡ true → (ran.ending ≡ DiskFault → ⊥) → g.charge ran.device ≡ g.charge before)
      → Breaks g whole params h t rows reading cost before ran
  step_broke ran stops leaves goes reads quiet charge = record {
    sure = h;
    which = inl refl;
    stands = still_stands ran.ending ran.device stops;
    undamaged = λ page e. subst (λ (s : Ending). StopsFor g whole params h t rows s ran.device) e stops;
    page_limit = λ n e.
        let s = subst (λ (s : Ending). StopsFor g whole params h t rows s ran.device) e stops in (
          s.1,
          refl,
          s.2,
          s.3,
          λ whole.
              let same = charge whole (λ f. let no : PageLimit n ≡ DiskFault = sym e ∙ f in cc) in
              let most = s.4 in
              omega arith,
        );
    reads = reads;
    quiet = quiet;
    any_moment = λ e. (leaves e).any_moment;
    settled = λ e. (leaves e).lost;
    surely = λ e. (leaves e).kept;
  }

-- what follows of a line that is served, or in which the run ends
pub on_served : {H D : Type 0} (g : Ghosts H D) (P Q : Result (Desk H D g) (RunEnd D) → Type 0) (desk : Desk H D g) (result : Result (Option ℕ) Ending)
    → ((served : Result (Desk H D g) (RunEnd D)) → P served → Q served) → OnServed g P (λ session. ⊤) desk result → OnServed g Q (λ session. ⊤) desk result
on_served g P Q desk (Ok None) f served = f (Ok desk) served
on_served g P Q desk (Ok (Some session)) f served = tt
on_served g P Q desk (Err ending) f served = f (Err (record { ending = ending; device = g.device desk.house })) served
