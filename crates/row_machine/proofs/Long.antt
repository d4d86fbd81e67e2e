-- A line that is longer than a line may be.
use Rattle.std.proofs.Common.{◌≡◌, ℕ, ◌<◌, Bool, true, false, nat_le, List, [], ◌++◌, length, Option, None, Some, Result, OnOk, IfErr, refl, sym, ap, subst, arith}
use Rattle.std.specs.Prelude.{⊤}
use Rattle.std.proofs.lemmas.Bool.{lt-leb}
use Rattle.bw_types.specs.declared.params.Params.{Params}
use Rattle.csv_rows.specs.Input.{input, longest_line}
use Rattle.bw_types.specs.History.{History}
use Rattle.bw_types.specs.declared.row.Row.{Row}
use Rattle.csv_rows.specs.Machine.{State, Step, step, line_step, replied}
use Rattle.csv_rows.specs.declared.reply.Reply.TheVariants.{Bad}
use Rattle.warehouse.specs.declared.house.House.{Ghosts}
use Rattle.row_machine.specs.declared.desk.Desk.{Desk}
use Rattle.row_machine.specs.declared.ending.Ending.{Ending}
use Rattle.row_machine.specs.declared.ending.Ending.TheVariants.{NoMemory}
use Rattle.row_machine.specs.Housed.{IsVersion, MayTake, rows_committed}
use Rattle.row_machine.specs.Serving.{LastsBeyond, OnServed, ServesText, line_cost, state_at}
use Rattle.row_machine.proofs.Housing.{goes_on_same, keeps_device, leaves_same}
use Rattle.row_machine.proofs.Lasting.{text_lasts}
use Rattle.row_machine.proofs.Serviced.{done_served, on_served}

-- it spells nothing
long_input : (params : Params) (line : List ℕ) → longest_line < length line → input params line ≡ None
long_input params line long =
    let small : nat_le (length line) longest_line ≡ false = lt-leb (length line) longest_line long in
    rw small refl

pub long_step : (params : Params) (n : ℕ) (s : State) (line : List ℕ) → longest_line < length line → step params n s line ≡ record { state = s; reply = Some (Bad n) }
long_step params n s line long = ap (line_step params n s) (long_input params line long)

module _ {H D : Type 0} (g : Ghosts H D) (n : ℕ) (desk : Desk H D g) (gathered gathered' : List ℕ) (was is_urgent : Bool) (result : Result (Option ℕ) Ending)
    (gathers : OnOk result (gathered' ≡ gathered ++ replied (Some (Bad n))))
    (urges : OnOk result (is_urgent ≡ false → (was ≡ false) × (IsVersion (Some (Bad n)) → ⊥))) (ended : IfErr result (λ ending. ending ≡ NoMemory)) where
  -- a line that is bad changes nothing
  bad_served : (whole : Bool) (h : History) (rows : List Row) (reading : Type 0) (cost : ℕ) → g.stands whole (g.device desk.house) desk.params h
      → OnServed g (ServesText g whole desk.params h (record { state = state_at g h desk; reply = Some (Bad n) }) rows reading cost (g.device desk.house) gathered gathered' is_urgent) (λ session. ⊤) desk result
  bad_served whole h rows reading cost stands =
      done_served g whole desk.params h (record { state = state_at g h desk; reply = Some (Bad n) }) rows reading cost (g.device desk.house) desk (Some (Bad n)) gathered gathered' was is_urgent result
      (record { stands = stands; staged = refl }, refl)
      (λ e. leaves_same g desk.params h h _ _ refl refl) (goes_on_same h) (λ r. omega arith) (λ r. keeps_device g (g.device desk.house)) (λ e. omega arith) gathers urges ended

  pub long_served : (whole : Bool) (h : History) (line : List ℕ) → longest_line < length line → g.stands whole (g.device desk.house) desk.params h
      → OnServed g (ServesText g whole desk.params h (step desk.params n (state_at g h desk) line) (rows_committed (state_at g h desk) (input desk.params line)) (MayTake false (input desk.params line)) (line_cost g.cost desk.params h line) (g.device desk.house) gathered gathered' is_urgent) (λ session. ⊤) desk result
  long_served whole h line long stands =
      subst (λ (t : Step). OnServed g (ServesText g whole desk.params h t (rows_committed (state_at g h desk) (input desk.params line)) (MayTake false (input desk.params line)) (line_cost g.cost desk.params h line) (g.device desk.house) gathered gathered' is_urgent) (λ session. ⊤) desk result)
      (sym (long_step desk.params n (state_at g h desk) line long))
      (bad_served whole h _ _ _ stands)

  pub bad_lasts : (h : History) → g.stands true (g.device desk.house) desk.params h
      → OnServed g (LastsBeyond g desk.params h (g.device desk.house)) (λ session. ⊤) desk result
  bad_lasts h stands =
      on_served g (ServesText g true desk.params h (record { state = state_at g h desk; reply = Some (Bad n) }) [] ⊤ 0 (g.device desk.house) gathered gathered' is_urgent) _ desk result
      (λ served. text_lasts g desk.params h _ _ _ _ _ _ _ _ served (goes_on_same h))
      (bad_served true h [] ⊤ 0 stands)
