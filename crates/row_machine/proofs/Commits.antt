-- A line that commits, once it is taken off the input.
use Rattle.std.proofs.Common.{◌≡◌, ℕ, Bool, true, false, IsTrue, List, Option, Some, Ok, Err, refl, sym, subst}
use Rattle.bw_types.specs.History.{History}
use Rattle.csv_rows.specs.Input.{input}
use Rattle.csv_rows.specs.Machine.{step}
use Rattle.csv_rows.specs.declared.input.Input.{Input}
use Rattle.csv_rows.specs.declared.input.Input.TheVariants.{Commit}
use Rattle.line_reader.specs.Lines.{lines}
use Rattle.line_reader.specs.declared.lines.Line.{Line}
use Rattle.warehouse.specs.declared.house.House.{Ghosts}
use Rattle.row_machine.specs.declared.desk.Desk.{Desk}
use Rattle.row_machine.specs.declared.ending.RunEnd.{RunEnd}
use Rattle.row_machine.specs.Housed.{MayTake, rows_committed}
use Rattle.row_machine.specs.Serving.{Breaks, BreaksOff, LeavesLine, MayGoOn, MayServe, Serves, ServesLine, ServesText, line_cost, state_at}
use Rattle.row_machine.proofs.Lined.{first_may}

-- a commit may be taken only where the device is whole for it
pub commit_is_whole : (whole : Bool) (session : ℕ) → MayTake whole (Some (Commit session)) → IsTrue whole
commit_is_whole true session may = refl
commit_is_whole false session may = absurd may

module _ {H D : Type 0} (g : Ghosts H D) (n session : ℕ) (before after : List ℕ) (stopped : Option Line) (old new : Desk H D g) (gathered same_gathered gathered' : List ℕ) (is_urgent : Bool)
    (same : new ≡ old) (unsaid : same_gathered ≡ gathered) (left : LeavesLine old.params before after stopped session) where
  spells_commit : input new.params left.line ≡ Some (Commit session)
  spells_commit = subst (λ (d : Desk H D g). input d.params left.line ≡ Some (Commit session)) (sym same) left.spells

  is_whole : (whole : Bool) → MayServe whole old.params (lines before) → IsTrue whole
  is_whole whole may = commit_is_whole whole session
      (subst (λ (i : Option Input). MayTake whole i) left.spells (first_may whole old.params (lines before) left.line (lines after) left.takes.all_lines may))

  stands_new : (whole : Bool) (h : History) → g.stands whole (g.device old.house) old.params h → g.stands whole (g.device new.house) new.params h
  stands_new whole h stands = subst (λ (d : Desk H D g). g.stands whole (g.device d.house) d.params h) (sym same) stands

  pub commit_line : (next : Desk H D g)
      → ((number : ℕ) (line : List ℕ) (whole : Bool) (h : History) → input new.params line ≡ Some (Commit session) → IsTrue whole → g.stands whole (g.device new.house) new.params h
      → ServesText g whole new.params h (step new.params number (state_at g h new) line) (rows_committed (state_at g h new) (input new.params line)) (MayTake false (input new.params line)) (line_cost g.cost new.params h line) (g.device new.house) same_gathered gathered' is_urgent (Ok next))
      → (whole : Bool) (h : History) → MayServe whole old.params (lines before) → g.stands whole (g.device old.house) old.params h
      → ServesLine g whole old.params n before after stopped h old next gathered gathered' is_urgent
  commit_line next serves whole h may stands = record {
    line = left.line;
    takes = left.takes;
    serves = subst (λ (text : List ℕ). Serves g whole old.params h (step old.params n (state_at g h old) left.line) (rows_committed (state_at g h old) (input old.params left.line)) (MayTake false (input old.params left.line)) (line_cost g.cost old.params h left.line) (g.device old.house) next text gathered' is_urgent) unsaid
        (subst (λ (d : Desk H D g). Serves g whole d.params h (step d.params n (state_at g h d) left.line) (rows_committed (state_at g h d) (input d.params left.line)) (MayTake false (input d.params left.line)) (line_cost g.cost d.params h left.line) (g.device d.house) next same_gathered gathered' is_urgent) same
        (serves n left.line whole h spells_commit (is_whole whole may) (stands_new whole h stands)));
  }

  pub commit_breaks : (ran : RunEnd D) → MayGoOn stopped
      → ((number : ℕ) (line : List ℕ) (whole : Bool) (h : History) → input new.params line ≡ Some (Commit session) → IsTrue whole → g.stands whole (g.device new.house) new.params h
      → ServesText g whole new.params h (step new.params number (state_at g h new) line) (rows_committed (state_at g h new) (input new.params line)) (MayTake false (input new.params line)) (line_cost g.cost new.params h line) (g.device new.house) same_gathered gathered' is_urgent (Err ran))
      → (whole : Bool) (h : History) → MayServe whole old.params (lines before) → g.stands whole (g.device old.house) old.params h
      → BreaksOff g whole old.params n before after stopped h old ran
  commit_breaks ran going serves whole h may stands = record {
    line = left.line;
    takes = left.takes;
    goes = going;
    breaks = subst (λ (d : Desk H D g). Breaks g whole d.params h (step d.params n (state_at g h d) left.line) (rows_committed (state_at g h d) (input d.params left.line)) (MayTake false (input d.params left.line)) (line_cost g.cost d.params h left.line) (g.device d.house) ran) same
        (serves n left.line whole h spells_commit (is_whole whole may) (stands_new whole h stands));
  }
