-- A tree that takes a point, and the pages that this gives out.
use Rattle.std.proofs.Common.{ℕ, ◌+◌, Result, Ok, Err, arith}
use Rattle.std.specs.Prelude.{OnOk}
use Rattle.ports.specs.Calls.{Changes, Grows}
use Rattle.ports.specs.declared.page.StageFault.{StageFault}
use Rattle.ports.specs.declared.pages.Pages.{Ghosts}

-- Of three things that hold where a call was done follows a fourth.
pub all_three : {A B C D : Type 0} (r : Result (Unit {0}) StageFault) → OnOk r A → OnOk r B → OnOk r C → (A → B → C → D) → OnOk r D
all_three (Ok x) a b c f = f a b c
all_three (Err e) a b c f = tt

-- A call that takes no page out of the map is a change.
pub changes_of_grows : {P T : Type 0} (g : Ghosts P) (most : ℕ) (old new : P) (r : Result T StageFault) → Grows g most old new r → Changes g most old new r
changes_of_grows g most old new r h = record { went_on = h.went_on; disk = h.disk; page_limit = h.page_limit }

-- A call gives out no more page numbers than are given out in the end.
pub changes_of_itself : {P T : Type 0} (g : Ghosts P) (most : ℕ) (old new : P) (r : Result T StageFault) → Grows g most old new r → Changes g (g.allotted new + 1) old new r
changes_of_itself g most old new r h = let w = h.went_on in record {
  went_on = record {
    tells = w.tells;
    base = w.base;
    limit = w.limit;
    free_in_order = w.free_in_order;
    none_forgotten = w.none_forgotten;
    allotted = w.allotted;
    at_most = omega arith;
    gets = w.gets;
    faults = w.faults;
  };
  disk = h.disk;
  page_limit = λ n e. let limit = h.page_limit n e in let told = limit.1 in (limit.0, told, omega (arith, told));
}
