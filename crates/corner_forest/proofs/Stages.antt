-- Calls on a stage, one after another.
use Rattle.std.proofs.Common.{◌≡◌, ℕ, ◌+◌, ◌≤◌, IsTrue, Result, Ok, Err, sym, ◌∙◌, subst, arith}
use Rattle.ports.specs.Count.{Rose}
use Rattle.ports.specs.Calls.{Changes, WentOn}
use Rattle.ports.specs.declared.page.StageFault.{StageFault}
use Rattle.ports.specs.declared.page.StageFault.TheVariants.{Disk, NoMemory, PageLimit}
use Rattle.ports.specs.declared.pages.Pages.{Ghosts}
use Rattle.corner_forest.proofs.Exits.{exit_error}

pub went_then : {P : Type 0} (g : Ghosts P) (a b c : ℕ) (old mid new : P) → WentOn g a old mid → WentOn g b mid new → g.allotted new ≤ g.allotted old + c → WentOn g c old new
went_then g a b c old mid new f h most = record {
  tells = h.tells ∙ f.tells;
  base = h.base ∙ f.base;
  limit = h.limit ∙ f.limit;
  free_in_order = λ told order. h.free_in_order (subst IsTrue (sym f.tells) told) (f.free_in_order told order);
  none_forgotten = λ told order page gone. f.none_forgotten told order page (h.none_forgotten (subst IsTrue (sym f.tells) told) (f.free_in_order told order) page gone);
  allotted = let x = f.allotted in let y = h.allotted in omega (arith, x, y);
  at_most = most;
  gets = let x = f.gets in let y = h.gets in omega (arith, x, y);
  faults = let x = f.faults in let y = h.faults in omega (arith, x, y);
}

rose_earlier : (a b c : ℕ) → a ≤ b → Rose b c → Rose a c
rose_earlier a b c le h = omega (arith, le, h)

-- a change after others, as one change that gives out at most so many
pub changes_then : {P T : Type 0} (g : Ghosts P) (a b c : ℕ) (old mid new : P) (r : Result T StageFault) → WentOn g a old mid → Changes g b mid new r → a + b ≤ c → Changes g c old new r
changes_then g a b c old mid new r f h le =
    let x = f.at_most in
    let y = h.went_on.at_most in
    record {
      went_on = went_then g a b c old mid new f h.went_on (omega (arith, x, y, le));
      disk = λ e. rose_earlier (g.faults old) (g.faults mid) (g.faults new) f.faults (h.disk e);
      page_limit = λ n e. let limit = h.page_limit n e in let third = limit.2 in (limit.0 ∙ f.limit, limit.1, omega (arith, x, le, third));
    }

-- the refusal of the last call is the refusal of all
pub refused : {P T U : Type 0} (g : Ghosts P) (most : ℕ) (old new : P) (q : Result U StageFault) (fault : StageFault)
    → ((y : StageFault) × (q ≡ Err y) × (y ≡ fault)) → Changes {T = T} g most old new (Err fault) → Changes g most old new q
refused {P} {T} g most old new q fault told changes = record {
  went_on = changes.went_on;
  disk = λ e. let same = exit_error q fault Disk told e in let asked : ◌≡◌ {A = Result T StageFault} (Err fault) (Err Disk) = cc in changes.disk asked;
  page_limit = λ n e. let same = exit_error q fault (PageLimit n) told e in let asked : ◌≡◌ {A = Result T StageFault} (Err fault) (Err (PageLimit n)) = cc in changes.page_limit n asked;
}

pub changes_end : {P T : Type 0} (g : Ghosts P) (most : ℕ) (old new : P) (value : T) → WentOn g most old new → Changes g most old new (Ok value)
changes_end g most old new value went = record {
  went_on = went;
  disk = λ e. cc;
  page_limit = λ n e. cc;
}

-- fewer are no more than many
went_within : {P : Type 0} (g : Ghosts P) (a c : ℕ) (old now : P) → a ≤ c → WentOn g a old now → WentOn g c old now
went_within g a c old now le w = record {
  tells = w.tells;
  base = w.base;
  limit = w.limit;
  free_in_order = w.free_in_order;
  none_forgotten = w.none_forgotten;
  allotted = w.allotted;
  at_most = let m = w.at_most in omega (arith, m, le);
  gets = w.gets;
  faults = w.faults;
}

-- where memory is wanting, no more is given out
pub no_memory : {P T U : Type 0} (g : Ghosts P) (a c : ℕ) (old now : P) (q : Result U StageFault) (fault : StageFault)
    → ((y : StageFault) × (q ≡ Err y) × (y ≡ fault)) → ◌≡◌ {A = Result T StageFault} (Err fault) (Err NoMemory) → WentOn g a old now → a ≤ c → Changes g c old now q
no_memory {P} {T} g a c old now q fault told memory went le = record {
  went_on = went_within g a c old now le went;
  disk = λ e. let same = exit_error q fault Disk told e in absurd cc;
  page_limit = λ n e. let same = exit_error q fault (PageLimit n) told e in absurd cc;
}
