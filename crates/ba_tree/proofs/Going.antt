-- Calls on a stage, one after another.
use Rattle.std.proofs.Common.{◌≡◌, ℕ, ◌+◌, ◌≤◌, IsTrue, Result, Err, sym, subst, ◌∙◌, ap, arith}
use Rattle.ports.specs.Count.{Rose}
use Rattle.ports.specs.Calls.{Changes, Grows, WasRead, WentOn}
use Rattle.ports.specs.Frame.{names_page}
use Rattle.ports.specs.declared.page.StageFault.{StageFault}
use Rattle.ports.specs.declared.page.StageFault.TheVariants.{Damaged, Disk, PageLimit}
use Rattle.ports.specs.declared.pages.Pages.{Ghosts}
use Rattle.ba_tree.specs.Going.{GoesWell}

rose_earlier : (a b c : ℕ) → a ≤ b → Rose b c → Rose a c
rose_earlier a b c le h = omega (arith, le, h)

pub changes_of : {P T : Type 0} (g : Ghosts P) (most : ℕ) (old new : P) (r : Result T StageFault) → Grows g most old new r → Changes g most old new r
changes_of g most old new r h = record { went_on = h.went_on; disk = h.disk; page_limit = h.page_limit }

-- a stage that was only read
pub read_on : {P : Type 0} (g : Ghosts P) (most : ℕ) (old new : P) → WasRead g most old new → WentOn g 0 old new
read_on g most old new r = record {
  tells = r.tells;
  base = r.base;
  limit = r.limit;
  free_in_order = λ told order. r.free_in_order order;
  none_forgotten = λ told order page gone. record {
    from_three = gone.from_three;
    given_out = let a = r.allotted in let b = gone.given_out in omega (arith, a, b);
    gone = sym (ap (λ (m : ℕ → _). m page) r.map) ∙ gone.gone;
    unchained = sym (ap (λ (c : _). names_page c page) r.chain) ∙ gone.unchained;
  };
  allotted = let a = r.allotted in omega (arith, a);
  at_most = let a = r.allotted in omega (arith, a);
  gets = r.gets;
  faults = r.faults;
}

pub went_then : {P : Type 0} (g : Ghosts P) (a b c : ℕ) (old mid new : P) → WentOn g a old mid → WentOn g b mid new → a + b ≤ c → WentOn g c old new
went_then g a b c old mid new f h le = record {
  tells = h.tells ∙ f.tells;
  base = h.base ∙ f.base;
  limit = h.limit ∙ f.limit;
  free_in_order = λ told order. h.free_in_order (subst IsTrue (sym f.tells) told) (f.free_in_order told order);
  none_forgotten = λ told order page gone. f.none_forgotten told order page (h.none_forgotten (subst IsTrue (sym f.tells) told) (f.free_in_order told order) page gone);
  allotted = let x = f.allotted in let y = h.allotted in omega (arith, x, y);
  at_most = let x = f.at_most in let y = h.at_most in omega (arith, x, y, le);
  gets = let x = f.gets in let y = h.gets in omega (arith, x, y);
  faults = let x = f.faults in let y = h.faults in omega (arith, x, y);
}

-- however many page numbers are given out
pub went_freely : {P : Type 0} (g : Ghosts P) (a b : ℕ) (old mid new : P) → WentOn g a old mid → WentOn g b mid new → WentOn g (g.allotted new + 1) old new
went_freely g a b old mid new f h = record {
  tells = h.tells ∙ f.tells;
  base = h.base ∙ f.base;
  limit = h.limit ∙ f.limit;
  free_in_order = λ told order. h.free_in_order (subst IsTrue (sym f.tells) told) (f.free_in_order told order);
  none_forgotten = λ told order page gone. f.none_forgotten told order page (h.none_forgotten (subst IsTrue (sym f.tells) told) (f.free_in_order told order) page gone);
  allotted = let x = f.allotted in let y = h.allotted in omega (arith, x, y);
  at_most = omega arith;
  gets = let x = f.gets in let y = h.gets in omega (arith, x, y);
  faults = let x = f.faults in let y = h.faults in omega (arith, x, y);
}

pub went_more : {P : Type 0} (g : Ghosts P) (a c : ℕ) (old new : P) → WentOn g a old new → a ≤ c → WentOn g c old new
went_more g a c old new f le = record {
  tells = f.tells;
  base = f.base;
  limit = f.limit;
  free_in_order = f.free_in_order;
  none_forgotten = f.none_forgotten;
  allotted = f.allotted;
  at_most = let x = f.at_most in omega (arith, x, le);
  gets = f.gets;
  faults = f.faults;
}

-- A call after others, whose refusal is handed on.
pub changes_then : {P T U : Type 0} (g : Ghosts P) (a b c : ℕ) (old mid new : P) (r : Result T StageFault) (q : Result U StageFault) → WentOn g a old mid → Changes g b mid new r
    → a + b ≤ c → ((f : StageFault) → q ≡ Err f → r ≡ Err f) → Changes g c old new q
changes_then g a b c old mid new r q first call le back = record {
  went_on = went_then g a b c old mid new first call.went_on le;
  disk = λ e. rose_earlier (g.faults old) (g.faults mid) (g.faults new) first.faults (call.disk (back Disk e));
  page_limit = λ n e. let limit = call.page_limit n (back (PageLimit n) e) in let x = first.at_most in let third = limit.2 in (limit.0 ∙ first.limit, limit.1, omega (arith, x, le, third));
}

pub changes_freely : {P T U : Type 0} (g : Ghosts P) (a b : ℕ) (old mid new : P) (r : Result T StageFault) (q : Result U StageFault) → WentOn g a old mid → Changes g b mid new r
    → ((f : StageFault) → q ≡ Err f → r ≡ Err f) → Changes g (g.allotted new + 1) old new q
changes_freely g a b old mid new r q first call back = record {
  went_on = went_freely g a b old mid new first call.went_on;
  disk = λ e. rose_earlier (g.faults old) (g.faults mid) (g.faults new) first.faults (call.disk (back Disk e));
  page_limit = λ n e. let limit = call.page_limit n (back (PageLimit n) e) in let there = limit.1 in (limit.0 ∙ first.limit, limit.1, omega (arith, there));
}

-- where nothing is refused, or for another cause
pub changes_done : {P T : Type 0} (g : Ghosts P) (c : ℕ) (old new : P) (q : Result T StageFault) → WentOn g c old new → (q ≡ Err Disk → ⊥) → ((n : ℕ) → q ≡ Err (PageLimit n) → ⊥) → Changes g c old new q
changes_done g c old new q went no_disk no_limit = record { went_on = went; disk = λ e. absurd (no_disk e); page_limit = λ n e. absurd (no_limit n e) }

-- ---- calls that go well

pub well_then : {P T U : Type 0} (g : Ghosts P) (a b c : ℕ) (old mid new : P) (r : Result T StageFault) (q : Result U StageFault) → IsTrue (g.tells old) → WentOn g a old mid
    → GoesWell g b mid new r → a + b ≤ c → ((f : StageFault) → q ≡ Err f → r ≡ Err f) → GoesWell g c old new q
well_then g a b c old mid new r q told first call le back = record {
  changes = changes_then g a b c old mid new r q first call.changes le back;
  sound = λ order page e. call.sound (first.free_in_order told order) page (back (Damaged page) e);
}

pub well_done : {P T : Type 0} (g : Ghosts P) (c : ℕ) (old new : P) (q : Result T StageFault) → WentOn g c old new → (q ≡ Err Disk → ⊥) → ((n : ℕ) → q ≡ Err (PageLimit n) → ⊥)
    → ((page : ℕ) → q ≡ Err (Damaged page) → ⊥) → GoesWell g c old new q
well_done g c old new q went no_disk no_limit no_damage = record { changes = changes_done g c old new q went no_disk no_limit; sound = λ order. no_damage }

pub well_more : {P T : Type 0} (g : Ghosts P) (a c : ℕ) (old new : P) (q : Result T StageFault) → GoesWell g a old new q → a ≤ c → GoesWell g c old new q
well_more g a c old new q well le = record {
  changes = record {
    went_on = went_more g a c old new well.changes.went_on le;
    disk = well.changes.disk;
    page_limit = λ n e. let limit = well.changes.page_limit n e in let third = limit.2 in (limit.0, limit.1, omega (arith, le, third));
  };
  sound = well.sound;
}

-- the same call, told by a caller that hands its refusals on
pub well_as : {P T U : Type 0} (g : Ghosts P) (a c : ℕ) (old new : P) (r : Result T StageFault) (q : Result U StageFault) → GoesWell g a old new r → a ≤ c
    → ((f : StageFault) → q ≡ Err f → r ≡ Err f) → GoesWell g c old new q
well_as g a c old new r q well le back = record {
  changes = record {
    went_on = went_more g a c old new well.changes.went_on le;
    disk = λ e. well.changes.disk (back Disk e);
    page_limit = λ n e. let limit = well.changes.page_limit n (back (PageLimit n) e) in let third = limit.2 in (limit.0, limit.1, omega (arith, le, third));
  };
  sound = λ order page e. well.sound order page (back (Damaged page) e);
}

-- what changes with it
pub changes_as : {P T U : Type 0} (g : Ghosts P) (a c : ℕ) (old new : P) (r : Result T StageFault) (q : Result U StageFault) → GoesWell g a old new r → a ≤ c
    → ((f : StageFault) → q ≡ Err f → r ≡ Err f) → Changes g c old new q
changes_as g a c old new r q well le back = (well_as g a c old new r q well le back).changes
