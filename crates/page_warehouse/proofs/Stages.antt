-- Calls on a stage, one after another.
use Rattle.std.proofs.Common.{◌≡◌, ℕ, ◌+◌, ◌≤◌, IsTrue, Result, Ok, Err, OnErr, OnOk, sym, ◌∙◌, ap, subst, arith}
use Rattle.ports.specs.Count.{Rose}
use Rattle.ports.specs.Calls.{Changes, Grows, WasRead, WentOn}
use Rattle.ports.specs.Frame.{names_page}
use Rattle.ports.specs.declared.page.StageFault.{StageFault}
use Rattle.ports.specs.declared.page.StageFault.TheVariants.{Damaged, Disk, NoMemory, PageLimit}
use Rattle.ports.specs.declared.pages.Pages.{Ghosts}
use Rattle.page_warehouse.proofs.Exits.{exit_error}

-- what follows from a call that is Ok
pub on_ok : {T E : Type 0} (r : Result T E) (P Q : Type 0) → (P → Q) → OnOk r P → OnOk r Q
on_ok (Ok v) P Q f p = f p
on_ok (Err e) P Q f p = tt

pub went_then : {P : Type 0} (g : Ghosts P) (a b c : ℕ) (old mid new : P) → WentOn g a old mid → WentOn g b mid new → a + b ≤ c → WentOn g c old new
went_then g a b c old mid new f h le = record {
  tells = h.tells ∙ f.tells;
  base = h.base ∙ f.base;
  limit = h.limit ∙ f.limit;
  free_in_order = λ told order. h.free_in_order (subst IsTrue (sym f.tells) told) (f.free_in_order told order);
  none_forgotten = λ told order page gone. f.none_forgotten told order page (h.none_forgotten (subst IsTrue (sym f.tells) told) (f.free_in_order told order) page gone);
  allotted = let x = f.allotted in let y = h.allotted in omega (arith, x, y);
  at_most = let x = f.at_most in let y = h.at_most in omega (arith, x, y, le);
  gets = let x = f.gets in let y = h.gets in omega (arith, x, y);
  faults = let x = f.faults in let y = h.faults in omega (arith, x, y);
}

-- a call that reads changes nothing
pub read_went : {P : Type 0} (g : Ghosts P) (most : ℕ) (old new : P) → WasRead g most old new → WentOn g 0 old new
read_went g most old new r = record {
  tells = r.tells;
  base = r.base;
  limit = r.limit;
  free_in_order = λ told order. r.free_in_order order;
  none_forgotten = λ told order page gone. record {
    from_three = gone.from_three;
    given_out = let x = gone.given_out in let y = r.allotted in omega (arith, x, y);
    gone = ap (λ m. m page) (sym r.map) ∙ gone.gone;
    unchained = ap (λ l. names_page l page) (sym r.chain) ∙ gone.unchained;
  };
  allotted = let y = r.allotted in omega (arith, y);
  at_most = let y = r.allotted in omega (arith, y);
  gets = r.gets;
  faults = r.faults;
}

pub grown : {P T : Type 0} (g : Ghosts P) (most : ℕ) (old new : P) (r : Result T StageFault) → Grows g most old new r → Changes g most old new r
grown g most old new r h = record { went_on = h.went_on; disk = h.disk; page_limit = h.page_limit }

rose_earlier : (a b c : ℕ) → a ≤ b → Rose b c → Rose a c
rose_earlier a b c le h = omega (arith, le, h)

-- a change after others, as one change that gives out at most so many
pub changes_then : {P T : Type 0} (g : Ghosts P) (a b c : ℕ) (old mid new : P) (r : Result T StageFault) → WentOn g a old mid → Changes g b mid new r → a + b ≤ c → Changes g c old new r
changes_then g a b c old mid new r f h le =
    let x = f.at_most in
    record {
      went_on = went_then g a b c old mid new f h.went_on le;
      disk = λ e. rose_earlier (g.faults old) (g.faults mid) (g.faults new) f.faults (h.disk e);
      page_limit = λ n e. let limit = h.page_limit n e in let third = limit.2 in (limit.0 ∙ f.limit, limit.1, omega (arith, x, le, third));
    }

-- the refusal of the last call is the refusal of all
pub refused : {P T U : Type 0} (g : Ghosts P) (most : ℕ) (old new : P) (q : Result U StageFault) (fault : StageFault)
    → ((y : StageFault) × (q ≡ Err y) × (y ≡ fault)) → Changes {T = T} g most old new (Err fault) → Changes g most old new q
refused {P} {T} g most old new q fault told changes = record {
  went_on = changes.went_on;
  disk = λ e. let same = exit_error q fault Disk told e in let asked : ◌≡◌ {A = Result T StageFault} (Err fault) (Err Disk) = cc in changes.disk asked;
  page_limit = λ n e. let same = exit_error q fault (PageLimit n) told e in let asked : ◌≡◌ {A = Result T StageFault} (Err fault) (Err (PageLimit n)) = cc in changes.page_limit n asked;
}

pub ok_anyway : {T E : Type 0} (r : Result T E) (Q : Type 0) → Q → OnOk r Q
ok_anyway (Ok v) Q q = q
ok_anyway (Err e) Q q = tt

-- a call after which only memory may be wanting
pub only_memory : {P T : Type 0} (g : Ghosts P) (most : ℕ) (old new : P) (r : Result T StageFault) → OnErr r (r ≡ Err NoMemory) → WentOn g most old new → Changes g most old new r
only_memory g most old new (Ok v) p went = record { went_on = went; disk = λ e. cc; page_limit = λ n e. cc }
only_memory g most old new (Err f) p went = record { went_on = went; disk = λ e. cc; page_limit = λ n e. cc }

-- where only memory is wanting no page is damaged
pub not_damaged : {T : Type 0} (r : Result T StageFault) → OnErr r (r ≡ Err NoMemory) → (page : ℕ) → r ≡ Err (Damaged page) → ⊥
not_damaged (Ok v) p page asked = cc
not_damaged (Err e) p page asked = cc
