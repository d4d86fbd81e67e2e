-- Calls on a stage, one after another.
use Rattle.std.proofs.Common.{◌≡◌, ℕ, ◌+◌, ◌≤◌, List, IsTrue, Result, Ok, Err, OnErr, OnOk, sym, ◌∙◌, ap, subst, arith}
use Rattle.ports.specs.Count.{Rose}
use Rattle.ports.specs.Calls.{Changes, WentOn}
use Rattle.ports.specs.Frame.{names_page}
use Rattle.ports.specs.Pages.{PageMap}
use Rattle.ports.specs.declared.page.StageFault.{StageFault}
use Rattle.ports.specs.declared.page.StageFault.TheVariants.{Damaged, NoMemory}
use Rattle.ports.specs.declared.pages.Pages.{Ghosts}

-- nothing changed that a stage shows
pub unmoved : {P : Type 0} (s : Ghosts P) (old new : P) → s.tells new ≡ s.tells old → s.base new ≡ s.base old → s.limit new ≡ s.limit old → (s.free_in_order old → s.free_in_order new)
    → s.map new ≡ s.map old → s.chain new ≡ s.chain old → s.allotted new ≡ s.allotted old → s.gets new ≡ s.gets old → s.faults new ≡ s.faults old → WentOn s 0 old new
unmoved s old new tells base limit order map chain allotted gets faults = record {
  tells = tells;
  base = base;
  limit = limit;
  free_in_order = λ told ordered. order ordered;
  none_forgotten = λ told ordered page gone. record {
    from_three = gone.from_three;
    given_out = let x = gone.given_out in omega (arith, x, allotted);
    gone = ap (λ (m : PageMap). m page) (sym map) ∙ gone.gone;
    unchained = ap (λ (l : List ℕ). names_page l page) (sym chain) ∙ gone.unchained;
  };
  allotted = omega (arith, allotted);
  at_most = omega (arith, allotted);
  gets = omega (arith, gets);
  faults = omega (arith, faults);
}

went_then : {P : Type 0} (g : Ghosts P) (a b c : ℕ) (old mid new : P) → WentOn g a old mid → WentOn g b mid new → a + b ≤ c → WentOn g c old new
went_then g a b c old mid new f h le = record {
  tells = h.tells ∙ f.tells;
  base = h.base ∙ f.base;
  limit = h.limit ∙ f.limit;
  free_in_order = λ told order. h.free_in_order (subst IsTrue (sym f.tells) told) (f.free_in_order told order);
  none_forgotten = λ told order page gone. f.none_forgotten told order page (h.none_forgotten (subst IsTrue (sym f.tells) told) (f.free_in_order told order) page gone);
  allotted = let x = f.allotted in let y = h.allotted in omega (arith, x, y);
  at_most = let x = f.at_most in let y = h.at_most in omega (arith, x, y, le);
  gets = let x = f.gets in let y = h.gets in omega (arith, x, y);
  faults = let x = f.faults in let y = h.faults in omega (arith, x, y);
}

rose_earlier : (a b c : ℕ) → a ≤ b → Rose b c → Rose a c
rose_earlier a b c le h = omega (arith, le, h)

-- a change after others, as one change that gives out at most so many
pub changes_then : {P T : Type 0} (g : Ghosts P) (a b c : ℕ) (old mid new : P) (r : Result T StageFault) → WentOn g a old mid → Changes g b mid new r → a + b ≤ c → Changes g c old new r
changes_then g a b c old mid new r f h le =
    let x = f.at_most in
    record {
      went_on = went_then g a b c old mid new f h.went_on le;
      disk = λ e. rose_earlier (g.faults old) (g.faults mid) (g.faults new) f.faults (h.disk e);
      page_limit = λ n e. let limit = h.page_limit n e in let third = limit.2 in (limit.0 ∙ f.limit, limit.1, omega (arith, x, le, third));
    }

-- a refusal of one call is one of the whole
pub refused_so : {P T U : Type 0} (g : Ghosts P) (most : ℕ) (old new : P) (fault : StageFault) → Changes {T = T} g most old new (Err fault) → Changes {T = U} g most old new (Err fault)
refused_so {P} {T} {U} g most old new fault changes = record {
  went_on = changes.went_on;
  disk = λ e. changes.disk (again e);
  page_limit = λ n e. changes.page_limit n (again e);
} where
  again : {f : StageFault} → ◌≡◌ {A = Result U StageFault} (Err fault) (Err f) → ◌≡◌ {A = Result T StageFault} (Err fault) (Err f)
  again e = cc

-- what is so of a call that was Ok
pub on_ok : {T E : Type 0} (r : Result T E) (P Q : Type 0) → (P → Q) → OnOk r P → OnOk r Q
on_ok (Ok v) P Q f p = f p
on_ok (Err e) P Q f p = tt

pub ok_anyway : {T E : Type 0} (r : Result T E) (Q : Type 0) → Q → OnOk r Q
ok_anyway (Ok v) Q q = q
ok_anyway (Err e) Q q = tt

-- where only memory is wanting no page is damaged
pub not_damaged : {T : Type 0} (r : Result T StageFault) → OnErr r (r ≡ Err NoMemory) → (page : ℕ) → r ≡ Err (Damaged page) → ⊥
not_damaged (Ok v) p page asked = cc
not_damaged (Err e) p page asked = cc
