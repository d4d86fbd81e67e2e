-- A stage that goes on through several calls.
use Rattle.std.proofs.Common.{◌≡◌, ℕ, ◌+◌, ◌<◌, ◌≤◌, IsTrue, Bool, Result, Ok, Err, sym, subst, ◌∙◌, ap, arith}
use Rattle.ports.specs.Count.{Rose}
use Rattle.ports.specs.Calls.{Grows, WasRead, WentOn}
use Rattle.ports.specs.Frame.{KeepsPages}
use Rattle.ports.specs.Pages.{PageMap}
use Rattle.ports.specs.declared.page.StageFault.{StageFault}
use Rattle.ports.specs.declared.page.StageFault.TheVariants.{Disk, PageLimit}
use Rattle.ports.specs.declared.pages.Pages.{Ghosts}

-- A count that rose from a moment on rose from before.
rose_before : (a b c : ℕ) → a ≤ b → Rose b c → Rose a c
rose_before a b c le rose = omega (arith, le, rose)

-- What a stage tells it told before.
pub told : (a b : Bool) → a ≡ b → IsTrue b → IsTrue a
told a b same t = subst IsTrue (sym same) t

-- A stage that went on goes on, and a call that grows it grows it from before.
pub grown_further : {P T U : Type 0} (g : Ghosts P) (w b most : ℕ) (old mid new : P) (r : Result T StageFault) (q : Result U StageFault)
    → WentOn g w old mid → (IsTrue (g.tells old) → KeepsPages (g.map old) (g.map mid)) → Grows g b mid new r → g.allotted mid + b ≤ g.allotted old + most
    → ((f : StageFault) → q ≡ Err f → r ≡ Err f) → Grows g most old new q
grown_further g w b most old mid new r q first kept grows sum back = record {
  went_on = record {
    tells = grows.went_on.tells ∙ first.tells;
    base = grows.went_on.base ∙ first.base;
    limit = grows.went_on.limit ∙ first.limit;
    free_in_order = λ t f. grows.went_on.free_in_order (told (g.tells mid) (g.tells old) first.tells t) (first.free_in_order t f);
    none_forgotten = λ t f page gone. first.none_forgotten t f page (grows.went_on.none_forgotten (told (g.tells mid) (g.tells old) first.tells t) (first.free_in_order t f) page gone);
    allotted = omega (arith, first.allotted, grows.went_on.allotted);
    at_most = omega (arith, sum, grows.went_on.at_most);
    gets = omega (arith, first.gets, grows.went_on.gets);
    faults = omega (arith, first.faults, grows.went_on.faults);
  };
  keeps = λ t page there. grows.keeps (told (g.tells mid) (g.tells old) first.tells t) page (kept t page there);
  disk = λ e. rose_before (g.faults old) (g.faults mid) (g.faults new) first.faults (grows.disk (back Disk e));
  page_limit = λ n e. let l = grows.page_limit n (back (PageLimit n) e) in (l.0 ∙ first.limit, l.1, omega (arith, l.2, sum));
}

-- Where nothing is refused, that it went on and kept its pages is all.
pub grown_so_far : {P T : Type 0} (g : Ghosts P) (w most : ℕ) (old new : P) (value : T) → WentOn g w old new → (IsTrue (g.tells old) → KeepsPages (g.map old) (g.map new))
    → g.allotted new ≤ g.allotted old + most → Grows {T = T} g most old new (Ok value)
grown_so_far g w most old new value first kept sum = record {
  went_on = record {
    tells = first.tells;
    base = first.base;
    limit = first.limit;
    free_in_order = first.free_in_order;
    none_forgotten = first.none_forgotten;
    allotted = first.allotted;
    at_most = sum;
    gets = first.gets;
    faults = first.faults;
  };
  keeps = kept;
  disk = λ e. cc;
  page_limit = λ n e. cc;
}

-- And so where it is only read then.
pub went_reading : {P : Type 0} (g : Ghosts P) (w n : ℕ) (old mid new : P) → WentOn g w old mid → WasRead g n mid new → WentOn g w old new
went_reading g w n old mid new first read = record {
  tells = read.tells ∙ first.tells;
  base = read.base ∙ first.base;
  limit = read.limit ∙ first.limit;
  free_in_order = λ t f. read.free_in_order (first.free_in_order t f);
  none_forgotten = λ t f page gone. first.none_forgotten t f page (record {
    from_three = gone.from_three;
    given_out = subst (λ (k : ℕ). page < k) read.allotted gone.given_out;
    gone = sym (ap (λ (m : PageMap). m page) read.map) ∙ gone.gone;
    unchained = subst (λ (ps : Rattle.std.specs.Prelude.List ℕ). Rattle.ports.specs.Frame.names_page ps page ≡ Rattle.std.specs.Prelude.false) read.chain gone.unchained;
  });
  allotted = omega (arith, first.allotted, read.allotted);
  at_most = omega (arith, first.at_most, read.allotted);
  gets = omega (arith, first.gets, read.gets);
  faults = omega (arith, first.faults, read.faults);
}
