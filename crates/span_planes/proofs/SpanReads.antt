-- Calls that read pages, one after the other, and the error at the exit of a `?`.
use Rattle.std.proofs.Common.{◌≡◌, ◌∙◌, ℕ, ◌+◌, ◌≤◌, Result, Err, arith}
use Rattle.ports.specs.Calls.{WasRead}
use Rattle.ports.specs.declared.pages.Pages.{Ghosts}

pub exit_error : {T E : Type 0} (r : Result T E) (told asked : E) → ((y : E) × (r ≡ Err y) × (y ≡ told)) → r ≡ Err asked → told ≡ asked
exit_error r told asked p e =
    let first = p.1 in
    let second = p.2 in
    cc

pub read_then : {P : Type 0} (g : Ghosts P) (a b c : ℕ) (old mid new : P) → WasRead g a old mid → WasRead g b mid new → g.gets new ≤ g.gets old + c → WasRead g c old new
read_then g a b c old mid new first second most = record {
  tells = second.tells ∙ first.tells;
  map = second.map ∙ first.map;
  base = second.base ∙ first.base;
  limit = second.limit ∙ first.limit;
  allotted = second.allotted ∙ first.allotted;
  chain = second.chain ∙ first.chain;
  free_in_order = λ order. second.free_in_order (first.free_in_order order);
  gets = let x = first.gets in let y = second.gets in omega (arith, x, y);
  at_most = most;
  faults = let x = first.faults in let y = second.faults in omega (arith, x, y);
}
