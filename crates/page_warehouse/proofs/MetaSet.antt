-- The setting of a meta page, as a call on a stage.
use Rattle.std.proofs.Common.{◌≡◌, ℕ, List, sym, ◌∙◌, ap, arith}
use Rattle.ports.specs.Calls.{WentOn}
use Rattle.ports.specs.Frame.{names_page}
use Rattle.ports.specs.Pages.{PageMap}
use Rattle.ports.specs.declared.pages.Pages.{Ghosts}

-- Nothing changed that a stage shows.
pub unmoved : {P : Type 0} (s : Ghosts P) (old new : P) → s.tells new ≡ s.tells old → s.base new ≡ s.base old → s.limit new ≡ s.limit old → (s.free_in_order old → s.free_in_order new)
    → s.map new ≡ s.map old → s.chain new ≡ s.chain old → s.allotted new ≡ s.allotted old → s.gets new ≡ s.gets old → s.faults new ≡ s.faults old → WentOn s 0 old new
unmoved s old new tells base limit order map chain allotted gets faults = record {
  tells = tells;
  base = base;
  limit = limit;
  free_in_order = λ told ordered. order ordered;
  none_forgotten = λ told ordered page gone. record {
    from_three = gone.from_three;
    given_out = let x = gone.given_out in omega (arith, x, allotted);
    gone = ap (λ (m : PageMap). m page) (sym map) ∙ gone.gone;
    unchained = ap (λ (l : List ℕ). names_page l page) (sym chain) ∙ gone.unchained;
  };
  allotted = omega (arith, allotted);
  at_most = omega (arith, allotted);
  gets = omega (arith, gets);
  faults = omega (arith, faults);
}
