use Rattle.std.proofs.Common.{◌≡◌, ℕ, zero, suc, ◌<◌, List, [], ◌∷◌, ◌++◌, length, get_or, take, drop, refl, arith, slice_set}
use Rattle.page_layout.specs.Summed.{raised_first}
use Rattle.page_layout.proofs.summed.raise_at.Goals as goal

set_raised : {X : Type 0} (raised : X → ℕ → X) (es : List X) (k more : ℕ) (e new : X) → k < length es → e ≡ get_or es k e → new ≡ raised e more
    → slice_set es k new ≡ take k es ++ raised_first raised (drop k es) more
set_raised raised [] k more e new h same is_new = grind arith
set_raised raised (f ∷ es) zero more e new h same is_new = grind arith
set_raised raised (f ∷ es) (suc k) more e new h same is_new = grind (arith, set_raised raised es k more e new)

pub returns-in-Some-clause-items : goal.returns-in-Some-clause-items
returns-in-Some-clause-items g c = set_raised g.T.Summed.raised _ _ _ _ _ (c.in-Some.ensures.variant.0 refl) c.in-Some.ensures.value c.raise.ensures
