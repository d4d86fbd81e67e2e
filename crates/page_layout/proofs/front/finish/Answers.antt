use Rattle.std.proofs.Common.{◌≡◌, ◌+◌, ◌-◌, ◌≤◌, ℕ, List, [], ◌∷◌, ◌++◌, length, take, replicate, sym, ap, ◌∙◌, append_assoc, append-nil, arith, refl}
use Rattle.std.proofs.lemmas.List.{replicate-append-replicate, take_all, length-take-le}
use Rattle.page_layout.specs.Numbers.{zeros, padded}
use Rattle.page_layout.proofs.front.finish.Goals as goal

no_zeros : (n : ℕ) → zeros (n - n) ≡ []
unfolding zeros
no_zeros n =
    let none : n - n ≡ 0 = omega arith in
    ap (λ (m : ℕ). replicate m 0) none

one_more : (from at : ℕ) → from ≤ at → zeros (at - from) ++ 0 ∷ [] ≡ zeros (at + 1 - from)
unfolding zeros
one_more from at le =
    let more : at - from + 1 ≡ at + 1 - from = omega arith in
    replicate-append-replicate (at - from) 1 0 ∙ ap (λ (m : ℕ). replicate m 0) more

pub loop-at-init : goal.loop-at-init
loop-at-init c = let none = no_zeros c.args.place in grind (arith, append-nil)

pub loop-at-preserved : goal.loop-at-preserved
loop-at-preserved c =
    let more = one_more c.args.place c.loop-at.at c.loop-at.invariant.from in
    grind (arith, append_assoc)

whole : (page old : List ℕ) (at place : ℕ) → length page ≡ 4096 → length old ≡ 4096 → place ≤ 4096 → at ≡ 4096
    → take at page ≡ take place old ++ zeros (at - place) → page ≡ padded (take place old)
whole page old at place long was le end filled =
    sym (take_all at page (rw (long, end) (omega arith))) ∙ filled
    ∙ ap (λ (n : ℕ). take place old ++ zeros n) (rw (end, length-take-le place old (rw was le)) refl)

pub returns : goal.returns
returns c =
    whole _ _ _ _ c.loop-at.invariant.long c.told-page c.requires (omega (arith, c.loop-at.invariant.to, c.loop-at-test.false)) c.loop-at.invariant.filled
