use Rattle.std.proofs.Common.{◌≡◌, ◌≤◌, ◌<◌, ◌-◌, ◌^◌, IsTrue, List, length, rules, arith, sym, ◌∙◌}
use Rattle.std.specs.List.{All}
use Rattle.std.proofs.lemmas.Bool.{false≢true}
use Rattle.std.proofs.lemmas.List.Elements.{All-weaker}
use Rattle.std.proofs.lemmas.List.Sorted.{All-permutation, length_permutation}
use Rattle.bw_types.specs.declared.point.Point.{Point}
use Rattle.dom_index.specs.Points.{AreKeysBelow}
use Rattle.cut_parts.specs.Fitting.{IsPointBelow}
use Rattle.cut_parts.proofs.fitting.may_be_built.Goals as goal

pub returns-then-not-are_below-clause-only : goal.returns-then-not-are_below-clause-only
returns-then-not-are_below-clause-only c = λ built.
    let below : All (IsPointBelow c.args.dims) c.args.points.now = λ i d lt. (built.keys i d lt, built.versions i d lt, built.three i d lt) in
    let yes : IsTrue c.are_below.result = c.are_below.ensures.1 below in
    absurd (false≢true (sym c.if-not-are_below.true ∙ yes))

pub returns-clause-built : goal.returns-clause-built
returns-clause-built c = λ yes.
    let old : List Point = c.args.points.now in
    let new : List Point = c.are_apart.new.points in
    let moved = c.are_apart.ensures.permutation in
    let below : All (IsPointBelow c.args.dims) new = All-permutation (IsPointBelow c.args.dims) old new moved (c.are_below.ensures.0 c.if-not-are_below.false) in
    let short : length old ≤ 2 ^ 31 = search rules in
    record {
      few = omega (arith, short, length_permutation old new moved);
      apart = c.are_apart.ensures.apart yes;
      keys = All-weaker (IsPointBelow c.args.dims) (λ p. AreKeysBelow c.args.dims p.keys) (λ p h. h.0) new below;
      versions = All-weaker (IsPointBelow c.args.dims) (λ p. p.version < 2 ^ 32 - 1) (λ p h. h.1) new below;
      three = All-weaker (IsPointBelow c.args.dims) (λ p. length p.keys ≡ 3) (λ p h. h.2) new below;
    }

pub returns-clause-only : goal.returns-clause-only
returns-clause-only c = λ built. c.are_apart.ensures.only built.apart
