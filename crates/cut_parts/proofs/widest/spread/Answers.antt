use Rattle.std.proofs.Common.{◌≡◌, ℕ, suc, List, [], ◌∷◌, take, length, get_or, arith, ap, ◌∙◌}
use Rattle.std.proofs.lemmas.List.{take_all}
use Rattle.bw_types.specs.declared.point.Point.{Point}
use Rattle.cut_parts.specs.Medians.{key_of}
use Rattle.cut_parts.specs.Widest.{greatest_key, least_key}
use Rattle.cut_parts.proofs.Spreads.{greatest_first, greatest_next, least_first, least_next}
use Rattle.cut_parts.proofs.widest.spread.Goals as goal

none : Point
none = record { keys = []; version = 0; weight = 0 }

pub loop-point-init : goal.loop-point-init
loop-point-init c =
    let same : c.args.points.now ≡ c.in-Some.first.now ∷ c.in-Some.rest.now = c.in-Some.ensures.cases.0 in
    let key : get_or c.in-Some.first.now.keys c.from-by.result 0 ≡ key_of c.args.dimension c.in-Some.first.now = ap (λ (n : ℕ). get_or c.in-Some.first.now.keys n 0) c.from-by.ensures in
    record {
      least = key ∙ least_first c.args.dimension c.in-Some.first.now c.args.points.now c.in-Some.rest.now same;
      greatest = key ∙ greatest_first c.args.dimension c.in-Some.first.now c.args.points.now c.in-Some.rest.now same;
      in_order = omega arith;
    }

pub loop-point-preserved : goal.loop-point-preserved
unfolding none
loop-point-preserved c =
    let same : c.args.points.now ≡ c.in-Some.first.now ∷ c.in-Some.rest.now = c.in-Some.ensures.cases.0 in
    let point : Point = get_or c.in-Some.rest.now c.loop-point.point-index none in
    let key : get_or point.keys c.from-by.result 0 ≡ key_of c.args.dimension point = ap (λ (n : ℕ). get_or point.keys n 0) c.from-by.ensures in
    record {
      least = c.min-least.ensures ∙ least_next c.args.dimension c.loop-point.point-index c.loop-point.least (get_or point.keys c.from-by.result 0)
          c.in-Some.first.now none c.args.points.now c.in-Some.rest.now same c.loop-point-test.true key c.loop-point.invariant.least;
      greatest = c.max-greatest.ensures ∙ greatest_next c.args.dimension c.loop-point.point-index c.loop-point.greatest (get_or point.keys c.from-by.result 0)
          c.in-Some.first.now none c.args.points.now c.in-Some.rest.now same c.loop-point-test.true key c.loop-point.invariant.greatest;
      in_order = omega (arith, c.min-least.ensures, c.max-greatest.ensures);
    }

pub returns : goal.returns
returns c =
    let same : c.args.points.now ≡ c.in-Some.first.now ∷ c.in-Some.rest.now = c.in-Some.ensures.cases.0 in
    let all : take (suc c.loop-point.point-index) c.args.points.now ≡ c.args.points.now =
    take_all (suc c.loop-point.point-index) c.args.points.now (omega (arith, ap (λ (ps : List Point). length ps) same)) in
    let least : c.loop-point.least ≡ least_key c.args.dimension c.args.points.now = c.loop-point.invariant.least ∙ ap (least_key c.args.dimension) all in
    let greatest : c.loop-point.greatest ≡ greatest_key c.args.dimension c.args.points.now = c.loop-point.invariant.greatest ∙ ap (greatest_key c.args.dimension) all in
    omega (arith, least, greatest)
