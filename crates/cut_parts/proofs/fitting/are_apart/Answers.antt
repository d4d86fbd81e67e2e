use Rattle.std.proofs.Common.{IsTrue, List, arith, sym, ◌∙◌}
use Rattle.std.proofs.lemmas.Bool.{false≢true}
use Rattle.std.proofs.lemmas.List.Sorted.{IsPermutation-trans}
use Rattle.bw_types.specs.declared.point.Point.{Point}
use Rattle.cut_parts.proofs.Orders.{no_key_shared}
use Rattle.cut_parts.proofs.Apart.{differ_in_each, one_more_differs, share_none}
use Rattle.cut_parts.proofs.fitting.are_apart.Goals as goal

pub returns-then-not-do_differ-clause-permutation :
    goal.returns-then-not-do_differ-clause-permutation
returns-then-not-do_differ-clause-permutation c =
    IsPermutation-trans c.args.points.now c.loop-dimension.points c.do_differ.new.points c.loop-dimension.invariant.moved c.do_differ.ensures.permutation

pub returns-then-not-do_differ-clause-only : goal.returns-then-not-do_differ-clause-only
returns-then-not-do_differ-clause-only c = λ apart.
    let here : List Point = c.loop-dimension.points in
    let each = differ_in_each c.args.dims here (no_key_shared c.args.dims c.args.points.now here c.loop-dimension.invariant.moved apart) in
    let yes : IsTrue c.do_differ.result = c.do_differ.ensures.only (each c.loop-dimension.dimension c.loop-dimension-test.true) in
    absurd (false≢true (sym c.if-not-do_differ.true ∙ yes))

pub loop-dimension-preserved : goal.loop-dimension-preserved
loop-dimension-preserved c = record {
  moved = IsPermutation-trans c.args.points.now c.loop-dimension.points c.do_differ.new.points c.loop-dimension.invariant.moved c.do_differ.ensures.permutation;
  apart = one_more_differs c.loop-dimension.dimension c.loop-dimension.points c.do_differ.new.points c.do_differ.ensures.permutation c.loop-dimension.invariant.apart
      (c.do_differ.ensures.differ c.if-not-do_differ.false);
}

pub returns-clause-apart : goal.returns-clause-apart
returns-clause-apart c = λ yes.
    share_none c.args.dims c.loop-dimension.points (λ i lt. c.loop-dimension.invariant.apart i (omega (arith, lt, c.loop-dimension-test.false)))
