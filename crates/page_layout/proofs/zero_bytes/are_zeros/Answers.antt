use Rattle.std.proofs.Common.{◌∙◌, sym, arith}
use Rattle.page_layout.proofs.Testing.{never, then_for}
use Rattle.page_layout.proofs.Zeros.{zero_number, next_zeros, each_zero, same_rest}
use Rattle.page_layout.proofs.zero_bytes.are_zeros.Goals as goal

pub loop-init : goal.loop-init
loop-init c = record { left = omega arith; same = (λ all. all, λ all. all) }

pub number_u128-requires : goal.number_u128-requires
number_u128-requires c = omega (arith, c.loop.invariant.left, c.loop-test.true)

pub returns-then-number_u128-ne0 : goal.returns-then-number_u128-ne0
returns-then-number_u128-ne0 c = never (λ all. c.if-number_u128-ne0.true (c.number_u128.ensures
    ∙ zero_number c.loop.rest.now (omega (arith, c.loop.invariant.left, c.loop-test.true)) (c.loop.invariant.same.0 all)))

pub skip-rest-requires : goal.skip-rest-requires
skip-rest-requires c = omega (arith, c.loop.invariant.left, c.loop-test.true)

pub loop-preserved : goal.loop-preserved
loop-preserved c = record {
  left = omega (arith, c.loop.invariant.left, c.skip-rest.ensures.len);
  same = then_for c.loop.invariant.same (same_rest c.skip-rest.ensures.value
      (next_zeros c.loop.rest.now c.are_bytes.ensures (omega (arith, c.loop.invariant.left, c.loop-test.true)) (sym c.number_u128.ensures ∙ c.if-number_u128-ne0.false)));
}

pub returns : goal.returns
returns c = then_for (then_for c.is_each_zero.ensures (each_zero c.loop.rest.now)) (c.loop.invariant.same.1, c.loop.invariant.same.0)
