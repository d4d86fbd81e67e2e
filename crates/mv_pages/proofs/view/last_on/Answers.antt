use Rattle.std.proofs.Common.{◌≡◌, ◌-◌, ℕ, suc, sym, ◌∙◌, subst, arith}
use Rattle.mv_pages.proofs.Begun.{PassedOver, last_begun, passed_above, passed_one}
use Rattle.mv_pages.proofs.view.last_on.Goals as goal

pub loop-rest-init : goal.loop-rest-init
loop-rest-init c = record { fits = omega arith; passed = λ key begun. passed_above key c.args.version c.args.begun c.args.view.now.entries.items begun }

pub entry-e-requires : goal.entry-e-requires
entry-e-requires c = omega (arith, c.loop-rest.invariant.fits, c.loop-rest-test.true, c.requires)

pub returns-then-is_alive : goal.returns-then-is_alive
returns-then-is_alive c = λ key begun.
    let place : c.loop-rest.rest ≡ suc (c.loop-rest.rest - 1) = omega (arith, c.loop-rest-test.true) in
    last_begun key c.args.version c.args.view.now.entries.items (c.loop-rest.rest - 1) c.entry-e.result (omega (arith, c.loop-rest.invariant.fits, c.loop-rest-test.true, c.requires)) c.entry-e.ensures
    (subst (λ (n : ℕ). PassedOver c.args.view.now.entries.items key c.args.version n) place (c.loop-rest.invariant.passed key begun))
    c.args.begun begun (omega (arith, c.loop-rest.invariant.fits, c.loop-rest-test.true)) (sym c.is_alive.ensures ∙ c.if-is_alive.true)

pub loop-rest-preserved : goal.loop-rest-preserved
loop-rest-preserved c =
    let place : c.loop-rest.rest ≡ suc (c.loop-rest.rest - 1) = omega (arith, c.loop-rest-test.true) in
    record {
      fits = omega (arith, c.loop-rest.invariant.fits);
      passed = λ key begun.
          passed_one key c.args.version c.args.view.now.entries.items (c.loop-rest.rest - 1) c.entry-e.result (omega (arith, c.loop-rest.invariant.fits, c.loop-rest-test.true, c.requires)) c.entry-e.ensures
          (subst (λ (n : ℕ). PassedOver c.args.view.now.entries.items key c.args.version n) place (c.loop-rest.invariant.passed key begun)) (sym c.is_alive.ensures ∙ c.if-is_alive.false);
    }

pub returns : goal.returns
returns c = λ key begun.
    let none : c.loop-rest.rest ≡ 0 = omega (arith, c.loop-rest-test.false) in
    subst (λ (n : ℕ). PassedOver c.args.view.now.entries.items key c.args.version n) none (c.loop-rest.invariant.passed key begun)
