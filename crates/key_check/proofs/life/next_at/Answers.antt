use Rattle.std.proofs.Common.{arith, sym, ◌∙◌, ◌≡◌, false}
use Rattle.std.proofs.lemmas.List.Elements.{All-more}
use Rattle.page_layout.specs.declared.mv_node.MvEntry.{MvEntry}
use Rattle.mv_pages.specs.Alive.{is_alive}
use Rattle.key_check.proofs.Cells.{no_next, still_next}
use Rattle.key_check.proofs.life.next_at.Goals as goal

abbrev none : MvEntry
none = record { low = 0; start = 0; end = 0; value = 0; child = 0 }

pub returns-then-is_alive-clause-same : goal.returns-then-is_alive-clause-same
returns-then-is_alive-clause-same c = λ later from before.
    let m = c.min.ensures in
    let e = c.end_of.ensures in
    still_next c.args.rest.now c.loop-e.e-index none c.args.version later c.args.high c.loop-e-test.true (c.loop-e.invariant.dead later from (omega (arith, m, before)))
    (sym c.is_alive.ensures ∙ c.if-is_alive.true) from (omega (arith, m, e, before))

pub loop-e-preserved : goal.loop-e-preserved
loop-e-preserved c =
    let s = c.start_after-until.ensures in
    record {
      after = s.until.0;
      most = (let m = c.loop-e.invariant.most in let u = s.until.1 in omega (arith, m, u));
      dead = λ later from before.
          All-more (λ (e : MvEntry). is_alive later e ≡ false) c.args.rest.now c.loop-e.e-index none c.loop-e-test.true
          (c.loop-e.invariant.dead later from (let u = s.until.1 in omega (arith, u, before))) (s.dead later from before);
    }

pub returns-clause-same : goal.returns-clause-same
returns-clause-same c = λ later from before. no_next c.args.rest.now c.loop-e.e-index later c.args.high c.loop-e-test.false (c.loop-e.invariant.dead later from before)
