use Rattle.std.proofs.Common.{arith, sym, ◌∙◌}
use Rattle.page_layout.specs.declared.mv_node.MvEntry.{MvEntry}
use Rattle.key_check.proofs.Runs.{run_ends, run_more}
use Rattle.key_check.proofs.run.run_of.Goals.{then-loop-last-test+else-continues, else-loop-last-test}
use Rattle.key_check.proofs.run.run_of.Goals as goal

abbrev none : MvEntry
none = record { low = 0; start = 0; end = 0; value = 0; child = 0 }

pub loop-last-preserved : goal.loop-last-preserved
loop-last-preserved c =
    let i = c.loop-last.invariant in
    record {
      on = (let le = i.on in omega (arith, le));
      within = c.loop-last-test.true;
      run = run_more c.args.entries.now c.args.place c.loop-last.last none c.loop-last-test.true (sym c.continues.ensures ∙ c.if-continues.true) i.run;
    }

pub returns-clause-run : goal.returns-clause-run
returns-clause-run c = λ e rest p.
    let i = c.loop-last.invariant in
    let r = run_ends c.args.entries.now c.args.place c.loop-last.last none i.within (elim c.loop-last-test.branch [
      | then-loop-last-test+else-continues w ↦ λ _. sym w.continues.ensures ∙ w.if-continues.false
      | else-loop-last-test w ↦ λ more. absurd (let over = w.loop-last-test.false in omega (arith, over, more))
    ]) i.run e rest p in
    (c.end_of.ensures ∙ r.0, r.1)
