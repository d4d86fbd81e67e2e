use Rattle.redo_journal.proofs.Common.{◌∙◌, ap, sym, length, arith, IsTrue, err_from_is_err_and, last_of}
use Rattle.redo_journal.proofs.RestLemmas.{homes_go_on}
use Rattle.redo_journal.proofs.ReplayLemmas.{damaged_then, split_none, restoring_homes, restoring_step, restoring_end, group_reaches}
use Rattle.redo_journal.proofs.replaying.restore_groups.Goals as goal

pub returns-in_err-head-clause-damaged : goal.returns-in_err-head-clause-damaged
returns-in_err-head-clause-damaged g c =
    let inv = c.groups.invariant in
    let p = err_from_is_err_and c.from_residual.result c.from_residual.ensures.1 in
    rw (p.1, p.2) (damaged_then c.in_err-head.field-0.0 _ _
    (λ page none told all holds. split_none (inv.rest told all holds).holds (none (inv.tells ∙ told))) c.in_err-head.ensures.damaged)

pub returns-in_err-head-clause-pends : goal.returns-in_err-head-clause-pends
returns-in_err-head-clause-pends g c = λ all holds at.
    let inv = c.groups.invariant in
    homes_go_on (inv.pends all holds at) (c.restore_at.ensures.pends _ _ (λ h head here one.
    let told = sym inv.tells ∙ h in restoring_homes one (inv.rest told all (holds told))))

pub returns-then-not-head-clause-pends : goal.returns-then-not-head-clause-pends
returns-then-not-head-clause-pends g c = λ all holds at.
    let inv = c.groups.invariant in
    homes_go_on (inv.pends all holds at) (c.restore_at.ensures.pends _ _ (λ h head here one.
    let told = sym inv.tells ∙ h in restoring_homes one (inv.rest told all (holds told))))

pub returns-then-not-head-clause-placed : goal.returns-then-not-head-clause-placed
returns-then-not-head-clause-placed g c = λ h all holds.
    let inv = c.groups.invariant in
    let told = inv.tells ∙ h in
    restoring_end (c.in_ok-head.ensures.only told) (inv.rest h all holds) c.if-not-head.true (c.in_ok-head.ensures.placed told)

pub groups-preserved : goal.groups-preserved
groups-preserved g c =
    let inv = c.groups.invariant in
    let named = c.as_slice-homes.ensures.value in
    let size = ap length named in
    let next_is = c.last_home-last.ensures ∙ ap (last_of c.groups.last) named in
    let told = λ (h : IsTrue (g.D.Disk.tells c.args.disk.now)). inv.tells ∙ h in
    let reaches = λ (h : IsTrue (g.D.Disk.tells c.args.disk.now)).
    group_reaches (g.D.Disk.image c.groups.disk).pages (g.D.Disk.image c.restore_at.new.disk).pages (c.in_ok-head.ensures.ok (told h))
    (inv.longer h) (inv.low h) (c.in_ok-head.ensures.placed (told h)) in
    record {
      behind = omega arith;
      within = omega (arith, c.in_ok-head.ensures.within);
      low = λ h. omega (arith, (reaches h).0);
      longer = λ h. omega (arith, (reaches h).1, inv.longer h);
      journal = λ h. c.in_ok-head.ensures.journal (told h) ∙ inv.journal h;
      rest = λ h all holds. restoring_step (c.in_ok-head.ensures.only (told h)) (inv.rest h all holds) next_is (omega arith) c.if-not-head.false
          (c.in_ok-head.ensures.journal (told h)) (c.in_ok-head.ensures.placed (told h));
      pends = λ all holds at.
          homes_go_on (inv.pends all holds at) (c.restore_at.ensures.pends _ _ (λ h head here one.
          let told = sym inv.tells ∙ h in restoring_homes one (inv.rest told all (holds told))));
      faults = c.in_ok-head.ensures.writes.faults ∙ inv.faults;
      reads = omega (arith, c.in_ok-head.ensures.cost);
      rise = omega arith;
      tells = c.restore_at.ensures.writes.tells ∙ inv.tells;
    }
