use Rattle.std.proofs.Common.{Ok, sym, ap, subst}
use Rattle.boxsum.specs.Checking.{Checks}
use Rattle.boxsum.specs.declared.status.Status.{Status}
use Rattle.boxsum.proofs.checking.check_on.Goals.{in-Err-Disk, in-Err-NoMemory, in-Ok-Broken, in-Ok-Empty, in-Ok-Good}
use Rattle.boxsum.proofs.Checked.{broken_is_full, checks_broken, checks_failed, checks_good, checks_no_memory, checks_nothing, good_is_full}
use Rattle.boxsum.proofs.checking.check_on.Goals as goal

pub returns-clause-checks : goal.returns-clause-checks
returns-clause-checks g c = elim c.match-check.branch [
  | in-Ok-Good w ↦
      subst (λ (t : g.row.K.Denot). Checks g.D.Disk g.K.Sink g.X.DomIndex c.args.disk c.args.sink.now t (record { status = c.match-check.status; disk = c.check.new.disk })) (sym w.sink-is)
      (subst (λ (s : Status). Checks g.D.Disk g.K.Sink g.X.DomIndex c.args.disk c.args.sink.now w.put_good-status.new.sink (record { status = s; disk = c.check.new.disk })) (sym w.status-is)
      (checks_good g.D.Disk g.K.Sink g.X.DomIndex c.args.disk c.check.new.disk c.args.sink.now w.put_good-status.new.sink c.check.ensures.looks.image c.check.ensures.looks.moments c.table_tells.ensures.one w.in-Ok-Good.version w.in-Ok-Good.rows w.put_good-status.result w.put_good-status.ensures
      (λ tells none. good_is_full w.in-Ok-Good.field-0 w.in-Ok-Good.version w.in-Ok-Good.rows w.in-Ok-Good.field-0-is (w.in-Ok-Good.ensures.always_empty tells none))
      (w.in-Ok-Good.ensures.good w.in-Ok-Good.version w.in-Ok-Good.rows (ap Ok w.in-Ok-Good.field-0-is))))
  | in-Ok-Broken w ↦
      subst (λ (t : g.row.K.Denot). Checks g.D.Disk g.K.Sink g.X.DomIndex c.args.disk c.args.sink.now t (record { status = c.match-check.status; disk = c.check.new.disk })) (sym w.sink-is)
      (subst (λ (s : Status). Checks g.D.Disk g.K.Sink g.X.DomIndex c.args.disk c.args.sink.now w.put_broken-status.new.sink (record { status = s; disk = c.check.new.disk })) (sym w.status-is)
      (checks_broken g.D.Disk g.K.Sink g.X.DomIndex c.args.disk c.check.new.disk c.args.sink.now w.put_broken-status.new.sink c.check.ensures.looks.image c.check.ensures.looks.moments c.verdicts_are_right.ensures.broken w.in-Ok-Broken.part
      (w.in-Ok-Broken.ensures.parts w.in-Ok-Broken.part (ap Ok w.in-Ok-Broken.field-0-is)) w.put_broken-status.result w.put_broken-status.ensures
      (λ tells none. broken_is_full w.in-Ok-Broken.field-0 w.in-Ok-Broken.part w.in-Ok-Broken.field-0-is (w.in-Ok-Broken.ensures.always_empty tells none))
      (w.in-Ok-Broken.ensures.broken w.in-Ok-Broken.part (ap Ok w.in-Ok-Broken.field-0-is))))
  | in-Ok-Empty w ↦
      subst (λ (t : g.row.K.Denot). Checks g.D.Disk g.K.Sink g.X.DomIndex c.args.disk c.args.sink.now t (record { status = c.match-check.status; disk = c.check.new.disk })) (sym w.sink-is)
      (subst (λ (s : Status). Checks g.D.Disk g.K.Sink g.X.DomIndex c.args.disk c.args.sink.now c.args.sink.now (record { status = s; disk = c.check.new.disk })) (sym w.status-is)
      (checks_nothing g.D.Disk g.K.Sink g.X.DomIndex c.args.disk c.check.new.disk c.args.sink.now c.args.sink.now c.check.ensures.looks.image c.check.ensures.looks.moments (w.in-Ok-Empty.ensures.empty (ap Ok w.in-Ok-Empty.field-0-is))))
  | in-Err-Disk w ↦
      subst (λ (t : g.row.K.Denot). Checks g.D.Disk g.K.Sink g.X.DomIndex c.args.disk c.args.sink.now t (record { status = c.match-check.status; disk = c.check.new.disk })) (sym w.sink-is)
      (subst (λ (s : Status). Checks g.D.Disk g.K.Sink g.X.DomIndex c.args.disk c.args.sink.now c.args.sink.now (record { status = s; disk = c.check.new.disk })) (sym w.status-is)
      (checks_failed g.D.Disk g.K.Sink g.X.DomIndex c.args.disk c.check.new.disk c.args.sink.now c.args.sink.now c.check.ensures.looks.image c.check.ensures.looks.moments))
  | in-Err-NoMemory w ↦
      subst (λ (t : g.row.K.Denot). Checks g.D.Disk g.K.Sink g.X.DomIndex c.args.disk c.args.sink.now t (record { status = c.match-check.status; disk = c.check.new.disk })) (sym w.sink-is)
      (subst (λ (s : Status). Checks g.D.Disk g.K.Sink g.X.DomIndex c.args.disk c.args.sink.now c.args.sink.now (record { status = s; disk = c.check.new.disk })) (sym w.status-is)
      (checks_no_memory g.D.Disk g.K.Sink g.X.DomIndex c.args.disk c.check.new.disk c.args.sink.now c.args.sink.now c.check.ensures.looks.image c.check.ensures.looks.moments))
]
