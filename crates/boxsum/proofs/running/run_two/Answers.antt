use Rattle.std.proofs.Common.{map, string_bytes, refl}
use Rattle.boxsum.proofs.Asked.{one_is_enough}
use Rattle.boxsum.proofs.Carrying.{carried_by, nothing_carried, nothing_compacted, nothing_derived}
use Rattle.boxsum.proofs.Nothing.{nothing_spanned}
use Rattle.boxsum.proofs.running.run_two.Goals as goal

pub returns-in-Err-NoMemory-clause-carried : goal.returns-in-Err-NoMemory-clause-carried
returns-in-Err-NoMemory-clause-carried g c = λ one.
    (nothing_carried g.D.Disk g.S.Source g.K.Sink _ c.args.disk c.args.source.now c.args.sink.now c.machine_laws.ensures.silent c.machine_laws.ensures.goes_on _, refl)

pub returns-in-Err-NoMemory-clause-compacts : goal.returns-in-Err-NoMemory-clause-compacts
returns-in-Err-NoMemory-clause-compacts g c = λ version asked. (refl, nothing_compacted g.D.Disk g.E.Disk g.K.Sink _ c.args.disk c.args.second c.args.sink.now version)

pub returns-in-Err-NoMemory-clause-derives : goal.returns-in-Err-NoMemory-clause-derives
returns-in-Err-NoMemory-clause-derives g c = λ asked. (refl, nothing_derived g.D.Disk g.E.Disk g.K.Sink _ c.args.disk c.args.second c.args.sink.now)

pub returns-in-Err-NoMemory-clause-span_run : goal.returns-in-Err-NoMemory-clause-span_run
returns-in-Err-NoMemory-clause-span_run g c = λ asked. (refl, nothing_spanned g.E.Disk g.S.Source g.K.Sink _ c.args.second c.args.source.now c.args.sink.now)

pub returns-in-Ok-clause-carried : goal.returns-in-Ok-clause-carried
returns-in-Ok-clause-carried g c = λ one. (
  carried_by g.D.Disk g.S.Source g.K.Sink _ c.args.disk c.args.source.now c.run-status.new.source c.args.sink.now c.run-status.new.sink c.run-status.result _ _
      (one_is_enough (map string_bytes c.args.words.now) one) c.run-status.ensures.carried,
  refl,
)
