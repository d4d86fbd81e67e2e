use Rattle.std.proofs.Common.{map, string_bytes, refl, rules, arith}
use Rattle.command_words.specs.declared.command.Command.TheVariants.{Create, Sample, Scratch}
use Rattle.boxsum.proofs.Asked.{created_by, one_is_asked, same_create, same_sample, same_scratch, sampled_by, scratched_by}
use Rattle.boxsum.proofs.Carrying.{nothing_carried}
use Rattle.boxsum.proofs.running.run.Goals as goal

pub returns-in-Ok-Create : goal.returns-in-Ok-Create
returns-in-Ok-Create g c = record {
  carried = record {
    usage = search rules;
    usage_only = search rules;
    scratch = search rules;
    create = λ params asked.
        let same = same_create (map string_bytes c.args.words.now) c.in-Ok-Create.field-0 c.in-Ok-Create.params params c.in-Ok-Create.ensures.read c.in-Ok-Create.field-0-is (one_is_asked (map string_bytes c.args.words.now) (Create params) asked) in
        record { untouched = (refl, refl); makes = created_by _ _ _ _ c.in-Ok-Create.params params same c.create_on.ensures.makes };
    run = search rules;
    sample = search rules;
    report = search rules;
    export = search rules;
    check = search rules;
    may_end = search rules;
    causes = search rules;
    tells = c.create_on.ensures.tells;
    faults = c.create_on.ensures.faults;
  };
}

pub returns-in-Ok-Run : goal.returns-in-Ok-Run
returns-in-Ok-Run g c = record {
  carried = record {
    usage = search rules;
    usage_only = search rules;
    scratch = search rules;
    create = search rules;
    run = λ asked. c.run_on.ensures.ran;
    sample = search rules;
    report = search rules;
    export = search rules;
    check = search rules;
    may_end = search rules;
    causes = c.run_on.ensures.causes;
    tells = c.run_on.ensures.tells;
    faults = c.run_on.ensures.faults;
  };
}

pub returns-in-Ok-Scratch : goal.returns-in-Ok-Scratch
returns-in-Ok-Scratch g c = record {
  carried = record {
    usage = search rules;
    usage_only = search rules;
    scratch = λ params asked.
        let same = same_scratch (map string_bytes c.args.words.now) c.in-Ok-Scratch.field-0 c.in-Ok-Scratch.params params c.in-Ok-Scratch.ensures.read c.in-Ok-Scratch.field-0-is (one_is_asked (map string_bytes c.args.words.now) (Scratch params) asked) in
        record { disk_stays = refl; answers = scratched_by _ _ _ _ _ _ _ c.in-Ok-Scratch.params params same c.scratch_on.ensures.answers };
    create = search rules;
    run = search rules;
    sample = search rules;
    report = search rules;
    export = search rules;
    check = search rules;
    may_end = search rules;
    causes = search rules;
    tells = refl;
    faults = omega arith;
  };
}

pub returns-in-Ok-Sample : goal.returns-in-Ok-Sample
returns-in-Ok-Sample g c = record {
  carried = record {
    usage = search rules;
    usage_only = search rules;
    scratch = search rules;
    create = search rules;
    run = search rules;
    sample = λ start count asked.
        let same = same_sample (map string_bytes c.args.words.now) c.in-Ok-Sample.field-0 c.in-Ok-Sample.start c.in-Ok-Sample.count start count c.in-Ok-Sample.ensures.read c.in-Ok-Sample.field-0-is (one_is_asked (map string_bytes c.args.words.now) (Sample start count) asked) in
        record { source_stays = refl; samples = sampled_by _ _ _ _ _ _ _ c.in-Ok-Sample.start c.in-Ok-Sample.count start count same c.sample_on.ensures.samples };
    report = search rules;
    export = search rules;
    check = search rules;
    may_end = search rules;
    causes = search rules;
    tells = c.sample_on.ensures.tells;
    faults = c.sample_on.ensures.faults;
  };
}

pub returns-in-Ok-Report : goal.returns-in-Ok-Report
returns-in-Ok-Report g c = record {
  carried = record {
    usage = search rules;
    usage_only = search rules;
    scratch = search rules;
    create = search rules;
    run = search rules;
    sample = search rules;
    report = λ asked. c.report_on.ensures.ran;
    export = search rules;
    check = search rules;
    may_end = search rules;
    causes = c.report_on.ensures.causes;
    tells = c.report_on.ensures.tells;
    faults = c.report_on.ensures.faults;
  };
}

pub returns-in-Ok-Export : goal.returns-in-Ok-Export
returns-in-Ok-Export g c = record {
  carried = record {
    usage = search rules;
    usage_only = search rules;
    scratch = search rules;
    create = search rules;
    run = search rules;
    sample = search rules;
    report = search rules;
    export = λ asked. record { source_stays = refl; exports = c.export_on.ensures.exports };
    check = search rules;
    may_end = search rules;
    causes = record {
      ports = record { read_fault = search rules; write_fault = c.export_on.ensures.write_fault; input_limit = search rules };
      disk_fault = c.export_on.ensures.disk_fault;
    };
    tells = c.export_on.ensures.tells;
    faults = c.export_on.ensures.faults;
  };
}

pub returns-in-Ok-Check : goal.returns-in-Ok-Check
returns-in-Ok-Check g c = record {
  carried = record {
    usage = search rules;
    usage_only = search rules;
    scratch = search rules;
    create = search rules;
    run = search rules;
    sample = search rules;
    report = search rules;
    export = search rules;
    check = λ asked. record { source_stays = refl; checks = c.check_on.ensures.checks };
    may_end = search rules;
    causes = record {
      ports = record { read_fault = search rules; write_fault = c.check_on.ensures.write_fault; input_limit = search rules };
      disk_fault = c.check_on.ensures.disk_fault;
    };
    tells = c.check_on.ensures.tells;
    faults = c.check_on.ensures.faults;
  };
}

pub returns-in-Ok : goal.returns-in-Ok
returns-in-Ok g c = record {
  carried = record {
    usage = search rules;
    usage_only = search rules;
    scratch = search rules;
    create = search rules;
    run = search rules;
    sample = search rules;
    report = search rules;
    export = search rules;
    check = search rules;
    may_end = search rules;
    causes = search rules;
    tells = refl;
    faults = omega arith;
  };
}

pub returns-in-Err-NoMemory : goal.returns-in-Err-NoMemory
returns-in-Err-NoMemory g c = record {
  carried = nothing_carried g.D.Disk g.S.Source g.K.Sink _ c.args.disk c.args.source.now c.args.sink.now c.machine_laws.ensures.silent c.machine_laws.ensures.goes_on _;
}
