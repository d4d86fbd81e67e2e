use Rattle.std.proofs.Common.{rules, refl, inl, inr}
use Rattle.row_machine.proofs.Parts.{writes_front}
use Rattle.boxsum.proofs.Exported.{whole_is_part}
use Rattle.boxsum.proofs.printing.put_line.Goals as goal

pub returns-in-Ok : goal.returns-in-Ok
returns-in-Ok g c = record {
  puts = record {
    may_end = inl refl;
    fine = search rules;
    part = λ told still. whole_is_part _ _ _ (search rules);
    silent = λ e. cc;
    write_fault = λ e. cc;
  };
  memory = λ e. cc;
}

pub returns-in-Err : goal.returns-in-Err
returns-in-Err g c = record {
  puts = record {
    may_end = inr (inl refl);
    fine = λ e. cc;
    part = λ told still. writes_front _ _ _ (c.in-Err.ensures.prefix told still);
    silent = λ e. cc;
    write_fault = search rules;
  };
  memory = λ e. cc;
}
