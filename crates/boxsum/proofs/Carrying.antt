-- Where there is no memory to read the words, nothing is called, whatever they ask for.
use Rattle.std.proofs.Common.{◌≡◌, ℕ, Option, Some, None, IsTrue, inl, inr, refl, subst, arith}
use Rattle.ports.specs.declared.Source.{Ghosts as SourceGhosts}
use Rattle.ports.specs.declared.Sink.{Ghosts as SinkGhosts}
use Rattle.command_words.specs.declared.command.Command.{Command}
use Rattle.command_words.specs.declared.command.Command.TheVariants.{Create, Run, Scratch, Sample, Check, Spans, SpanRun, Report, Export, Compact}
use Rattle.bw_types.specs.History.{last_version}
use Rattle.compact_store.specs.Kept.{kept}
use Rattle.dom_index.specs.declared.index.DomIndex.{Ghosts as IndexGhosts}
use Rattle.page_disk.specs.declared.disk.Disk.{Ghosts as DiskGhosts}
use Rattle.row_machine.specs.Ended.{AfterGoesOn, SilentLinesKeep}
use Rattle.boxsum.specs.Ends.{may_end}
use Rattle.boxsum.specs.Held.{warehouses}
use Rattle.boxsum.specs.Ran.{Carried, Compacts}
use Rattle.boxsum.specs.Spanning.{Derives, LeavesSpanDisk, spans_line}
use Rattle.boxsum.specs.declared.status.Ran.{Ran}
use Rattle.boxsum.specs.declared.status.Status.TheVariants.{NoMemory}
use Rattle.boxsum.proofs.Checked.{nothing_checked}
use Rattle.boxsum.proofs.Compacting.{nothing_written, some_history}
use Rattle.boxsum.proofs.Exported.{nothing_exported}
use Rattle.boxsum.proofs.Nothing.{nothing_caused, nothing_created, nothing_left, nothing_read, nothing_reported, nothing_run, nothing_sampled, nothing_scratched, stays_read}
use Rattle.boxsum.proofs.Opened.{writes_nothing}
use Rattle.boxsum.proofs.Spanning.{still_ready}

-- each command may end so
any_may_end : (asked : Option Command) → IsTrue (may_end asked NoMemory)
any_may_end None = refl
any_may_end (Some (Create params)) = refl
any_may_end (Some Run) = refl
any_may_end (Some (Scratch params)) = refl
any_may_end (Some (Sample start count)) = refl
any_may_end (Some Check) = refl
any_may_end (Some Spans) = refl
any_may_end (Some SpanRun) = refl
any_may_end (Some Report) = refl
any_may_end (Some Export) = refl
any_may_end (Some (Compact version)) = refl

pub nothing_carried : {D S K X : Type 0} (d : DiskGhosts D) (s : SourceGhosts S) (k : SinkGhosts K) (i : IndexGhosts X) (disk : D) (source : S) (sink : K) → SilentLinesKeep → AfterGoesOn → (asked : Option Command)
    → Carried d s k i disk source source sink sink (record { status = NoMemory; disk = disk }) asked
nothing_carried d s k i disk source sink silent goes_on asked = record {
  usage = λ none. ((refl, refl), refl, inr refl);
  usage_only = λ e. cc;
  scratch = λ params asked. nothing_scratched d s k i disk source sink params;
  create = λ params asked. nothing_created d s k i disk source sink params;
  run = λ asked. nothing_run d s k i disk source sink silent goes_on;
  sample = λ start count asked. nothing_sampled d s k i disk source sink start count;
  report = λ asked. nothing_reported d s k i disk source sink;
  export = λ asked. nothing_exported d k i disk sink s source;
  check = λ asked. nothing_checked d k i disk sink s source;
  may_end = any_may_end asked;
  causes = record { ports = nothing_caused s k source sink; disk_fault = λ e. cc };
  tells = refl;
  faults = omega arith;
}

-- what was carried out is what is asked
pub carried_by : {D S K X : Type 0} (d : DiskGhosts D) (s : SourceGhosts S) (k : SinkGhosts K) (i : IndexGhosts X) (disk : D) (source source' : S) (sink sink' : K) (ran : Ran D) (asked other : Option Command) → asked ≡ other
    → Carried d s k i disk source source' sink sink' ran asked → Carried d s k i disk source source' sink sink' ran other
carried_by d s k i disk source source' sink sink' ran asked other same carried = subst (λ (a : Option Command). Carried d s k i disk source source' sink sink' ran a) same carried

pub nothing_compacted : {D E K X : Type 0} (d : DiskGhosts D) (e : DiskGhosts E) (k : SinkGhosts K) (i : IndexGhosts X) (disk : D) (second : E) (sink : K) (version : ℕ)
    → Compacts d e k i disk second sink sink (record { status = NoMemory; disk = disk; second = second }) version
nothing_compacted d e k i disk second sink version = record {
  silent = λ fine put. refl;
  reads = nothing_read (warehouses i) d disk;
  leaves = record {
    unopened = λ told why. refl;
    no_version = λ params h held above. (refl, inr (inr refl));
    no_version_only = λ params h last held so. cc;
    there = λ told full. (stays_read e second, (λ so. cc), (λ so. cc), (λ allotted so. cc));
    there_held = λ params h held within told full. inr (inr refl);
    there_only = λ so. cc;
    makes = λ params h held within told none. record {
      writes = nothing_written d e k i disk disk second sink NoMemory params (kept h version) (λ so. cc) (λ so. cc) (λ allotted so. cc) told none;
      last = λ so. cc;
      alike = λ later q so. cc;
      first = λ why. elim why [ inl so ↦ cc | inr so ↦ cc ];
      enough_pages = λ allotted few so. cc;
      undamaged = λ area page so. cc;
      complete = λ calm other limit. inr refl;
    };
    shown = λ params told shows within still none.
        let some = some_history shows.meta.version in
        record {
          whole = some.0;
          last = some.1;
          writes = nothing_written d e k i disk disk second sink NoMemory params some.0 (λ so. cc) (λ so. cc) (λ allotted so. cc) still none;
          later = λ why. elim why [ inl so ↦ cc | inr so ↦ cc ];
          has_version = λ other so. cc;
        };
    shown_above = λ params told shows above. (refl, inr (inr refl));
    shown_there = λ params told shows within still full. inr (inr refl);
  };
  causes = record {
    may_end = refl;
    write_fault = λ so. cc;
    disk_fault = λ so. cc;
    tells = refl;
    faults = omega arith;
    second_tells = refl;
    second_faults = omega arith;
  };
}

-- Where there is no memory before the second disk is called, that is as it was.
pub no_memory_leaves : {D E K X : Type 0} (d : DiskGhosts D) (e : DiskGhosts E) (k : SinkGhosts K) (i : IndexGhosts X) (disk : D) (second : E) (sink : K) (back : D)
    → LeavesSpanDisk d e k i disk second sink sink (record { status = NoMemory; disk = back; second = second })
no_memory_leaves d e k i disk second sink back = record {
  unopened = λ told why. refl;
  ready = λ params told shows still takes. record {
    ready = λ undone calm. (still_ready params (e.image second), nothing_left _ (e.moments second));
    done = λ why. elim why [ inl so ↦ cc | inr so ↦ cc ];
    fine = λ so. cc;
    none = λ why. elim why [ inl so ↦ cc | inr so ↦ cc ];
    moments = nothing_left _ (e.moments second);
    at_limit = λ allotted so. cc;
    there = λ so. cc;
  };
  there = λ params told shows still full. record {
    told = inr (inr refl);
    image = refl;
    moments = refl;
  };
  there_only = λ so. cc;
  makes = λ params h held told takes. record {
    done = λ why. elim why [ inl so ↦ cc | inr so ↦ cc ];
    fine = λ so. cc;
    part = λ before still. writes_nothing (k.written sink) (spans_line (last_version h));
    first = λ why. elim why [ inl so ↦ cc | inr so ↦ cc ];
    moments = nothing_left _ (e.moments second);
    growth = λ why. elim why [ inl so ↦ cc | inr so ↦ cc ];
    limit = λ allotted before so given. cc;
    undamaged = λ area page so. cc;
    complete = λ calm other limit. inr refl;
  };
}

pub nothing_derived : {D E K X : Type 0} (d : DiskGhosts D) (e : DiskGhosts E) (k : SinkGhosts K) (i : IndexGhosts X) (disk : D) (second : E) (sink : K)
    → Derives d e k i disk second sink sink (record { status = NoMemory; disk = disk; second = second })
nothing_derived d e k i disk second sink = record {
  silent = λ fine put. refl;
  reads = nothing_read (warehouses i) d disk;
  leaves = no_memory_leaves d e k i disk second sink disk;
  causes = record {
    may_end = refl;
    write_fault = λ so. cc;
    disk_fault = λ so. cc;
    tells = refl;
    faults = omega arith;
    second_tells = refl;
    second_faults = omega arith;
  };
}
