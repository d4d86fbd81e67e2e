use Rattle.std.proofs.Common.{◌≡◌, ◌∙◌, true, false, refl, IsTrue, inl, inr, subst, sym, arith}
use Rattle.ports.specs.Count.{Rose}
use Rattle.bw_types.specs.History.{History}
use Rattle.bw_types.specs.declared.params.Params.{Params}
use Rattle.page_disk.specs.declared.disk.Disk.{Ghosts as DiskGhosts}
use Rattle.dom_index.specs.declared.index.DomIndex.{Ghosts as IndexGhosts}
use Rattle.page_space.specs.declared.refusal.OpenFault.{OpenFault}
use Rattle.page_space.specs.declared.refusal.OpenFault.TheVariants as fault
use Rattle.span_planes.specs.Asked.{AreAsBefore}
use Rattle.span_planes.specs.Opened.{IsDamagedToOpen, IsOpenedFrom, IsRefusedFor}
use Rattle.span_planes.specs.Shown.{HoldsSpans, disk_in, meta_in, params_in}
use Rattle.span_planes.specs.SpanHolds.{SpanHolds}
use Rattle.span_planes.specs.SpanRows.{span_line_cost, span_reply}
use Rattle.span_planes.specs.declared.spans.Spans.{Spans}
use Rattle.boxsum.specs.Ends.{ends_report}
use Rattle.boxsum.specs.Held.{all_spans}
use Rattle.boxsum.specs.Ran.{SpanRunRan}
use Rattle.boxsum.specs.Statuses.{status_of, status_of_fault}
use Rattle.boxsum.specs.declared.status.Status.{Status}
use Rattle.boxsum.specs.declared.status.Status.TheVariants as status
use Rattle.row_machine.specs.declared.ending.Ending.{Ending}
use Rattle.row_machine.specs.declared.ending.Ending.TheVariants as ending
use Rattle.boxsum.proofs.AnswersFrom.{answers_opened, answers_refused}
use Rattle.boxsum.proofs.Endings.{ending_of, fault_of, never_falls, no_fault, port_cause, rises}
use Rattle.boxsum.proofs.ReadsContent.{GivesBack, IsLeftAlike, IsNotEmptyAtFault, IsOpenedOver, IsRefusedWith}
use Rattle.boxsum.proofs.span_run.span_run_on.Goals as goal

-- a page at fault shows that the disk is not empty
made_where_damaged : (dims : _) → IsNotEmptyAtFault (IsDamagedToOpen dims)
made_where_damaged dims = λ x page why none. elim why [
  | inl w ↦ (let no : false ≡ true = sym w.1.0.made ∙ none in cc)
  | inr w ↦ (let no : false ≡ true = sym w.space.settled.made ∙ none in cc)
]

-- the statuses of an opening and of an ending are among those that may come
fault_may_end : (f : OpenFault) → IsTrue (ends_report (status_of_fault f))
fault_may_end fault.Disk = refl
fault_may_end fault.Empty = refl
fault_may_end (fault.Damaged page) = refl
fault_may_end fault.NoMemory = refl
fault_may_end (fault.BadJournal page) = refl

ending_may_end : (e : Ending) → ((allotted : _) → e ≡ ending.PageLimit allotted → ⊥) → IsTrue (ends_report (status_of e))
ending_may_end ending.Fine none = refl
ending_may_end ending.ReadFault none = refl
ending_may_end ending.WriteFault none = refl
ending_may_end ending.NoMemory none = refl
ending_may_end (ending.InputLimit taken) none = refl
ending_may_end ending.DiskFault none = refl
ending_may_end (ending.Damaged page) none = refl
ending_may_end (ending.PageLimit allotted) none = absurd (none allotted refl)

module _ {E X : Type 0} (g : DiskGhosts E) (i : IndexGhosts X) (disk : E) where
  refused_with : (f : OpenFault) (back : E) → IsRefusedFor g i disk f back → IsRefusedWith (all_spans i) g disk f back
  refused_with f back refused = record {
    empty = refused.empty;
    bad_journal = refused.bad_journal;
    damaged = refused.damaged;
    stands = refused.stands;
    kept = refused.kept;
    settled = refused.settled;
  }

  opened_over : (spans : Spans E X g i) → IsOpenedFrom g i disk spans → IsOpenedOver (all_spans i) g disk (disk_in spans)
  opened_over spans o = record {
    made = λ told none. let no : false ≡ true = sym (o.settles told).made ∙ none in cc;
    some = λ told none. none (params_in spans) (meta_in spans) (o.whole told).0 (o.whole told).1 o.numbers.0 o.numbers.1;
    stands = o.stands;
    holds = λ told params h held. (o.holds params h told held).1;
    settled = o.settled;
  }

  left_alike : (old new : Spans E X g i) → AreAsBefore g i old new → IsLeftAlike (all_spans i) g disk (disk_in old) (disk_in new)
  left_alike old new kept = record { tells = kept.tells; image = kept.image; moments = kept.moments }

pub returns-in-Err : goal.returns-in-Err
returns-in-Err g c =
    let e = c.in-Err.ensures in
    let f = c.in-Err.refused.fault in
    let s = c.from.result in
    record {
      ran = record {
        answers = answers_refused g.E.Disk g.S.Source g.K.Sink g.X.DomIndex c.args.disk (all_spans g.X.DomIndex) (λ params h x. SpanHolds g.X.DomIndex x params h) span_reply
            (λ params h. span_line_cost g.X.DomIndex.cost params h) c.args.source.now c.args.sink.now (made_where_damaged g.X.DomIndex.DIMS) f (record { status = s; disk = c.in-Err.refused.disk }) c.from.ensures
            (record { tells = e.writes.tells; any_moment = e.any_moment; stands_on = e.stands_on; untouched = e.untouched })
            (refused_with g.E.Disk g.X.DomIndex c.args.disk f c.in-Err.refused.disk e.refused) e.writes.faults e.refused.sound
            (λ told. let most = e.writes.at_most told in omega arith);
        may_end = subst (λ (t : Status). IsTrue (ends_report t)) (sym c.from.ensures) (fault_may_end f);
        causes = record {
          ports = record {
            read_fault = λ so. absurd (no_fault f s status.ReadFault c.from.ensures so refl);
            write_fault = λ so. absurd (no_fault f s status.WriteFault c.from.ensures so refl);
            input_limit = λ taken so. absurd (no_fault f s (status.InputLimit taken) c.from.ensures so refl);
          };
          disk_fault = λ so. rises f _ _ e.writes.faults (fault_of f fault.Disk s status.DiskFault c.from.ensures so refl);
        };
        tells = e.writes.tells;
        faults = never_falls f (g.E.Disk.faults c.args.disk) (g.E.Disk.faults c.in-Err.refused.disk) e.writes.faults;
      };
    }

pub returns : goal.returns
returns g c =
    let e = c.in-Ok.ensures in
    let o = e.opened in
    let before = c.in-Ok.spans in
    let a = c.answer_spans-answered.ensures in
    let after = c.answer_spans-answered.result.spans in
    let ended = c.answer_spans-answered.result.ending in
    let s = c.from-2.result in
    let back : GivesBack (all_spans g.X.DomIndex) g.E.Disk c.args.disk (disk_in before) = record { tells = e.writes.tells; any_moment = e.any_moment; stands_on = e.stands_on; untouched = e.untouched } in
    let held : (params : Params) (h : History) → IsTrue (g.E.Disk.tells c.args.disk) → SpanHolds g.X.DomIndex (g.E.Disk.image c.args.disk) params h → HoldsSpans g.E.Disk g.X.DomIndex (disk_in before) params h =
    λ params h told holds. (e.writes.tells ∙ told, (o.holds params h told holds).1) in
    let causes = port_cause g.S.Source g.K.Sink c.args.source.now c.answer_spans-answered.new.source c.args.sink.now c.answer_spans-answered.new.sink ended s c.from-2.ensures a.read_fault a.write_fault a.input_limit in
    record {
      ran = subst (λ (disk : g.row.E.Denot). SpanRunRan g.E.Disk g.S.Source g.K.Sink g.X.DomIndex c.args.disk c.args.source.now c.answer_spans-answered.new.source c.args.sink.now c.answer_spans-answered.new.sink
          (record { status = s; disk = disk })) (sym c.into_disk.ensures)
          (record {
            answers = answers_opened g.E.Disk g.S.Source g.K.Sink g.X.DomIndex c.args.disk (all_spans g.X.DomIndex) (λ params h x. SpanHolds g.X.DomIndex x params h) span_reply
                (λ params h. span_line_cost g.X.DomIndex.cost params h) c.args.source.now c.answer_spans-answered.new.source c.args.sink.now c.answer_spans-answered.new.sink (disk_in before) (disk_in after)
                (opened_over g.E.Disk g.X.DomIndex c.args.disk before o) back (left_alike g.E.Disk g.X.DomIndex c.args.disk before after a.kept) ended s c.from-2.ensures
                (λ params h told holds still. a.answers still params h (held params h told holds)) (λ params h told holds page. a.sound params h page (held params h told holds))
                a.tells causes a.at_end (λ told. let most = e.writes.at_most told in omega arith);
            may_end = subst (λ (t : Status). IsTrue (ends_report t)) (sym c.from-2.ensures) (ending_may_end ended a.no_page);
            causes = record {
              ports = causes;
              disk_fault = λ so.
                  let rose = a.disk_fault (ending_of ended ending.DiskFault s status.DiskFault c.from-2.ensures so refl) in
                  subst (λ (n : _). Rose n (g.E.Disk.faults (disk_in after))) e.writes.faults rose;
            };
            tells = a.kept.tells ∙ e.writes.tells;
            faults = let more = a.faults in let opened : g.E.Disk.faults (disk_in before) ≡ g.E.Disk.faults c.args.disk = e.writes.faults in omega (arith, more, opened);
          });
    }
