use Rattle.std.proofs.Common.{◌≡◌, ◌≢◌, ◌⊎◌, ℕ, List, true, ◌++◌, None, refl, sym, ◌∙◌, ap, subst, inl, inr, arith}
use Rattle.std.proofs.lemmas.Bool.{false_from_ne_true}
use Rattle.ports.specs.Count.{Rose}
use Rattle.bw_types.specs.History.{last_version}
use Rattle.bw_types.specs.declared.params.Params.{Params}
use Rattle.page_layout.specs.declared.meta.Meta.{Meta}
use Rattle.page_space.specs.declared.refusal.OpenFault.TheVariants as fault
use Rattle.page_warehouse.specs.Shown.{HasNewForm, HoldsHistory, disk_charge, disk_in, meta_in, params_in}
use Rattle.redo_journal.specs.Gates.{is_empty}
use Rattle.span_planes.specs.Made.{LeavesSpans, MayTakeSpans, StaysReady, second_out}
use Rattle.span_planes.specs.declared.making.Derived.TheVariants as derived
use Rattle.warehouse.specs.Left.{IsAsBefore}
use Rattle.boxsum.specs.Spanning.{Derives, failure_of, spans_line}
use Rattle.boxsum.specs.declared.status.Status.{Status}
use Rattle.boxsum.specs.declared.status.Status.TheVariants as status
use Rattle.boxsum.proofs.Carrying.{no_memory_leaves}
use Rattle.boxsum.proofs.Endings.{fault_of, never_falls, no_fault, rises}
use Rattle.boxsum.proofs.Nothing.{nothing_left}
use Rattle.boxsum.proofs.Opened.{for_queries, not_damaged, only_memory, refused_status, writes_nothing}
use Rattle.boxsum.proofs.ReadsWarehouse.{GivesBack, holds_on, never_empty, never_none, reads_opened, reads_refused, stands_here}
use Rattle.boxsum.proofs.Spanning.{derived_complete, derived_may_end, derived_of, derived_put, derived_there, done_of, failed_by, no_failure, no_journal_of, part_by, put_by, refused_may_end, shown_stopped, silent_by, status_by, still_ready}
use Rattle.boxsum.proofs.derivation.spans_on.Goals as goal

pub returns-in-Err : goal.returns-in-Err
returns-in-Err g c =
    let f = c.in-Err.refused.fault in
    let s = c.from.result in
    let e = c.in-Err.ensures in
    let x = g.D.Disk.image c.args.disk in
    let not_done : (s ≡ status.Fine) ⊎ (s ≡ status.WriteFault) → ⊥ = λ why. elim why [
      | inl so ↦ no_fault f s status.Fine c.from.ensures so refl
      | inr so ↦ no_fault f s status.WriteFault c.from.ensures so refl
    ] in
    record {
      derives = record {
        silent = λ fine put. refl;
        reads = reads_refused g.D.Disk g.X.DomIndex c.args.disk f (record { status = s; disk = c.in-Err.refused.disk }) c.from.ensures
            (record { tells = e.writes.tells; any_moment = e.any_moment; stands_on = e.stands_on; untouched = e.untouched }) e.refused e.writes.faults;
        leaves = record {
          unopened = λ told why. refl;
          ready = λ params told shows still takes. record {
            ready = λ undone calm. (still_ready params (g.E.Disk.image c.args.second), nothing_left _ (g.E.Disk.moments c.args.second));
            done = λ why. absurd (not_done why);
            fine = λ so. absurd (no_fault f s status.Fine c.from.ensures so refl);
            none = λ why. absurd (not_done why);
            moments = nothing_left _ (g.E.Disk.moments c.args.second);
            at_limit = λ allotted so. absurd (no_fault f s (status.PageLimit allotted) c.from.ensures so refl);
            there = λ so. no_fault f s status.AlreadyThere c.from.ensures so refl;
          };
          there = λ params told shows still full. record {
            told = inr (shown_stopped g.D.Disk c.args.disk g.X.DomIndex.DIMS params f s c.holds_one.ensures.one c.held_opens.ensures told shows e.refused.empty e.refused.bad_journal e.refused.damaged c.from.ensures);
            image = refl;
            moments = refl;
          };
          there_only = λ so. absurd (no_fault f s status.AlreadyThere c.from.ensures so refl);
          makes = λ params h held told takes.
              let known = for_queries g.D.Disk g.X.DomIndex c.holding_laws.ensures.queries true c.args.disk params h held in
              let stopped = refused_status g.D.Disk g.X.DomIndex f s c.from.ensures (e.refused.sound known.0 params h known.1) in
              record {
                done = λ why. absurd (not_done why);
                fine = λ so. absurd (no_fault f s status.Fine c.from.ensures so refl);
                part = λ before still. writes_nothing (g.K.Sink.written c.args.sink.now) (spans_line (last_version h));
                first = λ why. absurd (not_done why);
                moments = nothing_left _ (g.E.Disk.moments c.args.second);
                growth = λ why. absurd (not_done why);
                limit = λ allotted before so given. absurd (no_fault f s (status.PageLimit allotted) c.from.ensures so refl);
                undamaged = λ area page. not_damaged s area page stopped;
                complete = λ calm other limit. only_memory s stopped other;
              };
        };
        causes = record {
          may_end = refused_may_end f s c.from.ensures;
          write_fault = λ so. absurd (no_fault f s status.WriteFault c.from.ensures so refl);
          disk_fault = λ so. inl (rises f _ _ e.writes.faults (fault_of f fault.Disk s status.DiskFault c.from.ensures so refl));
          tells = e.writes.tells;
          faults = never_falls f (g.D.Disk.faults c.args.disk) (g.D.Disk.faults c.in-Err.refused.disk) e.writes.faults;
          second_tells = refl;
          second_faults = omega arith;
        };
      };
    }

pub returns-in_default : goal.returns-in_default
returns-in_default g c =
    let e = c.in-Ok.ensures in
    let o = e.opened in
    let house = c.in-Ok.house in
    let back : GivesBack g.D.Disk g.X.DomIndex c.args.disk (disk_in house) = record { tells = e.writes.tells; any_moment = e.any_moment; stands_on = e.stands_on; untouched = e.untouched } in
    let same : IsAsBefore params_in disk_in (HoldsHistory g.D.Disk g.X.DomIndex) (HasNewForm g.D.Disk) g.D.Disk.tells g.D.Disk.image g.D.Disk.moments (disk_charge g.D.Disk) house house =
    record { params = refl; stands = λ whole h held. held; current = λ new. new; tells = refl; image = refl; moments = refl; charge = refl } in
    record {
      derives = subst (λ (first : g.row.D.Denot). Derives g.D.Disk g.E.Disk g.K.Sink g.X.DomIndex c.args.disk c.args.second c.args.sink.now c.args.sink.now
          (record { status = status.NoMemory; disk = first; second = c.args.second })) (sym c.into_disk.ensures)
          (record {
            silent = λ fine put. refl;
            reads = reads_opened g.D.Disk g.X.DomIndex c.args.disk house o back house same status.NoMemory (λ so. cc) (λ page so. cc);
            leaves = no_memory_leaves g.D.Disk g.E.Disk g.K.Sink g.X.DomIndex c.args.disk c.args.second c.args.sink.now (disk_in house);
            causes = record {
              may_end = refl;
              write_fault = λ so. cc;
              disk_fault = λ so. cc;
              tells = e.writes.tells;
              faults = let opened : g.D.Disk.faults (disk_in house) ≡ g.D.Disk.faults c.args.disk = e.writes.faults in omega (arith, opened);
              second_tells = refl;
              second_faults = omega arith;
            };
          });
    }

pub returns : goal.returns
returns g c =
    let k = g.K.Sink in
    let r = c.derive-derived.result in
    let s = c.ended-status.result.0 in
    let before = c.args.sink.now in
    let put = c.ended-status.new.sink in
    let line = c.as_bytes.result.now in
    let ends = c.ended-status.ensures.status in
    let e = c.in-Ok.ensures in
    let d = c.derive-derived.ensures in
    let o = e.opened in
    let house = c.in-Ok.house in
    let after = c.derive-derived.new.house in
    let x = g.E.Disk.image c.args.second in
    let back : GivesBack g.D.Disk g.X.DomIndex c.args.disk (disk_in house) = record { tells = e.writes.tells; any_moment = e.any_moment; stands_on = e.stands_on; untouched = e.untouched } in
    let failed = λ (t : Status) (so : s ≡ t) (fine : t ≢ status.Fine) (wrote : t ≢ status.WriteFault) (memory : t ≢ status.NoMemory). failed_by k before put line (failure_of r) s t ends so fine wrote memory in
    let limited = λ (allotted : ℕ) (so : s ≡ status.PageLimit allotted).
    derived_of r (derived.PageLimit (second_out r) allotted) (status.PageLimit allotted) (failed (status.PageLimit allotted) so (λ no. cc) (λ no. cc) (λ no. cc)) refl in
    let is_there = λ (so : s ≡ status.AlreadyThere).
    derived_of r (derived.AlreadyThere (second_out r)) status.AlreadyThere (failed status.AlreadyThere so (λ no. cc) (λ no. cc) (λ no. cc)) refl in
    let fine = λ (so : s ≡ status.Fine). put_by k before put line (failure_of r) s status.Fine ends so (λ no. no_failure r status.Fine no refl) in
    let wrote = λ (so : s ≡ status.WriteFault). put_by k before put line (failure_of r) s status.WriteFault ends so (λ no. no_failure r status.WriteFault no refl) in
    let printed : (s ≡ status.Fine) ⊎ (s ≡ status.WriteFault) → failure_of r ≡ None = λ why. elim why [ inl so ↦ (fine so).0 | inr so ↦ (wrote so).0 ] in
    let disk_failed = λ (y : g.row.E.Denot) (is : r ≡ derived.Disk y). status_by k before put line (failure_of r) s status.DiskFault ends (ap failure_of is) in
    record {
      derives = subst (λ (first : g.row.D.Denot). Derives g.D.Disk g.E.Disk k g.X.DomIndex c.args.disk c.args.second before put
          (record { status = s; disk = first; second = c.ended-status.result.1 })) (sym c.into_disk-disk.ensures)
          (subst (λ (second : g.row.E.Denot). Derives g.D.Disk g.E.Disk k g.X.DomIndex c.args.disk c.args.second before put
          (record { status = s; disk = disk_in after; second = second })) (sym c.ended-status.ensures.second)
          (record {
            silent = silent_by k before put line (failure_of r) s ends;
            reads = reads_opened g.D.Disk g.X.DomIndex c.args.disk house o back after d.kept s
                (λ so. no_failure r status.NoWarehouse (failed status.NoWarehouse so (λ no. cc) (λ no. cc) (λ no. cc)) refl)
                (λ page so. no_journal_of r page (failed _ so (λ no. cc) (λ no. cc) (λ no. cc)));
            leaves = record {
              unopened = λ told why. absurd (elim why [
                | inl none ↦ never_empty g.D.Disk g.X.DomIndex c.args.disk house o told none
                | inr none ↦ never_none g.D.Disk g.X.DomIndex c.args.disk house o told none
              ]);
              ready = λ params told shows still takes.
                  let one = c.holds_one.ensures.one _ _ _ _ _ _ _ (o.whole told).1 shows.space in
                  let same : params_in house ≡ params = one.0 in
                  let version : (meta_in house).version ≡ shows.meta.version = ap (λ (m : Meta). m.version) one.1 in
                  let stays = subst (λ (n : ℕ). StaysReady g.E.Disk params n c.args.second r) version
                  (subst (λ (p : Params). StaysReady g.E.Disk p (meta_in house).version c.args.second r) same (d.ready still (subst (λ (p : Params). MayTakeSpans p x) (sym same) takes))) in
                  let is_line : line ≡ spans_line shows.meta.version = c.as_bytes.ensures.value ∙ (c.in-Ok-spans_line.ensures ∙ ap spans_line (c.last.ensures.value ∙ version)) in
                  record {
                    ready = λ undone calm. stays.ready
                        (λ y version is. undone (derived_put k before put line r s ends (c.ended-status.ensures.memory (ap failure_of is)) (ap failure_of is)))
                        (λ y is rose. calm (disk_failed y is) (subst (λ (z : g.row.E.Denot). Rose (g.E.Disk.faults c.args.second) (g.E.Disk.faults z)) (sym (ap second_out is)) rose));
                    done = λ why. (let w = done_of r (printed why) in stays.shown.done (second_out r) w.0 w.1);
                    fine = λ so tells.
                        let text = (fine so).1.fine so tells in
                        (text.0, text.1 ∙ ap (λ (t : List ℕ). k.written before ++ t) is_line);
                    none = λ why zero.
                        let w = done_of r (printed why) in
                        let number : w.0 ≡ 0 = d.version (second_out r) w.0 w.1 ∙ (version ∙ zero) in
                        stays.none (second_out r) (subst (λ (n : ℕ). r ≡ derived.Done (second_out r) n) number w.1);
                    moments = stays.shown.moments;
                    at_limit = λ allotted so. stays.at_limit (second_out r) allotted (limited allotted so);
                    there = λ so. stays.there (second_out r) (is_there so);
                  };
              there = λ params told shows still full.
                  let same : params_in house ≡ params = (c.holds_one.ensures.one _ _ _ _ _ _ _ (o.whole told).1 shows.space).0 in
                  let stays = d.there still (subst (λ (p : Params). MayTakeSpans p x → ⊥) (sym same) full) in
                  record {
                    told = derived_there k before put line r s ends stays.only.0 stays.only.1.0 stays.only.1.1;
                    image = stays.image;
                    moments = stays.moments;
                  };
              there_only = λ so still. false_from_ne_true (is_empty x) (λ none. (d.ready still (inl none)).there (second_out r) (is_there so));
              makes = λ params h held told takes.
                  let here = stands_here g.D.Disk g.X.DomIndex c.args.disk house o back true params h held in
                  let given = subst (λ (p : Params). MayTakeSpans p x) (sym here.0) takes in
                  let left = subst (λ (p : Params). LeavesSpans g.E.Disk g.X.DomIndex p h c.args.second r) here.0 (d.leaves h here.1 told given) in
                  let last : c.last.result ≡ last_version h = c.last.ensures.held true h here.1 in
                  let is_line : line ≡ spans_line (last_version h) = c.as_bytes.ensures.value ∙ (c.in-Ok-spans_line.ensures ∙ ap spans_line last) in
                  let done = λ (none : failure_of r ≡ None).
                  let w = done_of r none in (left.done (second_out r) w.0 w.1) in
                  record {
                    done = λ why.
                        let there = (done (printed why)).1 in
                        record { holds = (d.tells ∙ told, there.0); left = there.1 };
                    fine = λ so tells.
                        let text = (fine so).1.fine so tells in
                        (text.0, text.1 ∙ ap (λ (t : List ℕ). k.written before ++ t) is_line);
                    part = part_by k before put line (spans_line (last_version h)) (failure_of r) s ends (λ none. is_line);
                    first = λ why. holds_on g.D.Disk g.X.DomIndex c.args.disk house o back after d.kept params h held;
                    moments = left.moments;
                    growth = λ why first now. (let w = done_of r (printed why) in left.growth (second_out r) w.0 first now w.1);
                    limit = λ allotted before so first. left.limit (second_out r) allotted before (limited allotted so) first;
                    undamaged = λ area page so.
                        left.sound (second_out r) page (derived_of r (derived.Damaged (second_out r) page) (status.Damaged area page) (failed (status.Damaged area page) so (λ no. cc) (λ no. cc) (λ no. cc)) refl);
                    complete = λ calm other limit. derived_complete k before put line r s ends calm other limit (d.ready told given).there left.sound;
                  };
            };
            causes = record {
              may_end = derived_may_end k before put line r s ends;
              write_fault = λ so. (wrote so).1.write_fault so;
              disk_fault = λ so. elim (d.disk (second_out r) (derived_of r (derived.Disk (second_out r)) status.DiskFault (failed status.DiskFault so (λ no. cc) (λ no. cc) (λ no. cc)) refl)) [
                | inl rose ↦ inl (subst (λ (n : ℕ). Rose n (g.D.Disk.faults (disk_in after))) e.writes.faults rose)
                | inr rose ↦ inr rose
              ];
              tells = d.kept.tells ∙ e.writes.tells;
              faults = let more = d.faults in let opened : g.D.Disk.faults (disk_in house) ≡ g.D.Disk.faults c.args.disk = e.writes.faults in omega (arith, more, opened);
              second_tells = d.tells;
              second_faults = d.second_faults;
            };
          }));
    }
