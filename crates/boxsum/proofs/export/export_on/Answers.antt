use Rattle.std.proofs.Common.{◌≡◌, true, ◌++◌, refl, sym, subst, inl, inr}
use Rattle.bw_types.specs.declared.params.Params.{Params}
use Rattle.history_text.specs.Rebuilt.{Rebuilds}
use Rattle.history_text.specs.Rows.{rows_of}
use Rattle.page_layout.specs.declared.meta.Meta.{Meta}
use Rattle.page_warehouse.specs.Shown.{disk_in, meta_in}
use Rattle.ports.specs.Written.{WritesPart}
use Rattle.boxsum.specs.Ran.{Exports, PrintsSome}
use Rattle.boxsum.specs.declared.status.Status.TheVariants as status
use Rattle.boxsum.proofs.Endings.{no_fault}
use Rattle.boxsum.proofs.Exported.{exports_whole}
use Rattle.boxsum.proofs.Opened.{for_queries, not_damaged, only_memory, refused_status, writes_nothing}
use Rattle.boxsum.proofs.ReadsWarehouse.{GivesBack, holds_on, reads_opened, reads_refused, stands_here}
use Rattle.boxsum.proofs.export.export_on.Goals as goal

pub returns-in-Err-clause-exports : goal.returns-in-Err-clause-exports
returns-in-Err-clause-exports g c = record {
  silent = λ fine write. refl;
  reads = reads_refused g.D.Disk g.X.DomIndex c.args.disk c.in-Err.refused.fault (record { status = c.from.result; disk = c.in-Err.refused.disk }) c.from.ensures
      (record { tells = c.in-Err.ensures.writes.tells; any_moment = c.in-Err.ensures.any_moment; stands_on = c.in-Err.ensures.stands_on; untouched = c.in-Err.ensures.untouched })
      c.in-Err.ensures.refused c.in-Err.ensures.writes.faults;
  prints = λ params h held.
      let known = for_queries g.D.Disk g.X.DomIndex c.holding_laws.ensures.queries true c.args.disk params h held in
      let stopped = refused_status g.D.Disk g.X.DomIndex c.in-Err.refused.fault c.from.result c.from.ensures (c.in-Err.ensures.refused.sound known.0 params h known.1) in
      record {
        fine = λ fine tells. absurd (no_fault c.in-Err.refused.fault c.from.result status.Fine c.from.ensures fine refl);
        rebuilds = λ fine. absurd (no_fault c.in-Err.refused.fault c.from.result status.Fine c.from.ensures fine refl);
        part = λ tells still. writes_nothing (g.K.Sink.written c.args.sink.now) (rows_of params h);
        surely = λ why. elim why [
          | inl so ↦ absurd (no_fault c.in-Err.refused.fault c.from.result status.Fine c.from.ensures so refl)
          | inr so ↦ absurd (no_fault c.in-Err.refused.fault c.from.result status.WriteFault c.from.ensures so refl)
        ];
        undamaged = λ area page. not_damaged c.from.result area page stopped;
        complete = λ calm other. only_memory c.from.result stopped other;
      };
  shown = λ params told shows. record {
    fine = λ so. absurd (no_fault c.in-Err.refused.fault c.from.result status.Fine c.from.ensures so refl);
    part = λ so. absurd (no_fault c.in-Err.refused.fault c.from.result status.WriteFault c.from.ensures so refl);
  };
}

pub returns-clause-exports : goal.returns-clause-exports
returns-clause-exports g c =
    let e = c.in-Ok.ensures in
    let o = e.opened in
    let before = c.in-Ok.house in
    let p = c.put_rows-status.ensures in
    let after = c.put_rows-status.new.house in
    let s = c.put_rows-status.result in
    let back : GivesBack g.D.Disk g.X.DomIndex c.args.disk (disk_in before) = record { tells = e.writes.tells; any_moment = e.any_moment; stands_on = e.stands_on; untouched = e.untouched } in
    subst (λ (disk : g.row.D.Denot). Exports g.D.Disk g.K.Sink g.X.DomIndex c.args.disk c.args.sink.now c.put_rows-status.new.sink (record { status = s; disk = disk })) (sym c.into_disk.ensures)
    (record {
      silent = p.silent;
      reads = reads_opened g.D.Disk g.X.DomIndex c.args.disk before o back after p.kept s p.may_end.1 p.pages;
      prints = λ params h held.
          let here = stands_here g.D.Disk g.X.DomIndex c.args.disk before o back true params h held in
          record {
            fine = λ fine tells.
                let wrote = p.fine h here.1 fine tells in
                (wrote.0, subst (λ (q : Params). g.K.Sink.written c.put_rows-status.new.sink ≡ g.K.Sink.written c.args.sink.now ++ rows_of q h) here.0 wrote.1);
            part = λ tells still.
                subst (λ (q : Params). WritesPart (g.K.Sink.written c.args.sink.now) (g.K.Sink.written c.put_rows-status.new.sink) (rows_of q h)) here.0 (p.part h here.1 tells still);
            rebuilds = λ fine. subst (λ (q : Params). Rebuilds q h) here.0 (p.rebuilds h here.1 fine);
            surely = λ why. holds_on g.D.Disk g.X.DomIndex c.args.disk before o back after p.kept params h held;
            undamaged = λ area page. p.undamaged h area page here.1;
            complete = λ calm other. exports_whole s p.may_end.0 p.may_end.1 (λ so. calm (p.write_fault so)) other (λ area page. p.undamaged h area page here.1);
          };
      shown = λ params told shows.
          let one = c.holds_one.ensures.one _ _ _ _ _ _ _ (o.whole told).1 shows.space in
          subst (λ (m : Meta). PrintsSome g.K.Sink c.args.sink.now c.put_rows-status.new.sink s params m) one.1
          (subst (λ (q : Params). PrintsSome g.K.Sink c.args.sink.now c.put_rows-status.new.sink s q (meta_in before)) one.0 p.some);
    })
