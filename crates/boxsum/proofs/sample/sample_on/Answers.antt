use Rattle.std.proofs.Common.{◌≡◌, ℕ, true, IsTrue, List, [], ◌++◌, ℤ, inl, inr, refl, rules, ◌∙◌, ap, subst, arith}
use Rattle.std.specs.Int.{int_wrap, w128}
use Rattle.bw_types.specs.declared.params.Params.{Params}
use Rattle.page_disk.specs.Since.{LeavesOnly}
use Rattle.redo_journal.specs.Gates.{is_empty}
use Rattle.csv_rows.specs.Machine.{after, begun, text}
use Rattle.line_reader.specs.Lines.{lines}
use Rattle.page_warehouse.specs.Created.{IsNew}
use Rattle.page_warehouse.specs.Needs.{batch_need, pages_charge}
use Rattle.row_machine.specs.Serving.{lines_need}
use Rattle.ports.specs.Written.{WritesPart}
use Rattle.sample_rows.specs.Generator.{rows}
use Rattle.sample_rows.specs.Summary.{answers_in, sample_params, summary, summary_with}
use Rattle.boxsum.specs.Runs.{LacksPagesAmid}
use Rattle.boxsum.specs.Held.{HoldsBetween, HoldsSurely, IsEmptyOrHolds}
use Rattle.boxsum.specs.declared.status.Status.TheVariants.{Damaged, PageLimit, WriteFault}
use Rattle.boxsum.proofs.Nothing.{no_sample}
use Rattle.boxsum.proofs.Opened.{writes_nothing}
use Rattle.boxsum.proofs.Sampling.{made_ends, new_charge, no_summary, not_made, not_there, rose_later}
use Rattle.boxsum.proofs.sample.sample_on.Goals as goal

pub returns-in_default-clause-samples : goal.returns-in_default-clause-samples
returns-in_default-clause-samples g c = no_sample g.D.Disk g.K.Sink g.X.DomIndex c.args.disk c.args.sink.now c.args.start c.args.count

pub returns-in-Fine-clause-samples : goal.returns-in-Fine-clause-samples
returns-in-Fine-clause-samples g c =
    let surely : IsTrue (g.D.Disk.tells c.args.disk) → (is_empty (g.D.Disk.image c.args.disk) ≡ true) × HoldsSurely g.D.Disk g.X.DomIndex sample_params [] c.create_on-made.result.disk = λ told. (subst (λ (p : Params). (is_empty (g.D.Disk.image c.args.disk) ≡ true) × HoldsSurely g.D.Disk g.X.DomIndex p [] c.create_on-made.result.disk) c.sample_params.ensures
    (c.create_on-made.ensures.makes.made c.in-Fine.is told)) in
    let total : int_wrap w128 (answers_in (text sample_params [] c.in-Ok.text.items)) ≡ answers_in (text sample_params [] (rows c.args.start c.args.count)) =
    ap (λ (input : List ℕ). int_wrap w128 (answers_in (text sample_params [] input))) c.in-Ok.ensures ∙ c.sample_laws.ensures c.args.start c.args.count (omega arith) in
    record {
      where_empty = search rules;
      fine = λ fine told tells.
          let put = c.load.ensures.fine (surely told).1.holds fine tells in
          (put.0, put.1 ∙ ap (λ (z : ℤ). g.K.Sink.written c.args.sink.now ++ summary_with c.args.count z) total);
      part = λ told tells still. subst (λ (z : ℤ). WritesPart (g.K.Sink.written c.args.sink.now) (g.K.Sink.written c.load.new.sink) (summary_with c.args.count z)) total (c.load.ensures.part (surely told).1.holds tells still);
      silent = c.load.ensures.silent;
      form = c.load.ensures.form;
      kept = λ fine told. (
        (surely told).0,
        subst (λ (input : List ℕ). HoldsSurely g.D.Disk g.X.DomIndex sample_params (after sample_params [] input) c.load.result.disk) c.in-Ok.ensures (c.load.ensures.kept (surely told).1.holds fine),
      );
      stays = λ told none other.
          let s = c.load.ensures.stays (surely told).1.holds other in (
            s.0,
            inr (subst (λ (input : List ℕ). HoldsBetween g.X.DomIndex sample_params [] (after sample_params [] input) (g.D.Disk.image c.load.result.disk)) c.in-Ok.ensures s.1),
          );
      moments = λ told none. inr (record {
        amid = g.D.Disk.moments c.create_on-made.result.disk;
        made = subst (λ (p : Params). LeavesOnly (IsEmptyOrHolds g.X.DomIndex p []) (g.D.Disk.moments c.args.disk) (g.D.Disk.moments c.create_on-made.result.disk)) c.sample_params.ensures (c.create_on-made.ensures.makes.moments told none);
        there = (surely told).1.left;
        loaded = subst (λ (input : List ℕ). LeavesOnly (HoldsBetween g.X.DomIndex sample_params [] (after sample_params [] input)) (g.D.Disk.moments c.create_on-made.result.disk) (g.D.Disk.moments c.load.result.disk))
            c.in-Ok.ensures (c.load.ensures.crashes (surely told).1.holds);
      });
      undamaged = λ area page told. c.load.ensures.damaged area page (surely told).1.holds;
      limit = λ allotted told so. subst (λ (input : List ℕ). LacksPagesAmid g.X.DomIndex sample_params [] input (g.D.Disk.image c.load.result.disk) allotted) c.in-Ok.ensures (c.load.ensures.limit allotted (surely told).1.holds so);
      enough_pages = λ allotted told few e.
          let new = subst (λ (p : Params). IsNew p (g.D.Disk.image c.create_on-made.result.disk)) c.sample_params.ensures (c.create_on-made.ensures.fresh c.in-Fine.is told) in
          let space = (surely told).1.holds.1.space in
          let charge : pages_charge space.pages ≡ 3 = new_charge (g.D.Disk.image c.create_on-made.result.disk) space.pages new space.settled in
          let need : lines_need batch_need sample_params 1 (begun []) (lines c.in-Ok.text.items) ≡ lines_need batch_need sample_params 1 (begun []) (lines (rows c.args.start c.args.count)) =
          ap (λ (input : List ℕ). lines_need batch_need sample_params 1 (begun []) (lines input)) c.in-Ok.ensures in
          c.load.ensures.enough space.pages allotted (surely told).1.holds space.settled (omega (arith, charge, need, few)) e;
      complete = λ told none calm other limit. c.load.ensures.complete (surely told).1.holds calm other limit;
    }

pub returns-in-Fine-clause-disk_fault : goal.returns-in-Fine-clause-disk_fault
returns-in-Fine-clause-disk_fault g c = λ e.
    rose_later (g.D.Disk.faults c.args.disk) (g.D.Disk.faults c.create_on-made.result.disk) (g.D.Disk.faults c.load.result.disk) c.create_on-made.ensures.faults (c.load.ensures.disk_fault e)

pub returns-in_default-status : goal.returns-in_default-status
returns-in_default-status g c =
    let s = c.create_on-made.result.status in
    let ends = c.create_on-made.ensures.may_end in
    record {
      may_end = made_ends s ends;
      samples = record {
        where_empty = c.create_on-made.ensures.makes.where_empty;
        fine = λ fine told tells. absurd (c.in_default-status.not-Fine fine);
        kept = λ fine told. absurd (c.in_default-status.not-Fine fine);
        part = λ told tells still. writes_nothing (g.K.Sink.written c.args.sink.now) (summary c.args.start c.args.count);
        silent = λ fine write. refl;
        form = λ told still. no_summary c.args.count (g.K.Sink.written c.args.sink.now);
        moments = λ told none.
            inl (subst (λ (p : Params). LeavesOnly (IsEmptyOrHolds g.X.DomIndex p []) (g.D.Disk.moments c.args.disk) (g.D.Disk.moments c.create_on-made.result.disk)) c.sample_params.ensures (c.create_on-made.ensures.makes.moments told none));
        stays = λ told none other.
            absurd (not_there s (IsTrue (g.D.Disk.tells c.args.disk)) (is_empty (g.D.Disk.image c.args.disk)) told ends c.create_on-made.ensures.makes.where_empty.only none c.in_default-status.not-Fine other);
        undamaged = λ area page told e. not_made s (Damaged area page) ends e (λ x. cc) (λ x. cc) (λ x. cc);
        limit = λ allotted told e. absurd (not_made s (PageLimit allotted) ends e (λ x. cc) (λ x. cc) (λ x. cc));
        enough_pages = λ allotted told few e. not_made s (PageLimit allotted) ends e (λ x. cc) (λ x. cc) (λ x. cc);
        complete = λ told none calm other limit.
            absurd (not_there s (IsTrue (g.D.Disk.tells c.args.disk)) (is_empty (g.D.Disk.image c.args.disk)) told ends c.create_on-made.ensures.makes.where_empty.only none c.in_default-status.not-Fine other);
      };
      write_fault = λ e. absurd (not_made s WriteFault ends e (λ x. cc) (λ x. cc) (λ x. cc));
      disk_fault = c.create_on-made.ensures.disk_fault;
      tells = c.create_on-made.ensures.tells;
      faults = c.create_on-made.ensures.faults;
    }
