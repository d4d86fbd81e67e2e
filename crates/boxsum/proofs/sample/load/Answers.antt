use Rattle.std.proofs.Common.{◌≡◌, ◌≢◌, ℕ, ◌+◌, ◌≤◌, IsTrue, List, [], ◌++◌, inl, inr, refl, sym, ◌∙◌, ap, ap₂, subst}
use Rattle.std.specs.Int.{int_wrap, w128}
use Rattle.ports.specs.Memory.{SinkState, SourceState}
use Rattle.page_disk.specs.Since.{LeavesOnly}
use Rattle.csv_rows.specs.Machine.{after, begun, text}
use Rattle.line_reader.specs.Lines.{lines}
use Rattle.page_warehouse.specs.Needs.{batch_need, pages_charge}
use Rattle.ports.specs.Written.{WritesPart}
use Rattle.row_machine.specs.Serving.{lines_need}
use Rattle.sample_rows.specs.Summary.{answers_in, sample_params, summary_with}
use Rattle.boxsum.specs.Ends.{ends_sample}
use Rattle.boxsum.specs.Held.{HoldsBetween, HoldsSurely}
use Rattle.boxsum.specs.Runs.{LacksPagesAmid}
use Rattle.boxsum.specs.Statuses.{status_amid}
use Rattle.boxsum.specs.declared.status.Status.{Status}
use Rattle.boxsum.specs.declared.status.Status.TheVariants.{DiskFault, Fine}
use Rattle.boxsum.proofs.Opened.{writes_nothing}
use Rattle.boxsum.proofs.Sampling.{amid_complete, amid_damaged, amid_disk, amid_ends, amid_fine, amid_limit, amid_there, amid_write, held_not_empty, no_summary}
use Rattle.boxsum.proofs.sample.load.Goals as goal

pub returns-in-Fine-clause-fine : goal.returns-in-Fine-clause-fine
returns-in-Fine-clause-fine g c = λ held fine tells.
    let left : c.new-source.result.left ≡ c.args.text.items = ap (λ (s : SourceState). s.left) c.new-source.ensures in
    let none : c.new-replies.result.written ≡ [] = ap (λ (s : SinkState). s.written) c.new-replies.ensures in
    let replied : c.bytes.result.now ≡ text sample_params [] c.args.text.items =
    c.bytes.ensures ∙ ((c.run_on-ran.ensures.ran.answers sample_params [] (inl held)).fine c.in-Fine.is refl refl).1 ∙ ap₂ (λ (before input : List ℕ). before ++ text sample_params [] input) none left in
    let put = c.put_summary.ensures.fine fine tells in
    (put.0, put.1 ∙ ap (λ (t : List ℕ). g.K.Sink.written c.args.sink.now ++ summary_with c.args.count (int_wrap w128 (answers_in t))) replied)

pub returns-in-Fine-clause-kept : goal.returns-in-Fine-clause-kept
returns-in-Fine-clause-kept g c = λ held fine.
    subst (λ (input : List ℕ). HoldsSurely g.D.Disk g.X.DomIndex sample_params (after sample_params [] input) c.run_on-ran.result.disk) (ap (λ (s : SourceState). s.left) c.new-source.ensures)
    ((c.run_on-ran.ensures.ran.history sample_params [] held).kept c.in-Fine.is refl)

pub returns-in-Fine-clause-part : goal.returns-in-Fine-clause-part
returns-in-Fine-clause-part g c = λ held told still.
    let left : c.new-source.result.left ≡ c.args.text.items = ap (λ (s : SourceState). s.left) c.new-source.ensures in
    let none : c.new-replies.result.written ≡ [] = ap (λ (s : SinkState). s.written) c.new-replies.ensures in
    let replied : c.bytes.result.now ≡ text sample_params [] c.args.text.items =
    c.bytes.ensures ∙ ((c.run_on-ran.ensures.ran.answers sample_params [] (inl held)).fine c.in-Fine.is refl refl).1 ∙ ap₂ (λ (before input : List ℕ). before ++ text sample_params [] input) none left in
    subst (λ (t : List ℕ). WritesPart (g.K.Sink.written c.args.sink.now) (g.K.Sink.written c.put_summary.new.sink) (summary_with c.args.count (int_wrap w128 (answers_in t)))) replied
    (c.put_summary.ensures.part told still)

pub returns-in-Fine-clause-crashes : goal.returns-in-Fine-clause-crashes
returns-in-Fine-clause-crashes g c = λ held.
    subst (λ (input : List ℕ). LeavesOnly (HoldsBetween g.X.DomIndex sample_params [] (after sample_params [] input)) (g.D.Disk.moments c.args.disk) (g.D.Disk.moments c.run_on-ran.result.disk))
    (ap (λ (s : SourceState). s.left) c.new-source.ensures) ((c.run_on-ran.ensures.ran.crashes sample_params [] held).between refl)

pub returns-in-Fine-clause-stays : goal.returns-in-Fine-clause-stays
returns-in-Fine-clause-stays g c = λ held other.
    let calm : c.run_on-ran.result.status ≢ DiskFault = λ e. (let no : Fine ≡ DiskFault = sym c.in-Fine.is ∙ e in cc) in (
      ((c.run_on-ran.ensures.ran.history sample_params [] held).goes_on calm).0,
      subst (λ (input : List ℕ). HoldsBetween g.X.DomIndex sample_params [] (after sample_params [] input) (g.D.Disk.image c.run_on-ran.result.disk))
          (ap (λ (s : SourceState). s.left) c.new-source.ensures) ((c.run_on-ran.ensures.ran.history sample_params [] held).stays refl calm),
    )

pub returns : goal.returns
returns g c =
    let s = c.run_on-ran.result.status in
    let left : c.new-source.result.left ≡ c.args.text.items = ap (λ (x : SourceState). x.left) c.new-source.ensures in
    let is : c.amid.result ≡ status_amid c.run_on-ran.result.status = cc c.amid.ensures in
    record {
      may_end = (subst (λ (x : Status). IsTrue (ends_sample x)) (sym is) (amid_ends s), λ e. amid_there s (sym is ∙ e));
      fine = λ held fine tells. absurd (c.in_default.not-Fine (amid_fine s (sym is ∙ fine)));
      kept = λ held fine. absurd (c.in_default.not-Fine (amid_fine s (sym is ∙ fine)));
      part = λ held told still. writes_nothing (g.K.Sink.written c.args.sink.now) (summary_with c.args.count (int_wrap w128 (answers_in (text sample_params [] c.args.text.items))));
      crashes = λ held.
          subst (λ (input : List ℕ). LeavesOnly (HoldsBetween g.X.DomIndex sample_params [] (after sample_params [] input)) (g.D.Disk.moments c.args.disk) (g.D.Disk.moments c.run_on-ran.result.disk))
          left ((c.run_on-ran.ensures.ran.crashes sample_params [] held).between refl);
      silent = λ fine write. refl;
      form = λ told still. no_summary c.args.count (g.K.Sink.written c.args.sink.now);
      stays = λ held other.
          let calm : c.run_on-ran.result.status ≢ DiskFault = λ e. other (is ∙ ap status_amid e) in (
            ((c.run_on-ran.ensures.ran.history sample_params [] held).goes_on calm).0,
            subst (λ (input : List ℕ). HoldsBetween g.X.DomIndex sample_params [] (after sample_params [] input) (g.D.Disk.image c.run_on-ran.result.disk))
                left ((c.run_on-ran.ensures.ran.history sample_params [] held).stays refl calm),
          );
      damaged = λ area page held e. elim (amid_damaged s area page (sym is ∙ e)) [
        | inl none ↦ held_not_empty g.X.DomIndex (g.D.Disk.image c.args.disk) sample_params [] held.1 (c.run_on-ran.ensures.ran.empty_only none held.0)
        | inr so ↦ (c.run_on-ran.ensures.ran.answers sample_params [] (inl held)).undamaged area page so
      ];
      limit = λ allotted held e.
          subst (λ (input : List ℕ). LacksPagesAmid g.X.DomIndex sample_params [] input (g.D.Disk.image c.run_on-ran.result.disk) allotted) left
          ((c.run_on-ran.ensures.ran.pages sample_params [] held).lacks allotted (amid_limit s allotted (sym is ∙ e)) refl).amid;
      enough = λ pages allotted held settles few e.
          (c.run_on-ran.ensures.ran.pages sample_params [] held).enough_pages pages allotted refl settles
          (subst (λ (input : List ℕ). pages_charge pages + lines_need batch_need sample_params 1 (begun []) (lines input) ≤ sample_params.pages) (sym left) few) (amid_limit s allotted (sym is ∙ e));
      complete = λ held calm other limit.
          let ends = amid_complete s (λ e. held_not_empty g.X.DomIndex (g.D.Disk.image c.args.disk) sample_params [] held.1 (c.run_on-ran.ensures.ran.empty_only e held.0))
          (λ e. other (is ∙ ap status_amid e)) (λ area page. (c.run_on-ran.ensures.ran.answers sample_params [] (inl held)).undamaged area page) (λ allotted e. limit allotted (is ∙ ap status_amid e)) in
          elim ends [ inl fine ↦ inl (is ∙ fine) | inr memory ↦ inr (is ∙ memory) ];
      write_fault = λ e. absurd (amid_write s (sym is ∙ e));
      disk_fault = λ e. c.run_on-ran.ensures.causes.disk_fault (amid_disk s (sym is ∙ e));
      tells = c.run_on-ran.ensures.tells;
      faults = c.run_on-ran.ensures.faults;
    }
