use Rattle.std.proofs.Common.{◌≡◌, ◌≢◌, ◌∙◌, ◌≤◌, ◌++◌, ℕ, true, false, List, inl, inr, refl, sym, ap, subst, arith, rules, ◌+◌, length}
use Rattle.bw_types.specs.History.{History}
use Rattle.line_reader.specs.Lines.{lines, whole_part}
use Rattle.csv_rows.specs.Machine.{after, begun, text}
use Rattle.bw_types.specs.declared.params.Params.{Params}
use Rattle.page_disk.specs.Image.{Image}
use Rattle.page_disk.specs.declared.disk.Area.{Area}
use Rattle.page_disk.specs.Moment.{Moment}
use Rattle.page_disk.specs.Since.{LeavesOnly}
use Rattle.redo_journal.specs.Settled.{SettlesTo}
use Rattle.page_space.specs.declared.refusal.OpenFault.TheVariants as fault
use Rattle.page_warehouse.specs.Holds.{Holds}
use Rattle.page_warehouse.specs.Needs.{batch_need, charge_of, pages_charge}
use Rattle.page_warehouse.specs.Opened.{IsDamagedToOpen}
use Rattle.page_warehouse.specs.Shown.{HoldsHistory, disk_in, meta_in, params_in}
use Rattle.page_warehouse.specs.declared.state.Warehouse.{Warehouse}
use Rattle.row_machine.specs.Serving.{IsFlushed}
use Rattle.row_machine.specs.declared.ending.Ending.{Ending}
use Rattle.row_machine.specs.declared.ending.Ending.TheVariants as ending
use Rattle.boxsum.specs.Held.{BeginsWith, HoldsBetween, HoldsFrom}
use Rattle.boxsum.specs.Runs.{history_by, state_by}
use Rattle.boxsum.specs.Statuses.{status_of, status_of_fault}
use Rattle.boxsum.specs.declared.status.Status.TheVariants as status
use Rattle.boxsum.proofs.Endings.{ending_of, ends_between, fault_of, flushes, input_ending, input_flushes, never_falls, no_ending, no_fault, no_input, only_fine, port_cause, rises, run_ends}
use Rattle.boxsum.proofs.Nothing.{nothing_served, text_unread}
use Rattle.boxsum.proofs.Opened.{between_here, for_queries, from_here, goes_on_same, goes_on_twice, goes_with, lacks_next, left_only, need_within, nothing_replied, opened, refused_status, refuses, settled_has, some_way, stretched, wider}
use Rattle.boxsum.proofs.Reading.{may_within, no_version_next}
use Rattle.boxsum.proofs.Scratch.{ends_at, lasts_at, whole_text}
use Rattle.boxsum.proofs.running.run_on.Goals as goal

pub returns-in-Err-clause-ran : goal.returns-in-Err-clause-ran
returns-in-Err-clause-ran g c =
    record {
      empty = search rules;
      empty_only = search rules;
      refused = λ told none. (
        (refl, refl),
        refuses g.D.Disk (IsDamagedToOpen g.X.DomIndex.DIMS) c.args.disk c.in-Err.refused.fault (record { status = c.from.result; disk = c.in-Err.refused.disk }) told c.from.ensures
            c.in-Err.ensures.refused.empty c.in-Err.ensures.refused.bad_journal c.in-Err.ensures.refused.damaged (c.in-Err.ensures.stands_on told) c.in-Err.ensures.refused.stands c.in-Err.ensures.refused.settled,
      );
      answers = λ params h b.
          let w = some_way g.D.Disk g.X.DomIndex c.machine_laws.ensures.may (g.S.Source.tells c.args.source.now) c.args.disk (g.S.Source.left c.args.source.now) params h b in
          let known = for_queries g.D.Disk g.X.DomIndex c.holding_laws.ensures.queries w.0 c.args.disk params h w.1.1 in
          let why = refused_status g.D.Disk g.X.DomIndex c.in-Err.refused.fault c.from.result c.from.ensures (c.in-Err.ensures.refused.sound known.0 params h known.1) in
          text_unread g.S.Source g.K.Sink c.args.source.now c.args.sink.now c.from.result (text params h) why;
      at_end = λ fine told. absurd (no_fault c.in-Err.refused.fault c.from.result status.Fine c.from.ensures fine refl);
      history = λ params h held. record {
        kept = λ fine told. absurd (no_fault c.in-Err.refused.fault c.from.result status.Fine c.from.ensures fine refl);
        whole_kept = λ taken why told left_told cut. absurd (no_input c.in-Err.refused.fault c.from.result c.from.ensures why);
        served = λ told. record {
          lines = nothing_served g.S.Source g.K.Sink c.args.source.now c.args.sink.now c.from.result params h
              (λ fine. no_fault c.in-Err.refused.fault c.from.result status.Fine c.from.ensures fine refl) (λ why. no_input c.in-Err.refused.fault c.from.result c.from.ensures why);
          sure = h;
          which = inl refl;
          holds = λ other. (
            c.in-Err.ensures.writes.tells ∙ held.0,
            c.in-Err.ensures.refused.kept (λ so. other (c.from.ensures ∙ ap status_of_fault so)) held.0 params h held.1,
          );
          left = λ x now.
              let known = for_queries g.D.Disk g.X.DomIndex c.holding_laws.ensures.queries true c.args.disk params h held in
              let stopped = refused_status g.D.Disk g.X.DomIndex c.in-Err.refused.fault c.from.result c.from.ensures (c.in-Err.ensures.refused.sound known.0 params h known.1) in
              elim (left_only (λ y. Holds g.X.DomIndex y params h) (g.D.Disk.moments c.args.disk) (g.D.Disk.moments c.in-Err.refused.disk) x (c.in-Err.ensures.any_moment held.0 params h held.1) now) [
                | inl before ↦ inl (stopped, refl, before)
                | inr holds ↦ inr (between_here g.X.DomIndex params h h x (goes_on_same h) holds)
              ];
          surely = λ other x now.
              let known = for_queries g.D.Disk g.X.DomIndex c.holding_laws.ensures.queries true c.args.disk params h held in
              let stopped = refused_status g.D.Disk g.X.DomIndex c.in-Err.refused.fault c.from.result c.from.ensures (c.in-Err.ensures.refused.sound known.0 params h known.1) in
              elim (left_only (λ y. Holds g.X.DomIndex y params h) (g.D.Disk.moments c.args.disk) (g.D.Disk.moments c.in-Err.refused.disk) x (c.in-Err.ensures.any_moment held.0 params h held.1) now) [
                | inl before ↦ inl (stopped, refl, before)
                | inr holds ↦ inr holds
              ];
          moments = wider _ _ _ _ (λ x holds. between_here g.X.DomIndex params h h x (goes_on_same h) holds) (c.in-Err.ensures.any_moment held.0 params h held.1);
        };
        stays = λ told other.
            between_here g.X.DomIndex params h (after params h (g.S.Source.left c.args.source.now)) (g.D.Disk.image c.in-Err.refused.disk) (c.machine_laws.ensures.goes_on params h (g.S.Source.left c.args.source.now)) (c.in-Err.ensures.refused.kept (λ so. other (c.from.ensures ∙ ap status_of_fault so)) held.0 params h held.1);
        acknowledged = λ first told tells still r other.
            let same = nothing_replied c.machine_laws.ensures.silent params h (g.S.Source.left c.args.source.now) (g.K.Sink.written c.args.sink.now) first r in
            subst (λ (k : History). HoldsBetween g.X.DomIndex params k (after params h (g.S.Source.left c.args.source.now)) (g.D.Disk.image c.in-Err.refused.disk)) (sym same)
            (between_here g.X.DomIndex params h (after params h (g.S.Source.left c.args.source.now)) (g.D.Disk.image c.in-Err.refused.disk) (c.machine_laws.ensures.goes_on params h (g.S.Source.left c.args.source.now)) (c.in-Err.ensures.refused.kept (λ so. other (c.from.ensures ∙ ap status_of_fault so)) held.0 params h held.1));
        goes_on = λ other. (
          c.in-Err.ensures.writes.tells ∙ held.0,
          from_here g.X.DomIndex params h (g.D.Disk.image c.in-Err.refused.disk) (c.in-Err.ensures.refused.kept (λ so. other (c.from.ensures ∙ ap status_of_fault so)) held.0 params h held.1),
        );
      };
      crashes = λ params h held. record {
        between = λ told.
            wider _ _ _ _ (λ x holds. between_here g.X.DomIndex params h (after params h (g.S.Source.left c.args.source.now)) x (c.machine_laws.ensures.goes_on params h (g.S.Source.left c.args.source.now)) holds) (c.in-Err.ensures.any_moment held.0 params h held.1);
        acknowledged = λ first told tells still r some.
            let known = for_queries g.D.Disk g.X.DomIndex c.holding_laws.ensures.queries true c.args.disk params h held in
            let why = refused_status g.D.Disk g.X.DomIndex c.in-Err.refused.fault c.from.result c.from.ensures (c.in-Err.ensures.refused.sound known.0 params h known.1) in
            absurd (some why (nothing_replied c.machine_laws.ensures.silent params h (g.S.Source.left c.args.source.now) (g.K.Sink.written c.args.sink.now) first r));
        goes_on =
            wider _ _ _ _ (λ x holds. from_here g.X.DomIndex params h x holds) (c.in-Err.ensures.any_moment held.0 params h held.1);
      };
      reads = λ params h held told may. record {
        reads = record {
          lines = nothing_served g.S.Source g.K.Sink c.args.source.now c.args.sink.now c.from.result params h
              (λ fine. no_fault c.in-Err.refused.fault c.from.result status.Fine c.from.ensures fine refl) (λ why. no_input c.in-Err.refused.fault c.from.result c.from.ensures why);
          most = let most = c.in-Err.ensures.writes.at_most held.0 in omega arith;
        };
        stays = λ pages settles other. c.in-Err.ensures.refused.stands (λ so. other (c.from.ensures ∙ ap status_of_fault so)) held.0 pages settles;
        moments = λ pages settles. c.in-Err.ensures.stands_on held.0 pages settles;
        untouched = λ calm. let u = c.in-Err.ensures.untouched held.0 calm in record { image = u.image; moments = u.moments };
        unlimited = λ allotted so. absurd (no_fault c.in-Err.refused.fault c.from.result (status.PageLimit allotted) c.from.ensures so refl);
      };
      pages = λ params h held. record {
        lacks = λ allotted so told. absurd (no_fault c.in-Err.refused.fault c.from.result (status.PageLimit allotted) c.from.ensures so refl);
        enough_pages = λ pages allotted told settles fits so. absurd (no_fault c.in-Err.refused.fault c.from.result (status.PageLimit allotted) c.from.ensures so refl);
      };
      at_limit = λ params meta pages allotted told space so. absurd (no_fault c.in-Err.refused.fault c.from.result (status.PageLimit allotted) c.from.ensures so refl);
    }

pub returns-clause-ran : goal.returns-clause-ran
returns-clause-ran g c =
    let undamaged : (params : Params) (h : History) (area : Area) (page : ℕ)
    → BeginsWith g.D.Disk g.X.DomIndex c.args.disk (g.S.Source.tells c.args.source.now) (g.S.Source.left c.args.source.now) params h → c.from-2.result ≢ status.Damaged area page =
    λ params h area page b.
    λ so. let ended = ending_of c.serve-ran.result.ending (ending.Damaged page) c.from-2.result (status.Damaged area page) c.from-2.ensures so refl in
    elim b [
      | inl held ↦ (
          let o = opened g.D.Disk g.X.DomIndex true c.args.disk (disk_in c.in-Ok.house) (params_in c.in-Ok.house) params h c.in-Ok.ensures.opened.holds c.in-Ok.ensures.opened.holds_trees c.in-Ok.ensures.writes.tells held in
          let l = lasts_at _ c.serve-ran.result h c.new-desk.result.params params c.new-desk.result.house c.in-Ok.house (c.new-desk.ensures.params ∙ o.0) c.new-desk.ensures.house (c.serve-ran.ensures.lasts h) o.1 in
          l.undamaged page ended
          )
      | inr w ↦ (
          let told = w.0 in
          let o = opened g.D.Disk g.X.DomIndex false c.args.disk (disk_in c.in-Ok.house) (params_in c.in-Ok.house) params h c.in-Ok.ensures.opened.holds c.in-Ok.ensures.opened.holds_trees c.in-Ok.ensures.writes.tells w.2 in
          let e = ends_at _ false (g.K.Sink.tells c.args.sink.now) (g.K.Sink.tells c.serve-ran.new.sink) (g.S.Source.tells c.serve-ran.new.source) (g.S.Source.left c.args.source.now) (g.S.Source.left c.serve-ran.new.source)
          c.serve-ran.result (g.K.Sink.written c.args.sink.now) (g.K.Sink.written c.serve-ran.new.sink) h c.new-desk.result.params params c.new-desk.result.house c.in-Ok.house c.new-desk.result.sessions
          (c.new-desk.ensures.params ∙ o.0) c.new-desk.ensures.house c.new-desk.ensures.sessions (c.serve-ran.ensures.ends told false h) w.1 o.1 in
          e.undamaged page ended
          )
    ] in
    record {
      empty = search rules;
      empty_only = λ so told.
          absurd (no_ending c.serve-ran.result.ending c.from-2.result status.NoWarehouse c.from-2.ensures so refl);
      refused = λ told none.
          let whole = c.in-Ok.ensures.opened.whole told in
          absurd (none (params_in c.in-Ok.house) (meta_in c.in-Ok.house) whole.0 whole.1 c.in-Ok.ensures.opened.numbers.0 c.in-Ok.ensures.opened.numbers.1);
      answers = λ params h b. record {
        fine = λ fine told tells.
            let w = some_way g.D.Disk g.X.DomIndex c.machine_laws.ensures.may (g.S.Source.tells c.args.source.now) c.args.disk (g.S.Source.left c.args.source.now) params h b in
            let o = opened g.D.Disk g.X.DomIndex w.0 c.args.disk (disk_in c.in-Ok.house) (params_in c.in-Ok.house) params h c.in-Ok.ensures.opened.holds c.in-Ok.ensures.opened.holds_trees c.in-Ok.ensures.writes.tells w.1.1 in
            let e = ends_at _ w.0 (g.K.Sink.tells c.args.sink.now) (g.K.Sink.tells c.serve-ran.new.sink) (g.S.Source.tells c.serve-ran.new.source) (g.S.Source.left c.args.source.now) (g.S.Source.left c.serve-ran.new.source)
            c.serve-ran.result (g.K.Sink.written c.args.sink.now) (g.K.Sink.written c.serve-ran.new.sink) h c.new-desk.result.params params c.new-desk.result.house c.in-Ok.house c.new-desk.result.sessions
            (c.new-desk.ensures.params ∙ o.0) c.new-desk.ensures.house c.new-desk.ensures.sessions (c.serve-ran.ensures.ends told w.0 h) w.1.0 o.1 in
            let ended = ending_of c.serve-ran.result.ending ending.Fine c.from-2.result status.Fine c.from-2.ensures fine refl in
            let still = c.serve-ran.ensures.tells (subst (λ (x : Ending). IsFlushed x) (sym ended) tt) tells in
            (still, (c.ends_laws.ensures.fine _ _ _ _ _ _ _ _ _ _ _ _ e ended).wrote tells still);
        part = λ told tells still.
            let w = some_way g.D.Disk g.X.DomIndex c.machine_laws.ensures.may (g.S.Source.tells c.args.source.now) c.args.disk (g.S.Source.left c.args.source.now) params h b in
            let o = opened g.D.Disk g.X.DomIndex w.0 c.args.disk (disk_in c.in-Ok.house) (params_in c.in-Ok.house) params h c.in-Ok.ensures.opened.holds c.in-Ok.ensures.opened.holds_trees c.in-Ok.ensures.writes.tells w.1.1 in
            let e = ends_at _ w.0 (g.K.Sink.tells c.args.sink.now) (g.K.Sink.tells c.serve-ran.new.sink) (g.S.Source.tells c.serve-ran.new.source) (g.S.Source.left c.args.source.now) (g.S.Source.left c.serve-ran.new.source)
            c.serve-ran.result (g.K.Sink.written c.args.sink.now) (g.K.Sink.written c.serve-ran.new.sink) h c.new-desk.result.params params c.new-desk.result.house c.in-Ok.house c.new-desk.result.sessions
            (c.new-desk.ensures.params ∙ o.0) c.new-desk.ensures.house c.new-desk.ensures.sessions (c.serve-ran.ensures.ends told w.0 h) w.1.0 o.1 in
            c.ends_laws.ensures.part _ _ _ _ _ _ _ _ _ _ _ _ e tells still;
        whole_lines = λ why told left_told tells.
            let w = some_way g.D.Disk g.X.DomIndex c.machine_laws.ensures.may (g.S.Source.tells c.args.source.now) c.args.disk (g.S.Source.left c.args.source.now) params h b in
            let o = opened g.D.Disk g.X.DomIndex w.0 c.args.disk (disk_in c.in-Ok.house) (params_in c.in-Ok.house) params h c.in-Ok.ensures.opened.holds c.in-Ok.ensures.opened.holds_trees c.in-Ok.ensures.writes.tells w.1.1 in
            let e = ends_at _ w.0 (g.K.Sink.tells c.args.sink.now) (g.K.Sink.tells c.serve-ran.new.sink) (g.S.Source.tells c.serve-ran.new.source) (g.S.Source.left c.args.source.now) (g.S.Source.left c.serve-ran.new.source)
            c.serve-ran.result (g.K.Sink.written c.args.sink.now) (g.K.Sink.written c.serve-ran.new.sink) h c.new-desk.result.params params c.new-desk.result.house c.in-Ok.house c.new-desk.result.sessions
            (c.new-desk.ensures.params ∙ o.0) c.new-desk.ensures.house c.new-desk.ensures.sessions (c.serve-ran.ensures.ends told w.0 h) w.1.0 o.1 in
            let ended = input_ending c.serve-ran.result.ending c.from-2.result c.from-2.ensures why in
            let still = c.serve-ran.ensures.tells (input_flushes c.serve-ran.result.ending ended) tells in (
              still,
              whole_text _ w.0 (g.K.Sink.tells c.args.sink.now) (g.K.Sink.tells c.serve-ran.new.sink) (g.S.Source.tells c.serve-ran.new.source) (g.S.Source.left c.args.source.now) (g.S.Source.left c.serve-ran.new.source)
                  c.serve-ran.result (g.K.Sink.written c.args.sink.now) (g.K.Sink.written c.serve-ran.new.sink) params h tells still (c.ends_laws.ensures.input _ _ _ _ _ _ _ _ _ _ _ _ e ended left_told),
            );
        undamaged = λ area page. undamaged params h area page b;
        complete = λ told short source sink other limit.
            only_fine c.from-2.result (run_ends c.serve-ran.result.ending c.from-2.result c.from-2.ensures)
            (λ so. no_ending c.serve-ran.result.ending c.from-2.result status.NoWarehouse c.from-2.ensures so refl)
            (λ so. source (c.serve-ran.ensures.read_fault (ending_of c.serve-ran.result.ending ending.ReadFault c.from-2.result status.ReadFault c.from-2.ensures so refl)))
            (λ so. sink (c.serve-ran.ensures.write_fault (ending_of c.serve-ran.result.ending ending.WriteFault c.from-2.result status.WriteFault c.from-2.ensures so refl)))
            other
            (λ area page. undamaged params h area page b)
            (λ taken so. let i = (c.serve-ran.ensures.input_limit taken (ending_of c.serve-ran.result.ending (ending.InputLimit taken) c.from-2.result (status.InputLimit taken) c.from-2.ensures so refl)).1 told in omega arith)
            limit;
      };
      at_end = λ fine told. c.serve-ran.ensures.at_end (ending_of c.serve-ran.result.ending ending.Fine c.from-2.result status.Fine c.from-2.ensures fine refl) told;
      history = λ params h held. record {
        kept = λ fine told.
            let o = opened g.D.Disk g.X.DomIndex true c.args.disk (disk_in c.in-Ok.house) (params_in c.in-Ok.house) params h c.in-Ok.ensures.opened.holds c.in-Ok.ensures.opened.holds_trees c.in-Ok.ensures.writes.tells held in
            let e = ends_at _ true (g.K.Sink.tells c.args.sink.now) (g.K.Sink.tells c.serve-ran.new.sink) (g.S.Source.tells c.serve-ran.new.source) (g.S.Source.left c.args.source.now) (g.S.Source.left c.serve-ran.new.source)
            c.serve-ran.result (g.K.Sink.written c.args.sink.now) (g.K.Sink.written c.serve-ran.new.sink) h c.new-desk.result.params params c.new-desk.result.house c.in-Ok.house c.new-desk.result.sessions
            (c.new-desk.ensures.params ∙ o.0) c.new-desk.ensures.house c.new-desk.ensures.sessions (c.serve-ran.ensures.ends told true h) (c.machine_laws.ensures.may params (lines (g.S.Source.left c.args.source.now))) o.1 in
            let before = settled_has (λ (y : Image). Holds g.X.DomIndex y params h) (g.D.Disk.moments (disk_in c.in-Ok.house)) (g.D.Disk.image (disk_in c.in-Ok.house)) c.in-Ok.ensures.opened.settled o.1.1 in
            let ended = ending_of c.serve-ran.result.ending ending.Fine c.from-2.result status.Fine c.from-2.ensures fine refl in
            record {
              holds = (c.ends_laws.ensures.fine _ _ _ _ _ _ _ _ _ _ _ _ e ended).stands;
              left = c.ends_laws.ensures.settles _ _ _ _ _ _ _ _ _ _ _ e ended before;
            };
        whole_kept = λ taken why told left_told cut.
            let o = opened g.D.Disk g.X.DomIndex true c.args.disk (disk_in c.in-Ok.house) (params_in c.in-Ok.house) params h c.in-Ok.ensures.opened.holds c.in-Ok.ensures.opened.holds_trees c.in-Ok.ensures.writes.tells held in
            let e = ends_at _ true (g.K.Sink.tells c.args.sink.now) (g.K.Sink.tells c.serve-ran.new.sink) (g.S.Source.tells c.serve-ran.new.source) (g.S.Source.left c.args.source.now) (g.S.Source.left c.serve-ran.new.source)
            c.serve-ran.result (g.K.Sink.written c.args.sink.now) (g.K.Sink.written c.serve-ran.new.sink) h c.new-desk.result.params params c.new-desk.result.house c.in-Ok.house c.new-desk.result.sessions
            (c.new-desk.ensures.params ∙ o.0) c.new-desk.ensures.house c.new-desk.ensures.sessions (c.serve-ran.ensures.ends told true h) (c.machine_laws.ensures.may params (lines (g.S.Source.left c.args.source.now))) o.1 in
            let ended = input_ending c.serve-ran.result.ending c.from-2.result c.from-2.ensures why in
            let s = c.ends_laws.ensures.input _ _ _ _ _ _ _ _ _ _ _ _ e ended left_told in
            subst (λ (t : List ℕ). HoldsHistory g.D.Disk g.X.DomIndex true c.serve-ran.result.device params (after params h (whole_part t)))
            (goes_with (g.S.Source.left c.args.source.now) s.taken (g.S.Source.left c.serve-ran.new.source) taken s.cut cut) s.served.stands;
        served = λ told.
            let o = opened g.D.Disk g.X.DomIndex true c.args.disk (disk_in c.in-Ok.house) (params_in c.in-Ok.house) params h c.in-Ok.ensures.opened.holds c.in-Ok.ensures.opened.holds_trees c.in-Ok.ensures.writes.tells held in
            let e = ends_at _ true (g.K.Sink.tells c.args.sink.now) (g.K.Sink.tells c.serve-ran.new.sink) (g.S.Source.tells c.serve-ran.new.source) (g.S.Source.left c.args.source.now) (g.S.Source.left c.serve-ran.new.source)
            c.serve-ran.result (g.K.Sink.written c.args.sink.now) (g.K.Sink.written c.serve-ran.new.sink) h c.new-desk.result.params params c.new-desk.result.house c.in-Ok.house c.new-desk.result.sessions
            (c.new-desk.ensures.params ∙ o.0) c.new-desk.ensures.house c.new-desk.ensures.sessions (c.serve-ran.ensures.ends told true h) (c.machine_laws.ensures.may params (lines (g.S.Source.left c.args.source.now))) o.1 in
            let before = settled_has (λ (y : Image). Holds g.X.DomIndex y params h) (g.D.Disk.moments (disk_in c.in-Ok.house)) (g.D.Disk.image (disk_in c.in-Ok.house)) c.in-Ok.ensures.opened.settled o.1.1 in
            record {
              lines = record {
                served = e.served;
                cut_off = e.begun;
                rest = e.rest;
                cut = e.cut;
                one = e.one;
                none_cut_off = λ ends. e.between (ends_between c.serve-ran.result.ending c.from-2.result c.from-2.ensures ends);
                all = λ fine. e.fine (ending_of c.serve-ran.result.ending ending.Fine c.from-2.result status.Fine c.from-2.ensures fine refl);
                whole_lines = λ why. e.taken (input_ending c.serve-ran.result.ending c.from-2.result c.from-2.ensures why);
                read = e.read;
                part = e.wrote;
                wrote = λ sink disk tells.
                    let flushed = flushes c.serve-ran.result.ending c.from-2.result c.from-2.ensures sink disk in
                    let still = c.serve-ran.ensures.tells flushed tells in (still, e.flushed flushed tells still);
                put = e.put;
              };
              sure = e.sure;
              which = e.which;
              holds = λ other. e.stands (λ so. other (c.from-2.ensures ∙ ap status_of so));
              surely = λ other x now. inr (e.surely refl before (λ so. other (c.from-2.ensures ∙ ap status_of so)) x now);
              left = λ x now.
                  let k = e.settled refl before x now in
                  inr (record { kept = k.between; holds = k.keeps; begins = k.begins; within = k.within });
              moments =
                  stretched (λ x. Holds g.X.DomIndex x params h) _ (HoldsBetween g.X.DomIndex params h (history_by params h (e.served ++ e.begun))) (g.D.Disk.moments c.args.disk) (g.D.Disk.moments (disk_in c.in-Ok.house)) (g.D.Disk.moments c.serve-ran.result.device)
                  (λ x holds. between_here g.X.DomIndex params h (history_by params h (e.served ++ e.begun)) x (c.machine_laws.ensures.lines_go_on params h (e.served ++ e.begun)) holds)
                  (λ x k. record { kept = k.between; holds = k.keeps; begins = k.begins; within = k.within })
                  (c.in-Ok.ensures.any_moment held.0 params h held.1) (e.any_moment refl);
            };
        stays = λ told other.
            let o = opened g.D.Disk g.X.DomIndex true c.args.disk (disk_in c.in-Ok.house) (params_in c.in-Ok.house) params h c.in-Ok.ensures.opened.holds c.in-Ok.ensures.opened.holds_trees c.in-Ok.ensures.writes.tells held in
            let e = ends_at _ true (g.K.Sink.tells c.args.sink.now) (g.K.Sink.tells c.serve-ran.new.sink) (g.S.Source.tells c.serve-ran.new.source) (g.S.Source.left c.args.source.now) (g.S.Source.left c.serve-ran.new.source)
            c.serve-ran.result (g.K.Sink.written c.args.sink.now) (g.K.Sink.written c.serve-ran.new.sink) h c.new-desk.result.params params c.new-desk.result.house c.in-Ok.house c.new-desk.result.sessions
            (c.new-desk.ensures.params ∙ o.0) c.new-desk.ensures.house c.new-desk.ensures.sessions (c.serve-ran.ensures.ends told true h) (c.machine_laws.ensures.may params (lines (g.S.Source.left c.args.source.now))) o.1 in
            let wa = c.ends_laws.ensures.within _ _ _ _ _ _ _ _ _ _ _ e in
            record { kept = e.sure; holds = (e.stands (λ so. other (c.from-2.ensures ∙ ap status_of so))).1; begins = wa.begins; within = wa.within };
        acknowledged = λ first told tells still r other.
            let o = opened g.D.Disk g.X.DomIndex true c.args.disk (disk_in c.in-Ok.house) (params_in c.in-Ok.house) params h c.in-Ok.ensures.opened.holds c.in-Ok.ensures.opened.holds_trees c.in-Ok.ensures.writes.tells held in
            let e = ends_at _ true (g.K.Sink.tells c.args.sink.now) (g.K.Sink.tells c.serve-ran.new.sink) (g.S.Source.tells c.serve-ran.new.source) (g.S.Source.left c.args.source.now) (g.S.Source.left c.serve-ran.new.source)
            c.serve-ran.result (g.K.Sink.written c.args.sink.now) (g.K.Sink.written c.serve-ran.new.sink) h c.new-desk.result.params params c.new-desk.result.house c.in-Ok.house c.new-desk.result.sessions
            (c.new-desk.ensures.params ∙ o.0) c.new-desk.ensures.house c.new-desk.ensures.sessions (c.serve-ran.ensures.ends told true h) (c.machine_laws.ensures.may params (lines (g.S.Source.left c.args.source.now))) o.1 in
            let wa = c.ends_laws.ensures.within _ _ _ _ _ _ _ _ _ _ _ e in
            record {
              kept = e.sure;
              holds = (e.stands (λ so. other (c.from-2.ensures ∙ ap status_of so))).1;
              begins = c.ends_laws.ensures.acknowledged _ _ _ _ _ _ _ _ _ _ _ _ e tells still first r.later r.more r.cut r.wrote;
              within = wa.within;
            };
        goes_on = λ other.
            let o = opened g.D.Disk g.X.DomIndex true c.args.disk (disk_in c.in-Ok.house) (params_in c.in-Ok.house) params h c.in-Ok.ensures.opened.holds c.in-Ok.ensures.opened.holds_trees c.in-Ok.ensures.writes.tells held in
            let l = lasts_at _ c.serve-ran.result h c.new-desk.result.params params c.new-desk.result.house c.in-Ok.house (c.new-desk.ensures.params ∙ o.0) c.new-desk.ensures.house (c.serve-ran.ensures.lasts h) o.1 in
            ((l.stands (λ so. other (c.from-2.ensures ∙ ap status_of so))).0, record { kept = l.sure; holds = (l.stands (λ so. other (c.from-2.ensures ∙ ap status_of so))).1; begins = l.begins });
      };
      crashes = λ params h held. record {
        between = λ told.
            let o = opened g.D.Disk g.X.DomIndex true c.args.disk (disk_in c.in-Ok.house) (params_in c.in-Ok.house) params h c.in-Ok.ensures.opened.holds c.in-Ok.ensures.opened.holds_trees c.in-Ok.ensures.writes.tells held in
            let e = ends_at _ true (g.K.Sink.tells c.args.sink.now) (g.K.Sink.tells c.serve-ran.new.sink) (g.S.Source.tells c.serve-ran.new.source) (g.S.Source.left c.args.source.now) (g.S.Source.left c.serve-ran.new.source)
            c.serve-ran.result (g.K.Sink.written c.args.sink.now) (g.K.Sink.written c.serve-ran.new.sink) h c.new-desk.result.params params c.new-desk.result.house c.in-Ok.house c.new-desk.result.sessions
            (c.new-desk.ensures.params ∙ o.0) c.new-desk.ensures.house c.new-desk.ensures.sessions (c.serve-ran.ensures.ends told true h) (c.machine_laws.ensures.may params (lines (g.S.Source.left c.args.source.now))) o.1 in
            let wa = c.ends_laws.ensures.within _ _ _ _ _ _ _ _ _ _ _ e in
            stretched (λ x. Holds g.X.DomIndex x params h) _ (HoldsBetween g.X.DomIndex params h (after params h (g.S.Source.left c.args.source.now))) (g.D.Disk.moments c.args.disk) (g.D.Disk.moments (disk_in c.in-Ok.house)) (g.D.Disk.moments c.serve-ran.result.device)
            (λ x holds. between_here g.X.DomIndex params h (after params h (g.S.Source.left c.args.source.now)) x (c.machine_laws.ensures.goes_on params h (g.S.Source.left c.args.source.now)) holds)
            (λ x k. record { kept = k.between; holds = k.keeps; begins = k.begins; within = k.within })
            (c.in-Ok.ensures.any_moment held.0 params h held.1) wa.any_moment;
        acknowledged = λ first told tells still r some.
            let o = opened g.D.Disk g.X.DomIndex true c.args.disk (disk_in c.in-Ok.house) (params_in c.in-Ok.house) params h c.in-Ok.ensures.opened.holds c.in-Ok.ensures.opened.holds_trees c.in-Ok.ensures.writes.tells held in
            let e = ends_at _ true (g.K.Sink.tells c.args.sink.now) (g.K.Sink.tells c.serve-ran.new.sink) (g.S.Source.tells c.serve-ran.new.source) (g.S.Source.left c.args.source.now) (g.S.Source.left c.serve-ran.new.source)
            c.serve-ran.result (g.K.Sink.written c.args.sink.now) (g.K.Sink.written c.serve-ran.new.sink) h c.new-desk.result.params params c.new-desk.result.house c.in-Ok.house c.new-desk.result.sessions
            (c.new-desk.ensures.params ∙ o.0) c.new-desk.ensures.house c.new-desk.ensures.sessions (c.serve-ran.ensures.ends told true h) (c.machine_laws.ensures.may params (lines (g.S.Source.left c.args.source.now))) o.1 in
            let wa = c.ends_laws.ensures.within _ _ _ _ _ _ _ _ _ _ _ e in
            let before = settled_has (λ (y : Image). Holds g.X.DomIndex y params h) (g.D.Disk.moments (disk_in c.in-Ok.house)) (g.D.Disk.image (disk_in c.in-Ok.house)) c.in-Ok.ensures.opened.settled o.1.1 in
            let sure = c.ends_laws.ensures.acknowledged _ _ _ _ _ _ _ _ _ _ _ _ e tells still first r.later r.more r.cut r.wrote in
            λ x left.
            let k = wa.settled before x left in
            record { kept = k.between; holds = k.keeps; begins = goes_on_twice (history_by params h first) e.sure k.between sure k.begins; within = k.within };
        goes_on =
            let o = opened g.D.Disk g.X.DomIndex true c.args.disk (disk_in c.in-Ok.house) (params_in c.in-Ok.house) params h c.in-Ok.ensures.opened.holds c.in-Ok.ensures.opened.holds_trees c.in-Ok.ensures.writes.tells held in
            let l = lasts_at _ c.serve-ran.result h c.new-desk.result.params params c.new-desk.result.house c.in-Ok.house (c.new-desk.ensures.params ∙ o.0) c.new-desk.ensures.house (c.serve-ran.ensures.lasts h) o.1 in
            stretched (λ x. Holds g.X.DomIndex x params h) _ (HoldsFrom g.X.DomIndex params h) (g.D.Disk.moments c.args.disk) (g.D.Disk.moments (disk_in c.in-Ok.house)) (g.D.Disk.moments c.serve-ran.result.device)
            (λ x holds. from_here g.X.DomIndex params h x holds) (λ x k. record { kept = k.kept; holds = k.keeps; begins = k.begins })
            (c.in-Ok.ensures.any_moment held.0 params h held.1) l.any_moment;
      };
      reads = λ params h held told may. record {
        reads =
            let o = opened g.D.Disk g.X.DomIndex false c.args.disk (disk_in c.in-Ok.house) (params_in c.in-Ok.house) params h c.in-Ok.ensures.opened.holds c.in-Ok.ensures.opened.holds_trees c.in-Ok.ensures.writes.tells held in
            let e = ends_at _ false (g.K.Sink.tells c.args.sink.now) (g.K.Sink.tells c.serve-ran.new.sink) (g.S.Source.tells c.serve-ran.new.source) (g.S.Source.left c.args.source.now) (g.S.Source.left c.serve-ran.new.source)
            c.serve-ran.result (g.K.Sink.written c.args.sink.now) (g.K.Sink.written c.serve-ran.new.sink) h c.new-desk.result.params params c.new-desk.result.house c.in-Ok.house c.new-desk.result.sessions
            (c.new-desk.ensures.params ∙ o.0) c.new-desk.ensures.house c.new-desk.ensures.sessions (c.serve-ran.ensures.ends told false h) may o.1 in
            record {
              lines = record {
                served = e.served;
                cut_off = e.begun;
                rest = e.rest;
                cut = e.cut;
                one = e.one;
                none_cut_off = λ ends. e.between (ends_between c.serve-ran.result.ending c.from-2.result c.from-2.ensures ends);
                all = λ fine. e.fine (ending_of c.serve-ran.result.ending ending.Fine c.from-2.result status.Fine c.from-2.ensures fine refl);
                whole_lines = λ why. e.taken (input_ending c.serve-ran.result.ending c.from-2.result c.from-2.ensures why);
                read = e.read;
                part = e.wrote;
                wrote = λ sink disk tells.
                    let flushed = flushes c.serve-ran.result.ending c.from-2.result c.from-2.ensures sink disk in
                    let still = c.serve-ran.ensures.tells flushed tells in (still, e.flushed flushed tells still);
                put = e.put;
              };
              most = let opening = c.in-Ok.ensures.writes.at_most held.0 in
                  let serving = e.reads may in omega arith;
            };
        stays = λ pages settles other.
            let o = opened g.D.Disk g.X.DomIndex false c.args.disk (disk_in c.in-Ok.house) (params_in c.in-Ok.house) params h c.in-Ok.ensures.opened.holds c.in-Ok.ensures.opened.holds_trees c.in-Ok.ensures.writes.tells held in
            let e = ends_at _ false (g.K.Sink.tells c.args.sink.now) (g.K.Sink.tells c.serve-ran.new.sink) (g.S.Source.tells c.serve-ran.new.source) (g.S.Source.left c.args.source.now) (g.S.Source.left c.serve-ran.new.source)
            c.serve-ran.result (g.K.Sink.written c.args.sink.now) (g.K.Sink.written c.serve-ran.new.sink) h c.new-desk.result.params params c.new-desk.result.house c.in-Ok.house c.new-desk.result.sessions
            (c.new-desk.ensures.params ∙ o.0) c.new-desk.ensures.house c.new-desk.ensures.sessions (c.serve-ran.ensures.ends told false h) may o.1 in
            subst (λ (x : Image). SettlesTo x pages) (sym (e.quiet may).0) (c.in-Ok.ensures.opened.stands held.0 pages settles);
        moments = λ pages settles.
            let o = opened g.D.Disk g.X.DomIndex false c.args.disk (disk_in c.in-Ok.house) (params_in c.in-Ok.house) params h c.in-Ok.ensures.opened.holds c.in-Ok.ensures.opened.holds_trees c.in-Ok.ensures.writes.tells held in
            let e = ends_at _ false (g.K.Sink.tells c.args.sink.now) (g.K.Sink.tells c.serve-ran.new.sink) (g.S.Source.tells c.serve-ran.new.source) (g.S.Source.left c.args.source.now) (g.S.Source.left c.serve-ran.new.source)
            c.serve-ran.result (g.K.Sink.written c.args.sink.now) (g.K.Sink.written c.serve-ran.new.sink) h c.new-desk.result.params params c.new-desk.result.house c.in-Ok.house c.new-desk.result.sessions
            (c.new-desk.ensures.params ∙ o.0) c.new-desk.ensures.house c.new-desk.ensures.sessions (c.serve-ran.ensures.ends told false h) may o.1 in
            subst (λ (ms : List Moment). LeavesOnly (λ x. SettlesTo x pages) (g.D.Disk.moments c.args.disk) ms) (sym (e.quiet may).1) (c.in-Ok.ensures.stands_on held.0 pages settles);
        untouched = λ calm.
            let o = opened g.D.Disk g.X.DomIndex false c.args.disk (disk_in c.in-Ok.house) (params_in c.in-Ok.house) params h c.in-Ok.ensures.opened.holds c.in-Ok.ensures.opened.holds_trees c.in-Ok.ensures.writes.tells held in
            let e = ends_at _ false (g.K.Sink.tells c.args.sink.now) (g.K.Sink.tells c.serve-ran.new.sink) (g.S.Source.tells c.serve-ran.new.source) (g.S.Source.left c.args.source.now) (g.S.Source.left c.serve-ran.new.source)
            c.serve-ran.result (g.K.Sink.written c.args.sink.now) (g.K.Sink.written c.serve-ran.new.sink) h c.new-desk.result.params params c.new-desk.result.house c.in-Ok.house c.new-desk.result.sessions
            (c.new-desk.ensures.params ∙ o.0) c.new-desk.ensures.house c.new-desk.ensures.sessions (c.serve-ran.ensures.ends told false h) may o.1 in
            let u = c.in-Ok.ensures.untouched held.0 calm in record {
              image = (e.quiet may).0 ∙ u.image;
              moments = subst (λ (ms : List Moment). LeavesOnly (λ x. x ≡ g.D.Disk.image c.args.disk) (g.D.Disk.moments c.args.disk) ms) (sym (e.quiet may).1) u.moments;
            };
        unlimited = λ allotted so.
            let ended = ending_of c.serve-ran.result.ending (ending.PageLimit allotted) c.from-2.result (status.PageLimit allotted) c.from-2.ensures so refl in
            let o = opened g.D.Disk g.X.DomIndex false c.args.disk (disk_in c.in-Ok.house) (params_in c.in-Ok.house) params h c.in-Ok.ensures.opened.holds c.in-Ok.ensures.opened.holds_trees c.in-Ok.ensures.writes.tells held in
            let e = ends_at _ false (g.K.Sink.tells c.args.sink.now) (g.K.Sink.tells c.serve-ran.new.sink) (g.S.Source.tells c.serve-ran.new.source) (g.S.Source.left c.args.source.now) (g.S.Source.left c.serve-ran.new.source)
            c.serve-ran.result (g.K.Sink.written c.args.sink.now) (g.K.Sink.written c.serve-ran.new.sink) h c.new-desk.result.params params c.new-desk.result.house c.in-Ok.house c.new-desk.result.sessions
            (c.new-desk.ensures.params ∙ o.0) c.new-desk.ensures.house c.new-desk.ensures.sessions (c.serve-ran.ensures.ends told false h) may o.1 in
            no_version_next params (1 + length e.served) (state_by params h e.served) e.begun
            (may_within params e.served e.begun e.rest (lines (g.S.Source.left c.args.source.now)) e.cut may)
            (e.page_limit allotted ended).0;
      };
      pages = λ params h held. record {
        lacks = λ allotted so told.
            let o = opened g.D.Disk g.X.DomIndex true c.args.disk (disk_in c.in-Ok.house) (params_in c.in-Ok.house) params h c.in-Ok.ensures.opened.holds c.in-Ok.ensures.opened.holds_trees c.in-Ok.ensures.writes.tells held in
            let e = ends_at _ true (g.K.Sink.tells c.args.sink.now) (g.K.Sink.tells c.serve-ran.new.sink) (g.S.Source.tells c.serve-ran.new.source) (g.S.Source.left c.args.source.now) (g.S.Source.left c.serve-ran.new.source)
            c.serve-ran.result (g.K.Sink.written c.args.sink.now) (g.K.Sink.written c.serve-ran.new.sink) h c.new-desk.result.params params c.new-desk.result.house c.in-Ok.house c.new-desk.result.sessions
            (c.new-desk.ensures.params ∙ o.0) c.new-desk.ensures.house c.new-desk.ensures.sessions (c.serve-ran.ensures.ends told true h) (c.machine_laws.ensures.may params (lines (g.S.Source.left c.args.source.now))) o.1 in
            let ended = ending_of c.serve-ran.result.ending (ending.PageLimit allotted) c.from-2.result (status.PageLimit allotted) c.from-2.ensures so refl in
            let p = e.page_limit allotted ended in
            lacks_next g.X.DomIndex params h (g.S.Source.left c.args.source.now) (g.D.Disk.image c.serve-ran.result.device) (g.K.Sink.tells c.args.sink.now) (g.K.Sink.tells c.serve-ran.new.sink) (g.K.Sink.written c.args.sink.now) (g.K.Sink.written c.serve-ran.new.sink) allotted
            e.served e.begun e.rest e.sure e.cut (e.flushed (subst (λ (x : Ending). IsFlushed x) (sym ended) tt)) p.0 p.1
            (e.stands (λ so. let no : ending.DiskFault ≡ ending.PageLimit allotted = sym so ∙ ended in cc)).1 p.2 p.3;
        enough_pages = λ pages allotted told settles fits.
            let o = opened g.D.Disk g.X.DomIndex true c.args.disk (disk_in c.in-Ok.house) (params_in c.in-Ok.house) params h c.in-Ok.ensures.opened.holds c.in-Ok.ensures.opened.holds_trees c.in-Ok.ensures.writes.tells held in
            let e = ends_at _ true (g.K.Sink.tells c.args.sink.now) (g.K.Sink.tells c.serve-ran.new.sink) (g.S.Source.tells c.serve-ran.new.source) (g.S.Source.left c.args.source.now) (g.S.Source.left c.serve-ran.new.source)
            c.serve-ran.result (g.K.Sink.written c.args.sink.now) (g.K.Sink.written c.serve-ran.new.sink) h c.new-desk.result.params params c.new-desk.result.house c.in-Ok.house c.new-desk.result.sessions
            (c.new-desk.ensures.params ∙ o.0) c.new-desk.ensures.house c.new-desk.ensures.sessions (c.serve-ran.ensures.ends told true h) (c.machine_laws.ensures.may params (lines (g.S.Source.left c.args.source.now))) o.1 in
            λ so. let ended = ending_of c.serve-ran.result.ending (ending.PageLimit allotted) c.from-2.result (status.PageLimit allotted) c.from-2.ensures so refl in
            let p = (e.page_limit allotted ended).4 refl in
            let charge : charge_of (g.D.Disk.image (disk_in c.in-Ok.house)) ≡ pages_charge pages =
            ap pages_charge (c.settling_laws.ensures.one (g.D.Disk.image c.args.disk) (g.D.Disk.image (disk_in c.in-Ok.house)).pages pages (c.in-Ok.ensures.opened.settles held.0) settles) in
            let need = need_within batch_need params (begun h) (lines (g.S.Source.left c.args.source.now)) e.served e.begun e.rest e.cut in
            omega (arith, p, need, charge, fits);
      };
      at_limit = λ params meta pages allotted told space so.
          let whole = c.in-Ok.ensures.opened.whole told in
          let ended = ending_of c.serve-ran.result.ending (ending.PageLimit allotted) c.from-2.result (status.PageLimit allotted) c.from-2.ensures so refl in
          c.serve-ran.ensures.at_limit allotted ended ∙ ap (λ (p : Params). p.pages) (c.new-desk.ensures.params
          ∙ (c.holds_one.ensures.one (g.D.Disk.image c.args.disk) (params_in c.in-Ok.house) params (meta_in c.in-Ok.house) meta whole.0 pages whole.1 space).0);
    }

pub returns-in-Err-clause-causes : goal.returns-in-Err-clause-causes
returns-in-Err-clause-causes g c = record {
  ports = record {
    read_fault = λ so. absurd (no_fault c.in-Err.refused.fault c.from.result status.ReadFault c.from.ensures so refl);
    write_fault = λ so. absurd (no_fault c.in-Err.refused.fault c.from.result status.WriteFault c.from.ensures so refl);
    input_limit = λ taken so. absurd (no_fault c.in-Err.refused.fault c.from.result (status.InputLimit taken) c.from.ensures so refl);
  };
  disk_fault = λ so. rises c.in-Err.refused.fault _ _ c.in-Err.ensures.writes.faults (fault_of c.in-Err.refused.fault fault.Disk c.from.result status.DiskFault c.from.ensures so refl);
}

pub returns-clause-causes : goal.returns-clause-causes
returns-clause-causes g c = record {
  ports = port_cause g.S.Source g.K.Sink c.args.source.now c.serve-ran.new.source c.args.sink.now c.serve-ran.new.sink
      c.serve-ran.result.ending c.from-2.result c.from-2.ensures c.serve-ran.ensures.read_fault c.serve-ran.ensures.write_fault c.serve-ran.ensures.input_limit;
  disk_fault = search rules;
}

pub returns-clause-tells : goal.returns-clause-tells
returns-clause-tells g c = c.serve-ran.ensures.device_tells
    ∙ (ap (λ (house : Warehouse g.row.D.Denot g.row.X.Denot g.D.Disk g.X.DomIndex). g.D.Disk.tells (disk_in house)) c.new-desk.ensures.house ∙ c.in-Ok.ensures.writes.tells)

pub returns-in-Err-clause-faults : goal.returns-in-Err-clause-faults
returns-in-Err-clause-faults g c = never_falls c.in-Err.refused.fault (g.D.Disk.faults c.args.disk) (g.D.Disk.faults c.in-Err.refused.disk) c.in-Err.ensures.writes.faults

pub returns-clause-faults : goal.returns-clause-faults
returns-clause-faults g c =
    let same : g.D.Disk.faults (disk_in c.new-desk.result.house) ≡ g.D.Disk.faults (disk_in c.in-Ok.house) =
    ap (λ (house : Warehouse g.row.D.Denot g.row.X.Denot g.D.Disk g.X.DomIndex). g.D.Disk.faults (disk_in house)) c.new-desk.ensures.house in
    let opened : g.D.Disk.faults (disk_in c.in-Ok.house) ≡ g.D.Disk.faults c.args.disk = c.in-Ok.ensures.writes.faults in
    let served : g.D.Disk.faults (disk_in c.new-desk.result.house) ≤ g.D.Disk.faults c.serve-ran.result.device = c.serve-ran.ensures.faults in
    omega (arith, same, opened, served)
