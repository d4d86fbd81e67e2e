use Rattle.std.proofs.Common.{◌≡◌, ◌≤◌, ℕ, IsTrue, List, true, false, ◌++◌, refl, sym, ◌∙◌, ap, ap₂, subst, inl, inr, arith}
use Rattle.ports.specs.Count.{Rose}
use Rattle.bw_types.specs.History.{History, last_version}
use Rattle.bw_types.specs.declared.params.Params.{Params}
use Rattle.page_warehouse.specs.Told.{HasNumbersOf}
use Rattle.compact_store.specs.Compacted.{LeavesPart, second_out}
use Rattle.compact_store.specs.Kept.{kept}
use Rattle.compact_store.specs.declared.compacting.Compacted.{Compacted as CompactedName}
use Rattle.compact_store.specs.declared.compacting.Compacted.TheVariants as made
use Rattle.page_layout.specs.declared.meta.Meta.{Meta}
use Rattle.page_space.specs.declared.refusal.OpenFault.TheVariants as fault
use Rattle.redo_journal.specs.Gates.{is_empty}
use Rattle.page_warehouse.specs.Shown.{disk_in, meta_in}
use Rattle.boxsum.specs.Compacting.{EndsAs, compacted_line}
use Rattle.boxsum.specs.Held.{ShowsWarehouse}
use Rattle.boxsum.specs.Ran.{Compacts, WritesHistory, compacted_text}
use Rattle.boxsum.specs.declared.status.Status.TheVariants as status
use Rattle.boxsum.proofs.Compacting.{damaged, done, failed, fails, full_end, full_there, limited, may_end, no_empty, no_journal, none_there, nothing_written, part_end, put_end, refused_may_end, silent_end, some_history, whole_end}
use Rattle.boxsum.proofs.Endings.{fault_of, never_falls, no_fault, rises}
use Rattle.boxsum.proofs.Nothing.{stays_read}
use Rattle.boxsum.proofs.Opened.{for_queries, not_damaged, only_memory, refused_status}
use Rattle.boxsum.proofs.ReadsWarehouse.{GivesBack, holds_on, never_empty, never_none, reads_opened, reads_refused, stands_here}
use Rattle.boxsum.proofs.Spanning.{shown_stopped}
use Rattle.boxsum.proofs.compaction.compact_on.Goals as goal

pub returns-in-Err : goal.returns-in-Err
returns-in-Err g c =
    let refused = c.in-Err.ensures.refused in
    let stopped = λ (params : Params) (told : IsTrue (g.D.Disk.tells c.args.disk)) (shows : ShowsWarehouse g.X.DomIndex.DIMS params (g.D.Disk.image c.args.disk)).
    shown_stopped g.D.Disk c.args.disk g.X.DomIndex.DIMS params c.in-Err.refused.fault c.from.result c.holds_one.ensures.one c.held_opens.ensures told shows refused.empty refused.bad_journal refused.damaged c.from.ensures in
    let written = λ (params : Params) (whole : History) (told : IsTrue (g.E.Disk.tells c.args.second)) (none : is_empty (g.E.Disk.image c.args.second) ≡ true).
    nothing_written g.D.Disk g.E.Disk g.K.Sink g.X.DomIndex c.args.disk c.in-Err.refused.disk c.args.second c.args.sink.now c.from.result params whole
    (λ so. no_fault c.in-Err.refused.fault c.from.result status.Fine c.from.ensures so refl)
    (λ so. no_fault c.in-Err.refused.fault c.from.result status.WriteFault c.from.ensures so refl)
    (λ allotted so. no_fault c.in-Err.refused.fault c.from.result (status.PageLimit allotted) c.from.ensures so refl) told none in
    record {
      compacts = record {
        silent = λ fine put. refl;
        reads = reads_refused g.D.Disk g.X.DomIndex c.args.disk c.in-Err.refused.fault (record { status = c.from.result; disk = c.in-Err.refused.disk }) c.from.ensures
            (record { tells = c.in-Err.ensures.writes.tells; any_moment = c.in-Err.ensures.any_moment; stands_on = c.in-Err.ensures.stands_on; untouched = c.in-Err.ensures.untouched })
            c.in-Err.ensures.refused c.in-Err.ensures.writes.faults;
        leaves = record {
          unopened = λ told why. refl;
          no_version = λ params h held above.
              let known = for_queries g.D.Disk g.X.DomIndex c.holding_laws.ensures.queries true c.args.disk params h held in
              (refl, inr (refused_status g.D.Disk g.X.DomIndex c.in-Err.refused.fault c.from.result c.from.ensures (c.in-Err.ensures.refused.sound known.0 params h known.1)));
          no_version_only = λ params h last held so. absurd (no_fault c.in-Err.refused.fault c.from.result (status.NoVersion last) c.from.ensures so refl);
          there = λ told full. (
            stays_read g.E.Disk c.args.second,
            (λ so. no_fault c.in-Err.refused.fault c.from.result status.Fine c.from.ensures so refl),
            (λ so. no_fault c.in-Err.refused.fault c.from.result status.WriteFault c.from.ensures so refl),
            (λ allotted so. no_fault c.in-Err.refused.fault c.from.result (status.PageLimit allotted) c.from.ensures so refl),
          );
          there_held = λ params h held within told full.
              let known = for_queries g.D.Disk g.X.DomIndex c.holding_laws.ensures.queries true c.args.disk params h held in
              inr (refused_status g.D.Disk g.X.DomIndex c.in-Err.refused.fault c.from.result c.from.ensures (c.in-Err.ensures.refused.sound known.0 params h known.1));
          there_only = λ so. absurd (no_fault c.in-Err.refused.fault c.from.result status.AlreadyThere c.from.ensures so refl);
          makes = λ params h held within told none.
              let known = for_queries g.D.Disk g.X.DomIndex c.holding_laws.ensures.queries true c.args.disk params h held in
              let stopped = refused_status g.D.Disk g.X.DomIndex c.in-Err.refused.fault c.from.result c.from.ensures (c.in-Err.ensures.refused.sound known.0 params h known.1) in
              record {
                writes = written params (kept h c.args.version) told none;
                last = λ so. absurd (no_fault c.in-Err.refused.fault c.from.result status.Fine c.from.ensures so refl);
                alike = λ later q so. absurd (no_fault c.in-Err.refused.fault c.from.result status.Fine c.from.ensures so refl);
                first = λ why. absurd (elim why [
                  | inl so ↦ no_fault c.in-Err.refused.fault c.from.result status.Fine c.from.ensures so refl
                  | inr so ↦ no_fault c.in-Err.refused.fault c.from.result status.WriteFault c.from.ensures so refl
                ]);
                enough_pages = λ allotted few so. absurd (no_fault c.in-Err.refused.fault c.from.result (status.PageLimit allotted) c.from.ensures so refl);
                undamaged = λ area page. not_damaged c.from.result area page stopped;
                complete = λ calm other limit. only_memory c.from.result stopped other;
              };
          shown = λ params told shows within still none.
              let some = some_history shows.meta.version in
              record {
                whole = some.0;
                last = some.1;
                writes = written params some.0 still none;
                later = λ why. absurd (elim why [
                  | inl so ↦ no_fault c.in-Err.refused.fault c.from.result status.Fine c.from.ensures so refl
                  | inr so ↦ no_fault c.in-Err.refused.fault c.from.result status.WriteFault c.from.ensures so refl
                ]);
                has_version = λ other so. no_fault c.in-Err.refused.fault c.from.result (status.NoVersion other) c.from.ensures so refl;
              };
          shown_above = λ params told shows above. (refl, inr (stopped params told shows));
          shown_there = λ params told shows within still full. inr (stopped params told shows);
        };
        causes = record {
          may_end = refused_may_end c.in-Err.refused.fault c.from.result c.from.ensures;
          write_fault = λ so. absurd (no_fault c.in-Err.refused.fault c.from.result status.WriteFault c.from.ensures so refl);
          disk_fault = λ so. inl (rises c.in-Err.refused.fault _ _ c.in-Err.ensures.writes.faults (fault_of c.in-Err.refused.fault fault.Disk c.from.result status.DiskFault c.from.ensures so refl));
          tells = c.in-Err.ensures.writes.tells;
          faults = never_falls c.in-Err.refused.fault (g.D.Disk.faults c.args.disk) (g.D.Disk.faults c.in-Err.refused.disk) c.in-Err.ensures.writes.faults;
          second_tells = refl;
          second_faults = omega arith;
        };
      };
    }

pub returns : goal.returns
returns g c =
    let r = c.compact-compacted.result in
    let s = c.ended-status.result.0 in
    let ends = c.ended-status.ensures.status in
    let e = c.in-Ok.ensures in
    let o = e.opened in
    let before = c.in-Ok.house in
    let after = c.compact-compacted.new.house in
    let kept_as = c.compact-compacted.ensures.kept in
    let back : GivesBack g.D.Disk g.X.DomIndex c.args.disk (disk_in before) = record { tells = e.writes.tells; any_moment = e.any_moment; stands_on = e.stands_on; untouched = e.untouched } in
    let written : (params : Params) (whole : History) → c.last-last.result ≡ last_version whole → IsTrue (g.E.Disk.tells c.args.second) → LeavesPart g.E.Disk g.X.DomIndex params whole c.args.second r
    → WritesHistory g.D.Disk g.E.Disk g.K.Sink g.X.DomIndex c.args.disk c.args.second c.args.sink.now c.ended-status.new.sink (record { status = s; disk = disk_in after; second = second_out r }) params whole =
    λ params whole last told left.
    let line = λ (e : g.row.E.Denot) (rows : ℕ) (is : r ≡ made.Done e rows). ap₂ compacted_line last (left.done e rows is).0 in
    record {
      done = λ why.
          let all = done g.K.Sink c.last-last.result c.args.sink.now c.ended-status.new.sink r s ends why in
          let there = left.done (second_out r) all.0 all.1.0 in
          record { holds = (c.compact-compacted.ensures.tells ∙ told, there.1.0); left = there.1.1 };
      fine = λ fine before.
          let all = done g.K.Sink c.last-last.result c.args.sink.now c.ended-status.new.sink r s ends (inl fine) in
          let wrote = all.1.1.fine fine before in
          (wrote.0, wrote.1 ∙ ap (λ (text : List ℕ). g.K.Sink.written c.args.sink.now ++ text) (line (second_out r) all.0 all.1.0));
      part = part_end g.K.Sink c.last-last.result c.args.sink.now c.ended-status.new.sink r s (compacted_text whole) ends line;
      stays = λ other. left.now (λ e is. other (fails g.K.Sink c.last-last.result c.args.sink.now c.ended-status.new.sink r s e ends is));
      moments = left.moments;
      limit = λ allotted so. left.limit (second_out r) allotted (limited g.K.Sink c.last-last.result c.args.sink.now c.ended-status.new.sink r s allotted ends so);
    } in
    record {
      compacts = subst (λ (first : g.row.D.Denot). Compacts g.D.Disk g.E.Disk g.K.Sink g.X.DomIndex c.args.disk c.args.second c.args.sink.now c.ended-status.new.sink
          (record { status = s; disk = first; second = c.ended-status.result.1 }) c.args.version) (sym c.into_disk-disk.ensures)
          (subst (λ (second : g.row.E.Denot). Compacts g.D.Disk g.E.Disk g.K.Sink g.X.DomIndex c.args.disk c.args.second c.args.sink.now c.ended-status.new.sink
          (record { status = s; disk = disk_in after; second = second }) c.args.version) (sym c.ended-status.ensures.second)
          (record {
            silent = silent_end g.K.Sink c.last-last.result c.args.sink.now c.ended-status.new.sink r s ends;
            reads = reads_opened g.D.Disk g.X.DomIndex c.args.disk before o back after kept_as s
                (no_empty g.K.Sink c.last-last.result c.args.sink.now c.ended-status.new.sink r s ends) (λ page so. no_journal g.K.Sink c.last-last.result c.args.sink.now c.ended-status.new.sink r s page ends so);
            leaves = record {
              unopened = λ told why. absurd (elim why [
                | inl none ↦ never_empty g.D.Disk g.X.DomIndex c.args.disk before o told none
                | inr none ↦ never_none g.D.Disk g.X.DomIndex c.args.disk before o told none
              ]);
              no_version = λ params h held above.
                  let here = stands_here g.D.Disk g.X.DomIndex c.args.disk before o back true params h held in
                  let last : (meta_in before).version ≡ last_version h = sym c.last-last.ensures.value ∙ c.last-last.ensures.held true h here.1 in
                  let is = c.compact-compacted.ensures.above (omega (arith, last, above)) in (
                    ap (λ (q : CompactedName g.row.E.Denot). second_out q) is,
                    inl ((subst (λ (q : CompactedName g.row.E.Denot). EndsAs g.K.Sink c.last-last.result c.args.sink.now c.ended-status.new.sink q s) is ends).0 ∙ ap status.NoVersion last),
                  );
              no_version_only = λ params h last held so.
                  let here = stands_here g.D.Disk g.X.DomIndex c.args.disk before o back true params h held in
                  let same : (meta_in before).version ≡ last_version h = sym c.last-last.ensures.value ∙ c.last-last.ensures.held true h here.1 in
                  let found = none_there g.K.Sink c.last-last.result c.args.sink.now c.ended-status.new.sink r s last ends so in
                  let none = c.compact-compacted.ensures.no_version found.0 last found.1 in
                  (none.0 ∙ same, none.1);
              there = λ told full.
                  let stays = c.compact-compacted.ensures.full.there told full in (
                    stays.0,
                    (λ so. let whole = done g.K.Sink c.last-last.result c.args.sink.now c.ended-status.new.sink r s ends (inl so) in stays.1.0 (second_out r) whole.0 whole.1.0),
                    (λ so. let whole = done g.K.Sink c.last-last.result c.args.sink.now c.ended-status.new.sink r s ends (inr so) in stays.1.0 (second_out r) whole.0 whole.1.0),
                    (λ allotted so. stays.1.1.0 (second_out r) allotted (limited g.K.Sink c.last-last.result c.args.sink.now c.ended-status.new.sink r s allotted ends so)),
                  );
              there_held = λ params h held within told full.
                  let here = stands_here g.D.Disk g.X.DomIndex c.args.disk before o back true params h held in
                  let same : (meta_in before).version ≡ last_version h = sym c.last-last.ensures.value ∙ c.last-last.ensures.held true h here.1 in
                  let stays = c.compact-compacted.ensures.full.there told full in
                  full_end g.K.Sink c.last-last.result c.args.sink.now c.ended-status.new.sink r s ends
                  (λ e version is. let found = c.compact-compacted.ensures.no_version e version is in omega (arith, found.0, found.1, same, within)) stays.1.0 stays.1.1.0 stays.1.1.1.0 stays.1.1.1.1;
              there_only = λ so told.
                  let found = full_there g.K.Sink c.last-last.result c.args.sink.now c.ended-status.new.sink r s ends so in
                  c.compact-compacted.ensures.full.only found.0 found.1 told;
              makes = λ params h held within told none.
                  let here = stands_here g.D.Disk g.X.DomIndex c.args.disk before o back true params h held in
                  let last : c.last-last.result ≡ last_version h = c.last-last.ensures.held true h here.1 in
                  let same : (meta_in before).version ≡ last_version h = sym c.last-last.ensures.value ∙ last in
                  let left = subst (λ (p : Params). LeavesPart g.E.Disk g.X.DomIndex p (kept h c.args.version) c.args.second r) here.0 (c.compact-compacted.ensures.leaves h here.1 within told none) in
                  let lawful = c.kept_laws.ensures.lawful params h c.args.version held.1.lawful within in
                  record {
                    writes = written params (kept h c.args.version) (c.last-last.ensures.value ∙ (same ∙ sym lawful.1)) told left;
                    last = λ so. lawful.1;
                    alike = λ later q so from to. (c.kept_laws.ensures.alike params h c.args.version later q held.1.lawful from to).1;
                    first = λ why. holds_on g.D.Disk g.X.DomIndex c.args.disk before o back after kept_as params h held;
                    enough_pages = λ allotted few so. left.enough_pages (second_out r) allotted few (limited g.K.Sink c.last-last.result c.args.sink.now c.ended-status.new.sink r s allotted ends so);
                    undamaged = λ area page so. c.compact-compacted.ensures.sound h (second_out r) page here.1 within told none (damaged g.K.Sink c.last-last.result c.args.sink.now c.ended-status.new.sink r s area page ends so);
                    complete = λ calm other limit.
                        whole_end g.K.Sink c.last-last.result c.args.sink.now c.ended-status.new.sink r s ends calm other limit
                        (λ e version is. let found = c.compact-compacted.ensures.no_version e version is in omega (arith, found.0, found.1, same, within))
                        (λ e is. let full = c.compact-compacted.ensures.full.only e is told in (let no : false ≡ true = sym full ∙ none in cc))
                        (λ e page is. c.compact-compacted.ensures.sound h e page here.1 within told none is);
                  };
              shown = λ params told shows within still none.
                  let one = c.holds_one.ensures.one _ _ _ _ _ _ _ (o.whole told).1 shows.space in
                  let version : (meta_in before).version ≡ shows.meta.version = ap (λ (m : Meta). m.version) one.1 in
                  let some = c.compact-compacted.ensures.some (subst (λ (n : ℕ). c.args.version ≤ n) (sym version) within) still none in
                  record {
                    whole = some.whole;
                    last = some.last ∙ version;
                    writes = written params some.whole (c.last-last.ensures.value ∙ sym some.last) still
                        (subst (λ (p : Params). LeavesPart g.E.Disk g.X.DomIndex p some.whole c.args.second r) one.0 some.leaves);
                    later = λ why.
                        let all = done g.K.Sink c.last-last.result c.args.sink.now c.ended-status.new.sink r s ends why in
                        let made = some.later (second_out r) all.0 all.1.0 in
                        (made.0, subst (λ (m : Meta). HasNumbersOf m made.0) one.1 made.1, made.2);
                    has_version = λ other so.
                        let found = none_there g.K.Sink c.last-last.result c.args.sink.now c.ended-status.new.sink r s other ends so in
                        let none = c.compact-compacted.ensures.no_version found.0 other found.1 in
                        omega (arith, none.0, none.1, version, within);
                  };
              shown_above = λ params told shows above.
                  let one = c.holds_one.ensures.one _ _ _ _ _ _ _ (o.whole told).1 shows.space in
                  let version : (meta_in before).version ≡ shows.meta.version = ap (λ (m : Meta). m.version) one.1 in
                  let is = c.compact-compacted.ensures.above (omega (arith, version, above)) in (
                    ap (λ (q : CompactedName g.row.E.Denot). second_out q) is,
                    inl ((subst (λ (q : CompactedName g.row.E.Denot). EndsAs g.K.Sink c.last-last.result c.args.sink.now c.ended-status.new.sink q s) is ends).0 ∙ ap status.NoVersion version),
                  );
              shown_there = λ params told shows within still full.
                  let one = c.holds_one.ensures.one _ _ _ _ _ _ _ (o.whole told).1 shows.space in
                  let version : (meta_in before).version ≡ shows.meta.version = ap (λ (m : Meta). m.version) one.1 in
                  let stays = c.compact-compacted.ensures.full.there still full in
                  full_end g.K.Sink c.last-last.result c.args.sink.now c.ended-status.new.sink r s ends
                  (λ e other is. let found = c.compact-compacted.ensures.no_version e other is in omega (arith, found.0, found.1, version, within)) stays.1.0 stays.1.1.0 stays.1.1.1.0 stays.1.1.1.1;
            };
            causes = record {
              may_end = may_end g.K.Sink c.last-last.result c.args.sink.now c.ended-status.new.sink r s ends;
              write_fault = put_end g.K.Sink c.last-last.result c.args.sink.now c.ended-status.new.sink r s ends;
              disk_fault = λ so. elim (c.compact-compacted.ensures.disk (second_out r) (failed g.K.Sink c.last-last.result c.args.sink.now c.ended-status.new.sink r s ends so)) [
                | inl rose ↦ inl (subst (λ (n : ℕ). Rose n (g.D.Disk.faults (disk_in after))) e.writes.faults rose)
                | inr rose ↦ inr rose
              ];
              tells = kept_as.tells ∙ e.writes.tells;
              faults = let more = c.compact-compacted.ensures.faults in let opened : g.D.Disk.faults (disk_in before) ≡ g.D.Disk.faults c.args.disk = e.writes.faults in omega (arith, more, opened);
              second_tells = c.compact-compacted.ensures.tells;
              second_faults = c.compact-compacted.ensures.second_faults;
            };
          }));
    }
