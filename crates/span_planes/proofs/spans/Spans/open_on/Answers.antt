use Rattle.std.proofs.Common.{ap, sym, subst, ◌∙◌, ◌≡◌, ◌⊎◌, IsTrue, arith, length, ◌*◌, ◌^◌}
use Rattle.bw_types.specs.declared.params.Params.{Params}
use Rattle.page_disk.specs.Since.{LeavesNow, LeavesOnly}
use Rattle.page_layout.specs.declared.meta.Meta.{Meta}
use Rattle.redo_journal.specs.Settled.{SettlesTo}
use Rattle.page_space.specs.declared.refusal.OpenFault.TheVariants.{Damaged, Disk, NoMemory}
use Rattle.page_space.specs.Opening.{StandsAlike}
use Rattle.page_space.specs.Shown.{disk_of, map_of, meta_of, params_of, IsInOrder}
use Rattle.span_planes.specs.Opened.{IsMetaOfSpans}
use Rattle.span_planes.specs.SpanHolds.{SpanHolds}
use Rattle.span_planes.proofs.SpanOpened.{any_moment, damaged_space, dims_held, held_in, kept_alike, meta_held, no_spans, only_free, same_params, stands_alike, too_many_dims, unordered}
use Rattle.span_planes.proofs.spans.Spans.open_on.Goals as goal
use Rattle.span_planes.proofs.spans.Spans.open_on.Goals.{then-meta-ne0-via-then-meta-ne0, then-meta-ne0-via-else-meta-ne0+then-len-root_count}

-- no spans have more dimensions than the index
too_many : ⊥ → (Damaged 1 ≡ Disk) ⊎ (Damaged 1 ≡ NoMemory)
too_many never = absurd never

pub returns-in-Err-clause-any_moment : goal.returns-in-Err-clause-any_moment
returns-in-Err-clause-any_moment g c = λ told params h held.
    any_moment g.X.DomIndex c.settling_laws.ensures.one (g.E.Disk.image c.args.disk) _ _ (λ pages settles. c.in-Err.ensures.any_moment told pages settles) params h held

pub returns-in-Err-clause-refused : goal.returns-in-Err-clause-refused
returns-in-Err-clause-refused g c = record {
  empty = c.in-Err.ensures.refused.empty;
  bad_journal = c.in-Err.ensures.refused.bad_journal;
  damaged = damaged_space g.X.DomIndex.DIMS (g.E.Disk.image c.args.disk) (IsTrue (g.E.Disk.tells c.args.disk)) c.in-Err.refused.fault c.in-Err.ensures.refused.damaged;
  sound = λ told params h held.
      only_free g.X.DomIndex c.held_opens.ensures (g.E.Disk.image c.args.disk) (IsTrue (g.E.Disk.tells c.args.disk)) told c.in-Err.refused.fault
      c.in-Err.ensures.refused.empty c.in-Err.ensures.refused.bad_journal c.in-Err.ensures.refused.damaged params h held;
  stands = c.in-Err.ensures.refused.stands;
  kept = λ other told params h held.
      kept_alike g.X.DomIndex c.settling_laws.ensures.one (g.E.Disk.image c.args.disk) (g.E.Disk.image c.in-Err.refused.disk) (c.in-Err.ensures.refused.stands other told) params h held;
  settled = c.in-Err.ensures.refused.settled;
}

pub returns-then-dims-DIMS-clause-any_moment : goal.returns-then-dims-DIMS-clause-any_moment
returns-then-dims-DIMS-clause-any_moment g c = λ told params h held.
    subst (λ (d : _). LeavesOnly (λ x. SpanHolds g.X.DomIndex x params h) (g.E.Disk.moments c.args.disk) (g.E.Disk.moments d)) (sym c.into_disk.ensures.disk)
    (any_moment g.X.DomIndex c.settling_laws.ensures.one (g.E.Disk.image c.args.disk) _ _ (λ pages settles. c.in-Ok.ensures.any_moment told pages settles) params h held)

pub returns-then-dims-DIMS-clause-refused : goal.returns-then-dims-DIMS-clause-refused
returns-then-dims-DIMS-clause-refused g c = record {
  empty = tt;
  bad_journal = tt;
  damaged = λ told.
      let over = c.if-dims-DIMS.true in
      let is = ap (λ (p : Params). p.dims) c.params-dims.ensures.value in
      too_many_dims g.X.DomIndex c.holds_one.ensures.one (g.E.Disk.image c.args.disk) (params_of c.in-Ok.space) (meta_of c.in-Ok.space) (map_of c.in-Ok.space) (IsInOrder c.in-Ok.space) (c.in-Ok.ensures.opened.holds told) (omega arith);
  sound = λ told params h held.
      let dims = dims_held g.X.DomIndex c.holds_one.ensures.one (g.E.Disk.image c.args.disk) (params_of c.in-Ok.space) (meta_of c.in-Ok.space) (map_of c.in-Ok.space) (IsInOrder c.in-Ok.space) (c.in-Ok.ensures.opened.holds told) params h held in
      let over = c.if-dims-DIMS.true in
      let is = ap (λ (p : Params). p.dims) c.params-dims.ensures.value in
      too_many (omega (arith, dims, over, is));
  stands = λ other told.
      subst (λ (d : _). StandsAlike (g.E.Disk.image c.args.disk) (g.E.Disk.image d)) (sym c.into_disk.ensures.disk)
      (stands_alike c.settling_laws.ensures.one c.settling_laws.ensures.idle (g.E.Disk.image c.args.disk) (g.E.Disk.image (disk_of c.in-Ok.space)) (c.in-Ok.ensures.opened.settles told) (c.in-Ok.ensures.opened.idle told));
  kept = λ other told params h held.
      subst (λ (d : _). SpanHolds g.X.DomIndex (g.E.Disk.image d) params h) (sym c.into_disk.ensures.disk)
      (held_in g.X.DomIndex c.settling_laws.ensures.one c.settling_laws.ensures.idle (g.E.Disk.image c.args.disk) (g.E.Disk.image (disk_of c.in-Ok.space)) (c.in-Ok.ensures.opened.settles told) (c.in-Ok.ensures.opened.idle told) params h held);
  settled = λ other told. subst (λ (d : _). LeavesNow (g.E.Disk.moments d) (g.E.Disk.image d)) (sym c.into_disk.ensures.disk) c.in-Ok.ensures.opened.settled;
}

pub returns-then-dims-DIMS-clause-stands_on : goal.returns-then-dims-DIMS-clause-stands_on
returns-then-dims-DIMS-clause-stands_on g c = λ told pages settles.
    subst (λ (d : _). LeavesOnly (λ x. SettlesTo x pages) (g.E.Disk.moments c.args.disk) (g.E.Disk.moments d)) (sym c.into_disk.ensures.disk) (c.in-Ok.ensures.any_moment told pages settles)

pub returns-then-meta-ne0-clause-any_moment : goal.returns-then-meta-ne0-clause-any_moment
returns-then-meta-ne0-clause-any_moment g c = λ told params h held.
    subst (λ (d : _). LeavesOnly (λ x. SpanHolds g.X.DomIndex x params h) (g.E.Disk.moments c.args.disk) (g.E.Disk.moments d)) (sym c.into_disk-then-meta-ne0.ensures.disk)
    (any_moment g.X.DomIndex c.settling_laws.ensures.one (g.E.Disk.image c.args.disk) _ _ (λ pages settles. c.in-Ok.ensures.any_moment told pages settles) params h held)

pub returns-then-meta-ne0-clause-refused : goal.returns-then-meta-ne0-clause-refused
returns-then-meta-ne0-clause-refused g c =
    let other : IsMetaOfSpans (params_of c.in-Ok.space) (meta_of c.in-Ok.space) → ⊥ = λ spans.
    elim c.then-meta-ne0.branch [
      | then-meta-ne0-via-then-meta-ne0 w ↦ w.if-meta-ne0.true (ap (λ (m : Meta). m.events) c.meta.ensures.value ∙ spans.events)
      | then-meta-ne0-via-else-meta-ne0+then-len-root_count w ↦
          w.if-len-root_count.true
          (w.len.ensures.value ∙ ap (λ (m : Meta). length m.roots.items) w.meta-else-meta-ne0.ensures.value ∙ spans.roots
          ∙ ap (λ (p : Params). 2 * 2 ^ p.dims) (sym c.params-dims.ensures.value) ∙ sym w.root_count.ensures)
    ] in
    record {
      empty = tt;
      bad_journal = tt;
      damaged = λ told.
          let least = c.if-dims-DIMS.false in
          let is = ap (λ (p : Params). p.dims) c.params-dims.ensures.value in
          no_spans g.X.DomIndex c.holds_one.ensures.one (g.E.Disk.image c.args.disk) (params_of c.in-Ok.space) (meta_of c.in-Ok.space) (map_of c.in-Ok.space) (IsInOrder c.in-Ok.space) (c.in-Ok.ensures.opened.holds told) (omega arith) other;
      sound = λ told params h held.
          absurd (other
          (meta_held g.X.DomIndex c.holds_one.ensures.one (g.E.Disk.image c.args.disk) (params_of c.in-Ok.space) (meta_of c.in-Ok.space) (map_of c.in-Ok.space) (IsInOrder c.in-Ok.space) (c.in-Ok.ensures.opened.holds told) params h held));
      stands = λ differs told.
          subst (λ (d : _). StandsAlike (g.E.Disk.image c.args.disk) (g.E.Disk.image d)) (sym c.into_disk-then-meta-ne0.ensures.disk)
          (stands_alike c.settling_laws.ensures.one c.settling_laws.ensures.idle (g.E.Disk.image c.args.disk) (g.E.Disk.image (disk_of c.in-Ok.space)) (c.in-Ok.ensures.opened.settles told) (c.in-Ok.ensures.opened.idle told));
      kept = λ differs told params h held.
          subst (λ (d : _). SpanHolds g.X.DomIndex (g.E.Disk.image d) params h) (sym c.into_disk-then-meta-ne0.ensures.disk)
          (held_in g.X.DomIndex c.settling_laws.ensures.one c.settling_laws.ensures.idle (g.E.Disk.image c.args.disk) (g.E.Disk.image (disk_of c.in-Ok.space)) (c.in-Ok.ensures.opened.settles told) (c.in-Ok.ensures.opened.idle told) params h held);
      settled = λ differs told. subst (λ (d : _). LeavesNow (g.E.Disk.moments d) (g.E.Disk.image d)) (sym c.into_disk-then-meta-ne0.ensures.disk) c.in-Ok.ensures.opened.settled;
    }

pub returns-then-meta-ne0-clause-stands_on : goal.returns-then-meta-ne0-clause-stands_on
returns-then-meta-ne0-clause-stands_on g c = λ told pages settles.
    subst (λ (d : _). LeavesOnly (λ x. SettlesTo x pages) (g.E.Disk.moments c.args.disk) (g.E.Disk.moments d)) (sym c.into_disk-then-meta-ne0.ensures.disk) (c.in-Ok.ensures.any_moment told pages settles)

pub returns-clause-opened : goal.returns-clause-opened
returns-clause-opened g c = record {
  settles = c.in-Ok.ensures.opened.settles;
  stands = λ told. stands_alike c.settling_laws.ensures.one c.settling_laws.ensures.idle (g.E.Disk.image c.args.disk) (g.E.Disk.image (disk_of c.in-Ok.space)) (c.in-Ok.ensures.opened.settles told) (c.in-Ok.ensures.opened.idle told);
  numbers =
      let least = c.if-dims-DIMS.false in
      let is = ap (λ (p : Params). p.dims) c.params-dims.ensures.value in (
        omega arith,
        record {
          events = sym (ap (λ (m : Meta). m.events) c.meta.ensures.value) ∙ c.if-meta-ne0.false;
          roots = sym (c.len.ensures.value ∙ ap (λ (m : Meta). length m.roots.items) c.meta-else-meta-ne0.ensures.value) ∙ c.if-len-root_count.false
              ∙ c.root_count.ensures ∙ ap (λ (p : Params). 2 * 2 ^ p.dims) c.params-dims.ensures.value;
        },
      );
  whole = λ told.
      (map_of c.in-Ok.space, unordered (g.E.Disk.image c.args.disk) (params_of c.in-Ok.space) (meta_of c.in-Ok.space) (map_of c.in-Ok.space) (IsInOrder c.in-Ok.space) (c.in-Ok.ensures.opened.holds told));
  holds = λ params h told held. (
    same_params g.X.DomIndex c.holds_one.ensures.one (g.E.Disk.image c.args.disk) (params_of c.in-Ok.space) (meta_of c.in-Ok.space) (map_of c.in-Ok.space) (IsInOrder c.in-Ok.space) (c.in-Ok.ensures.opened.holds told) params h held,
    held_in g.X.DomIndex c.settling_laws.ensures.one c.settling_laws.ensures.idle (g.E.Disk.image c.args.disk) (g.E.Disk.image (disk_of c.in-Ok.space)) (c.in-Ok.ensures.opened.settles told) (c.in-Ok.ensures.opened.idle told) params h held,
  );
  settled = c.in-Ok.ensures.opened.settled;
}

pub returns-clause-any_moment : goal.returns-clause-any_moment
returns-clause-any_moment g c = λ told params h held.
    any_moment g.X.DomIndex c.settling_laws.ensures.one (g.E.Disk.image c.args.disk) _ _ (λ pages settles. c.in-Ok.ensures.any_moment told pages settles) params h held
