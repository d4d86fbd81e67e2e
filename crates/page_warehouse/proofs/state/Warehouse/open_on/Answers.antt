use Rattle.std.proofs.Common.{ap, sym, subst, ◌∙◌, IsTrue, arith}
use Rattle.bw_types.specs.declared.params.Params.{Params}
use Rattle.page_disk.specs.Since.{LeavesNow, LeavesOnly}
use Rattle.page_layout.specs.declared.meta.Meta.{Meta}
use Rattle.redo_journal.specs.Settled.{SettlesTo}
use Rattle.page_warehouse.specs.Holds.{Holds}
use Rattle.page_warehouse.specs.Opened.{GoTogether}
use Rattle.page_space.specs.Opened.{StaysAsRead}
use Rattle.page_space.specs.Opening.{StandsAlike}
use Rattle.page_space.specs.Shown.{disk_of, map_of, meta_of, params_of, IsInOrder}
use Rattle.page_warehouse.proofs.Opened.{any_moment, damaged_space, dims_held, for_queries, held_in, kept_alike, not_together, only_free, same_params, stands_alike, together_held, too_many_dims, trees_in, unordered}
use Rattle.page_warehouse.proofs.state.Warehouse.open_on.Goals as goal

pub returns-in-Err-clause-any_moment : goal.returns-in-Err-clause-any_moment
returns-in-Err-clause-any_moment g c = λ told params h held.
    any_moment g.X.DomIndex c.settling_laws.ensures.one (g.D.Disk.image c.args.disk) _ _ (λ pages settles. c.in-Err.ensures.any_moment told pages settles) params h held

pub returns-in-Err-clause-refused : goal.returns-in-Err-clause-refused
returns-in-Err-clause-refused g c = record {
  empty = c.in-Err.ensures.refused.empty;
  bad_journal = c.in-Err.ensures.refused.bad_journal;
  damaged = damaged_space g.X.DomIndex.DIMS (g.D.Disk.image c.args.disk) (IsTrue (g.D.Disk.tells c.args.disk)) c.in-Err.refused.fault c.in-Err.ensures.refused.damaged;
  sound = λ told params h held.
      only_free g.X.DomIndex c.held_opens.ensures (g.D.Disk.image c.args.disk) (IsTrue (g.D.Disk.tells c.args.disk)) told c.in-Err.refused.fault
      c.in-Err.ensures.refused.empty c.in-Err.ensures.refused.bad_journal c.in-Err.ensures.refused.damaged params h held;
  stands = c.in-Err.ensures.refused.stands;
  kept = λ other told params h held.
      kept_alike g.X.DomIndex c.settling_laws.ensures.one (g.D.Disk.image c.args.disk) (g.D.Disk.image c.in-Err.refused.disk) (c.in-Err.ensures.refused.stands other told) params h held;
  settled = c.in-Err.ensures.refused.settled;
}

pub returns-then-params-DIMS-clause-any_moment : goal.returns-then-params-DIMS-clause-any_moment
returns-then-params-DIMS-clause-any_moment g c = λ told params h held.
    subst (λ (d : _). LeavesOnly (λ x. Holds g.X.DomIndex x params h) (g.D.Disk.moments c.args.disk) (g.D.Disk.moments d)) (sym c.into_disk.ensures.disk)
    (any_moment g.X.DomIndex c.settling_laws.ensures.one (g.D.Disk.image c.args.disk) _ _ (λ pages settles. c.in-Ok.ensures.any_moment told pages settles) params h held)

pub returns-then-params-DIMS-clause-refused : goal.returns-then-params-DIMS-clause-refused
returns-then-params-DIMS-clause-refused g c = record {
  empty = tt;
  bad_journal = tt;
  damaged = λ told.
      let over = c.if-params-DIMS.true in
      let is = ap (λ (p : Params). p.dims) c.params-params.ensures.value in
      too_many_dims g.X.DomIndex c.holds_one.ensures.one (g.D.Disk.image c.args.disk) (params_of c.in-Ok.space) (meta_of c.in-Ok.space) (map_of c.in-Ok.space) (IsInOrder c.in-Ok.space) (c.in-Ok.ensures.opened.holds told) (omega arith);
  sound = λ told params h held.
      let dims = dims_held g.X.DomIndex c.holds_one.ensures.one (g.D.Disk.image c.args.disk) (params_of c.in-Ok.space) (meta_of c.in-Ok.space) (map_of c.in-Ok.space) (IsInOrder c.in-Ok.space) (c.in-Ok.ensures.opened.holds told) params h held in
      let over = c.if-params-DIMS.true in
      let is = ap (λ (p : Params). p.dims) c.params-params.ensures.value in
      absurd (omega arith);
  stands = λ other told.
      subst (λ (d : _). StandsAlike (g.D.Disk.image c.args.disk) (g.D.Disk.image d)) (sym c.into_disk.ensures.disk)
      (stands_alike c.settling_laws.ensures.one c.settling_laws.ensures.idle (g.D.Disk.image c.args.disk) (g.D.Disk.image (disk_of c.in-Ok.space)) (c.in-Ok.ensures.opened.settles told) (c.in-Ok.ensures.opened.idle told));
  kept = λ other told params h held.
      subst (λ (d : _). Holds g.X.DomIndex (g.D.Disk.image d) params h) (sym c.into_disk.ensures.disk)
      (held_in g.X.DomIndex c.settling_laws.ensures.one c.settling_laws.ensures.idle (g.D.Disk.image c.args.disk) (g.D.Disk.image (disk_of c.in-Ok.space)) (c.in-Ok.ensures.opened.settles told) (c.in-Ok.ensures.opened.idle told) params h held);
  settled = λ other told. subst (λ (d : _). LeavesNow (g.D.Disk.moments d) (g.D.Disk.image d)) (sym c.into_disk.ensures.disk) c.in-Ok.ensures.opened.settled;
}

pub returns-then-params-DIMS-clause-untouched : goal.returns-then-params-DIMS-clause-untouched
returns-then-params-DIMS-clause-untouched g c = λ told calm. subst (λ (d : _). StaysAsRead g.D.Disk c.args.disk d) (sym c.into_disk.ensures.disk) (c.in-Ok.ensures.untouched told calm)

pub returns-then-not-goes_together-clause-any_moment : goal.returns-then-not-goes_together-clause-any_moment
returns-then-not-goes_together-clause-any_moment g c = λ told params h held.
    subst (λ (d : _). LeavesOnly (λ x. Holds g.X.DomIndex x params h) (g.D.Disk.moments c.args.disk) (g.D.Disk.moments d)) (sym c.into_disk-then-not-goes_together.ensures.disk)
    (any_moment g.X.DomIndex c.settling_laws.ensures.one (g.D.Disk.image c.args.disk) _ _ (λ pages settles. c.in-Ok.ensures.any_moment told pages settles) params h held)

pub returns-then-not-goes_together-clause-refused : goal.returns-then-not-goes_together-clause-refused
returns-then-not-goes_together-clause-refused g c = record {
  empty = tt;
  bad_journal = tt;
  damaged = λ told.
      let least = c.if-params-DIMS.false in
      let is = ap (λ (p : Params). p.dims) c.params-params.ensures.value in
      not_together g.X.DomIndex c.holds_one.ensures.one (g.D.Disk.image c.args.disk) (params_of c.in-Ok.space) (meta_of c.in-Ok.space) (map_of c.in-Ok.space) (IsInOrder c.in-Ok.space) (c.in-Ok.ensures.opened.holds told) (omega arith)
      (λ together. c.goes_together.ensures.no c.if-not-goes_together.true
      (subst (λ (m : Meta). GoTogether c.params-params.result m) (sym c.meta.ensures.value)
      (subst (λ (p : Params). GoTogether p (meta_of c.in-Ok.space)) (sym c.params-params.ensures.value) together)));
  sound = λ told params h held.
      let together = together_held g.X.DomIndex c.holds_one.ensures.one (g.D.Disk.image c.args.disk) (params_of c.in-Ok.space) (meta_of c.in-Ok.space) (map_of c.in-Ok.space) (IsInOrder c.in-Ok.space) (c.in-Ok.ensures.opened.holds told)
      c.lawful_histories_have_room.ensures params h held in
      absurd (c.goes_together.ensures.no c.if-not-goes_together.true
      (subst (λ (m : Meta). GoTogether c.params-params.result m) (sym c.meta.ensures.value)
      (subst (λ (p : Params). GoTogether p (meta_of c.in-Ok.space)) (sym c.params-params.ensures.value) together)));
  stands = λ other told.
      subst (λ (d : _). StandsAlike (g.D.Disk.image c.args.disk) (g.D.Disk.image d)) (sym c.into_disk-then-not-goes_together.ensures.disk)
      (stands_alike c.settling_laws.ensures.one c.settling_laws.ensures.idle (g.D.Disk.image c.args.disk) (g.D.Disk.image (disk_of c.in-Ok.space)) (c.in-Ok.ensures.opened.settles told) (c.in-Ok.ensures.opened.idle told));
  kept = λ other told params h held.
      subst (λ (d : _). Holds g.X.DomIndex (g.D.Disk.image d) params h) (sym c.into_disk-then-not-goes_together.ensures.disk)
      (held_in g.X.DomIndex c.settling_laws.ensures.one c.settling_laws.ensures.idle (g.D.Disk.image c.args.disk) (g.D.Disk.image (disk_of c.in-Ok.space)) (c.in-Ok.ensures.opened.settles told) (c.in-Ok.ensures.opened.idle told) params h held);
  settled = λ other told. subst (λ (d : _). LeavesNow (g.D.Disk.moments d) (g.D.Disk.image d)) (sym c.into_disk-then-not-goes_together.ensures.disk) c.in-Ok.ensures.opened.settled;
}

pub returns-then-not-goes_together-clause-untouched : goal.returns-then-not-goes_together-clause-untouched
returns-then-not-goes_together-clause-untouched g c = λ told calm.
    subst (λ (d : _). StaysAsRead g.D.Disk c.args.disk d) (sym c.into_disk-then-not-goes_together.ensures.disk) (c.in-Ok.ensures.untouched told calm)

pub invariant_of-result : goal.invariant_of-result
invariant_of-result g c =
    let t : GoTogether (params_of c.in-Ok.space) (meta_of c.in-Ok.space) =
    subst (λ (p : Params). GoTogether p (meta_of c.in-Ok.space)) c.params-params.ensures.value
    (subst (λ (m : Meta). GoTogether c.params-params.result m) c.meta.ensures.value (c.goes_together.ensures.yes c.if-not-goes_together.false)) in
    let least = c.if-params-DIMS.false in
    let is = ap (λ (p : Params). p.dims) c.params-params.ensures.value in
    record {
      dims = omega arith;
      params = c.new-forest.ensures.params ∙ c.params-params.ensures.value;
      trees = c.copied-forest.ensures ∙ (c.as_slice.ensures.value ∙ ap (λ (m : Meta). m.roots.items) c.meta-2.ensures.value);
      roots = t.roots;
      rows = t.rows;
      events = t.events;
      mass = t.mass;
    }

pub returns-clause-opened : goal.returns-clause-opened
returns-clause-opened g c = record {
  whole = λ told.
      (map_of c.in-Ok.space, unordered (g.D.Disk.image c.args.disk) (params_of c.in-Ok.space) (meta_of c.in-Ok.space) (map_of c.in-Ok.space) (IsInOrder c.in-Ok.space) (c.in-Ok.ensures.opened.holds told));
  settles = c.in-Ok.ensures.opened.settles;
  stands = λ told. stands_alike c.settling_laws.ensures.one c.settling_laws.ensures.idle (g.D.Disk.image c.args.disk) (g.D.Disk.image (disk_of c.in-Ok.space)) (c.in-Ok.ensures.opened.settles told) (c.in-Ok.ensures.opened.idle told);
  here = λ told. (
    map_of c.in-Ok.space,
    unordered (g.D.Disk.image (disk_of c.in-Ok.space)) (params_of c.in-Ok.space) (meta_of c.in-Ok.space) (map_of c.in-Ok.space) (IsInOrder c.in-Ok.space) (c.is_held.ensures.held (c.in-Ok.ensures.writes.tells ∙ told)),
  );
  numbers =
      let least = c.if-params-DIMS.false in
      let is = ap (λ (p : Params). p.dims) c.params-params.ensures.value in (
        omega arith,
        subst (λ (p : Params). GoTogether p (meta_of c.in-Ok.space)) c.params-params.ensures.value
            (subst (λ (m : Meta). GoTogether c.params-params.result m) c.meta.ensures.value (c.goes_together.ensures.yes c.if-not-goes_together.false)),
      );
  holds = λ params h told held. (
    same_params g.X.DomIndex c.holds_one.ensures.one (g.D.Disk.image c.args.disk) (params_of c.in-Ok.space) (meta_of c.in-Ok.space) (map_of c.in-Ok.space) (IsInOrder c.in-Ok.space) (c.in-Ok.ensures.opened.holds told) params h
        (for_queries g.X.DomIndex (g.D.Disk.image c.args.disk) params h held),
    held_in g.X.DomIndex c.settling_laws.ensures.one c.settling_laws.ensures.idle (g.D.Disk.image c.args.disk) (g.D.Disk.image (disk_of c.in-Ok.space)) (c.in-Ok.ensures.opened.settles told) (c.in-Ok.ensures.opened.idle told) params h held,
  );
  holds_trees = λ params h told held. (
    same_params g.X.DomIndex c.holds_one.ensures.one (g.D.Disk.image c.args.disk) (params_of c.in-Ok.space) (meta_of c.in-Ok.space) (map_of c.in-Ok.space) (IsInOrder c.in-Ok.space) (c.in-Ok.ensures.opened.holds told) params h held,
    trees_in g.X.DomIndex c.settling_laws.ensures.one c.settling_laws.ensures.idle (g.D.Disk.image c.args.disk) (g.D.Disk.image (disk_of c.in-Ok.space)) (c.in-Ok.ensures.opened.settles told) (c.in-Ok.ensures.opened.idle told) params h held,
  );
  settled = c.in-Ok.ensures.opened.settled;
}

pub returns-clause-any_moment : goal.returns-clause-any_moment
returns-clause-any_moment g c = λ told params h held.
    any_moment g.X.DomIndex c.settling_laws.ensures.one (g.D.Disk.image c.args.disk) _ _ (λ pages settles. c.in-Ok.ensures.any_moment told pages settles) params h held

pub returns-in-Err-clause-stands_on : goal.returns-in-Err-clause-stands_on
returns-in-Err-clause-stands_on g c = λ told pages settles. c.in-Err.ensures.any_moment told pages settles

pub returns-then-params-DIMS-clause-stands_on : goal.returns-then-params-DIMS-clause-stands_on
returns-then-params-DIMS-clause-stands_on g c = λ told pages settles.
    subst (λ (d : _). LeavesOnly (λ x. SettlesTo x pages) (g.D.Disk.moments c.args.disk) (g.D.Disk.moments d)) (sym c.into_disk.ensures.disk) (c.in-Ok.ensures.any_moment told pages settles)

pub returns-then-not-goes_together-clause-stands_on : goal.returns-then-not-goes_together-clause-stands_on
returns-then-not-goes_together-clause-stands_on g c = λ told pages settles.
    subst (λ (d : _). LeavesOnly (λ x. SettlesTo x pages) (g.D.Disk.moments c.args.disk) (g.D.Disk.moments d)) (sym c.into_disk-then-not-goes_together.ensures.disk) (c.in-Ok.ensures.any_moment told pages settles)

pub returns-clause-stands_on : goal.returns-clause-stands_on
returns-clause-stands_on g c = λ told pages settles. c.in-Ok.ensures.any_moment told pages settles
