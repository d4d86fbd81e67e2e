use Rattle.redo_journal.proofs.Common.{◌+◌, ◌++◌, ◌∙◌, ap, sym, subst, length, arith, IsTrue, err_from_is_err_and, Image, HeadAt, BreaksAt, group_at, last_of, last_group, breaks_here}
use Rattle.redo_journal.proofs.GroupLemmas.{length-images_at}
use Rattle.redo_journal.proofs.ReplayLemmas.{damaged_then, group_holds, group_breaks, length-group}
use Rattle.redo_journal.proofs.replaying.count_images.Goals as goal

pub returns-in_err-head-clause-damaged : goal.returns-in_err-head-clause-damaged
returns-in_err-head-clause-damaged g c =
    let inv = c.groups.invariant in
    let p = err_from_is_err_and c.from_residual.result c.from_residual.ensures.1 in
    rw (p.1, p.2) (damaged_then c.in_err-head.field-0.0 _ _
    (λ page h told.
    inv.breaks told page (subst (BreaksAt c.args.len (g.D.Disk.image c.args.disk.now).journal c.groups.at c.groups.last) (sym h.0)
    (breaks_here (λ head at. h.1 (inv.tells ∙ told) head (subst (λ (x : Image). HeadAt c.args.len x.journal c.groups.at c.groups.last head) (sym inv.image) at)))))
    c.in_err-head.ensures.damaged)

pub returns-then-not-head-clause-ok : goal.returns-then-not-head-clause-ok
returns-then-not-head-clause-ok g c = λ told.
    let inv = c.groups.invariant in
    let journal = (g.D.Disk.image c.args.disk.now).journal in
    let head = c.in_ok-head.head in
    let at = subst (λ (x : Image). HeadAt c.args.len x.journal c.groups.at c.groups.last head) inv.image (c.in_ok-head.ensures.ok (inv.tells ∙ told)) in
    let whole = inv.holds told (group_at journal c.groups.at head) (last_group head at c.if-not-head.true) in
    (whole.0, whole.1, omega (arith, whole.2, ap length c.as_slice-homes.ensures.value, length-images_at journal (c.groups.at + 1) head.homes.items))

pub groups-preserved : goal.groups-preserved
groups-preserved g c =
    let inv = c.groups.invariant in
    let journal = (g.D.Disk.image c.args.disk.now).journal in
    let head = c.in_ok-head.head in
    let named = c.as_slice-homes.ensures.value in
    let size = ap length named in
    let next_is = c.last_home-last.ensures ∙ ap (last_of c.groups.last) named in
    let at = λ (h : IsTrue (g.D.Disk.tells c.args.disk.now)).
    subst (λ (x : Image). HeadAt c.args.len x.journal c.groups.at c.groups.last head) inv.image (c.in_ok-head.ensures.ok (inv.tells ∙ h)) in
    record {
      behind = omega arith;
      within = omega (arith, c.in_ok-head.ensures.within);
      fewer = omega arith;
      holds = λ told images holds.
          let whole = inv.holds told (group_at journal c.groups.at head ++ images) (group_holds (at told) c.if-not-head.false next_is (omega arith) holds) in
          (whole.0, whole.1, omega (arith, whole.2, length-group journal c.groups.at head images));
      breaks = λ told page breaks. inv.breaks told page (group_breaks (at told) c.if-not-head.false next_is (omega arith) breaks);
      faults = c.in_ok-head.ensures.reads.faults ∙ inv.faults;
      reads = omega arith;
      rise = omega arith;
      tells = c.head_at.ensures.reads.tells ∙ inv.tells;
      image = c.head_at.ensures.reads.image ∙ inv.image;
      moments = c.head_at.ensures.reads.moments ∙ inv.moments;
    }
