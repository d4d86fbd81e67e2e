use Rattle.std.proofs.Common.{◌+◌, ◌++◌, ◌∙◌, ap, sym, subst, arith, length, IsTrue}
use Rattle.std.proofs.lemmas.Result.{err_from_is_err_and}
use Rattle.page_disk.specs.Image.{Image}
use Rattle.redo_journal.specs.Groups.{BreaksAt, HeadAt, HoldsGroups, group_at, homes_in, last_of}
use Rattle.redo_journal.specs.Groups.BreaksAt.{breaks_here}
use Rattle.redo_journal.specs.Groups.HoldsGroups.{last_group}
use Rattle.redo_journal.proofs.ReplayLemmas.{group_holds, group_breaks}
use Rattle.redo_journal.proofs.PlacingLemmas.{reach_ascends}
use Rattle.settled_pages.proofs.FaultLemmas.{bad_then}
use Rattle.settled_pages.proofs.PlaceLemmas.{is_noted, images_more, images_on, before_more, ascend_more, last_more}
use Rattle.settled_pages.proofs.places.find_places.Goals as goal

pub returns-in_err-head-clause-bad : goal.returns-in_err-head-clause-bad
returns-in_err-head-clause-bad g c =
    let inv = c.groups.invariant in
    let p = err_from_is_err_and c.from_residual.result c.from_residual.ensures.1 in
    rw (p.1, p.2) (bad_then c.in_err-head.field-0.0 _ _
    (λ page h told.
    inv.breaks told page (subst (BreaksAt c.args.len (g.D.Disk.image c.args.disk.now).journal c.groups.at c.groups.last) (sym h.0)
    (breaks_here (λ head at. h.1 (inv.tells ∙ told) head (subst (λ (x : Image). HeadAt c.args.len x.journal c.groups.at c.groups.last head) (sym inv.image) at)))))
    c.in_err-head.ensures.bad)

pub returns-then-not-head-clause-held : goal.returns-then-not-head-clause-held
returns-then-not-head-clause-held g c = λ told.
    let inv = c.groups.invariant in
    let journal = (g.D.Disk.image c.args.disk.now).journal in
    let head = c.in_ok-head.head in
    let at = subst (λ (x : Image). HeadAt c.args.len x.journal c.groups.at c.groups.last head) inv.image (c.in_ok-head.ensures.ok (inv.tells ∙ told)) in
    subst (HoldsGroups c.args.len journal 1 0) (sym (images_more (is_noted c.groups.places.items c.note_group.new.places.items (c.groups.at + 1) (homes_in head) c.as_slice-homes.result.now c.in_ok-note_group.ensures.ok c.as_slice-homes.ensures.value) journal))
    (inv.holds told (group_at journal c.groups.at head) (last_group head at c.if-not-head.true))

pub returns-then-not-head-clause-before : goal.returns-then-not-head-clause-before
returns-then-not-head-clause-before g c =
    before_more (is_noted c.groups.places.items c.note_group.new.places.items (c.groups.at + 1) (homes_in c.in_ok-head.head) c.as_slice-homes.result.now c.in_ok-note_group.ensures.ok c.as_slice-homes.ensures.value) c.args.end c.groups.invariant.before (omega (arith, c.in_ok-head.ensures.within))

pub returns-then-not-head-clause-ascends : goal.returns-then-not-head-clause-ascends
returns-then-not-head-clause-ascends g c =
    ascend_more (is_noted c.groups.places.items c.note_group.new.places.items (c.groups.at + 1) (homes_in c.in_ok-head.head) c.as_slice-homes.result.now c.in_ok-note_group.ensures.ok c.as_slice-homes.ensures.value) c.groups.invariant.ascends c.groups.invariant.last_is
    (reach_ascends c.args.len c.groups.last (homes_in c.in_ok-head.head) c.in_ok-head.ensures.reach)

pub returns-then-not-head-clause-last : goal.returns-then-not-head-clause-last
returns-then-not-head-clause-last g c =
    last_more (is_noted c.groups.places.items c.note_group.new.places.items (c.groups.at + 1) (homes_in c.in_ok-head.head) c.as_slice-homes.result.now c.in_ok-note_group.ensures.ok c.as_slice-homes.ensures.value) c.groups.invariant.last_is (c.last_home-last.ensures ∙ ap (last_of c.groups.last) c.as_slice-homes.ensures.value)

pub groups-preserved : goal.groups-preserved
groups-preserved g c =
    let inv = c.groups.invariant in
    let journal = (g.D.Disk.image c.args.disk.now).journal in
    let head = c.in_ok-head.head in
    let noted = is_noted c.groups.places.items c.note_group.new.places.items (c.groups.at + 1) (homes_in head) c.as_slice-homes.result.now c.in_ok-note_group.ensures.ok c.as_slice-homes.ensures.value in
    let named = c.as_slice-homes.ensures.value in
    let size = ap length named in
    let next_is = c.last_home-last.ensures ∙ ap (last_of c.groups.last) named in
    let at = λ (h : IsTrue (g.D.Disk.tells c.args.disk.now)).
    subst (λ (x : Image). HeadAt c.args.len x.journal c.groups.at c.groups.last head) inv.image (c.in_ok-head.ensures.ok (inv.tells ∙ h)) in
    record {
      behind = omega arith;
      within = omega (arith, c.in_ok-head.ensures.within);
      holds = λ told images holds.
          subst (HoldsGroups c.args.len journal 1 0) (sym (images_on noted journal images))
          (inv.holds told (group_at journal c.groups.at head ++ images) (group_holds (at told) c.if-not-head.false next_is (omega arith) holds));
      breaks = λ told page breaks. inv.breaks told page (group_breaks (at told) c.if-not-head.false next_is (omega arith) breaks);
      before = before_more noted c.args.end inv.before (omega (arith, c.in_ok-head.ensures.within));
      ascends = ascend_more noted inv.ascends inv.last_is (reach_ascends c.args.len c.groups.last (homes_in head) c.in_ok-head.ensures.reach);
      last_is = last_more noted inv.last_is next_is;
      faults = c.in_ok-head.ensures.reads.faults ∙ inv.faults;
      reads = omega arith;
      rise = omega arith;
      tells = c.head_at.ensures.reads.tells ∙ inv.tells;
      image = c.head_at.ensures.reads.image ∙ inv.image;
      moments = c.head_at.ensures.reads.moments ∙ inv.moments;
    }
