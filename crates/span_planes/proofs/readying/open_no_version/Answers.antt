use Rattle.std.proofs.Common.{◌≡◌, ◌≤◌, sym, ◌∙◌, ap, subst}
use Rattle.std.specs.Bool.{MatchBool}
use Rattle.ports.specs.Count.{Rose}
use Rattle.page_disk.specs.Since.{LeavesOnly}
use Rattle.page_space.specs.Faults.{is_disk}
use Rattle.page_space.specs.declared.refusal.OpenFault.{OpenFault}
use Rattle.span_planes.specs.Made.{MayTakeSpans, second_out}
use Rattle.span_planes.specs.Readied.{IsNotOpened}
use Rattle.span_planes.proofs.Readied.{damaged_ends, is_none_there, moments_stand, out_refusal, readied_there, refused_ends}
use Rattle.span_planes.proofs.readying.open_no_version.Goals as goal

pub returns-in-Ok-clause-any_moment : goal.returns-in-Ok-clause-any_moment
returns-in-Ok-clause-any_moment g c = λ told.
    moments_stand c.args.params.now (g.E.Disk.image c.args.second) _ _ (λ pages settles. c.in-Ok.ensures.any_moment told pages settles) (c.requires.holds told)

pub returns-in-Ok-clause-readied : goal.returns-in-Ok-clause-readied
returns-in-Ok-clause-readied g c =
    readied_there g.E.Disk c.settling_laws.ensures.one c.settling_laws.ensures.idle c.holds_one.ensures.one c.holds_one.ensures.order c.args.params.now c.args.second c.in-Ok.space
    c.in-Ok.ensures.opened c.requires.holds (c.is_of_no_version.ensures.yes c.if-is_of_no_version.true)

pub returns-in-Ok-2-clause-image : goal.returns-in-Ok-2-clause-image
returns-in-Ok-2-clause-image g c = λ told still. ap g.E.Disk.image c.into_disk.ensures.disk ∙ (c.in-Ok.ensures.untouched told still).image

pub returns-in-Err-clause-image : goal.returns-in-Err-clause-image
returns-in-Err-clause-image g c = λ told still.
    let out = ap second_out c.refusal.ensures ∙ out_refusal g.E.Disk c.in-Err.refused.fault c.in-Err.refused.disk in
    ap g.E.Disk.image out ∙ (c.in-Err.ensures.untouched told still).image

pub returns-in-Ok-2-clause-refused : goal.returns-in-Ok-2-clause-refused
returns-in-Ok-2-clause-refused g c =
    let disk = g.E.Disk in
    damaged_ends disk c.args.params.now c.args.second c.into_disk.result 2
    (λ told. c.is_of_no_version.ensures.no c.if-is_of_no_version.false
    (is_none_there disk c.holds_one.ensures.one c.args.params.now c.args.second c.in-Ok.space (c.in-Ok.ensures.opened.holds told) (c.requires.holds told)))

pub returns-in-Ok-2-clause-any_moment : goal.returns-in-Ok-2-clause-any_moment
returns-in-Ok-2-clause-any_moment g c = λ told.
    let disk = g.E.Disk in
    subst (λ d. LeavesOnly (MayTakeSpans c.args.params.now) (disk.moments c.args.second) (disk.moments d)) (sym c.into_disk.ensures.disk)
    (moments_stand c.args.params.now (disk.image c.args.second) _ _ (λ pages settles. c.in-Ok.ensures.any_moment told pages settles) (c.requires.holds told))

pub returns-in-Err-clause-refused : goal.returns-in-Err-clause-refused
returns-in-Err-clause-refused g c =
    let disk = g.E.Disk in
    subst (λ r. IsNotOpened disk c.args.params.now c.args.second r) (sym c.refusal.ensures)
    (refused_ends disk c.held_opens.ensures c.args.params.now c.args.second c.requires.holds c.in-Err.refused.fault c.in-Err.refused.disk c.in-Err.ensures.refused
    (λ is.
    let old = disk.faults c.args.second in
    let new = disk.faults c.in-Err.refused.disk in
    (subst (λ (f : OpenFault). MatchBool (is_disk f) (Rose old new × (old ≤ new)) (new ≡ old)) is c.in-Err.ensures.writes.faults).0))

pub returns-in-Err-clause-any_moment : goal.returns-in-Err-clause-any_moment
returns-in-Err-clause-any_moment g c = λ told.
    let disk = g.E.Disk in
    let out = ap second_out c.refusal.ensures ∙ out_refusal disk c.in-Err.refused.fault c.in-Err.refused.disk in
    subst (λ d. LeavesOnly (MayTakeSpans c.args.params.now) (disk.moments c.args.second) (disk.moments d)) (sym out)
    (moments_stand c.args.params.now (disk.image c.args.second) _ _ (λ pages settles. c.in-Err.ensures.any_moment told pages settles) (c.requires.holds told))
