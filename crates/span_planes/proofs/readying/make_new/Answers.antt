use Rattle.std.proofs.Common.{◌≡◌, ◌⊎◌, true, false, IsTrue, inl, inr, sym, ◌∙◌, ap, subst}
use Rattle.page_disk.specs.SinceLaws.{LeavesOnly-then, LeavesOnly-weaken}
use Rattle.redo_journal.specs.Gates.{is_empty}
use Rattle.span_planes.specs.Made.{IsNew, MayTakeSpans}
use Rattle.span_planes.specs.Readied.{IsNotOpened, IsReadied, readied_disk}
use Rattle.span_planes.proofs.NoVersionSpans.{new_none}
use Rattle.span_planes.proofs.Readied.{ends_new, failed_ends, if_readied, if_refused, readied_new, there_ends}
use Rattle.span_planes.proofs.StillReady.{new_idle}
use Rattle.span_planes.proofs.readying.make_new.Goals as goal

pub open_no_version-requires-clause-holds : goal.open_no_version-requires-clause-holds
open_no_version-requires-clause-holds g c = λ told.
    new_none c.created_holds.ensures c.args.params.now (g.E.Disk.image c.in-Done.second) c.requires.range (c.in-Done.ensures.made (subst IsTrue c.in-Done.ensures.tells told)).1

pub returns-in-Done-clause-readied : goal.returns-in-Done-clause-readied
returns-in-Done-clause-readied g c =
    let disk = g.E.Disk in
    let params = c.args.params.now in
    let new : IsTrue (disk.tells c.args.second) → IsNew params (disk.image c.in-Done.second) = λ told. (c.in-Done.ensures.made told).1 in
    if_readied (IsReadied disk params c.in-Done.second) (IsReadied disk params c.args.second) c.open_no_version.result
    (λ space is r. readied_new disk params c.args.second c.in-Done.second space c.in-Done.ensures.tells c.requires.empty new
    (λ told. ap (λ r. disk.image (readied_disk r)) (sym is) ∙ c.open_no_version.ensures.image (subst IsTrue (sym c.in-Done.ensures.tells) told) (new_idle params (disk.image c.in-Done.second) (new told))) r)
    c.open_no_version.ensures.readied

pub returns-in-Done-clause-refused : goal.returns-in-Done-clause-refused
returns-in-Done-clause-refused g c =
    let disk = g.E.Disk in
    let params = c.args.params.now in
    let new : IsTrue (disk.tells c.args.second) → IsNew params (disk.image c.in-Done.second) = λ told. (c.in-Done.ensures.made told).1 in
    if_refused (IsNotOpened disk params c.in-Done.second) (IsNotOpened disk params c.args.second) c.open_no_version.result
    (λ ended is n. ends_new disk params c.args.second c.in-Done.second ended c.in-Done.ensures.faults c.in-Done.ensures.tells c.requires.empty new
    (λ told. ap (λ r. disk.image (readied_disk r)) (sym is) ∙ c.open_no_version.ensures.image (subst IsTrue (sym c.in-Done.ensures.tells) told) (new_idle params (disk.image c.in-Done.second) (new told))) n)
    c.open_no_version.ensures.refused

pub returns-in-Done-clause-any_moment : goal.returns-in-Done-clause-any_moment
returns-in-Done-clause-any_moment g c = λ told.
    let disk = g.E.Disk in
    let params = c.args.params.now in
    LeavesOnly-then (MayTakeSpans params) (disk.moments c.args.second) (disk.moments c.in-Done.second) (disk.moments (readied_disk c.open_no_version.result))
    (LeavesOnly-weaken (λ x. (is_empty x ≡ true) ⊎ IsNew params x) (MayTakeSpans params) _ _
    (λ x has. elim has [ inl none ↦ inl none | inr new ↦ inr (new_none c.created_holds.ensures params x c.requires.range new) ])
    (c.in-Done.ensures.any_moment told (c.requires.empty told)))
    (c.open_no_version.ensures.any_moment (subst IsTrue (sym c.in-Done.ensures.tells) told))

pub returns-in-AlreadyThere-clause-refused : goal.returns-in-AlreadyThere-clause-refused
returns-in-AlreadyThere-clause-refused g c =
    there_ends g.E.Disk c.args.params.now c.args.second c.in-AlreadyThere.second
    (λ told. let no : true ≡ false = sym (c.requires.empty told) ∙ c.in-AlreadyThere.ensures.there told in absurd (cc))

pub returns-in-AlreadyThere-clause-any_moment : goal.returns-in-AlreadyThere-clause-any_moment
returns-in-AlreadyThere-clause-any_moment g c = λ told.
    let no : true ≡ false = sym (c.requires.empty told) ∙ c.in-AlreadyThere.ensures.there told in absurd (cc)

pub returns-in-Disk-clause-refused : goal.returns-in-Disk-clause-refused
returns-in-Disk-clause-refused g c = failed_ends g.E.Disk c.args.params.now c.args.second c.in-Disk.second c.in-Disk.ensures.disk

pub returns-in-Disk-clause-any_moment : goal.returns-in-Disk-clause-any_moment
returns-in-Disk-clause-any_moment g c = λ told.
    let disk = g.E.Disk in
    let params = c.args.params.now in
    LeavesOnly-weaken (λ x. (is_empty x ≡ true) ⊎ IsNew params x) (MayTakeSpans params) _ _
    (λ x has. elim has [ inl none ↦ inl none | inr new ↦ inr (new_none c.created_holds.ensures params x c.requires.range new) ])
    (c.in-Disk.ensures.any_moment told (c.requires.empty told))
