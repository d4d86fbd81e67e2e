use Rattle.std.proofs.Common.{◌≡◌, ℕ, true, List, [], Err, inr, refl, sym, ◌∙◌, ap, subst, arith}
use Rattle.std.specs.List.{All}
use Rattle.bw_types.specs.Fits.{IsInRange}
use Rattle.bw_types.specs.History.{History}
use Rattle.bw_types.specs.declared.params.Params.{Params}
use Rattle.page_warehouse.specs.declared.event.Event.{Event}
use Rattle.page_disk.specs.Image.{Image}
use Rattle.page_disk.specs.SinceLaws.{LeavesOnly-same}
use Rattle.page_space.specs.Shown.{IsInOrder, disk_of, map_of, meta_of, params_of}
use Rattle.page_warehouse.specs.Shown.{disk_in, meta_in, params_in}
use Rattle.span_planes.specs.Filled.{CanFill}
use Rattle.span_planes.specs.Made.{HoldsNoVersion, LeavesShown, LeavesSpans, ShowsSpans}
use Rattle.span_planes.specs.Readied.{StaysOpened, TellNoVersion}
use Rattle.span_planes.specs.Writing.{AreAllOf}
use Rattle.span_planes.proofs.FillableEvents.{all_fill}
use Rattle.span_planes.specs.declared.making.Derived.TheVariants.{Done}
use Rattle.span_planes.proofs.HouseSpans.{all_of, gathered_leaves, none_yet}
use Rattle.span_planes.proofs.NoVersionSpans.{none_held}
use Rattle.span_planes.proofs.Readied.{none_there}
use Rattle.span_planes.proofs.ShownSpans.{MayShow, damaged_shown, done_shown, gathered_shown, none_shown}
use Rattle.span_planes.proofs.SpanOpened.{unordered}
use Rattle.span_planes.proofs.StayingReady.{damaged_stays, done_stays, gathered_stays}
use Rattle.span_planes.proofs.StillReady.{given_here}
use Rattle.span_planes.proofs.Written.{IsPossible, done_leaves}
use Rattle.span_planes.proofs.making.derive_to.Goals as goal

pub returns-in-Ok-clause-leaves : goal.returns-in-Ok-clause-leaves
returns-in-Ok-clause-leaves g c = λ h held told.
    let i = g.X.DomIndex in
    let x = g.D.Disk.image (disk_in c.args.house.now) in
    let is = c.params-params.ensures.value in
    let all : AreAllOf (params_in c.args.house.now) c.in-Ok.events.items c.last-last.result h =
    all_of i x (params_in c.args.house.now) c.in-Ok.events.items c.last-last.result h held.1 (c.last-last.ensures.held true h held) (c.in-Ok.ensures.events h held) (c.in-Ok.ensures.lives h held) in
    let given : AreAllOf c.params-params.result c.deref-in-Ok.result.now c.last-last.result h =
    subst (λ (p : Params). AreAllOf p c.deref-in-Ok.result.now c.last-last.result h) (sym is)
    (subst (λ (es : List Event). AreAllOf (params_in c.args.house.now) es c.last-last.result h) (sym c.deref-in-Ok.ensures.value) all) in
    subst (λ (p : Params). LeavesSpans g.E.Disk i p h (disk_of c.args.space) c.write.result) is (c.write.ensures.leaves h given told)

pub returns-in-Ok-clause-shown : goal.returns-in-Ok-clause-shown
returns-in-Ok-clause-shown g c = λ told.
    let disk = g.E.Disk in
    let params = params_in c.args.house.now in
    let out = disk_of c.args.space in
    subst (λ (n : ℕ). LeavesShown disk params n out c.write.result) c.last-last.ensures.value
    (subst (λ (p : Params). LeavesShown disk p c.last-last.result out c.write.result) c.params-params.ensures.value (c.write.ensures.shown told))

pub returns-in-Ok-clause-opened : goal.returns-in-Ok-clause-opened
returns-in-Ok-clause-opened g c = subst (λ (p : Params). StaysOpened g.E.Disk p (disk_of c.args.space) c.write.result) c.params-params.ensures.value c.write.ensures.opened

pub returns-in-Ok-clause-disk : goal.returns-in-Ok-clause-disk
returns-in-Ok-clause-disk g c = λ e is. inr (c.write.ensures.disk e is)

pub returns-in-Ok-2-clause-leaves : goal.returns-in-Ok-2-clause-leaves
returns-in-Ok-2-clause-leaves g c = λ h held told.
    let i = g.X.DomIndex in
    let x = g.D.Disk.image (disk_in c.args.house.now) in
    let is = c.params-params.ensures.value in
    let all : AreAllOf (params_in c.args.house.now) c.in-Ok.events.items c.last-last.result h =
    all_of i x (params_in c.args.house.now) c.in-Ok.events.items c.last-last.result h held.1 (c.last-last.ensures.held true h held) (c.in-Ok.ensures.events h held) (c.in-Ok.ensures.lives h held) in
    let given : AreAllOf c.params-params.result c.deref.result.now c.last-last.result h =
    subst (λ (p : Params). AreAllOf p c.deref.result.now c.last-last.result h) (sym is)
    (subst (λ (es : List Event). AreAllOf (params_in c.args.house.now) es c.last-last.result h) (sym c.deref.ensures.value) all) in
    absurd (c.can_fill_all.ensures.no c.if-can_fill_all.false
    (all_fill c.lawful_histories_have_room.ensures c.params-params.result c.params-params.ensures.in_range c.deref.result.now c.last-last.result h given))

pub returns-in-Err-clause-leaves : goal.returns-in-Err-clause-leaves
returns-in-Err-clause-leaves g c = λ h held told.
    let disk = g.E.Disk in
    let out = c.into_disk-in-Err.ensures.disk in
    subst (λ r. LeavesSpans disk g.X.DomIndex (params_in c.args.house.now) h (disk_of c.args.space) r) (sym c.ended.ensures)
    (gathered_leaves disk g.X.DomIndex (params_in c.args.house.now) h (disk_of c.args.space) c.into_disk-in-Err.result c.in-Err.fault (ap disk.moments out)
    (λ page bad. c.gather.ensures.sound h page held (c.in-Err.is ∙ ap Err bad)))

pub returns-in-Err-clause-shown : goal.returns-in-Err-clause-shown
returns-in-Err-clause-shown g c = λ told.
    let disk = g.E.Disk in
    let version = (meta_in c.args.house.now).version in
    subst (λ r. LeavesShown disk (params_in c.args.house.now) version (disk_of c.args.space) r) (sym c.ended.ensures)
    (gathered_shown disk (params_in c.args.house.now) version (disk_of c.args.space) c.into_disk-in-Err.result (ap disk.moments c.into_disk-in-Err.ensures.disk) c.in-Err.fault)

pub returns-in-Err-clause-opened : goal.returns-in-Err-clause-opened
returns-in-Err-clause-opened g c =
    let disk = g.E.Disk in
    let params = params_in c.args.house.now in
    let out = c.into_disk-in-Err.ensures.disk in
    subst (λ r. StaysOpened disk params (disk_of c.args.space) r) (sym c.ended.ensures)
    (gathered_stays disk params (disk_of c.args.space) c.into_disk-in-Err.result (ap disk.image out) (ap disk.moments out) c.in-Err.fault)

pub returns-in-Ok-2-clause-shown : goal.returns-in-Ok-2-clause-shown
returns-in-Ok-2-clause-shown g c = λ told.
    let disk = g.E.Disk in
    damaged_shown disk (params_in c.args.house.now) (meta_in c.args.house.now).version (disk_of c.args.space) c.into_disk-in-Ok-2.result (ap disk.moments c.into_disk-in-Ok-2.ensures.disk) 2

pub returns-in-Ok-2-clause-opened : goal.returns-in-Ok-2-clause-opened
returns-in-Ok-2-clause-opened g c =
    let disk = g.E.Disk in
    let out = c.into_disk-in-Ok-2.ensures.disk in
    damaged_stays disk (params_in c.args.house.now) (disk_of c.args.space) c.into_disk-in-Ok-2.result (ap disk.image out) (ap disk.moments out) 2

pub returns-in-Ok-clause-version : goal.returns-in-Ok-clause-version
returns-in-Ok-clause-version g c = λ e version is. c.write.ensures.version e version is ∙ c.last-last.ensures.value

pub returns-in-Ok-clause-none : goal.returns-in-Ok-clause-none
returns-in-Ok-clause-none g c = λ e is told. absurd (c.if-last-eq0.false (sym (c.write.ensures.version e 0 is)))

pub returns-then-last-eq0-clause-leaves : goal.returns-then-last-eq0-clause-leaves
returns-then-last-eq0-clause-leaves g c = λ h held told.
    let disk = g.E.Disk in
    let i = g.X.DomIndex in
    let params = params_in c.args.house.now in
    let range : IsInRange params = subst (λ (p : Params). IsInRange p) c.params-params.ensures.value c.params-params.ensures.in_range in
    let held_there = none_there disk params (disk_of c.args.space) c.args.space (c.is_held.ensures.held told) (c.requires.ordered told) c.requires.none in
    let none : h ≡ [] = none_yet h (sym c.if-last-eq0.true ∙ c.last-last.ensures.held true h held) in
    let space = c.args.space in
    let x = disk.image (disk_of space) in
    let here = given_here c.holds_one.ensures.one params x (params_of space) (meta_of space) (map_of space)
    (unordered x (params_of space) (meta_of space) (map_of space) (IsInOrder space) (c.is_held.ensures.held told)) in
    subst (λ (k : History). LeavesSpans disk i params k (disk_of c.args.space) (Done c.into_disk.result 0)) (sym none)
    (subst (λ d. LeavesSpans disk i params [] (disk_of c.args.space) (Done d 0)) (sym c.into_disk.ensures.disk)
    (done_leaves disk i params [] (disk_of c.args.space) (disk_of c.args.space) 0 refl
    (none_held i c.index_laws.ensures.empty params range held.1.trees.dims (disk.image (disk_of c.args.space)) held_there) c.requires.settled
    (LeavesOnly-same (IsPossible disk i params []) (disk.moments (disk_of c.args.space)))
    (λ before after first now. (let opened = here before first in let left = here after now in omega (arith, opened, left)))))

pub returns-then-last-eq0-clause-shown : goal.returns-then-last-eq0-clause-shown
returns-then-last-eq0-clause-shown g c = λ told.
    let disk = g.E.Disk in
    let params = params_in c.args.house.now in
    let version = (meta_in c.args.house.now).version in
    let space = c.args.space in
    let zero : 0 ≡ version = sym c.if-last-eq0.true ∙ c.last-last.ensures.value in
    let shows = none_shown params (disk.image (disk_of space)) (none_there disk params (disk_of space) space (c.is_held.ensures.held told) (c.requires.ordered told) c.requires.none) in
    subst (λ d. LeavesShown disk params version (disk_of space) (Done d 0)) (sym c.into_disk.ensures.disk)
    (done_shown disk params version (disk_of space) (disk_of space) 0 (subst (λ (n : ℕ). ShowsSpans params n (disk.image (disk_of space))) zero shows) c.requires.settled
    (LeavesOnly-same (MayShow disk params version) (disk.moments (disk_of space))))

pub returns-then-last-eq0-clause-opened : goal.returns-then-last-eq0-clause-opened
returns-then-last-eq0-clause-opened g c = done_stays g.E.Disk (params_in c.args.house.now) (disk_of c.args.space) c.into_disk.result 0

pub returns-then-last-eq0-clause-none : goal.returns-then-last-eq0-clause-none
returns-then-last-eq0-clause-none g c = λ e is told.
    let disk = g.E.Disk in
    let params = params_in c.args.house.now in
    let space = c.args.space in
    let held = none_there disk params (disk_of space) space (c.is_held.ensures.held told) (c.requires.ordered told) c.requires.none in
    let same : c.into_disk.result ≡ e = cc in
    let image : disk.image e ≡ disk.image (disk_of space) = ap disk.image (sym same ∙ c.into_disk.ensures.disk) in
    (subst (λ (x : Image). HoldsNoVersion params x) (sym image) held, image)

pub write-requires-clause-events : goal.write-requires-clause-events
write-requires-clause-events g c =
    subst (λ (es : List Event). All (CanFill c.params-params.result) es) (c.deref.ensures.value ∙ sym c.deref-in-Ok.ensures.value) (c.can_fill_all.ensures.yes c.if-can_fill_all.true)

pub write-requires-clause-none : goal.write-requires-clause-none
write-requires-clause-none g c = subst (λ (p : Params). TellNoVersion p (params_of c.args.space) (meta_of c.args.space)) (sym c.params-params.ensures.value) c.requires.none
