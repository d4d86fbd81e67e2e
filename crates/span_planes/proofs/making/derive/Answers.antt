use Rattle.std.proofs.Common.{◌≡◌, IsTrue, inl, sym, subst}
use Rattle.bw_types.specs.Fits.{IsInRange}
use Rattle.bw_types.specs.declared.params.Params.{Params}
use Rattle.page_disk.specs.Since.{LeavesOnly}
use Rattle.page_disk.specs.SinceLaws.{LeavesOnly-weaken}
use Rattle.page_disk.specs.declared.disk.Disk.{Ghosts}
use Rattle.page_space.specs.Shown.{disk_of, meta_of, params_of}
use Rattle.page_space.specs.declared.space.Space.{Space}
use Rattle.page_warehouse.specs.Shown.{meta_in, params_in}
use Rattle.span_planes.specs.Made.{IsStillReady, MayTakeSpans, second_out}
use Rattle.span_planes.specs.Readied.{IsReadied, IsRefused, TellNoVersion}
use Rattle.span_planes.proofs.HouseSpans.{refused_leaves}
use Rattle.span_planes.proofs.StayingReady.{opened_ready, refused_ready}
use Rattle.span_planes.proofs.StillReady.{given_still}
use Rattle.span_planes.proofs.Written.{IsPossible, leaves_before}
use Rattle.span_planes.proofs.making.derive.Goals as goal

-- what the opening of the second disk left, under the params of the house
opened_moments : {E : Type 0} (g : Ghosts E) (read params : Params) (second out : E) → read ≡ params → (MayTakeSpans read (g.image second) → LeavesOnly (MayTakeSpans read) (g.moments second) (g.moments out))
    → MayTakeSpans params (g.image second) → LeavesOnly (MayTakeSpans params) (g.moments second) (g.moments out)
opened_moments g read params second out is leaves may =
    subst (λ (p : Params). LeavesOnly (MayTakeSpans p) (g.moments second) (g.moments out)) is (leaves (subst (λ (p : Params). MayTakeSpans p (g.image second)) (sym is) may))

-- how ready it left that disk
opened_still : {E : Type 0} (g : Ghosts E) (read params : Params) (second : E) (space : Space E g) → read ≡ params → IsReadied g read second space → IsTrue (g.tells second)
    → IsStillReady params (g.image second) (g.image (disk_of space))
opened_still g read params second space is readied told = subst (λ (p : Params). IsStillReady p (g.image second) (g.image (disk_of space))) is (readied.still told)

pub returns-in-Ok-clause-leaves : goal.returns-in-Ok-clause-leaves
returns-in-Ok-clause-leaves g c = λ h held told may.
    let i = g.X.DomIndex in
    let disk = g.E.Disk in
    let params = params_in c.args.house.now in
    leaves_before disk i params h c.args.second (disk_of c.in-Ok.space) c.derive_to.result
    (given_still c.created_holds.ensures params (subst (λ (p : Params). IsInRange p) c.params-params.ensures.value c.params-params.ensures.in_range) (disk.image c.args.second) (disk.image (disk_of c.in-Ok.space)) (opened_still disk c.params-params.result params c.args.second c.in-Ok.space c.params-params.ensures.value c.in-Ok.ensures.readied told))
    (LeavesOnly-weaken (MayTakeSpans params) (IsPossible disk i params h) (disk.moments c.args.second) (disk.moments (disk_of c.in-Ok.space)) (λ x takes. inl takes)
    (opened_moments disk c.params-params.result params c.args.second (disk_of c.in-Ok.space) c.params-params.ensures.value (c.in-Ok.ensures.any_moment told) may))
    (c.derive_to.ensures.leaves h held (subst IsTrue (sym c.in-Ok.ensures.tells) told))

pub returns-in-Ok-clause-ready : goal.returns-in-Ok-clause-ready
returns-in-Ok-clause-ready g c = λ told may.
    let disk = g.E.Disk in
    let params = params_in c.args.house.now in
    let still_told = subst IsTrue (sym c.in-Ok.ensures.tells) told in
    opened_ready disk params (meta_in c.args.house.now).version c.args.second (disk_of c.in-Ok.space) c.derive_to.result c.in-Ok.ensures.faults
    (opened_still disk c.params-params.result params c.args.second c.in-Ok.space c.params-params.ensures.value c.in-Ok.ensures.readied told)
    (opened_moments disk c.params-params.result params c.args.second (disk_of c.in-Ok.space) c.params-params.ensures.value (c.in-Ok.ensures.any_moment told) may)
    c.derive_to.ensures.opened (c.derive_to.ensures.shown still_told) (λ e is. c.derive_to.ensures.none e is still_told)

pub returns-in-Ok-clause-there : goal.returns-in-Ok-clause-there
returns-in-Ok-clause-there g c = λ told never.
    absurd (never (subst (λ (p : Params). MayTakeSpans p (g.E.Disk.image c.args.second)) c.params-params.ensures.value (c.in-Ok.ensures.may told)))

pub returns-in-Err-clause-leaves : goal.returns-in-Err-clause-leaves
returns-in-Err-clause-leaves g c = λ h held told may.
    let i = g.X.DomIndex in
    let disk = g.E.Disk in
    let params = params_in c.args.house.now in
    refused_leaves disk i params h c.args.second c.in-Err.ended (subst (λ (p : Params). IsRefused disk p c.args.second c.in-Err.ended) c.params-params.ensures.value c.in-Err.ensures.refused) told may
    (LeavesOnly-weaken (MayTakeSpans params) (IsPossible disk i params h) (disk.moments c.args.second) (disk.moments (second_out c.in-Err.ended)) (λ x takes. inl takes)
    (opened_moments disk c.params-params.result params c.args.second (second_out c.in-Err.ended) c.params-params.ensures.value (c.in-Err.ensures.any_moment told) may))

pub returns-in-Err-clause-ready : goal.returns-in-Err-clause-ready
returns-in-Err-clause-ready g c = λ told may.
    let disk = g.E.Disk in
    let params = params_in c.args.house.now in
    refused_ready disk params (meta_in c.args.house.now).version c.args.second c.in-Err.ended (subst (λ (p : Params). IsRefused disk p c.args.second c.in-Err.ended) c.params-params.ensures.value c.in-Err.ensures.refused) told may
    (opened_moments disk c.params-params.result params c.args.second (second_out c.in-Err.ended) c.params-params.ensures.value (c.in-Err.ensures.any_moment told) may)

pub returns-in-Err-clause-version : goal.returns-in-Err-clause-version
returns-in-Err-clause-version g c = λ e version is. absurd (c.in-Err.ensures.refused.early.not_done e version is)

pub returns-in-Err-clause-there : goal.returns-in-Err-clause-there
returns-in-Err-clause-there g c = λ told never.
    let refused = subst (λ (p : Params). IsRefused g.E.Disk p c.args.second c.in-Err.ended) c.params-params.ensures.value c.in-Err.ensures.refused in
    refused.stays told never

pub derive_to-requires-clause-none : goal.derive_to-requires-clause-none
derive_to-requires-clause-none g c = subst (λ (p : Params). TellNoVersion p (params_of c.in-Ok.space) (meta_of c.in-Ok.space)) c.params-params.ensures.value c.in-Ok.ensures.readied.none

pub derive_to-requires-clause-ordered : goal.derive_to-requires-clause-ordered
derive_to-requires-clause-ordered g c = λ told. c.in-Ok.ensures.readied.ordered (subst IsTrue c.in-Ok.ensures.tells told)

pub derive_to-requires-clause-settled : goal.derive_to-requires-clause-settled
derive_to-requires-clause-settled g c = c.in-Ok.ensures.readied.settled
