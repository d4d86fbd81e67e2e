use Rattle.std.proofs.Common.{◌≡◌, ℕ, ◌+◌, ◌≤◌, IsTrue, Err, length, sym, ◌∙◌, ap, subst, arith, rules}
use Rattle.bw_types.specs.declared.params.Params.{Params}
use Rattle.ports.specs.Count.{Rose}
use Rattle.page_disk.specs.Image.{Image}
use Rattle.page_layout.specs.declared.meta.Meta.{Meta}
use Rattle.ports.specs.Pages.{PageMap}
use Rattle.page_space.specs.Begun.{Begun}
use Rattle.page_space.specs.Shown.{IsInOrder, IsStagedInOrder, base_of, begun_of, disk_of, disk_under, map_of, meta_of, params_of, staged_map, staged_meta}
use Rattle.page_space.specs.Space.{HoldsSpace}
use Rattle.bw_types.specs.History.{changes}
use Rattle.span_planes.specs.Filled.{FilledTrees, entries_in, span_growth}
use Rattle.span_planes.specs.Made.{HasGivenOut, LeavesShown, LeavesSpans, ShowsSpans, second_out}
use Rattle.span_planes.specs.Readied.{StaysOpened}
use Rattle.span_planes.specs.SpanHolds.{SpanHolds, without_degree}
use Rattle.span_planes.specs.Writing.{IsMetaFor}
use Rattle.span_planes.specs.declared.making.Derived.TheVariants.{Disk, Done}
use Rattle.span_planes.proofs.FillableEvents.{few_rows}
use Rattle.span_planes.proofs.InTurn.{come_in_turn, event_number}
use Rattle.span_planes.proofs.ShownSpans.{abandoned_shown, done_shown, shown_by, undone_shown}
use Rattle.span_planes.proofs.SpanOpened.{unordered}
use Rattle.span_planes.proofs.StayingReady.{abandoned_stays, done_stays, failed_stays}
use Rattle.span_planes.proofs.StillReady.{given_here}
use Rattle.span_planes.proofs.Written.{abandoned_disk, abandoned_done, abandoned_leaves, abandoned_out, commit_leaves, done_leaves, failed_leaves, spans_held}
use Rattle.span_planes.proofs.writing.write.Goals as goal

pub returns-in-Err-clause-version : goal.returns-in-Err-clause-version
returns-in-Err-clause-version g c = λ e version same. absurd (abandoned_done c.in-Err.fault c.into_disk.result e version (sym c.abandoned.ensures ∙ same))

pub returns-in-Err-clause-opened : goal.returns-in-Err-clause-opened
returns-in-Err-clause-opened g c =
    let disk = g.E.Disk in
    let params = c.args.params.now in
    let space = c.args.space in
    let back : begun_of c.abandon.result ≡ begun_of space = c.abandon.ensures.base ∙ c.draft.ensures.changes.went_on.base ∙ c.begin-stage.ensures.base in
    let out = c.into_disk.ensures.disk in
    let image = ap disk.image out ∙ ap (λ (b : Begun). b.image) back in
    let moments = ap disk.moments out ∙ ap (λ (b : Begun). b.moments) back in
    subst (λ r. StaysOpened disk params (disk_of space) r) (sym c.abandoned.ensures)
    (abandoned_stays disk params (disk_of space) c.into_disk.result image moments c.in-Err.fault
    (λ n is. (c.in-Err.ensures.changes.page_limit n (ap Err is)).0 ∙ ap (λ (b : Begun). b.params.pages) c.begin-stage.ensures.base ∙ ap (λ (p : Params). p.pages) c.requires.none.own))

pub returns-in-Ok-clause-opened : goal.returns-in-Ok-clause-opened
returns-in-Ok-clause-opened g c = done_stays g.E.Disk c.args.params.now (disk_of c.args.space) c.into_disk-in-Ok.result c.args.last

pub returns-in-Err-commit-clause-opened : goal.returns-in-Err-commit-clause-opened
returns-in-Err-commit-clause-opened g c =
    let disk = g.E.Disk in
    let rose : Rose (disk.faults (disk_of c.args.space)) (disk.faults c.in-Err-commit.second) = search rules in
    failed_stays disk c.args.params.now (disk_of c.args.space) c.in-Err-commit.second rose

pub returns-in-Err-clause-faults : goal.returns-in-Err-clause-faults
returns-in-Err-clause-faults g c =
    let disk = g.E.Disk in
    let out = ap disk.faults (ap second_out c.abandoned.ensures ∙ abandoned_out c.in-Err.fault c.into_disk.result ∙ c.into_disk.ensures.disk ∙ c.abandon.ensures.disk) in
    let more = c.draft.ensures.changes.went_on.faults in
    let first = ap disk.faults c.begin-stage.ensures.disk in
    omega (arith, out, more, first)

pub returns-in-Err-clause-tells : goal.returns-in-Err-clause-tells
returns-in-Err-clause-tells g c =
    let disk = g.E.Disk in
    ap disk.tells (ap second_out c.abandoned.ensures ∙ abandoned_out c.in-Err.fault c.into_disk.result ∙ c.into_disk.ensures.disk ∙ c.abandon.ensures.disk)
    ∙ (c.draft.ensures.changes.went_on.tells ∙ ap disk.tells c.begin-stage.ensures.disk)

pub returns-in-Err-clause-disk : goal.returns-in-Err-clause-disk
returns-in-Err-clause-disk g c = λ e same.
    let disk = g.E.Disk in
    let is = abandoned_disk c.in-Err.fault c.into_disk.result e (sym c.abandoned.ensures ∙ same) in
    let rose = c.in-Err.ensures.changes.disk (ap Err is.0) in
    let first = ap disk.faults c.begin-stage.ensures.disk in
    let last = ap disk.faults (sym is.1 ∙ (c.into_disk.ensures.disk ∙ c.abandon.ensures.disk)) in
    omega (arith, rose, first, last)

pub returns-in-Err-clause-leaves : goal.returns-in-Err-clause-leaves
returns-in-Err-clause-leaves g c = λ h all told.
    let disk = g.E.Disk in
    let i = g.X.DomIndex in
    let params = c.args.params.now in
    let space = c.args.space in
    let none = c.requires.none in
    let mid = c.draft.new.stage in
    let turn = come_in_turn c.args.events.now h all.all in
    let told0 : IsTrue (disk.tells (disk_under c.begin-stage.result)) = subst IsTrue (sym (ap disk.tells c.begin-stage.ensures.disk)) told in
    let order : IsInOrder space = c.requires.ordered told in
    let order0 : IsStagedInOrder c.begin-stage.result = c.begin-stage.ensures.in_order order in
    let back : begun_of c.abandon.result ≡ begun_of space = c.abandon.ensures.base ∙ c.draft.ensures.changes.went_on.base ∙ c.begin-stage.ensures.base in
    let out = c.into_disk.ensures.disk in
    let moments = ap disk.moments out ∙ ap (λ (b : Begun). b.moments) back in
    subst (λ r. LeavesSpans disk i params h (disk_of space) r) (sym c.abandoned.ensures)
    (abandoned_leaves disk i params h (disk_of space) c.into_disk.result c.in-Err.fault moments
    (λ page is. c.in-Err.ensures.sound page told0 turn order0 (ap Err is))
    (λ n before is out.
    let limit = (c.in-Err.ensures.growth told0 turn).page_limit n (ap Err is) in
    let pages : n ≡ params.pages = limit.0 ∙ ap (λ (b : Begun). b.params.pages) c.begin-stage.ensures.base ∙ ap (λ (p : Params). p.pages) none.own in
    let x = disk.image (disk_of space) in
    let given = given_here c.holds_one.ensures.one params x (params_of space) (meta_of space) (map_of space)
    (unordered x (params_of space) (meta_of space) (map_of space) (IsInOrder space) (c.is_held.ensures.held told)) before out in
    let first : (staged_meta c.begin-stage.result).allotted ≡ before = ap (λ (m : Meta). m.allotted) c.begin-stage.ensures.meta ∙ given in
    let most = limit.2 in
    let many = event_number c.args.events.now h all.all in
    let need : span_growth params (length c.args.events.now) ≡ span_growth params (length (changes h)) = ap (λ (k : ℕ). span_growth params k) many in
    omega (arith, pages, first, most, need)))

pub returns-in-Err-clause-shown : goal.returns-in-Err-clause-shown
returns-in-Err-clause-shown g c = λ told.
    let disk = g.E.Disk in
    let space = c.args.space in
    let back : begun_of c.abandon.result ≡ begun_of space = c.abandon.ensures.base ∙ c.draft.ensures.changes.went_on.base ∙ c.begin-stage.ensures.base in
    let moments = ap disk.moments c.into_disk.ensures.disk ∙ ap (λ (b : Begun). b.moments) back in
    subst (λ r. LeavesShown disk c.args.params.now c.args.last (disk_of space) r) (sym c.abandoned.ensures)
    (abandoned_shown disk c.args.params.now c.args.last (disk_of space) c.into_disk.result moments c.in-Err.fault)

pub returns-in-Ok-clause-leaves : goal.returns-in-Ok-clause-leaves
returns-in-Ok-clause-leaves g c = λ h all told.
    let disk = g.E.Disk in
    let i = g.X.DomIndex in
    let params = c.args.params.now in
    let space = c.args.space in
    let none = c.requires.none in
    let mid = c.draft.new.stage in
    let meta = staged_meta mid in
    let map = staged_map mid in
    let turn = come_in_turn c.args.events.now h all.all in
    let told0 : IsTrue (disk.tells (disk_under c.begin-stage.result)) = subst IsTrue (sym (ap disk.tells c.begin-stage.ensures.disk)) told in
    let order : IsInOrder space = c.requires.ordered told in
    let went = c.draft.ensures.changes.went_on in
    let order1 : IsStagedInOrder mid = went.free_in_order told0 (c.begin-stage.ensures.in_order order) in
    let told1 : IsTrue (disk.tells (disk_under mid)) = subst IsTrue (sym went.tells) told0 in
    let base : base_of mid ≡ begun_of space = went.base ∙ c.begin-stage.ensures.base in
    let own : (base_of mid).params ≡ without_degree params = ap (λ (b : Begun). b.params) base ∙ none.own in
    let is : IsMetaFor params c.args.last (length c.args.events.now) meta = c.in_default.ensures.meta (few_rows c.lawful_histories_have_room.ensures params c.requires.range c.args.events.now c.args.last h all) in
    let filled : FilledTrees i (staged_map c.begin-stage.result) map params (entries_in c.args.events.now) meta.roots.items = c.in_default.ensures.fills told0 turn in
    let holds : (x : Image) → HoldsSpace x (without_degree params) meta map (IsStagedInOrder mid) → SpanHolds i x params h = λ x s.
    spans_held i c.index_laws.ensures.any_order params c.requires.range c.requires.dims c.args.events.now c.args.last h all (staged_map c.begin-stage.result) map meta is filled x (IsStagedInOrder mid) order1 s in
    let made = c.in-Ok.space in
    let y = disk.image (disk_of made) in
    let stands : HoldsSpace y (without_degree params) meta map (IsStagedInOrder mid) =
    subst (λ (p : Params). HoldsSpace y p meta map (IsStagedInOrder mid)) (c.in-Ok.ensures.params ∙ own)
    (subst (λ (m : Meta). HoldsSpace y (params_of made) m map (IsStagedInOrder mid)) c.in-Ok.ensures.meta
    (subst (λ (m : PageMap). HoldsSpace y (params_of made) (meta_of made) m (IsStagedInOrder mid)) (c.in-Ok.ensures.map told1) (c.in-Ok.ensures.holds told1))) in
    let x = disk.image (disk_of space) in
    let grown : (before after : ℕ) → HasGivenOut params x before → HasGivenOut params y after → after ≤ before + span_growth params (length (changes h)) = λ before after first now.
    let one = c.holds_one.ensures.one in
    let opened : (staged_meta c.begin-stage.result).allotted ≡ before = ap (λ (m : Meta). m.allotted) c.begin-stage.ensures.meta ∙ given_here one params x (params_of space) (meta_of space) (map_of space)
    (unordered x (params_of space) (meta_of space) (map_of space) (IsInOrder space) (c.is_held.ensures.held told)) before first in
    let left : meta.allotted ≡ after = given_here one params y (without_degree params) meta map (unordered y (without_degree params) meta map (IsStagedInOrder mid) stands) after now in
    let most = (c.draft.ensures.growth told0 turn).went_on.at_most in
    let need : span_growth params (length c.args.events.now) ≡ span_growth params (length (changes h)) = ap (λ (k : ℕ). span_growth params k) (event_number c.args.events.now h all.all) in
    omega (arith, opened, left, most, need) in
    subst (λ d. LeavesSpans disk i params h (disk_of space) (Done d c.args.last)) (sym c.into_disk-in-Ok.ensures.disk)
    (done_leaves disk i params h (disk_of space) (disk_of made) c.args.last all.last_is (holds y stands) c.in-Ok.ensures.settled
    (commit_leaves params (begun_of space) (base_of mid) meta map (IsStagedInOrder mid) (λ z. SpanHolds i z params h) (disk.moments (disk_of made)) base order none holds (c.in-Ok.ensures.any_moment told1)) grown)

pub returns-in-Ok-clause-shown : goal.returns-in-Ok-clause-shown
returns-in-Ok-clause-shown g c = λ told.
    let disk = g.E.Disk in
    let params = c.args.params.now in
    let last = c.args.last in
    let space = c.args.space in
    let none = c.requires.none in
    let mid = c.draft.new.stage in
    let meta = staged_meta mid in
    let map = staged_map mid in
    let told0 : IsTrue (disk.tells (disk_under c.begin-stage.result)) = subst IsTrue (sym (ap disk.tells c.begin-stage.ensures.disk)) told in
    let order : IsInOrder space = c.requires.ordered told in
    let went = c.draft.ensures.changes.went_on in
    let order1 : IsStagedInOrder mid = went.free_in_order told0 (c.begin-stage.ensures.in_order order) in
    let told1 : IsTrue (disk.tells (disk_under mid)) = subst IsTrue (sym went.tells) told0 in
    let base : base_of mid ≡ begun_of space = went.base ∙ c.begin-stage.ensures.base in
    let own : (base_of mid).params ≡ without_degree params = ap (λ (b : Begun). b.params) base ∙ none.own in
    let shows : (x : Image) → HoldsSpace x (without_degree params) meta map (IsStagedInOrder mid) → ShowsSpans params last x =
    λ x s. shown_by params last x meta map (IsStagedInOrder mid) order1 c.in_default.ensures.shown s in
    let made = c.in-Ok.space in
    let y = disk.image (disk_of made) in
    let stands : HoldsSpace y (without_degree params) meta map (IsStagedInOrder mid) =
    subst (λ (p : Params). HoldsSpace y p meta map (IsStagedInOrder mid)) (c.in-Ok.ensures.params ∙ own)
    (subst (λ (m : Meta). HoldsSpace y (params_of made) m map (IsStagedInOrder mid)) c.in-Ok.ensures.meta
    (subst (λ (m : PageMap). HoldsSpace y (params_of made) (meta_of made) m (IsStagedInOrder mid)) (c.in-Ok.ensures.map told1) (c.in-Ok.ensures.holds told1))) in
    subst (λ d. LeavesShown disk params last (disk_of space) (Done d last)) (sym c.into_disk-in-Ok.ensures.disk)
    (done_shown disk params last (disk_of space) (disk_of made) last (shows y stands) c.in-Ok.ensures.settled
    (commit_leaves params (begun_of space) (base_of mid) meta map (IsStagedInOrder mid) (λ z. ShowsSpans params last z) (disk.moments (disk_of made)) base order none shows (c.in-Ok.ensures.any_moment told1)))

pub returns-in-Err-commit-clause-leaves : goal.returns-in-Err-commit-clause-leaves
returns-in-Err-commit-clause-leaves g c = λ h all told.
    let disk = g.E.Disk in
    let i = g.X.DomIndex in
    let params = c.args.params.now in
    let space = c.args.space in
    let mid = c.draft.new.stage in
    let meta = staged_meta mid in
    let map = staged_map mid in
    let turn = come_in_turn c.args.events.now h all.all in
    let told0 : IsTrue (disk.tells (disk_under c.begin-stage.result)) = subst IsTrue (sym (ap disk.tells c.begin-stage.ensures.disk)) told in
    let order : IsInOrder space = c.requires.ordered told in
    let went = c.draft.ensures.changes.went_on in
    let order1 : IsStagedInOrder mid = went.free_in_order told0 (c.begin-stage.ensures.in_order order) in
    let told1 : IsTrue (disk.tells (disk_under mid)) = subst IsTrue (sym went.tells) told0 in
    let base : base_of mid ≡ begun_of space = went.base ∙ c.begin-stage.ensures.base in
    let is : IsMetaFor params c.args.last (length c.args.events.now) meta = c.in_default.ensures.meta (few_rows c.lawful_histories_have_room.ensures params c.requires.range c.args.events.now c.args.last h all) in
    let filled : FilledTrees i (staged_map c.begin-stage.result) map params (entries_in c.args.events.now) meta.roots.items = c.in_default.ensures.fills told0 turn in
    let holds : (x : Image) → HoldsSpace x (without_degree params) meta map (IsStagedInOrder mid) → SpanHolds i x params h = λ x s.
    spans_held i c.index_laws.ensures.any_order params c.requires.range c.requires.dims c.args.events.now c.args.last h all (staged_map c.begin-stage.result) map meta is filled x (IsStagedInOrder mid) order1 s in
    failed_leaves disk i params h (disk_of space) c.in-Err-commit.second
    (commit_leaves params (begun_of space) (base_of mid) meta map (IsStagedInOrder mid) (λ z. SpanHolds i z params h) (disk.moments c.in-Err-commit.second) base order c.requires.none holds (c.in-Err-commit.ensures.any_moment told1))

pub returns-in-Err-commit-clause-shown : goal.returns-in-Err-commit-clause-shown
returns-in-Err-commit-clause-shown g c = λ told.
    let disk = g.E.Disk in
    let params = c.args.params.now in
    let last = c.args.last in
    let space = c.args.space in
    let mid = c.draft.new.stage in
    let meta = staged_meta mid in
    let map = staged_map mid in
    let told0 : IsTrue (disk.tells (disk_under c.begin-stage.result)) = subst IsTrue (sym (ap disk.tells c.begin-stage.ensures.disk)) told in
    let order : IsInOrder space = c.requires.ordered told in
    let went = c.draft.ensures.changes.went_on in
    let order1 : IsStagedInOrder mid = went.free_in_order told0 (c.begin-stage.ensures.in_order order) in
    let told1 : IsTrue (disk.tells (disk_under mid)) = subst IsTrue (sym went.tells) told0 in
    let shows : (x : Image) → HoldsSpace x (without_degree params) meta map (IsStagedInOrder mid) → ShowsSpans params last x =
    λ x s. shown_by params last x meta map (IsStagedInOrder mid) order1 c.in_default.ensures.shown s in
    undone_shown disk params last (disk_of space) (Disk c.in-Err-commit.second) (λ e number is. cc)
    (commit_leaves params (begun_of space) (base_of mid) meta map (IsStagedInOrder mid) (λ z. ShowsSpans params last z) (disk.moments c.in-Err-commit.second) (went.base ∙ c.begin-stage.ensures.base) order c.requires.none shows (c.in-Err-commit.ensures.any_moment told1))
