use Rattle.std.proofs.Common.{◌≡◌, true, false, IsTrue, sym, ◌∙◌, subst}
use Rattle.page_disk.specs.Image.{Image, page_at}
use Rattle.page_space.specs.Chain.{FreeInOrder}
use Rattle.settled_pages.specs.Shown.{pages_shown}
use Rattle.span_planes.specs.SpanHolds.{without_degree}
use Rattle.span_planes.proofs.NoVersionSpans.{space_none, space_of}
use Rattle.span_planes.proofs.Readied.{order_none, takes_none, tells_none}
use Rattle.span_planes.proofs.looking.ground_of.Goals as goal

pub returns-then-not-tells_no_version-clause-seen : goal.returns-then-not-tells_no_version-clause-seen
returns-then-not-tells_no_version-clause-seen g c = λ told.
    let x = g.E.Disk.image c.args.second.now in
    let params = c.args.params.now in
    let some = rw c.in-Ok-Some.field-0-is at c.in-Ok-Some.ensures.some in
    takes_none params x _ (c.requires.found told).settles
    (λ held. c.tells_no_version.ensures.no c.if-not-tells_no_version.true (tells_none c.holds_one.ensures.one params x c.in-Ok-Some.read c.in-Ok-Some.meta _ (some told) held))

pub returns-in-Ok-true-clause-seen : goal.returns-in-Ok-true-clause-seen
returns-in-Ok-true-clause-seen g c = λ told.
    let disk = g.E.Disk in
    let x = disk.image c.args.second.now in
    let meta = c.in-Ok-Some.meta in
    let settled = c.args.settled.now in
    let ordered = rw c.in-Ok-Some.field-0-is at c.in-Ok-Some.ensures.ordered in
    let order = (c.in-Ok-true.ensures.ordered (subst IsTrue (sym c.roots.ensures.reads.tells) told)).0 c.in-Ok-true.field-0-test in
    space_none c.args.params.now x c.in-Ok-Some.read meta _ (FreeInOrder (page_at (pages_shown x settled)) meta.allotted meta.free)
    (subst (λ (y : Image). FreeInOrder (page_at (pages_shown y settled)) meta.allotted meta.free) c.roots.ensures.reads.image order) (ordered told)
    (c.tells_no_version.ensures.yes c.if-not-tells_no_version.false)

pub returns-in-Ok-false-clause-seen : goal.returns-in-Ok-false-clause-seen
returns-in-Ok-false-clause-seen g c = λ told.
    let disk = g.E.Disk in
    let x = disk.image c.args.second.now in
    let params = c.args.params.now in
    let meta = c.in-Ok-Some.meta in
    let settled = c.args.settled.now in
    let settles = (c.requires.found told).settles in
    let some = rw c.in-Ok-Some.field-0-is at c.in-Ok-Some.ensures.some in
    takes_none params x (pages_shown x settled) settles
    (λ held.
    let order = order_none c.holds_one.ensures.one c.holds_one.ensures.order params x (pages_shown x settled) c.in-Ok-Some.read meta _ (some told) settles held in
    let is = (c.in-Ok-false.ensures.ordered (subst IsTrue (sym c.roots.ensures.reads.tells) told)).1
    (subst (λ (y : Image). FreeInOrder (page_at (pages_shown y settled)) meta.allotted meta.free) (sym c.roots.ensures.reads.image) order) in
    let no : true ≡ false = sym is ∙ c.in-Ok-false.field-0-test in absurd (cc))

pub returns-in-Ok-None-clause-seen : goal.returns-in-Ok-None-clause-seen
returns-in-Ok-None-clause-seen g c = λ told.
    let x = g.E.Disk.image c.args.second.now in
    let params = c.args.params.now in
    let none = rw c.in-Ok-None.field-0-is at c.in-Ok-None.ensures.none in
    takes_none params x _ (c.requires.found told).settles
    (λ held. none told (without_degree params) held.meta held.pages (space_of params x held))
