use Rattle.std.proofs.Common.{Err, FitsSigned, ap, ◌∙◌, arith, rules}
use Rattle.std.proofs.lemmas.Int.{to_z-of_z}
use Rattle.std.specs.Int.{w128}
use Rattle.page_space.specs.Shown.{disk_of, map_of, meta_of, params_of, IsInOrder}
use Rattle.page_warehouse.proofs.Opened.{last_here}
use Rattle.page_warehouse.proofs.Queried.{trees_of}
use Rattle.page_warehouse.proofs.state.Warehouse.query.Goals as goal

pub returns-then-version-last-clause-answers : goal.returns-then-version-last-clause-answers
returns-then-version-last-clause-answers g c = λ whole h held.
    let has = trees_of g.D.Disk g.X.DomIndex whole (disk_of c.args.self.now.space) (params_of c.args.self.now.space) h held in
    let last = last_here g.X.DomIndex c.holds_one.ensures.one (g.D.Disk.image (disk_of c.args.self.now.space)) (params_of c.args.self.now.space) (meta_of c.args.self.now.space) (map_of c.args.self.now.space) (IsInOrder c.args.self.now.space) (c.is_held.ensures.held has.0) h has.1 in
    let read = c.last-last.ensures.value in
    let above = c.if-version-last.true in
    (omega arith, read ∙ last)

pub returns-in-Ok-clause-answers : goal.returns-in-Ok-clause-answers
returns-in-Ok-clause-answers g c = λ whole h held.
    let has = trees_of g.D.Disk g.X.DomIndex whole (disk_of c.args.self.now.space) (params_of c.args.self.now.space) h held in
    let last = last_here g.X.DomIndex c.holds_one.ensures.one (g.D.Disk.image (disk_of c.args.self.now.space)) (params_of c.args.self.now.space) (meta_of c.args.self.now.space) (map_of c.args.self.now.space) (IsInOrder c.args.self.now.space) (c.is_held.ensures.held has.0) h has.1 in
    let read = c.last-last.ensures.value in
    let within = c.if-version-last.false in
    let fits : FitsSigned w128 c.in-Ok.value = search rules in
    (omega arith, to_z-of_z w128 c.in-Ok.value fits ∙ c.in-Ok.ensures.answers has.0 h has.1)

pub returns-in-Ok-clause-reads : goal.returns-in-Ok-clause-reads
returns-in-Ok-clause-reads g c = λ whole h held.
    let has = trees_of g.D.Disk g.X.DomIndex whole (disk_of c.args.self.now.space) (params_of c.args.self.now.space) h held in
    c.total.ensures.cost h has.0 has.1

pub returns-in-Err-Disk-clause-answers : goal.returns-in-Err-Disk-clause-answers
returns-in-Err-Disk-clause-answers g c = λ whole h held.
    let has = trees_of g.D.Disk g.X.DomIndex whole (disk_of c.args.self.now.space) (params_of c.args.self.now.space) h held in
    let last = last_here g.X.DomIndex c.holds_one.ensures.one (g.D.Disk.image (disk_of c.args.self.now.space)) (params_of c.args.self.now.space) (meta_of c.args.self.now.space) (map_of c.args.self.now.space) (IsInOrder c.args.self.now.space) (c.is_held.ensures.held has.0) h has.1 in
    let read = c.last-last.ensures.value in
    let within = c.if-version-last.false in
    omega arith

pub returns-in-Err-Disk-clause-reads : goal.returns-in-Err-Disk-clause-reads
returns-in-Err-Disk-clause-reads g c = λ whole h held.
    let has = trees_of g.D.Disk g.X.DomIndex whole (disk_of c.args.self.now.space) (params_of c.args.self.now.space) h held in
    c.total.ensures.cost h has.0 has.1

pub returns-in-Err-Damaged-clause-answers : goal.returns-in-Err-Damaged-clause-answers
returns-in-Err-Damaged-clause-answers g c = λ whole h held.
    let has = trees_of g.D.Disk g.X.DomIndex whole (disk_of c.args.self.now.space) (params_of c.args.self.now.space) h held in
    c.total.ensures.sound h c.in-Err-Damaged.page has.0 has.1 (c.in-Err-Damaged.is ∙ ap Err c.in-Err-Damaged.field-0-is)

pub returns-in-Err-Damaged-clause-reads : goal.returns-in-Err-Damaged-clause-reads
returns-in-Err-Damaged-clause-reads g c = λ whole h held.
    let has = trees_of g.D.Disk g.X.DomIndex whole (disk_of c.args.self.now.space) (params_of c.args.self.now.space) h held in
    c.total.ensures.cost h has.0 has.1
