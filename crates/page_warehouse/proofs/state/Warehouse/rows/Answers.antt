use Rattle.std.proofs.Common.{◌∙◌, ap}
use Rattle.page_layout.specs.declared.meta.Meta.{Meta}
use Rattle.page_space.specs.Shown.{disk_of, map_of, meta_of, params_of, IsInOrder}
use Rattle.page_warehouse.proofs.Opened.{rows_here}
use Rattle.page_warehouse.proofs.Queried.{trees_of}
use Rattle.page_warehouse.proofs.state.Warehouse.rows.Goals as goal

pub returns-clause-held : goal.returns-clause-held
returns-clause-held g c = λ whole h held.
    let has = trees_of g.D.Disk g.X.DomIndex whole (disk_of c.args.self.now.space) (params_of c.args.self.now.space) h held in
    ap (λ (m : Meta). m.rows) c.meta.ensures.value
    ∙ rows_here g.X.DomIndex c.holds_one.ensures.one (g.D.Disk.image (disk_of c.args.self.now.space)) (params_of c.args.self.now.space) (meta_of c.args.self.now.space) (map_of c.args.self.now.space) (IsInOrder c.args.self.now.space) (c.is_held.ensures.held has.0) h has.1
