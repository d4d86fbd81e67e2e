use Rattle.page_space.specs.Shown.{disk_of}
use Rattle.page_warehouse.proofs.state.Warehouse.is_settled.Goals as goal

pub returns : goal.returns
returns g c = λ tells pages settles.
    let x = g.D.Disk.image (disk_of c.args.self.now.space) in
    c.settling_laws.ensures.one x x.pages pages (c.settling_laws.ensures.idle x (c.is_held.ensures.idle tells)) settles
