use Rattle.page_space.specs.Shown.{IsInOrder, disk_of, map_of, meta_of, params_of}
use Rattle.page_warehouse.proofs.Drafted.{meta_is}
use Rattle.page_warehouse.proofs.state.Warehouse.is_in_place.Goals as goal

pub returns : goal.returns
returns g c = λ tells.
    let space = c.args.self.now.space in
    meta_is c.settling_laws.ensures.one (g.D.Disk.image (disk_of space)) (params_of space) (meta_of space) (map_of space) (IsInOrder space) (c.is_held.ensures.held tells)
    (c.settling_laws.ensures.idle (g.D.Disk.image (disk_of space)) (c.is_held.ensures.idle tells))
