use Rattle.std.proofs.Common.{ap}
use Rattle.page_warehouse.specs.Needs.{meta_charge}
use Rattle.page_warehouse.proofs.state.Warehouse.is_charged.Goals as goal

pub returns : goal.returns
returns g c = λ tells. ap meta_charge (c.is_in_place.ensures tells)
