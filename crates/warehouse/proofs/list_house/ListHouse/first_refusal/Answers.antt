use Rattle.std.proofs.Common.{◌∙◌, ap}
use Rattle.bw_types.specs.Refusals.{first_refusal}
use Rattle.warehouse.specs.ListState.{ListState}
use Rattle.warehouse.specs.Standing.{history_in}
use Rattle.warehouse.proofs.ToldLemmas.{is_told_of}
use Rattle.warehouse.proofs.list_house.ListHouse.first_refusal.Goals as goal

pub returns-in-Ok-clause-ok : goal.returns-in-Ok-clause-ok
returns-in-Ok-clause-ok c =
    c.in-Ok.ensures.ok tt (history_in c.self.inside) (is_told_of c.self.inside c.self.invariant)
    ∙ ap (λ (s : ListState). first_refusal s.params s.history c.args.rows.now) c.self.view_is
