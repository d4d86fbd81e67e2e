use Rattle.std.proofs.Common.{ap, ◌∙◌}
use Rattle.page_layout.specs.Numbers.{number_in}
use Rattle.page_layout.specs.LifeView.{id_on}
use Rattle.page_layout.proofs.life_view.View+LifeNode.object_id.Goals as goal

pub returns : goal.returns
returns c = id_on _ _ c.self.view_is c.args.place c.requires _ (c.number_u64.ensures ∙ ap (number_in 8) c.after.ensures.value)
