use Rattle.std.proofs.Common.{ap, ◌∙◌}
use Rattle.page_layout.specs.Numbers.{number_in}
use Rattle.page_layout.specs.LifeView.{life_on}
use Rattle.page_layout.proofs.life_view.View+LifeNode.object_life.Goals as goal

pub returns : goal.returns
returns c = life_on _ _ c.self.view_is c.args.place c.requires _ (c.number_u32.ensures ∙ ap (number_in 4) c.after.ensures.value)
