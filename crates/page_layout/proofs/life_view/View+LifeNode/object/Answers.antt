use Rattle.page_layout.specs.LifeView.{object_on}
use Rattle.page_layout.proofs.life_view.View+LifeNode.object.Goals as goal

pub returns : goal.returns
returns c = object_on c.self.inside.page.now _ c.self.view_is c.args.place c.requires _ c.entry_in.ensures
