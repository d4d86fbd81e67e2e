use Rattle.std.proofs.Common.{arith}
use Rattle.page_layout.specs.LifeView.{object_len}
use Rattle.page_layout.proofs.life_view.View+LifeNode.object_count.Goals as goal

pub returns : goal.returns
returns c = omega (arith, c.min.ensures, c.from.ensures, c.read_count.ensures, object_len c.self.inside.page.now c.args.self.now c.self.view_is c.if-self-ne1.false)
