use Rattle.std.proofs.Common.{arith}
use Rattle.page_layout.specs.LifeView.{entry_len}
use Rattle.page_layout.proofs.life_view.View+LifeNode.entry_count.Goals as goal

pub returns : goal.returns
returns c = omega (arith, c.min.ensures, c.from.ensures, c.read_count.ensures, entry_len c.self.inside.page.now c.args.self.now c.self.view_is c.if-self-eq1.false)
