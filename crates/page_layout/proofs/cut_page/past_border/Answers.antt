use Rattle.page_layout.proofs.Parting.{past_short}
use Rattle.page_layout.proofs.cut_page.past_border.Goals as goal

pub returns-then-borders-lt28 : goal.returns-then-borders-lt28
returns-then-borders-lt28 c = past_short c.args.nodes.now c.args.borders.now c.if-nodes-eq-ENTRY.false c.if-borders-lt28.true
