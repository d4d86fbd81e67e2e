use Rattle.std.proofs.Common.{◌+◌, ◌*◌, arith}
use Rattle.page_layout.specs.CutView.{border_on, border_room}
use Rattle.page_layout.proofs.cut_view.View+CutPage.border.Goals as goal

pub returns : goal.returns
returns c =
    border_on c.self.inside.page.now _ c.args.place c.args.before (16 + c.saturating_sub-nodes.result * 16 + c.args.before * 28) _ c.self.view_is c.requires.place c.requires.before
    (omega (arith, c.saturating_sub-nodes.ensures, c.count_in.ensures.value)) c.border_in.ensures

pub border_in-requires : goal.border_in-requires
border_in-requires c =
    border_room c.self.inside.page.now _ c.args.place c.args.before c.saturating_sub-nodes.result c.self.view_is c.keeps_rules.ensures c.requires.before
    (omega (arith, c.saturating_sub-nodes.ensures, c.count_in.ensures.value))
