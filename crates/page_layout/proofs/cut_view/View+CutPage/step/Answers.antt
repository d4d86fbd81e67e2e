use Rattle.std.proofs.Common.{length, ◌*◌, sym, ap, ◌∙◌, arith}
use Rattle.std.proofs.lemmas.List.{drop-drop}
use Rattle.page_layout.specs.CutView.{length-its_nodes, step_at, step_on}
use Rattle.page_layout.specs.declared.cut_page.CutPage.{CutPage}
use Rattle.page_layout.proofs.cut_view.View+CutPage.step.Goals as goal

pub returns : goal.returns
returns c =
    step_on c.self.inside.page.now _ c.args.place _ c.self.view_is c.requires
    (c.step_in.ensures ∙ ap step_at (sym (drop-drop (c.args.place * 16) 16 c.self.inside.page.now)))

pub step_in-requires : goal.step_in-requires
step_in-requires c = omega (arith, c.requires, ap (λ (p : CutPage). length p.nodes.items) c.self.view_is, length-its_nodes, c.count_in-most.ensures.value, c.count_in-most.ensures.few)
