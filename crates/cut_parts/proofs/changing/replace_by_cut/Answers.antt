use Rattle.std.proofs.Common.{◌≡◌, List, sym, ap, ◌∙◌, subst, slice_set, insert}
use Rattle.page_layout.specs.declared.cut_page.CutNode.{CutNode}
use Rattle.page_layout.specs.declared.cut_page.CutNode.TheVariants.{Entry}
use Rattle.cut_parts.specs.Nodes.{AreNodes}
use Rattle.cut_parts.proofs.Changes.{replace_by_cut}
use Rattle.cut_parts.proofs.changing.replace_by_cut.Goals as goal

pub returns-clause-nodes : goal.returns-clause-nodes
returns-clause-nodes c = λ are was is fits typed low high.
    let place = c.args.place in
    let done : c.insert-2.new.self.items ≡ insert (insert (slice_set c.args.page.now.nodes.items place (Entry c.args.high)) place (Entry c.args.low)) place c.args.cut =
    c.insert-2.ensures.items
    ∙ ap (λ (ns : List CutNode). insert ns place c.args.cut) (c.insert.ensures.items ∙ ap (λ (ns : List CutNode). insert ns place (Entry c.args.low)) c.set_node.ensures) in
    subst AreNodes (sym done)
    (replace_by_cut c.args.page.now.nodes.items place c.args.cut c.args.low c.args.high c.requires.place are was is fits typed low high c.ranges.low.fits c.ranges.high.fits)
