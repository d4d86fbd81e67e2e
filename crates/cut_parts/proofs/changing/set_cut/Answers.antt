use Rattle.std.proofs.Common.{sym, subst}
use Rattle.cut_parts.specs.Nodes.{AreNodes}
use Rattle.cut_parts.proofs.Changes.{set_cut}
use Rattle.cut_parts.proofs.changing.set_cut.Goals as goal

pub returns-clause-nodes : goal.returns-clause-nodes
returns-clause-nodes c = λ are was is fits typed.
    subst AreNodes (sym c.set_node.ensures) (set_cut c.args.page.now.nodes.items c.args.place c.args.cut c.requires are was is fits typed)
