use Rattle.std.proofs.Common.{sym, subst}
use Rattle.object_table.specs.declared.form.Form.{Form}
use Rattle.object_table.specs.Nodes.{FitsLevel}
use Rattle.page_layout.specs.LifeNode.{life_node_page}
use Rattle.page_layout.specs.TableNode.{table_node_page}
use Rattle.image_check.proofs.node.read_node.Goals as goal

pub returns-in_ok-node-in-ByLives-clause-fits : goal.returns-in_ok-node-in-ByLives-clause-fits
returns-in_ok-node-in-ByLives-clause-fits g c = (
  life_node_page c.in_ok-node-in-ByLives.node,
  subst (λ (f : Form). FitsLevel f c.args.level c.in_ok-node-in-ByLives.node (life_node_page c.in_ok-node-in-ByLives.node)) (sym c.in-ByLives.is) c.in_ok-node-in-ByLives.ensures.fits,
  c.in_ok-node-in-ByLives.ensures.found,
)

pub returns-in_ok-node-in-ByIds-clause-fits : goal.returns-in_ok-node-in-ByIds-clause-fits
returns-in_ok-node-in-ByIds-clause-fits g c = (
  table_node_page c.in_ok-node-in-ByIds.node,
  subst (λ (f : Form). FitsLevel f c.args.level c.as_life_node.result (table_node_page c.in_ok-node-in-ByIds.node)) (sym c.in-ByIds.is) (c.in_ok-node-in-ByIds.node, c.in_ok-node-in-ByIds.ensures.fits, c.as_life_node.ensures),
  c.in_ok-node-in-ByIds.ensures.found,
)
