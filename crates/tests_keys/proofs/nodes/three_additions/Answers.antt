use Rattle.std.proofs.Common.{lit<, lit≤}
use Rattle.tests_keys.proofs.nodes.three_additions.Goals as goal

pub add_at-requires-2-clause-changeable : goal.add_at-requires-2-clause-changeable
add_at-requires-2-clause-changeable g c = c.later_laws.ensures.changeable 1 2 c.add_at.new.node.entries.items (lit≤ tt) (lit< tt) c.add_at.ensures.changeable
