use Rattle.std.proofs.Common.{lit<, lit≤}
use Rattle.tests_keys.proofs.nodes.a_leaf_is_copied.Goals as goal

pub close_and_copy-requires-clause-changeable : goal.close_and_copy-requires-clause-changeable
close_and_copy-requires-clause-changeable g c = c.later_laws.ensures.changeable 1 2 c.leaf_of_49-leaf.result.entries.items (lit≤ tt) (lit< tt) c.leaf_of_49-leaf.ensures.changeable
