use Rattle.std.proofs.Common.{◌≡◌, ◌++◌, take}
use Rattle.cut_parts.proofs.parts.append.Given as goal

abbrev pub invariant-loop-node : goal.invariant-loop-node
invariant-loop-node l = l.nodes.items ≡ l.initial.nodes.items ++ take l.node-index l.more
