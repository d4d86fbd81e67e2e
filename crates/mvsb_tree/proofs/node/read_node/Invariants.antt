use Rattle.std.proofs.Common.{◌≡◌, take}
use Rattle.mvsb_tree.proofs.node.read_node.Given as goal

abbrev pub invariant-loop-index : goal.invariant-loop-index
invariant-loop-index l = record {
  entries : l.node.entries.items ≡ take l.index l.view.entries.items;
  level : l.node.level ≡ l.view.level;
  place : l.node.place ≡ l.view.place;
  before : l.node.before ≡ l.view.before;
}
