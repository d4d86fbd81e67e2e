use Rattle.std.proofs.Common.{◌≡◌, take}
use Rattle.std.specs.List.{All}
use Rattle.arrayvec.specs.ArrayVec.{array_vec_len}
use Rattle.page_layout.specs.TreeValue.{IsTreeTyped}
use Rattle.page_space.proofs.copying.copied_trees.Given as goal

abbrev pub invariant-loop-tree : goal.invariant-loop-tree
invariant-loop-tree l = record {
  items : l.copies.items ≡ take l.tree-index l.trees;
  count : array_vec_len l.copies ≡ l.tree-index;
  typed : All IsTreeTyped l.copies.items;
}
