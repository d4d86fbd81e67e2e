use Rattle.std.proofs.Common.{◌≡◌, take}
use Rattle.arrayvec.specs.ArrayVec.{array_vec_len}
use Rattle.span_planes.proofs.opening.copied.Given as goal

abbrev pub invariant-loop-root : goal.invariant-loop-root
invariant-loop-root l = record {
  items : l.copies.items ≡ take l.root-index l.trees;
  count : array_vec_len l.copies ≡ l.root-index;
}
