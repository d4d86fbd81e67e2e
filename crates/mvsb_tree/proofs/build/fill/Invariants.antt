use Rattle.std.proofs.Common.{◌≡◌, ℕ, ◌<◌, ◌≤◌, slice_index_or, length, take}
use Rattle.bw_types.specs.declared.point.Point.{Point}
use Rattle.page_layout.specs.MvNode.{IsMvNode, IsTyped}
use Rattle.mv_pages.specs.Alive.{IsChangeable}
use Rattle.mvsb_tree.specs.Built.{TakesPoints}
use Rattle.mvsb_tree.proofs.build.fill.Given as goal

abbrev pub invariant-loop-index : goal.invariant-loop-index
invariant-loop-index l = record {
  level : l.leaf.level ≡ 1;
  rules : IsMvNode l.leaf;
  typed : IsTyped l.leaf;
  -- the leaf may be changed at the version of each point to come
  changeable : (k : ℕ) (d : Point) → l.index ≤ k → k < length l.points → IsChangeable (slice_index_or l.points k d).version l.leaf.entries.items;
  takes : TakesPoints (take 1 l.points) (take l.index l.points) l.index l.fn.leaf l.leaf;
}
