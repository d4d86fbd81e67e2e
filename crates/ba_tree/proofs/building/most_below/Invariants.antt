use Rattle.std.proofs.Common.{◌-◌, ◌<◌, ◌^◌, ◌≡◌, ◌≤◌, ℕ, suc}
use Rattle.ba_tree.proofs.building.most_below.Given as goal

-- Most is a power of 64, and below the count.
pub record IsPowerBelow (most count : ℕ) : Type 0 where
  pub rank : ℕ
  pub power : most ≡ 64 ^ suc rank
  pub least : 64 ≤ most
  pub below : most < count

abbrev pub invariant-loop-most : goal.invariant-loop-most
invariant-loop-most l = IsPowerBelow l.most l.count

abbrev pub decreases-loop-most : goal.decreases-loop-most
decreases-loop-most l = l.count - l.most
