use Rattle.std.proofs.Common.{◌≡◌, ℕ, nat_le, take, false}
use Rattle.std.specs.Option.{option_map_or}
use Rattle.mvsb_tree.specs.Stands.{has_begun}
use Rattle.key_check.proofs.rooted.first_version.Given as goal

abbrev pub invariant-loop-point : goal.invariant-loop-point
invariant-loop-point l = (version : ℕ) → has_begun (take l.point-index l.points) version ≡ option_map_or (λ first. nat_le first version) l.first false
