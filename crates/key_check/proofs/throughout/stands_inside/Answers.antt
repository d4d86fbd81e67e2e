use Rattle.std.proofs.Common.{arith, ◌<◌, ◌≤◌}
use Rattle.key_check.proofs.throughout.stands_inside.Goals as goal

pub returns : goal.returns
returns c =
    let v = c.from.ensures in
    let from : c.args.piece.from ≤ c.args.version = omega arith in
    let to : c.args.version < c.args.piece.to = omega arith in
    (λ yes _ _. c.in_ok-stands_at.ensures.0 yes, λ all. c.in_ok-stands_at.ensures.1 (all from to))
