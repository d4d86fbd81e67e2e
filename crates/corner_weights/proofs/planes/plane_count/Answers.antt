-- A degree of at most 2 and at most 3 dimensions give at most 64 planes.
use Rattle.std.proofs.Common.{◌≤◌, ◌+◌, arith}
use Rattle.corner_weights.proofs.Bounds.{small_power}
use Rattle.corner_weights.proofs.planes.plane_count.Goals as goal

pub pow-requires : goal.pow-requires
pow-requires c =
    let degree : c.in-Some.degree ≤ 2 = rw c.in-Some.is at c.requires.degree in
    let bound = small_power (c.from.result + 2) c.from-in-Some.result (omega arith) (omega arith) in
    omega arith

pub returns-in-Some-clause-at_most : goal.returns-in-Some-clause-at_most
returns-in-Some-clause-at_most c =
    let degree : c.in-Some.degree ≤ 2 = rw c.in-Some.is at c.requires.degree in
    let bound = small_power (c.from.result + 2) c.from-in-Some.result (omega arith) (omega arith) in
    omega arith
