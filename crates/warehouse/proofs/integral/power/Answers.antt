use Rattle.std.proofs.Common.{rules, ℕ, ◌≡◌, ◌<◌, ◌≤◌, ◌^◌, arith, ap, nat_abs, ℤ, to_z, of_z, FitsSigned}
use Rattle.std.proofs.lemmas.Int.{to_z-of_z}
use Rattle.std.specs.Int.{int_pow, w128}
use Rattle.warehouse.proofs.Sizes.{abs-pow, power_small, fits_from_abs}
use Rattle.warehouse.proofs.integral.power.Goals as goal

same_base : (x y : ℤ) → y ≡ x → (n : ℕ) → nat_abs x < 2 ^ 32 → n ≤ 3 → nat_abs (int_pow y n) ≤ 2 ^ 96
same_base x y e n h small =
    let size = abs-pow y n in
    let at : nat_abs y ≡ nat_abs x = ap nat_abs e in
    let bound = power_small (nat_abs y) n (omega arith) small in
    omega arith

pub pow-requires : goal.pow-requires
pow-requires c =
    let e : to_z w128 (of_z w128 c.from.result) ≡ c.args.x = search rules in
    let bound = same_base c.args.x (to_z w128 (of_z w128 c.from.result)) e c.args.n c.requires.base c.requires.exponent in
    fits_from_abs (int_pow (to_z w128 (of_z w128 c.from.result)) c.args.n) (omega arith)

pub returns-clause-small : goal.returns-clause-small
returns-clause-small c =
    let e : to_z w128 (of_z w128 c.from.result) ≡ c.args.x = search rules in
    let bound = same_base c.args.x (to_z w128 (of_z w128 c.from.result)) e c.args.n c.requires.base c.requires.exponent in
    let f : FitsSigned w128 c.pow.result = search rules in
    let at : nat_abs c.pow.result ≡ nat_abs (int_pow (to_z w128 (of_z w128 c.from.result)) c.args.n) = ap nat_abs c.pow.ensures in
    simp to_z-of_z (omega arith)
