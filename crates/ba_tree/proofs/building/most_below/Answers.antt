use Rattle.std.proofs.Common.{ap, arith, refl, suc, sym, ◌*◌, ◌∙◌, ℕ}
use Rattle.std.proofs.Math.Nat.{pow-suc}
use Rattle.ba_tree.proofs.building.most_below.Goals as goal

pub loop-most-init : goal.loop-most-init
loop-most-init c = record { rank = 0; power = refl; least = omega arith; below = c.requires.many }

pub loop-most-preserved : goal.loop-most-preserved
loop-most-preserved c =
    let inv = c.loop-most.invariant in
    let least = inv.least in
    record {
      rank = suc inv.rank;
      power = ap (λ (n : ℕ). n * 64) inv.power ∙ sym (pow-suc 64 (suc inv.rank));
      least = omega (arith, least);
      below = c.loop-most-test.true;
    }

pub returns-clause-power : goal.returns-clause-power
returns-clause-power c = let inv = c.loop-most.invariant in (inv.rank, inv.power)
