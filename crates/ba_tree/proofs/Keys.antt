-- Keys without a dimension stay below the end of regions.
use Rattle.std.proofs.Common.{◌≡◌, ℕ, suc, ◌-◌, ◌<◌, List, subst, arith}
use Rattle.bw_types.specs.Without.{keys_without}
use Rattle.dom_index.specs.Points.{AreKeysBelow}
use Rattle.cut_parts.proofs.BorderPoints.{still_below}

pub keys_stay_below : (d i : ℕ) (keys : List ℕ) → i < suc d → AreKeysBelow (suc d) keys → AreKeysBelow d (keys_without i keys)
keys_stay_below d i keys lt below =
    let less : suc d - 1 ≡ d = omega arith in
    subst (λ (n : ℕ). AreKeysBelow n (keys_without i keys)) less (still_below (suc d) i keys lt below)
