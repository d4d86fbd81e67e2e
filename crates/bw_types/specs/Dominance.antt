-- How much weight the points have that count at some keys and a version.
use Rattle.std.specs.Prelude.{ℕ, ◌^◌, ◌%◌, Bool, true, ◌&&◌, nat_le, if◌then◌else◌, List, [], ◌∷◌, take}
use Rattle.std.specs.List.{sum_by}
use Rattle.bw_types.specs.declared.point.Point.{Point}

-- each key of the first list is at most the one beside it; keys past the other list's end are not looked at
abbrev pub keys_at_most : List ℕ → List ℕ → Bool
keys_at_most [] bounds = true
keys_at_most (key ∷ keys) [] = true
keys_at_most (key ∷ keys) (bound ∷ bounds) = nat_le key bound && keys_at_most keys bounds

-- the point counts there: its version is at most the one given, and each of its first keys too
abbrev pub is_dominated : ℕ → List ℕ → ℕ → Point → Bool
is_dominated dims keys version p = nat_le p.version version && keys_at_most (take dims p.keys) (take dims keys)

-- the total of the weights of the points that count there, without a bound
abbrev pub dominated_weight : ℕ → List Point → List ℕ → ℕ → ℕ
dominated_weight dims points keys version = sum_by (λ p. if is_dominated dims keys version p then p.weight else 0) points

-- the dominance sum: that total modulo 2^128
abbrev pub dominance_sum : ℕ → List Point → List ℕ → ℕ → ℕ
dominance_sum dims points keys version = dominated_weight dims points keys version % 2 ^ 128
