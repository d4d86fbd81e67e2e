-- The powers and the weights of a batch.
use Rattle.std.specs.Prelude.{ℕ, ◌^◌, ◌<◌, ◌≤◌, IsSome, List, get_or, nat_abs}
use Rattle.std.specs.List.{All}
use Rattle.bw_types.specs.declared.params.Params.{Params}
use Rattle.corner_weights.specs.Powers.{ArePowersOf}
use Rattle.corner_weights.specs.declared.powers.BoxPowers.{BoxPowers}
use Rattle.corner_forest.specs.declared.entry.Entry.{Entry}

-- Where there is a degree, each of the first n powers are those of the box of the entry at the same place.
abbrev pub ArePowersOfFirst : Params → List Entry → ℕ → List BoxPowers → Type 0
ArePowersOfFirst params batch n powers =
    (i : ℕ) (e : Entry) (p : BoxPowers) → i < n → IsSome params.degree → ArePowersOf params (get_or batch i e).object (get_or powers i p)

-- the weights of the batch's objects have 64 bits
abbrev pub HaveSmallWeights : List Entry → Type 0
HaveSmallWeights batch = All (λ e. nat_abs e.object.weight ≤ 2 ^ 63) batch
