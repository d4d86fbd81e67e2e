-- The elements of a grid by their indexes in each dimension, and by their numbers where that of the last dimension runs fastest.
use Rattle.std.specs.Prelude.{ℕ, zero, suc, ◌+◌, ◌*◌, ◌/◌, ◌%◌, List, [], ◌∷◌, ◌++◌}

-- the indexes of element number k, where dimension i has n i of them
abbrev pub indexes_of : ℕ → (ℕ → ℕ) → ℕ → List ℕ
indexes_of zero n k = []
indexes_of (suc dims) n k = indexes_of dims n (k / n dims) ++ (k % n dims) ∷ []

-- the number of the element with these indexes
abbrev pub number_of : ℕ → (ℕ → ℕ) → (ℕ → ℕ) → ℕ
number_of zero n index = 0
number_of (suc dims) n index = number_of dims n index * n dims + index dims
