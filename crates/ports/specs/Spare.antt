-- The pages that a stage in memory can give out again.
use Rattle.std.specs.Prelude.{ℕ, ◌+◌, nat_le, nat_lt, ◌&&◌, not, Bool, true, false, List, [], ◌∷◌, length, Option, Some, None}
use Rattle.ports.specs.Frame.{names_page}
use Rattle.ports.specs.Kept.{map_of}

abbrev pub is_absent : Option (List ℕ) → Bool
is_absent None = true
is_absent (Some bytes) = false

-- whether the page has a place in the list and is not in the map
abbrev pub is_spare : List (Option (List ℕ)) → ℕ → Bool
is_spare kept page = nat_le 3 page && nat_lt page (3 + length kept) && is_absent (map_of kept page)

-- whether each page of the chain is spare, and none is named twice
abbrev pub are_spare : List (Option (List ℕ)) → List ℕ → Bool
are_spare kept [] = true
are_spare kept (page ∷ rest) = is_spare kept page && not (names_page rest page) && are_spare kept rest
