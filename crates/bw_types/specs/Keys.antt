-- The keys of points: a coordinate in the upper half, and in the lower one a number that sets points apart.
use Rattle.std.specs.Prelude.{◌≡◌, ℕ, ◌+◌, ◌-◌, ◌*◌, ◌^◌, ◌<◌, ◌≤◌, ◌↔◌}

-- the key of a point at a coordinate, with its number
abbrev pub point_key : ℕ → ℕ → ℕ
point_key coord number = coord * 2 ^ 32 + number

-- the greatest key that a point at a coordinate can have
abbrev pub query_key : ℕ → ℕ
query_key coord = coord * 2 ^ 32 + (2 ^ 32 - 1)

-- a point is at or below a query's coordinate exactly where its key is at or below the query's key
abbrev pub KeysKeepOrder : Type 0
KeysKeepOrder = (coord query number : ℕ) → number < 2 ^ 32 →
    (coord ≤ query) ↔ (point_key coord number ≤ query_key query)

-- keys are equal only where coordinates and numbers are
abbrev pub KeysSetApart : Type 0
KeysSetApart = (coord other number next : ℕ) → number < 2 ^ 32 → next < 2 ^ 32 →
    point_key coord number ≡ point_key other next → (coord ≡ other) × (number ≡ next)

-- keys of coordinates up to 4294967294 are below 2^64 - 2^32
abbrev pub KeysAreBelow : Type 0
KeysAreBelow = (coord number : ℕ) → coord ≤ 4294967294 → number < 2 ^ 32 → point_key coord number < 2 ^ 64 - 2 ^ 32

-- and so are the keys of queries there
abbrev pub QueryKeysAreBelow : Type 0
QueryKeysAreBelow = (coord : ℕ) → coord ≤ 4294967294 → query_key coord < 2 ^ 64 - 2 ^ 32
