-- How many page numbers additions to one tree give out.
use Rattle.std.specs.Prelude.{ℕ, zero, suc, ◌+◌, ◌-◌, ◌≤◌, ◌==◌, ◌&&◌, Bool, nat_le, nat_lt, if◌then◌else◌}
use Rattle.bw_types.specs.Depths.{added_pages}
use Rattle.bw_types.specs.declared.tree.Tree.{Tree}

-- the sum of f k over the numbers k below n
abbrev pub sum_below : ℕ → (ℕ → ℕ) → ℕ
sum_below zero f = 0
sum_below (suc n) f = sum_below n f + f n

-- The tree has at most one page, on which so many points more have room.
abbrev pub TakesMore : ℕ → Tree → Type 0
TakesMore n tree = (tree.levels ≤ 1) × (tree.count + n ≤ 64)

-- Behind so many additions the tree is one page at most, with room for a point more, over two or three dimensions.
abbrev pub stays_one_page : ℕ → Tree → ℕ → Bool
stays_one_page dims tree earlier = nat_le 2 dims && (nat_le tree.levels 1 && nat_lt (tree.count + earlier) 64)

-- the most page numbers that the addition to a tree behind so many others gives out: a first page, or none, while it stays one page,
-- and else what an addition may take at the count that the tree has then
abbrev pub step_growth : ℕ → Tree → ℕ → ℕ
step_growth dims tree earlier =
    if stays_one_page dims tree earlier then (if earlier == 0 then 1 - tree.levels else 0) else added_pages dims (tree.count + earlier)

-- those of so many additions together
abbrev pub tree_growth : ℕ → Tree → ℕ → ℕ
tree_growth dims tree n = sum_below n (step_growth dims tree)
