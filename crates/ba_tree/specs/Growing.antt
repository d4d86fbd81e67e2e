-- How many page numbers an addition to a part gives out.
use Rattle.std.specs.Prelude.{ℕ, ◌+◌, ◌*◌, ◌==◌, nat_le, nat_lt, if◌then◌else◌}
use Rattle.bw_types.specs.Depths.{growth_above}
use Rattle.cut_parts.specs.declared.border_tree.BorderTree.{Ghosts}

-- the most of the border of a cut with so many points low: none for as long as that side is a leaf; those of a border built of 65
-- points where it begins; and those of an addition to it
abbrev pub border_growth : {B : Type 0} → Ghosts B → ℕ → ℕ
border_growth g low = if nat_lt low 64 then 0 else (if low == 64 then 65 * g.share 65 else g.growth low)

-- the most of a part of n points that is inside a page
abbrev pub inner_growth : {B : Type 0} → Ghosts B → ℕ → ℕ
inner_growth g n = growth_above g.growth g.share n

-- the most of a part of n points that begins with a page: none for as long as it is a leaf with room; a leaf of 64 is split, and so
-- may a page of cuts be
abbrev pub page_growth : {B : Type 0} → Ghosts B → ℕ → ℕ
page_growth g n = if nat_lt n 64 then 0 else (if nat_le n 64 then 1 else 1 + inner_growth g n)

-- the most of a part of n points that is all of a tree: a leaf with room keeps its page, and any other may get a new root page
abbrev pub root_growth : {B : Type 0} → Ghosts B → ℕ → ℕ
root_growth g n = if nat_lt n 64 then 0 else page_growth g n + 1
