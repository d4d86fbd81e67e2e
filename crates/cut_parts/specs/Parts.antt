-- Parts: what a tree of cuts over leaves of points means, whichever pages spell it.
--
-- Of pages a part keeps no more than their numbers: that of each leaf, and at a cut with which a page begins that of
-- this page. What a part means looks at no such number, so parts that differ in them alone mean the same.
use Rattle.std.specs.Prelude.{◌≡◌, ℕ, suc, ◌+◌, ◌-◌, ◌*◌, ◌%◌, ◌^◌, ◌<◌, ◌≤◌, List, ◌++◌, length, map, nat_lt, nat_le, if◌then◌else◌, max, slice_index, Option, Some, None}
use Rattle.std.specs.List.{All}
use Rattle.bw_types.specs.Without.{keys_without, without_dimension}
use Rattle.bw_types.specs.Dominance.{dominance_sum}
use Rattle.bw_types.specs.Empty.{empty_tree}
use Rattle.bw_types.specs.declared.point.Point.{Point}
use Rattle.bw_types.specs.declared.tree.Tree.{Tree}

-- A part is a leaf of points, or is cut at a key of a dimension into a low and a high side. A cut keeps the number of
-- points of its low side, and a border. `home` is the page that begins with the cut, where one does.
pub data Part : Type 0 where
  Leaf : (page : ℕ) (points : List Point) → Part
  Split : (home : Option ℕ) (dimension key low : ℕ) (border : Tree) (low_side high_side : Part) → Part

-- the points of the leaves, those of the low side first
abbrev pub points_of : Part → List Point
points_of (Leaf page points) = points
points_of (Split home dimension key low border low_side high_side) = points_of low_side ++ points_of high_side

-- the number of points
abbrev pub size_of : Part → ℕ
size_of part = length (points_of part)

-- The shape of a part of n points: a leaf has at most 64, and at least one; a part of more is a cut. A cut keeps the number of its low side's points; each
-- side has a point, and five times the points of a side are at most three times those of the part.
pub record IsBalancedCut (n low : ℕ) : Type 0 where
  pub many : 64 < n
  pub some_low : 1 ≤ low
  pub some_high : low < n
  pub low_share : 5 * low ≤ 3 * n
  pub high_share : 5 * (n - low) ≤ 3 * n

abbrev pub HasShape : ℕ → Part → Type 0
HasShape n (Leaf page points) = (n ≡ length points) × (1 ≤ n) × (n ≤ 64)
HasShape n (Split home dimension key low border low_side high_side) =
    IsBalancedCut n low × HasShape low low_side × HasShape (n - low) high_side

-- the points of a cut's low side without its dimension, of which its border tells
abbrev pub border_points : ℕ → List Point → List Point
border_points dimension points = map (without_dimension dimension) points

-- Each cut is in one of so many dimensions, and parts the points: a point of the low side has a key below the cut's, and
-- one of the high side has not.
abbrev pub IsParted : ℕ → Part → Type 0
IsParted dims (Leaf page points) = All (λ p. length p.keys ≡ 3) points
IsParted dims (Split home dimension key low border low_side high_side) =
    (dimension < dims)
    × All (λ p. slice_index p.keys dimension < key) (points_of low_side)
    × All (λ p. key ≤ slice_index p.keys dimension) (points_of high_side)
    × IsParted dims low_side × IsParted dims high_side

module _ (stands : Tree → List Point → Type 0) where
  -- Each border stands for the points of its low side, without the dimension; it is empty where that side is a leaf.
  abbrev pub BordersStand : Part → Type 0
  BordersStand (Leaf page points) = Unit {0}
  BordersStand (Split home dimension key low border low_side high_side) =
      (low ≤ 64 → border ≡ empty_tree)
      × (64 < low → stands border (border_points dimension (points_of low_side)))
      × BordersStand low_side × BordersStand high_side

module _ (dims : ℕ) (border_value : Tree → List ℕ → ℕ → ℕ) where
  -- The value of each border that is not empty is the dominance sum of its points, over one dimension less.
  abbrev pub BordersTell : Part → Type 0
  BordersTell (Leaf page points) = Unit {0}
  BordersTell (Split home dimension key low border low_side high_side) =
      (64 < low → (keys : List ℕ) (version : ℕ)
      → border_value border keys version ≡ dominance_sum (dims - 1) (border_points dimension (points_of low_side)) keys version)
      × BordersTell low_side × BordersTell high_side

  -- the value of a part at keys and a version: at a cut that of the low side where the key of its dimension is below the
  -- cut's; else that of the high side and that of the border, or, where the low side is a leaf, of this leaf
  abbrev pub value_of : Part → List ℕ → ℕ → ℕ
  value_of (Leaf page points) keys version = dominance_sum dims points keys version
  value_of (Split home dimension key low border low_side high_side) keys version =
      if nat_lt (slice_index keys dimension) key
      then value_of low_side keys version
      else ((if nat_le low 64 then value_of low_side keys version else border_value border (keys_without dimension keys) version)
      + value_of high_side keys version) % 2 ^ 128

-- the most cuts on a path
abbrev pub cuts_on_path : Part → ℕ
cuts_on_path (Leaf page points) = 0
cuts_on_path (Split home dimension key low border low_side high_side) = suc (max (cuts_on_path low_side) (cuts_on_path high_side))

-- how many pages begin with the cut: one where it has a home
abbrev pub own_page : Option ℕ → ℕ
own_page (Some page) = 1
own_page None = 0

module _ (border_gets : Tree → List ℕ → ℕ) where
  -- the pages that the value of a part at keys is read from
  abbrev pub gets_of : Part → List ℕ → ℕ
  gets_of (Leaf page points) keys = 1
  gets_of (Split home dimension key low border low_side high_side) keys =
      own_page home
      + (if nat_lt (slice_index keys dimension) key
      then gets_of low_side keys
      else (if nat_le low 64 then 1 else border_gets border (keys_without dimension keys)) + gets_of high_side keys)

  -- The value of each border that is not empty is read from at most as many pages as its number of points costs.
  abbrev pub BordersCost : (ℕ → ℕ) → Part → Type 0
  BordersCost cost (Leaf page points) = Unit {0}
  BordersCost cost (Split home dimension key low border low_side high_side) =
      (64 < low → (keys : List ℕ) → border_gets border keys ≤ cost low) × BordersCost cost low_side × BordersCost cost high_side
