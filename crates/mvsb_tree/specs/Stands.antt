-- When a multiversion tree stands for a list of points, and when it is balanced.
use Rattle.std.specs.Prelude.{◌≡◌, ◌≢◌, ℕ, zero, suc, ◌⊎◌, ◌<◌, ◌≤◌, ◌^◌, ◌==◌, ◌||◌, ◌&&◌, nat_lt, nat_le, Bool, true, IsTrue, List, [], ◌∷◌, length, slice_index, Option, Some, None}
use Rattle.std.specs.List.{All, list_any}
use Rattle.std.specs.Option.{option_map_or}
use Rattle.bw_types.specs.Dominance.{dominance_sum}
use Rattle.bw_types.specs.Digits.{digit_count}
use Rattle.bw_types.specs.declared.point.Point.{Point}
use Rattle.bw_types.specs.declared.tree.Tree.{Tree}
use Rattle.ports.specs.Pages.{PageMap}
use Rattle.ports.specs.Frame.{names_page}
use Rattle.page_layout.specs.Footprint.{NamesNoneTwice}
use Rattle.page_layout.specs.MvNode.{IsMvNode, IsTyped, mv_node_page}
use Rattle.page_layout.specs.declared.mv_node.MvNode.{MvNode}
use Rattle.page_layout.specs.declared.mv_node.MvEntry.{MvEntry}
use Rattle.mv_pages.specs.Alive.{child_of, or_later}
use Rattle.mv_pages.specs.Lows.{alive_lows, ascend, low_above, low_at}
use Rattle.sb_tree.specs.Stands as over_versions
use Rattle.mvsb_tree.specs.Steps.{node_on, entries_on, directory, node_pages, place_count, root_at, root_level, tree_pages, tree_value}

-- the first of the lows, if any
abbrev pub first_of : List ℕ → Option ℕ
first_of [] = None
first_of (low ∷ lows) = Some low

-- the low is below where an interval ends, or the interval has no end
abbrev pub ends_after : Option ℕ → ℕ → Bool
ends_after None low = true
ends_after (Some high) low = nat_lt low high

-- where the interval of the lows begins that has the key, or `low` where there is none
abbrev pub inner_low : ℕ → List ℕ → ℕ → ℕ
inner_low low lows key = option_map_or (λ l. l) (low_at lows key) low

-- where that interval ends, or `high` where it is the last one
abbrev pub inner_high : Option ℕ → List ℕ → ℕ → Option ℕ
inner_high high lows key = or_later high (low_above lows key)

-- The page is one of the nodes' and spells a node of this level. At the version its alive lows ascend, begin
-- with `low`, lie before `high`, and are at least so many.
pub record NodeStands (pages : PageMap) (nodes : List ℕ) (level page version low : ℕ) (high : Option ℕ) (least : ℕ) : Type 0 where
  pub listed : names_page nodes page ≡ true
  pub spelled : pages page ≡ Some (mv_node_page (node_on pages page))
  pub rules : IsMvNode (node_on pages page)
  pub typed : IsTyped (node_on pages page)
  pub at_level : (node_on pages page).level ≡ level
  pub differ : IsTrue (ascend (alive_lows (entries_on pages page) version))
  pub begins : first_of (alive_lows (entries_on pages page) version) ≡ Some low
  pub ends : All (λ l. IsTrue (ends_after high l)) (alive_lows (entries_on pages page) version)
  pub filled : least ≤ length (alive_lows (entries_on pages page) version)

-- The nodes on the way of a key at a version stand, each for the interval of keys by which it is reached.
-- Below the first one each has at least 24 alive entries.
abbrev pub StandsOnWay : ℕ → PageMap → List ℕ → ℕ → ℕ → ℕ → ℕ → Option ℕ → ℕ → Type 0
StandsOnWay zero pages nodes page version key low high least = ⊥
StandsOnWay (suc zero) pages nodes page version key low high least = NodeStands pages nodes 1 page version low high least
StandsOnWay (suc (suc level)) pages nodes page version key low high least =
    NodeStands pages nodes (suc (suc level)) page version low high least
    × (child : ℕ) × (child_of (node_on pages page) key version ≡ Some child)
    × StandsOnWay (suc level) pages nodes child version key
    (inner_low low (alive_lows (entries_on pages page) version) key)
    (inner_high high (alive_lows (entries_on pages page) version) key) 24

-- There is no root, or the nodes stand on the way of the key from the root down, which stands for all keys.
abbrev pub RootStands : PageMap → List ℕ → ℕ → ℕ → ℕ → Type 0
RootStands pages nodes root version key =
    (root ≡ 0) ⊎ ((root < 2 ^ 64) × StandsOnWay (root_level pages root) pages nodes root version key 0 None 1)

-- Each page of the chain spells a node of its place, and the first place has none before it.
abbrev pub ChainStands : ℕ → PageMap → ℕ → Type 0
ChainStands zero pages page = page ≡ 0
ChainStands (suc places) pages page =
    (pages page ≡ Some (mv_node_page (node_on pages page))) × IsMvNode (node_on pages page) × IsTyped (node_on pages page)
    × ((node_on pages page).place ≡ suc places) × ChainStands places pages (node_on pages page).before

-- the key of a point
abbrev pub key_of : Point → ℕ
key_of p = slice_index p.keys 0

-- the key is 0 or that of a point
abbrev pub is_marked : List Point → ℕ → Bool
is_marked points key = key == 0 || list_any (λ p. key_of p == key) points

-- a point was added at or after the version
abbrev pub has_come : List Point → ℕ → Bool
has_come points version = list_any (λ p. nat_le version p.version) points

-- there is a point at or before the version
abbrev pub has_begun : List Point → ℕ → Bool
has_begun points version = list_any (λ p. nat_le p.version version) points

-- the entry starts at or before the last point's version, and if it is closed, it ends there or before
abbrev pub is_past : List Point → MvEntry → Bool
is_past points e = has_come points e.start && (e.end == 4294967295 || has_come points e.end)

-- What holds of each entry of a node, alive or closed.
pub record EntriesKeep (points : List Point) (node : MvNode) : Type 0 where
  pub past : All (λ e. IsTrue (is_past points e)) node.entries.items
  -- each low in a leaf is 0 or the key of a point
  pub lows : node.level ≡ 1 → All (λ e. IsTrue (is_marked points e.low)) node.entries.items

-- The tree stands for the points: at each key and version its value is the sum of the weights of those at or
-- below both. Their order does not count, nor do their keys past the first.
pub record MvStands (pages : PageMap) (tree : Tree) (points : List Point) : Type 0 where
  pub count : tree.count ≡ length points
  pub few : length points ≤ 2 ^ 31
  pub some : tree.levels ≡ 0 → points ≡ []
  pub versions : All (λ p. p.version < 4294967295) points
  -- the directory stands for as many changes of the root as the tree tells, none after the last point
  pub changes : List Point
  pub roots : over_versions.SbStands pages (directory tree) changes
  pub changes_past : All (λ c. IsTrue (has_come points c.version)) changes
  -- there is a root from the first point on
  pub rooted : (version : ℕ) → version < 2 ^ 32 → IsTrue (has_begun points version) → root_at pages tree version ≢ 0
  -- where there are levels there is a node
  pub noded : tree.levels ≢ 0 → 1 ≤ place_count pages tree
  pub chain : ChainStands (place_count pages tree) pages tree.last
  pub once : NamesNoneTwice (tree_pages pages tree)
  pub nodes : (key version : ℕ) → key < 2 ^ 64 → version < 2 ^ 32 → RootStands pages (node_pages pages tree) (root_at pages tree version) version key
  pub entries : (page : ℕ) → names_page (node_pages pages tree) page ≡ true → EntriesKeep points (node_on pages page)
  pub values : (key version : ℕ) → key < 2 ^ 64 → version < 2 ^ 32 → tree_value pages tree key version ≡ dominance_sum 1 points (key ∷ []) version

-- A tree without points. It has no pages.
abbrev pub IsEmptyTree : Tree → Type 0
IsEmptyTree tree = (tree.root ≡ 0) × (tree.levels ≡ 0) × (tree.count ≡ 0) × (tree.changes ≡ 0) × (tree.last ≡ 0)

-- There are no more changes of the root than points, the directory is balanced, and no root has more levels
-- than the count has digits in base 24.
pub record IsBalanced (pages : PageMap) (tree : Tree) : Type 0 where
  pub changes : tree.changes ≤ tree.count
  pub directory : over_versions.IsBalanced (directory tree)
  pub roots : (version : ℕ) → version < 2 ^ 32 → root_level pages (root_at pages tree version) ≤ digit_count 24 tree.count
