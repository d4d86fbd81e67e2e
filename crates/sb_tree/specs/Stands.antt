-- When a tree over versions stands for a list of points, and when it is balanced.
use Rattle.std.specs.Prelude.{◌≡◌, ℕ, zero, suc, ◌<◌, ◌≤◌, ◌^◌, ◌==◌, ◌||◌, Bool, IsTrue, List, [], ◌∷◌, length, Some}
use Rattle.std.specs.List.{All, list_any}
use Rattle.bw_types.specs.Dominance.{dominance_sum}
use Rattle.bw_types.specs.Digits.{digit_count}
use Rattle.bw_types.specs.declared.point.Point.{Point}
use Rattle.bw_types.specs.declared.tree.Tree.{Tree}
use Rattle.ports.specs.Pages.{PageMap}
use Rattle.page_layout.specs.Footprint.{NamesNoneTwice}
use Rattle.page_layout.specs.SbNode.{IsSbNode, IsTyped, sb_node_page}
use Rattle.page_layout.specs.declared.sb_node.SbEntry.{SbEntry}
use Rattle.sb_tree.specs.Steps.{node_on, entries_on, tree_value, tree_pages, lows_below}

-- where the first of the entries begins, or `high` where there is none
abbrev pub first_low : List SbEntry → ℕ → ℕ
first_low [] high = high
first_low (e ∷ entries) high = e.low

-- The page spells a node of this level with at least so many entries, which begin with `low` and all
-- below `high`.
pub record NodeStands (pages : PageMap) (level page low high least : ℕ) : Type 0 where
  pub spelled : pages page ≡ Some (sb_node_page (node_on pages page))
  pub rules : IsSbNode (node_on pages page)
  pub typed : IsTyped (node_on pages page)
  pub at_level : (node_on pages page).level ≡ level
  pub begins : first_low (entries_on pages page) high ≡ low
  pub ends : All (λ e. e.low < high) (entries_on pages page)
  pub filled : least ≤ length (entries_on pages page)

-- Each entry's child stands between the entry's low and the next one's.
abbrev pub EachStands : (ℕ → ℕ → ℕ → Type 0) → List SbEntry → ℕ → Type 0
EachStands stands [] high = Unit {0}
EachStands stands (e ∷ entries) high = stands e.child e.low (first_low entries high) × EachStands stands entries high

-- The page and those below it stand for the versions from `low` to before `high`. Below it each node
-- has at least 32 entries.
abbrev pub StandsBelow : ℕ → PageMap → ℕ → ℕ → ℕ → ℕ → Type 0
StandsBelow zero pages page low high least = ⊥
StandsBelow (suc zero) pages page low high least = NodeStands pages 1 page low high least
StandsBelow (suc (suc level)) pages page low high least =
    NodeStands pages (suc (suc level)) page low high least
    × EachStands (λ child from to. StandsBelow (suc level) pages child from to 32) (entries_on pages page) high

-- Where there are levels, the nodes stand for all versions; where there are none, no page is named.
abbrev pub RootStands : ℕ → PageMap → ℕ → Type 0
RootStands zero pages root = root ≡ 0
RootStands (suc level) pages root = StandsBelow (suc level) pages root 0 (2 ^ 32) 1

-- the version is 0 or that of a point
abbrev pub is_marked : List Point → ℕ → Bool
is_marked points version = version == 0 || list_any (λ p. p.version == version) points

-- The tree stands for the points: at each version its value is the sum of the weights of those at or
-- below it. Their keys do not count, nor their order.
pub record SbStands (pages : PageMap) (tree : Tree) (points : List Point) : Type 0 where
  pub count : tree.count ≡ length points
  pub few : length points ≤ 2 ^ 31
  pub some : tree.levels ≡ 0 → points ≡ []
  pub changes : tree.changes ≡ 0
  pub last : tree.last ≡ 0
  pub nodes : RootStands tree.levels pages tree.root
  pub once : NamesNoneTwice (tree_pages pages tree)
  -- each low in a leaf is 0 or the version of a point
  pub lows : All (λ low. IsTrue (is_marked points low)) (lows_below tree.levels pages tree.root)
  pub values : (version : ℕ) → version < 2 ^ 32 → tree_value pages tree version ≡ dominance_sum 0 points [] version

-- A tree without points. It has no pages.
abbrev pub IsEmptyTree : Tree → Type 0
IsEmptyTree tree = (tree.root ≡ 0) × (tree.levels ≡ 0) × (tree.count ≡ 0) × (tree.changes ≡ 0) × (tree.last ≡ 0)

-- The tree has no more levels than its count has digits in base 32.
abbrev pub IsBalanced : Tree → Type 0
IsBalanced tree = tree.levels ≤ digit_count 32 tree.count
