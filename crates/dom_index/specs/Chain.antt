-- A chain of pages of points, and the list of points that it keeps.
use Rattle.std.specs.Prelude.{◌≡◌, ℕ, zero, suc, ◌-◌, ◌^◌, ◌<◌, ◌≤◌, ◌≢◌, ◌⊎◌, ◌==◌, ◌&&◌, nat_lt, if◌then◌else◌, List, [], ◌∷◌, ◌++◌, length, Some, None, false, IsPermutation}
use Rattle.std.specs.List.{All}
use Rattle.std.specs.Option.{option_map_or}
use Rattle.bw_types.specs.declared.point.Point.{Point}
use Rattle.bw_types.specs.declared.tree.Tree.{Tree}
use Rattle.ports.specs.Pages.{PageMap, put_page}
use Rattle.page_layout.specs.Damage.{HoldsNoNode, IsDamagedBelow, NothingBeside}
use Rattle.page_layout.specs.Footprint.{NamesNoneTwice}
use Rattle.page_layout.specs.PointLeaf.{IsPointLeaf, IsTyped, point_leaf_page, point_leaf_in}
use Rattle.page_layout.specs.Spelled.{Spells}
use Rattle.page_layout.specs.declared.point_leaf.PointLeaf.{PointLeaf}
use Rattle.page_layout.specs.declared.spelled.Spelled.{Ghosts}

-- what pages spell as points
abbrev pub point_pages : Ghosts PointLeaf
point_pages = record { keeps = IsPointLeaf; is_typed = IsTyped; spelling = point_leaf_page; value_in = point_leaf_in }

-- a page without points
abbrev pub no_leaf : PointLeaf
no_leaf = record { next = 0; points = record { items = [] } }

-- the points that a page may spell; a page that is missing has none
abbrev pub leaf_on : PageMap → ℕ → PointLeaf
leaf_on pages page = option_map_or point_leaf_in (pages page) no_leaf

-- The chain from a page on: each page names the next one, and the last one 0. At most so many pages are looked at.
-- Its pages.
abbrev pub chain_pages : ℕ → PageMap → ℕ → List ℕ
chain_pages zero pages page = []
chain_pages (suc most) pages page = if page == 0 then [] else page ∷ chain_pages most pages (leaf_on pages page).next

-- Its points.
abbrev pub chain_points : ℕ → PageMap → ℕ → List Point
chain_points zero pages page = []
chain_points (suc most) pages page =
    if page == 0 then [] else (leaf_on pages page).points.items ++ chain_points most pages (leaf_on pages page).next

-- The page spells points.
abbrev pub LeafStands : PageMap → ℕ → Type 0
LeafStands pages page = Spells point_pages (leaf_on pages page) (point_leaf_page (leaf_on pages page)) × (pages page ≡ Some (point_leaf_page (leaf_on pages page)))

-- Each of its pages spells points, and it ends within so many of them.
abbrev pub ChainStands : ℕ → PageMap → ℕ → Type 0
ChainStands zero pages page = page ≡ 0
ChainStands (suc most) pages page =
    (page ≡ 0) ⊎ ((page ≢ 0) × LeafStands pages page × ChainStands most pages (leaf_on pages page).next)

-- the tree's pages; a chain has at most as many pages as points
abbrev pub list_pages : PageMap → ℕ → Tree → List ℕ
list_pages pages dims tree = chain_pages tree.count pages tree.root

-- The tree keeps the points in a chain of pages, which begins with its root. The dimensions do not count.
pub record ListStands (pages : PageMap) (dims : ℕ) (tree : Tree) (points : List Point) : Type 0 where
  pub count : tree.count ≡ length points
  pub few : length points ≤ 2 ^ 31
  pub levels : tree.levels ≡ (if tree.count == 0 then 0 else 1)
  pub changes : tree.changes ≡ 0
  pub last : tree.last ≡ 0
  pub chain : ChainStands tree.count pages tree.root
  pub once : NamesNoneTwice (list_pages pages dims tree)
  pub kept : IsPermutation (chain_points tree.count pages tree.root) points
  pub versions : All (λ p. p.version < 2 ^ 32 - 1) points

-- An addition puts a point into the first page, or makes a new first page where that is full.
abbrev pub list_growth : ℕ → ℕ → ℕ → ℕ
list_growth dims levels count = if levels == 1 && nat_lt count 64 then 0 else 1

-- A call that goes along the chain from a page on, over at most so many pages, comes to one that spells no points.
abbrev pub IsDamagedOn : PageMap → ℕ → ℕ → ℕ → Type 0
IsDamagedOn pages most page damaged =
    IsDamagedBelow {N = PointLeaf} {P = Unit {0}} (λ _ _ leaf bytes. Spells point_pages leaf bytes)
    (λ _ leaf next _. (next ≡ leaf.next) × (next ≢ 0)) NothingBeside pages most tt page damaged

-- The same from the tree's root on, where it has one.
abbrev pub IsDamagedAlong : PageMap → Tree → ℕ → Type 0
IsDamagedAlong pages tree damaged = (tree.root ≢ 0) × IsDamagedOn pages tree.count tree.root damaged

-- The page is missing, or spells no points.
abbrev pub HoldsNoLeaf : PageMap → ℕ → Type 0
HoldsNoLeaf pages page = HoldsNoNode {N = PointLeaf} {P = Unit {0}} (λ _ _ leaf bytes. Spells point_pages leaf bytes) pages 1 tt page

-- The first page spells no points, or the tree has 2^31 points.
abbrev pub IsDamagedFirst : PageMap → Tree → ℕ → Type 0
IsDamagedFirst pages tree damaged = (damaged ≡ tree.root) × (HoldsNoLeaf pages tree.root ⊎ (2 ^ 31 ≤ tree.count))

-- the page of these points and this next page
abbrev pub page_of : ℕ → List Point → List ℕ
page_of next points = point_leaf_page (record { next = next; points = record { items = points } })

-- The point was put last into the first page of the chain, or into a new page before it, and no other page changed.
abbrev pub IsPutFirst : PageMap → PageMap → ℕ → ℕ → Point → Type 0
IsPutFirst before after first root p =
    ((root ≡ first) × (first ≢ 0) × LeafStands before first × (length (leaf_on before first).points.items < 64)
    × (after ≡ put_page before first (page_of (leaf_on before first).next ((leaf_on before first).points.items ++ p ∷ []))))
    ⊎ ((before root ≡ None) × (root ≢ 0) × ((first ≡ 0) ⊎ (LeafStands before first × (64 ≤ length (leaf_on before first).points.items)))
    × (after root ≡ Some (page_of first (p ∷ []))) × ((page : ℕ) → (root == page) ≡ false → after page ≡ before page))
