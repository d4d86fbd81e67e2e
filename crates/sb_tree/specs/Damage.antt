-- What a call on a tree over versions may find damaged.
use Rattle.std.specs.Prelude.{◌≡◌, ℕ, zero, suc, ◌⊎◌, ◌<◌, ◌≤◌, ◌^◌, false, nat_le, ◌==◌, List, [], ◌∷◌, if◌then◌else◌, length, map, Contains}
use Rattle.std.specs.List.{All, list_any}
use Rattle.bw_types.specs.declared.tree.Tree.{Tree}
use Rattle.ports.specs.Pages.{PageMap}
use Rattle.page_layout.specs.Damage.{IsDamagedBelow, NothingBeside}
use Rattle.page_layout.specs.Footprint.{IsNamedTwice}
use Rattle.page_layout.specs.Spelled.{SpellsNone}
use Rattle.page_layout.specs.TreePage as tree_page
use Rattle.page_layout.specs.declared.spelled.Spelled.{Ghosts}
use Rattle.page_layout.specs.SbNode.{IsSbNode, IsTyped, sb_node_page, sb_node_in}
use Rattle.page_layout.specs.declared.sb_node.SbNode.{SbNode}
use Rattle.page_layout.specs.declared.sb_node.SbEntry.{SbEntry}
use Rattle.sb_tree.specs.declared.place.Place.{Place}
use Rattle.sb_tree.specs.Steps.{entries_on, child_at, tree_pages}
use Rattle.sb_tree.specs.Stands.{first_low}

-- what pages spell as nodes
abbrev pub sb_pages : Ghosts SbNode
sb_pages = record { keeps = IsSbNode; is_typed = IsTyped; spelling = sb_node_page; value_in = sb_node_in }

-- The bytes spell a node of this level.
abbrev pub FitsLevel : ℕ → SbNode → List ℕ → Type 0
FitsLevel level node bytes = tree_page.FitsLevel sb_pages (λ n. n.level) level node bytes

-- The node keeps to the place: its entries begin within it; in an index node one of them begins at or
-- below the version sought.
pub record IsInPlace (level : ℕ) (place : Place) (node : SbNode) : Type 0 where
  pub from : All (λ e. place.low ≤ e.low) node.entries.items
  pub below : All (λ e. e.low < place.high) node.entries.items
  pub leads : (level ≡ 1) ⊎ (first_low node.entries.items place.high ≤ place.sought)

-- The bytes spell a node of this level that keeps to the place.
abbrev pub FitsPlace : ℕ → Place → SbNode → List ℕ → Type 0
FitsPlace level place node bytes = tree_page.FitsPlace sb_pages (λ n. n.level) IsInPlace level place node bytes

-- where the last entry begins that does so at or below the version, or `before` where there is none
abbrev pub low_from : ℕ → List SbEntry → ℕ → ℕ
low_from before [] version = before
low_from before (e ∷ entries) version = low_from (if nat_le e.low version then e.low else before) entries version

-- where the first entry begins that does so above the version, or `high` where there is none
abbrev pub next_from : List SbEntry → ℕ → ℕ → ℕ
next_from [] version high = high
next_from (e ∷ entries) version high = if nat_le e.low version then next_from entries version high else e.low

-- The node leads a call on to the child for the version sought.
pub record LeadsTo (place : Place) (node : SbNode) (child : ℕ) (inner : Place) : Type 0 where
  pub child_is : child ≡ child_at node.entries.items place.sought
  pub low : inner.low ≡ low_from place.low node.entries.items place.sought
  pub high : inner.high ≡ next_from node.entries.items place.sought place.high
  pub sought : inner.sought ≡ place.sought

-- the place of the root for a version
abbrev pub root_place : ℕ → Place
root_place version = record { low = 0; high = 2 ^ 32; sought = version }

-- The page is the first on the way from the root to a version that holds no fitting node.
abbrev pub IsDamagedOnPath : PageMap → Tree → ℕ → ℕ → Type 0
IsDamagedOnPath pages tree version damaged = IsDamagedBelow FitsPlace LeadsTo NothingBeside pages tree.levels (root_place version) tree.root damaged

-- The page is one of those from this page of the level down that holds no node of its level.
abbrev pub IsDamagedFrom : PageMap → ℕ → ℕ → ℕ → Type 0
IsDamagedFrom pages level page damaged =
    IsDamagedBelow {N = SbNode} {P = Unit {0}} (λ level _ node bytes. FitsLevel level node bytes)
    (λ _ node child _. Contains (map (λ (e : SbEntry). e.child) node.entries.items) child) NothingBeside pages level tt page damaged

-- The page is one of those from the root down that holds no node of its level.
abbrev pub IsDamagedInside : PageMap → Tree → ℕ → Type 0
IsDamagedInside pages tree damaged = IsDamagedFrom pages tree.levels tree.root damaged

-- What freeing a tree may call damaged: a page that holds no node of its level, or one that is named twice, so
-- that it is gone when it is reached again.
abbrev pub IsDamagedForFree : PageMap → Tree → ℕ → Type 0
IsDamagedForFree pages tree damaged = IsDamagedInside pages tree damaged ⊎ IsNamedTwice (tree_pages pages tree) damaged

-- The page spells a node, and that has as many entries as a page has room for.
pub record IsFull (pages : PageMap) (page : ℕ) : Type 0 where
  pub spelled : SpellsNone sb_pages pages page → ⊥
  pub count : length (entries_on pages page) ≡ 64

-- An addition at the version would split the page: each node on the way down is full, and no entry of the
-- leaf begins at the version.
abbrev pub IsFullBelow : ℕ → PageMap → ℕ → ℕ → Type 0
IsFullBelow zero pages page version = ⊥
IsFullBelow (suc zero) pages page version =
    IsFull pages page × (list_any (λ e. e.low == version) (entries_on pages page) ≡ false)
IsFullBelow (suc (suc level)) pages page version =
    IsFull pages page × IsFullBelow (suc level) pages (child_at (entries_on pages page) version) version

-- What an addition may call damaged: a page on its way; the root of a tree that has 2^31 points or more;
-- the root of a tree of 16 levels that would have to split; any page where the free pages are not in order.
abbrev pub IsDamagedForAdd : PageMap → Type 0 → Tree → ℕ → ℕ → Type 0
IsDamagedForAdd pages free_in_order tree version damaged =
    IsDamagedOnPath pages tree version damaged
    ⊎ ((damaged ≡ tree.root) × (2 ^ 31 ≤ tree.count))
    ⊎ ((damaged ≡ tree.root) × (tree.levels ≡ 16) × IsFullBelow 16 pages tree.root version)
    ⊎ (¬ free_in_order)
