-- What a call on a multiversion tree may find damaged.
use Rattle.std.specs.Prelude.{◌≡◌, ◌≢◌, ℕ, ◌⊎◌, ◌≤◌, ◌^◌, nat_le, ◌&&◌, ◌||◌, not, Bool, IsTrue, List, Some, None, IsSome}
use Rattle.std.specs.List.{list_all}
use Rattle.bw_types.specs.declared.tree.Tree.{Tree}
use Rattle.ports.specs.Pages.{PageMap}
use Rattle.page_layout.specs.Damage.{IsDamagedBelow, NothingBeside}
use Rattle.page_layout.specs.Footprint.{IsNamedTwice}
use Rattle.page_layout.specs.Spelled.{Spells, SpellsNone}
use Rattle.page_layout.specs.TreePage as tree_page
use Rattle.page_layout.specs.declared.spelled.Spelled.{Ghosts}
use Rattle.page_layout.specs.MvNode.{IsMvNode, IsTyped, mv_node_page, mv_node_in}
use Rattle.page_layout.specs.declared.mv_node.MvNode.{MvNode}
use Rattle.page_layout.specs.declared.mv_node.MvEntry.{MvEntry}
use Rattle.mv_pages.specs.Alive.{child_of, is_alive}
use Rattle.mv_pages.specs.Lows.{alive_lows}
use Rattle.sb_tree.specs.Damage as over_versions
use Rattle.mvsb_tree.specs.declared.place.Place.{Place}
use Rattle.mvsb_tree.specs.Steps.{directory, root_at, root_level, place_count, tree_pages}
use Rattle.mvsb_tree.specs.Stands.{ends_after, inner_low, inner_high}

-- what pages spell as nodes
abbrev pub mv_pages : Ghosts MvNode
mv_pages = record { keeps = IsMvNode; is_typed = IsTyped; spelling = mv_node_page; value_in = mv_node_in }

-- the entry is not alive at the version sought, or begins within the place
abbrev pub begins_within : Place → MvEntry → Bool
begins_within place e = not (is_alive place.version e) || (nat_le place.low e.low && ends_after place.high e.low)

-- the entry is not alive at the version sought, or does not begin below the place
abbrev pub not_below : Place → MvEntry → Bool
not_below place e = not (is_alive place.version e) || nat_le place.low e.low

-- the entry is not alive at the version sought, or does not begin past the place
abbrev pub not_past : Place → MvEntry → Bool
not_past place e = not (is_alive place.version e) || ends_after place.high e.low

-- The node keeps to the place: its entries that are alive at the version sought begin within it; an index node
-- has one for the key.
pub record IsInPlace (level : ℕ) (place : Place) (node : MvNode) : Type 0 where
  pub within : IsTrue (list_all (begins_within place) node.entries.items)
  pub leads : (level ≡ 1) ⊎ IsSome (child_of node place.key place.version)

-- The bytes spell a node of this level that keeps to the place.
abbrev pub FitsPlace : ℕ → Place → MvNode → List ℕ → Type 0
FitsPlace level place node bytes = tree_page.FitsPlace mv_pages (λ n. n.level) IsInPlace level place node bytes

-- The node leads a call on to the child for the key and the version sought.
pub record LeadsTo (place : Place) (node : MvNode) (child : ℕ) (inner : Place) : Type 0 where
  pub child_is : child_of node place.key place.version ≡ Some child
  pub low : inner.low ≡ inner_low place.low (alive_lows node.entries.items place.version) place.key
  pub high : inner.high ≡ inner_high place.high (alive_lows node.entries.items place.version) place.key
  pub key : inner.key ≡ place.key
  pub version : inner.version ≡ place.version

-- the place of the root for a key and a version
abbrev pub root_place : ℕ → ℕ → Place
root_place key version = record { low = 0; high = None; key = key; version = version }

-- The page is the first on the way from this root down that holds no fitting node. The root tells its level.
abbrev pub IsDamagedFromRoot : PageMap → ℕ → Place → ℕ → Type 0
IsDamagedFromRoot pages root place damaged =
    ((damaged ≡ root) × SpellsNone mv_pages pages root)
    ⊎ IsDamagedBelow FitsPlace LeadsTo NothingBeside pages (root_level pages root) place root damaged

-- What looking for the root of a version may find damaged: a page on the way of the version through the directory; and where
-- there is none, the directory's root, where what it tells is no number of a page.
abbrev pub IsDamagedToRoot : PageMap → Tree → ℕ → ℕ → Type 0
IsDamagedToRoot pages tree version damaged =
    over_versions.IsDamagedOnPath pages (directory tree) version damaged
    ⊎ (((page : ℕ) → over_versions.IsDamagedOnPath pages (directory tree) version page → ⊥)
    × (damaged ≡ tree.root) × (2 ^ 64 ≤ root_at pages tree version))

-- No page on the way of the version to its root is damaged.
abbrev pub IsWholeToRoot : PageMap → Tree → ℕ → Type 0
IsWholeToRoot pages tree version = (page : ℕ) → IsDamagedToRoot pages tree version page → ⊥

-- What reading a value may call damaged: what looking for the root of the version does; and where that finds nothing, a page on
-- the way from that root down.
abbrev pub IsDamagedForValue : PageMap → Tree → ℕ → ℕ → ℕ → Type 0
IsDamagedForValue pages tree key version damaged =
    IsDamagedToRoot pages tree version damaged
    ⊎ (IsWholeToRoot pages tree version
    × (root_at pages tree version ≢ 0) × IsDamagedFromRoot pages (root_at pages tree version) (root_place key version) damaged)

-- The bytes spell a node of this place in the chain.
abbrev pub FitsChain : ℕ → Unit {0} → MvNode → List ℕ → Type 0
FitsChain place _ node bytes = Spells mv_pages node bytes × (node.place ≡ place)

-- The node leads on to the one allotted before it.
abbrev pub LeadsBack : Unit {0} → MvNode → ℕ → Unit {0} → Type 0
LeadsBack _ node child _ = child ≡ node.before

-- The page is the first of the chain from this page of the place on that holds no node of its place.
abbrev pub IsDamagedInChain : PageMap → ℕ → ℕ → ℕ → Type 0
IsDamagedInChain pages place page damaged = IsDamagedBelow FitsChain LeadsBack NothingBeside pages place tt page damaged

-- What freeing a tree may call damaged: the last page, where the tree has levels and it spells no node; a page of the
-- directory, or one of the chain; or one that is named twice, so that it is gone when it is reached again.
abbrev pub IsDamagedForFree : PageMap → Tree → ℕ → Type 0
IsDamagedForFree pages tree damaged =
    ((tree.levels ≢ 0) × (damaged ≡ tree.last) × SpellsNone mv_pages pages tree.last)
    ⊎ over_versions.IsDamagedForFree pages (directory tree) damaged
    ⊎ IsDamagedInChain pages (place_count pages tree) tree.last damaged
    ⊎ IsNamedTwice (tree_pages pages tree) damaged
