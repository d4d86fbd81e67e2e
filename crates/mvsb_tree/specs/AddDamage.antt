-- What an addition to a multiversion tree may find damaged.
use Rattle.std.specs.Prelude.{◌≡◌, ◌≢◌, ℕ, zero, suc, ◌+◌, ◌-◌, ◌⊎◌, ◌<◌, ◌≤◌, ◌^◌, List, length, Option, Some, None, IsSome}
use Rattle.bw_types.specs.declared.tree.Tree.{Tree}
use Rattle.ports.specs.Pages.{PageMap}
use Rattle.page_layout.specs.Damage.{IsDamagedBelow, NothingBeside}
use Rattle.page_layout.specs.Spelled.{SpellsNone}
use Rattle.page_layout.specs.declared.mv_node.MvNode.{MvNode}
use Rattle.mv_pages.specs.Alive.{IsChangeable, alive_at, child_of}
use Rattle.mvsb_tree.specs.declared.place.Place.{Place}
use Rattle.mvsb_tree.specs.declared.replaced.Replaced.{Replaced}
use Rattle.sb_tree.specs.Damage as over_versions
use Rattle.sb_tree.specs.Steps as steps_over_versions
use Rattle.mvsb_tree.specs.Becoming.{Becomes, TakesPart, new_pages}
use Rattle.mvsb_tree.specs.Damage.{FitsPlace, IsDamagedToRoot, IsWholeToRoot, LeadsTo, mv_pages, root_place}
use Rattle.mvsb_tree.specs.Steps.{directory, node_on, root_at, root_level}
use Rattle.mvsb_tree.specs.Ways.{way_pages}

-- The bytes spell a node of this level that keeps to the place, and may be changed at the version.
abbrev pub FitsForAdd : ℕ → Place → MvNode → List ℕ → Type 0
FitsForAdd level place node bytes = FitsPlace level place node bytes × IsChangeable place.version node.entries.items

-- The page is the first below the node, on the way of the key and the version, that holds no such node.
abbrev pub IsDamagedPastForAdd : PageMap → Place → MvNode → ℕ → Type 0
IsDamagedPastForAdd pages place node damaged =
    (child : ℕ) × (inner : Place) × LeadsTo place node child inner
    × IsDamagedBelow FitsForAdd LeadsTo NothingBeside pages (node.level - 1) inner child damaged

-- No page on the way below the node is damaged.
abbrev pub IsWholePast : PageMap → Place → MvNode → Type 0
IsWholePast pages place node = (page : ℕ) → IsDamagedPastForAdd pages place node page → ⊥

-- The page is the first on the way from this root down that holds no such node. The root tells its level.
abbrev pub IsDamagedFromRootForAdd : PageMap → ℕ → Place → ℕ → Type 0
IsDamagedFromRootForAdd pages root place damaged =
    ((damaged ≡ root) × SpellsNone mv_pages pages root)
    ⊎ IsDamagedBelow FitsForAdd LeadsTo NothingBeside pages (root_level pages root) place root damaged

-- Pages are needed, and the chain has no place for them: its last page spells no node, or has the last place that there is; or fewer
-- places are left than are needed, and the page is one that was not in the map. The page that took the last place is such a page; which
-- of them it is depends on what the stage gives out.
abbrev pub IsEndDamaged : ℕ → PageMap → ℕ → ℕ → Type 0
IsEndDamaged needed pages last damaged =
    (1 ≤ needed)
    × (((damaged ≡ last) × (SpellsNone mv_pages pages last ⊎ ((node_on pages last).place ≡ 4294967295)))
    ⊎ (((node_on pages last).place < 4294967295) × (4294967295 < (node_on pages last).place + needed) × (pages damaged ≡ None)))

-- The last page of the chain is the one it was, at its place; or it is a new one, so many places on.
abbrev pub IsEndOf : ℕ → PageMap → PageMap → ℕ → ℕ → Type 0
IsEndOf taken before after last new_last =
    ((taken ≡ 0) × (new_last ≡ last) × ((node_on after last).place ≡ (node_on before last).place) × (SpellsNone mv_pages after last → SpellsNone mv_pages before last))
    ⊎ ((1 ≤ taken) × (before new_last ≡ None) × (SpellsNone mv_pages after new_last → ⊥) × ((node_on after new_last).place ≡ (node_on before last).place + taken))

-- Each page that was in the map keeps its place, and the chain went on at its end by so many pages.
pub record KeepsPlaces (taken : ℕ) (before after : PageMap) (last new_last : ℕ) : Type 0 where
  pub kept : (page : ℕ) → IsSome (before page) → IsSome (after page) × ((node_on after page).place ≡ (node_on before page).place)
  pub ends : IsEndOf taken before after last new_last

-- The node has the place that the page has.
abbrev pub IsPlacedAs : PageMap → ℕ → MvNode → Type 0
IsPlacedAs pages page node = (node.place ≡ (node_on pages page).place) × (node.place < 2 ^ 32) × (node.before < 2 ^ 64)

-- the pages of the directory
abbrev pub directory_pages : PageMap → Tree → List ℕ
directory_pages pages tree = steps_over_versions.tree_pages pages (directory tree)

-- the nodes' pages on the way of the key at the version, from the root down
abbrev pub node_way : PageMap → Tree → ℕ → ℕ → List ℕ
node_way pages tree key version = way_pages (root_level pages (root_at pages tree version)) pages (root_at pages tree version) key version

-- The node became another, which is kept in its page or in those that take its part, and the chain went on by the new pages of that
-- and of what is below it.
pub record IsMade (level : ℕ) (before after : PageMap) (node : MvNode) (key version value last new_last : ℕ) (replaced : Option Replaced) : Type 0 where
  pub changed : MvNode
  pub below : ℕ
  pub becomes : Becomes level before node key version value changed below
  pub part : TakesPart changed version replaced
  pub places : KeepsPlaces (below + new_pages changed version) before after last new_last

-- The node of the level becomes another, of more entries than a page has room for, and the chain ends before the new pages of
-- that and of what is below it.
abbrev pub EndsAt : ℕ → PageMap → MvNode → ℕ → ℕ → ℕ → ℕ → ℕ → Type 0
EndsAt level pages node key version value last damaged =
    (changed : MvNode) × (taken : ℕ) × Becomes level pages node key version value changed taken
    × (1 ≤ new_pages changed version) × IsEndDamaged (taken + new_pages changed version) pages last damaged

-- So it is with the node, or with one on the way of the key below it.
abbrev pub EndsOnWay : ℕ → PageMap → MvNode → ℕ → ℕ → ℕ → ℕ → ℕ → Type 0
EndsOnWay zero pages node key version value last damaged = ⊥
EndsOnWay (suc level) pages node key version value last damaged =
    EndsAt (suc level) pages node key version value last damaged
    ⊎ ((child : ℕ) × (child_of node key version ≡ Some child) × EndsOnWay level pages (node_on pages child) key version value last damaged)

-- No page on the way from this root down is damaged.
abbrev pub IsWholeFromRoot : PageMap → ℕ → ℕ → ℕ → Type 0
IsWholeFromRoot pages root key version = (page : ℕ) → IsDamagedFromRootForAdd pages root (root_place key version) page → ⊥

-- The root becomes a node with more entries than a page has room for, so that other pages take its part.
pub record IsRootClosed (pages : PageMap) (root key version value : ℕ) : Type 0 where
  pub whole : IsWholeFromRoot pages root key version
  pub changed : MvNode
  pub below : ℕ
  pub becomes : Becomes (root_level pages root) pages (node_on pages root) key version value changed below
  pub full : 96 < length changed.entries.items

-- Two pages take its part, with so many new pages in all.
pub record IsRootSplit (pages : PageMap) (root key version value taken : ℕ) : Type 0 where
  pub changed : MvNode
  pub below : ℕ
  pub becomes : Becomes (root_level pages root) pages (node_on pages root) key version value changed below
  pub full : 96 < length changed.entries.items
  pub many : 48 < length (alive_at changed.entries.items version)
  pub all : taken ≡ below + new_pages changed version

-- A root of level 16 would have to be split.
abbrev pub IsSplitAtTop : PageMap → ℕ → ℕ → ℕ → ℕ → Type 0
IsSplitAtTop pages root key version value = (root_level pages root ≡ 16) × (taken : ℕ) × IsRootSplit pages root key version value taken

-- A root of a lower level is split, and the chain ends before the page for a new one.
abbrev pub EndsAtTop : PageMap → ℕ → ℕ → ℕ → ℕ → ℕ → ℕ → Type 0
EndsAtTop pages root key version value last damaged =
    (root_level pages root ≤ 15) × (taken : ℕ) × IsRootSplit pages root key version value taken × IsEndDamaged (taken + 1) pages last damaged

-- What an addition may find damaged from this root down: a page on the way that is missing, does not keep to its place, or may not be
-- changed at the version; and where there is none, the end of the chain, or the directory's root, where a root of level 16 would
-- have to be split.
abbrev pub IsDamagedAtRoot : PageMap → ℕ → ℕ → ℕ → ℕ → ℕ → ℕ → ℕ → Type 0
IsDamagedAtRoot pages root key version value last directory damaged =
    IsDamagedFromRootForAdd pages root (root_place key version) damaged
    ⊎ (IsWholeFromRoot pages root key version
    × (EndsOnWay (root_level pages root) pages (node_on pages root) key version value last damaged
    ⊎ EndsAtTop pages root key version value last damaged
    ⊎ ((damaged ≡ directory) × IsSplitAtTop pages root key version value)))

-- What an addition may find damaged on the way to the root of the version: what looking for that root does; and where that finds
-- nothing, the directory's root, where it tells no root.
abbrev pub IsDamagedForRoot : PageMap → Tree → ℕ → ℕ → Type 0
IsDamagedForRoot pages tree version damaged =
    IsDamagedToRoot pages tree version damaged
    ⊎ (IsWholeToRoot pages tree version × (damaged ≡ tree.root) × (root_at pages tree version ≡ 0))

-- What an addition may find damaged in the nodes of a tree that has some: what looking for the root of the version does; and where
-- that finds nothing, what the addition finds from that root down.
abbrev pub IsDamagedInNodes : PageMap → Tree → ℕ → ℕ → ℕ → ℕ → Type 0
IsDamagedInNodes pages tree key version value damaged =
    IsDamagedForRoot pages tree version damaged
    ⊎ (((page : ℕ) → IsDamagedForRoot pages tree version page → ⊥)
    × IsDamagedAtRoot pages (root_at pages tree version) key version value tree.last tree.root damaged)

-- No page on the way of an addition is damaged: to the root of the version, and from that root down.
pub record IsWholeForAdd (pages : PageMap) (tree : Tree) (key version : ℕ) : Type 0 where
  pub to_root : (page : ℕ) → IsDamagedForRoot pages tree version page → ⊥
  pub nodes : IsWholeFromRoot pages (root_at pages tree version) key version

-- An addition changes the root of the version: the first one does, and one that closes it.
abbrev pub ChangesRoot : PageMap → Tree → ℕ → ℕ → ℕ → Type 0
ChangesRoot pages tree key version value = (tree.levels ≡ 0) ⊎ IsRootClosed pages (root_at pages tree version) key version value

-- Each page is as it was, or spells no node of a directory, neither before nor after.
abbrev pub KeepsDirectories : PageMap → PageMap → Type 0
KeepsDirectories before after =
    (page : ℕ) → (after page ≡ before page) ⊎ (SpellsNone over_versions.sb_pages before page × SpellsNone over_versions.sb_pages after page)

-- What an addition may call damaged: the directory's root, where the tree has 2^31 additions; what it finds in the nodes; where it
-- changes the root, what an addition to the directory may; any page where the free pages are not in order.
abbrev pub IsDamagedForAdd : PageMap → Type 0 → Tree → ℕ → ℕ → ℕ → ℕ → Type 0
IsDamagedForAdd pages free_in_order tree key version value damaged =
    ((damaged ≡ tree.root) × (2 ^ 31 ≤ tree.count))
    ⊎ ((tree.levels ≢ 0) × IsDamagedInNodes pages tree key version value damaged)
    ⊎ (ChangesRoot pages tree key version value × over_versions.IsDamagedForAdd pages free_in_order (directory tree) version damaged)
    ⊎ (¬ free_in_order)
