-- What a multiversion tree keeps, as the pages of the map tell it.
use Rattle.std.specs.Prelude.{ℕ, zero, suc, ◌+◌, ◌-◌, ◌%◌, ◌^◌, ◌==◌, if◌then◌else◌, List, [], ◌∷◌, ◌++◌}
use Rattle.std.specs.Option.{option_map_or}
use Rattle.bw_types.specs.declared.tree.Tree.{Tree}
use Rattle.ports.specs.Pages.{PageMap}
use Rattle.page_layout.specs.MvNode.{mv_node_in}
use Rattle.page_layout.specs.declared.mv_node.MvNode.{MvNode}
use Rattle.page_layout.specs.declared.mv_node.MvEntry.{MvEntry}
use Rattle.mv_pages.specs.Alive.{child_of, value_of}
use Rattle.sb_tree.specs.Steps as over_versions

-- a node without entries
abbrev pub no_node : MvNode
no_node = record { level = 0; place = 0; before = 0; entries = record { items = [] } }

-- the node that a page may spell; a page that is missing has no entries
abbrev pub node_on : PageMap → ℕ → MvNode
node_on pages page = option_map_or mv_node_in (pages page) no_node

abbrev pub entries_on : PageMap → ℕ → List MvEntry
entries_on pages page = (node_on pages page).entries.items

-- The total at a key and a version, without a bound: that of a node's entries and, in an index node, that
-- of the child to which the key leads. So it is read down one path.
abbrev pub total_below : ℕ → PageMap → ℕ → ℕ → ℕ → ℕ
total_below zero pages page key version = 0
total_below (suc level) pages page key version =
    value_of (entries_on pages page) key version
    + option_map_or (λ child. total_below level pages child key version) (child_of (node_on pages page) key version) 0

-- the total of a node at a key and a version, without a bound
abbrev pub node_total : PageMap → MvNode → ℕ → ℕ → ℕ
node_total pages node key version =
    value_of node.entries.items key version
    + option_map_or (λ child. total_below (node.level - 1) pages child key version) (child_of node key version) 0

-- the directory of roots, a tree over versions whose value is the page of the root
abbrev pub directory : Tree → Tree
directory tree = record { root = tree.root; levels = tree.levels; count = tree.changes; changes = 0; last = 0 }

-- the page of the root at a version; it is 0 before the first one
abbrev pub root_at : PageMap → Tree → ℕ → ℕ
root_at pages tree version = over_versions.tree_value pages (directory tree) version

-- the level that a root tells; where there is no root it is 0
abbrev pub root_level : PageMap → ℕ → ℕ
root_level pages root = if root == 0 then 0 else (node_on pages root).level

-- the value of the tree at a key and a version, modulo 2^128
abbrev pub tree_value : PageMap → Tree → ℕ → ℕ → ℕ
tree_value pages tree key version =
    total_below (root_level pages (root_at pages tree version)) pages (root_at pages tree version) key version % 2 ^ 128

-- the chain of so many places: this page, the one allotted before it, and so on
abbrev pub chain_from : ℕ → PageMap → ℕ → List ℕ
chain_from zero pages page = []
chain_from (suc places) pages page = page ∷ chain_from places pages (node_on pages page).before

-- how many places the chain has: as many as its last page tells, and none without levels
abbrev pub place_count : PageMap → Tree → ℕ
place_count pages tree = if tree.levels == 0 then 0 else (node_on pages tree.last).place

-- the pages of the nodes, the last one allotted first
abbrev pub node_pages : PageMap → Tree → List ℕ
node_pages pages tree = chain_from (place_count pages tree) pages tree.last

-- the tree's footprint: the pages of the directory and of the nodes
abbrev pub tree_pages : PageMap → Tree → List ℕ
tree_pages pages tree = over_versions.tree_pages pages (directory tree) ++ node_pages pages tree
