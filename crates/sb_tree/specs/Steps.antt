-- What a tree over versions keeps: a step function of the version, as the pages of the map tell it.
use Rattle.std.specs.Prelude.{ℕ, zero, suc, ◌+◌, ◌%◌, ◌^◌, nat_le, if◌then◌else◌, List, [], ◌∷◌, map}
use Rattle.std.specs.List.{sum_by, flat_map}
use Rattle.std.specs.Option.{option_map_or}
use Rattle.bw_types.specs.declared.tree.Tree.{Tree}
use Rattle.ports.specs.Pages.{PageMap}
use Rattle.page_layout.specs.SbNode.{sb_node_in}
use Rattle.page_layout.specs.declared.sb_node.SbNode.{SbNode}
use Rattle.page_layout.specs.declared.sb_node.SbEntry.{SbEntry}

-- a node without entries
abbrev pub no_node : SbNode
no_node = record { level = 0; entries = record { items = [] } }

-- the node that a page may spell; a page that is missing has no entries
abbrev pub node_on : PageMap → ℕ → SbNode
node_on pages page = option_map_or sb_node_in (pages page) no_node

abbrev pub entries_on : PageMap → ℕ → List SbEntry
entries_on pages page = (node_on pages page).entries.items

-- the total of the values of the entries that begin at or below the version
abbrev pub begun_value : List SbEntry → ℕ → ℕ
begun_value entries version = sum_by (λ e. if nat_le e.low version then e.value else 0) entries

-- the child of the last entry that begins at or below the version, or `before` where there is none
abbrev pub child_from : ℕ → List SbEntry → ℕ → ℕ
child_from before [] version = before
child_from before (e ∷ entries) version = child_from (if nat_le e.low version then e.child else before) entries version

abbrev pub child_at : List SbEntry → ℕ → ℕ
child_at entries version = child_from 0 entries version

-- The total at a version, without a bound: that of a node's entries and, in an index node, that of the
-- child of the last entry that begins at or below the version. So it is read down one path.
abbrev pub total_below : ℕ → PageMap → ℕ → ℕ → ℕ
total_below zero pages page version = 0
total_below (suc level) pages page version =
    begun_value (entries_on pages page) version + total_below level pages (child_at (entries_on pages page) version) version

-- the value of the tree at a version, modulo 2^128
abbrev pub tree_value : PageMap → Tree → ℕ → ℕ
tree_value pages tree version = total_below tree.levels pages tree.root version % 2 ^ 128

-- the pages from this one down
abbrev pub pages_below : ℕ → PageMap → ℕ → List ℕ
pages_below zero pages page = []
pages_below (suc zero) pages page = page ∷ []
pages_below (suc (suc level)) pages page = page ∷ flat_map (λ e. pages_below (suc level) pages e.child) (entries_on pages page)

-- the tree's footprint
abbrev pub tree_pages : PageMap → Tree → List ℕ
tree_pages pages tree = pages_below tree.levels pages tree.root

-- the versions at which the leaves' entries begin
abbrev pub lows_below : ℕ → PageMap → ℕ → List ℕ
lows_below zero pages page = []
lows_below (suc zero) pages page = map (λ e. e.low) (entries_on pages page)
lows_below (suc (suc level)) pages page = flat_map (λ e. lows_below (suc level) pages e.child) (entries_on pages page)
