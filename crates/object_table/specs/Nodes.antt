-- What pages tell as nodes of an object table, in either form. A node of the earlier form is told as one by
-- lives: its objects have life 1, and its lows life 0.
use Rattle.std.specs.Prelude.{◌≡◌, ℕ, List, [], map}
use Rattle.std.specs.Option.{option_map_or}
use Rattle.bw_types.specs.declared.dated.Dated.{Dated}
use Rattle.ports.specs.Pages.{PageMap}
use Rattle.page_layout.specs.TreePage as tree_page
use Rattle.page_layout.specs.declared.spelled.Spelled.{Ghosts}
use Rattle.page_layout.specs.LifeNode as by_lives
use Rattle.page_layout.specs.TableNode as by_ids
use Rattle.page_layout.specs.declared.life_node.LifeNode.{LifeNode}
use Rattle.page_layout.specs.declared.life_node.LifeNode.TheVariants.{Leaf, Index}
use Rattle.page_layout.specs.declared.life_node.LifeEntry.{LifeEntry}
use Rattle.page_layout.specs.declared.table_node.TableNode.{TableNode}
use Rattle.page_layout.specs.declared.table_node.TableNode.TheVariants as table_node
use Rattle.page_layout.specs.declared.table_node.TableEntry.{TableEntry}
use Rattle.object_table.specs.declared.form.Form.{Form}
use Rattle.object_table.specs.declared.form.Form.TheVariants.{ByLives, ByIds}

-- what pages spell as nodes by lives
abbrev pub life_pages : Ghosts LifeNode
life_pages = record { keeps = by_lives.IsLifeNode; is_typed = by_lives.IsTyped; spelling = by_lives.life_node_page; value_in = by_lives.life_node_in }

-- what pages spell as nodes by ids
abbrev pub table_pages : Ghosts TableNode
table_pages = record { keeps = by_ids.IsTableNode; is_typed = by_ids.IsTyped; spelling = by_ids.table_node_page; value_in = by_ids.table_node_in }

-- an entry by ids as one by lives
abbrev pub life_entry : TableEntry → LifeEntry
life_entry e = record { low_id = e.low; low_life = 0; child = e.child }

-- a node by ids as one by lives
abbrev pub life_node : TableNode → LifeNode
life_node (table_node.Leaf objects) = Leaf (record { items = objects.items })
life_node (table_node.Index level entries) = Index level (record { items = map life_entry entries.items })

-- The bytes spell a node of this level.
abbrev pub FitsLevel : Form → ℕ → LifeNode → List ℕ → Type 0
FitsLevel ByLives level node bytes = tree_page.FitsLevel life_pages by_lives.life_level level node bytes
FitsLevel ByIds level node bytes =
    (told : TableNode) × tree_page.FitsLevel table_pages by_ids.table_level level told bytes × (node ≡ life_node told)

-- the node that a page's bytes may spell
abbrev pub node_in : Form → List ℕ → LifeNode
node_in ByLives bytes = by_lives.life_node_in bytes
node_in ByIds bytes = life_node (by_ids.table_node_in bytes)

-- a node without objects
abbrev pub no_node : LifeNode
no_node = Leaf (record { items = [] })

-- the node that a page may spell; a page that is missing has no objects and no entries
abbrev pub node_on : Form → PageMap → ℕ → LifeNode
node_on form pages page = option_map_or (node_in form) (pages page) no_node

-- the objects of a leaf
abbrev pub objects_in : LifeNode → List Dated
objects_in (Leaf objects) = objects.items
objects_in (Index level entries) = []

-- the entries of an index node
abbrev pub entries_in : LifeNode → List LifeEntry
entries_in (Leaf objects) = []
entries_in (Index level entries) = entries.items

abbrev pub objects_on : Form → PageMap → ℕ → List Dated
objects_on form pages page = objects_in (node_on form pages page)

abbrev pub entries_on : Form → PageMap → ℕ → List LifeEntry
entries_on form pages page = entries_in (node_on form pages page)
