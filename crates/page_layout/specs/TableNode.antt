-- Nodes of object tables by id alone.
use Rattle.std.specs.Prelude.{◌≡◌, ℕ, ◌<◌, ◌≤◌, ◌^◌, ◌++◌, ◌==◌, if◌then◌else◌, List, [], length, drop, slice_index, IsTrue}
use Rattle.std.specs.List.{All}
use Rattle.std.proofs.Common.{append_assoc, length-append}
use Rattle.bw_types.specs.declared.dated.Dated.{Dated}
use Rattle.page_layout.specs.Numbers.{spelled, number_in, length-spelled, next_number, number_at}
use Rattle.page_layout.specs.Entries.{AreInOrder}
use Rattle.page_layout.specs.Counted.{counted_page, entries_of}
use Rattle.page_layout.specs.Dated.{IsDatedTyped, dated_bytes, by_id_at, by_id_fits}
use Rattle.page_layout.specs.declared.table_node.TableNode.{TableNode}
use Rattle.page_layout.specs.declared.table_node.TableNode.TheVariants.{Leaf, Index}
use Rattle.page_layout.specs.declared.table_node.TableEntry.{TableEntry}

-- the 16 bytes of an entry of an index node
abbrev pub table_entry_bytes : TableEntry → List ℕ
table_entry_bytes e = spelled 8 e.low ++ spelled 8 e.child

-- an entry that the first 16 bytes may spell
abbrev pub table_entry_at : List ℕ → TableEntry
table_entry_at bytes = record { low = number_in 8 bytes; child = number_in 8 (drop 8 bytes) }

-- The numbers are those of their types.
abbrev pub IsTableEntryTyped : TableEntry → Type 0
IsTableEntryTyped e = (e.low < 2 ^ 64) × (e.child < 2 ^ 64)

pub length-table_entry : (e : TableEntry) → length (table_entry_bytes e) ≡ 16
length-table_entry e = simp (length-append, length-spelled)

pub table_entry-back : (e : TableEntry) (rest : List ℕ) → IsTableEntryTyped e → table_entry_at (table_entry_bytes e ++ rest) ≡ e
table_entry-back e rest typed =
    let whole : List ℕ = table_entry_bytes e ++ rest in
    let r1 : List ℕ = spelled 8 e.child ++ rest in
    let right : whole ≡ spelled 8 e.low ++ r1 = append_assoc (spelled 8 e.low) (spelled 8 e.child) rest in
    let d8 : drop 8 whole ≡ r1 = next_number whole e.low r1 0 8 right in
    let low : number_in 8 whole ≡ e.low = number_at whole e.low r1 0 8 right typed.0 in
    let child : number_in 8 (drop 8 whole) ≡ e.child = number_at whole e.child rest 8 8 d8 typed.1 in
    λ i. record { low = low i; child = child i }

-- What a leaf with at most so many objects is: some objects, each of which keeps its rule, in strict order by id.
pub record IsTableLeaf (most : ℕ) (objects : List Dated) : Type 0 where
  pub some : 1 ≤ length objects
  pub few : length objects ≤ most
  pub in_order : AreInOrder (λ d. IsTrue (by_id_fits d)) (λ d next. d.object.id < next.object.id) objects

-- What an index node with at most so many entries is: a level of 2 to 16 and some entries, whose children are pages of at least 3, in strict order of their lows.
pub record IsTableIndex (most level : ℕ) (entries : List TableEntry) : Type 0 where
  pub low_level : 2 ≤ level
  pub high_level : level ≤ 16
  pub some : 1 ≤ length entries
  pub few : length entries ≤ most
  pub in_order : AreInOrder (λ e. 3 ≤ e.child) (λ e next. e.low < next.low) entries

-- What a node is: a leaf of at most 15 objects, or an index node of at most 200 entries.
abbrev pub IsTableNode : TableNode → Type 0
IsTableNode (Leaf objects) = IsTableLeaf 15 objects.items
IsTableNode (Index level entries) = IsTableIndex 200 level entries.items

-- The numbers are those of their types.
abbrev pub IsTyped : TableNode → Type 0
IsTyped (Leaf objects) = All IsDatedTyped objects.items
IsTyped (Index level entries) = All IsTableEntryTyped entries.items

-- the page that the node is spelled by
abbrev pub table_node_page : TableNode → List ℕ
table_node_page (Leaf objects) = counted_page dated_bytes 6 1 0 0 objects.items
table_node_page (Index level entries) = counted_page table_entry_bytes 6 level 0 0 entries.items

-- the leaf that a page may spell
abbrev pub table_leaf_in : List ℕ → TableNode
table_leaf_in page = Leaf (record { items = entries_of by_id_at 272 15 page })

-- the index node that a page may spell
abbrev pub table_index_in : List ℕ → TableNode
table_index_in page = Index (slice_index page 1) (record { items = entries_of table_entry_at 16 200 page })

-- the node that a page may spell: a leaf at level 1, and else an index node
abbrev pub table_node_in : List ℕ → TableNode
table_node_in page = if slice_index page 1 == 1 then table_leaf_in page else table_index_in page

-- the objects of a leaf; an index node has none
abbrev pub leaf_objects : TableNode → List Dated
leaf_objects (Leaf objects) = objects.items
leaf_objects (Index level entries) = []

-- the entries of an index node; a leaf has none
abbrev pub index_entries : TableNode → List TableEntry
index_entries (Leaf objects) = []
index_entries (Index level entries) = entries.items

-- the level; a leaf has level 1
abbrev pub table_level : TableNode → ℕ
table_level (Leaf objects) = 1
table_level (Index level entries) = level
