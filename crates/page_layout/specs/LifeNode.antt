-- Nodes of object tables by id and life.
use Rattle.std.specs.Prelude.{◌≡◌, ℕ, ◌<◌, ◌≤◌, ◌^◌, ◌++◌, ◌==◌, if◌then◌else◌, List, [], length, drop, slice_index, IsTrue}
use Rattle.std.specs.List.{All}
use Rattle.std.proofs.Common.{append_assoc, length-append}
use Rattle.bw_types.specs.declared.dated.Dated.{Dated}
use Rattle.page_layout.specs.Numbers.{spelled, number_in, length-spelled, next_number, number_at}
use Rattle.page_layout.specs.Entries.{AreInOrder}
use Rattle.page_layout.specs.Counted.{counted_page, entries_of}
use Rattle.page_layout.specs.Dated.{IsDatedTyped, by_life_bytes, by_life_at, by_life_fits, life_precedes}
use Rattle.page_layout.specs.declared.life_node.LifeNode.{LifeNode}
use Rattle.page_layout.specs.declared.life_node.LifeNode.TheVariants.{Leaf, Index}
use Rattle.page_layout.specs.declared.life_node.LifeEntry.{LifeEntry}

-- the 20 bytes of an entry of an index node
abbrev pub life_entry_bytes : LifeEntry → List ℕ
life_entry_bytes e = spelled 8 e.low_id ++ (spelled 4 e.low_life ++ spelled 8 e.child)

-- an entry that the first 20 bytes may spell
abbrev pub life_entry_at : List ℕ → LifeEntry
life_entry_at bytes = record { low_id = number_in 8 bytes; low_life = number_in 4 (drop 8 bytes); child = number_in 8 (drop 12 bytes) }

-- The numbers are those of their types.
abbrev pub IsLifeEntryTyped : LifeEntry → Type 0
IsLifeEntryTyped e = (e.low_id < 2 ^ 64) × (e.low_life < 2 ^ 32) × (e.child < 2 ^ 64)

pub length-life_entry : (e : LifeEntry) → length (life_entry_bytes e) ≡ 20
length-life_entry e = simp (length-append, length-spelled)

pub life_entry-back : (e : LifeEntry) (rest : List ℕ) → IsLifeEntryTyped e → life_entry_at (life_entry_bytes e ++ rest) ≡ e
life_entry-back e rest typed =
    let whole : List ℕ = life_entry_bytes e ++ rest in
    let r2 : List ℕ = spelled 8 e.child ++ rest in
    let r1 : List ℕ = spelled 4 e.low_life ++ r2 in
    let right : whole ≡ spelled 8 e.low_id ++ r1 = simp append_assoc in
    let d8 : drop 8 whole ≡ r1 = next_number whole e.low_id r1 0 8 right in
    let d12 : drop 12 whole ≡ r2 = next_number whole e.low_life r2 8 4 d8 in
    let low_id : number_in 8 whole ≡ e.low_id = number_at whole e.low_id r1 0 8 right typed.0 in
    let low_life : number_in 4 (drop 8 whole) ≡ e.low_life = number_at whole e.low_life r2 8 4 d8 typed.1 in
    let child : number_in 8 (drop 12 whole) ≡ e.child = number_at whole e.child rest 12 8 d12 typed.2 in
    λ i. record { low_id = low_id i; low_life = low_life i; child = child i }

-- What a leaf with at most so many objects is: some objects, each of which keeps its rule, in strict order by id and then life.
pub record IsLifeLeaf (most : ℕ) (objects : List Dated) : Type 0 where
  pub some : 1 ≤ length objects
  pub few : length objects ≤ most
  pub in_order : AreInOrder (λ d. IsTrue (by_life_fits d)) (λ d next. IsTrue (life_precedes d.object.id d.life next.object.id next.life)) objects

-- What an index node with at most so many entries is: a level of 2 to 16 and some entries, whose children are pages of at least 3, in strict order of their lows.
pub record IsLifeIndex (most level : ℕ) (entries : List LifeEntry) : Type 0 where
  pub low_level : 2 ≤ level
  pub high_level : level ≤ 16
  pub some : 1 ≤ length entries
  pub few : length entries ≤ most
  pub in_order : AreInOrder (λ e. 3 ≤ e.child) (λ e next. IsTrue (life_precedes e.low_id e.low_life next.low_id next.low_life)) entries

-- What a node is: a leaf of at most 14 objects, or an index node of at most 200 entries.
abbrev pub IsLifeNode : LifeNode → Type 0
IsLifeNode (Leaf objects) = IsLifeLeaf 14 objects.items
IsLifeNode (Index level entries) = IsLifeIndex 200 level entries.items

-- The numbers are those of their types.
abbrev pub IsTyped : LifeNode → Type 0
IsTyped (Leaf objects) = All IsDatedTyped objects.items
IsTyped (Index level entries) = All IsLifeEntryTyped entries.items

-- the page that the node is spelled by
abbrev pub life_node_page : LifeNode → List ℕ
life_node_page (Leaf objects) = counted_page by_life_bytes 10 1 0 0 objects.items
life_node_page (Index level entries) = counted_page life_entry_bytes 10 level 0 0 entries.items

-- the leaf that a page may spell
abbrev pub life_leaf_in : List ℕ → LifeNode
life_leaf_in page = Leaf (record { items = entries_of by_life_at 276 14 page })

-- the index node that a page may spell
abbrev pub life_index_in : List ℕ → LifeNode
life_index_in page = Index (slice_index page 1) (record { items = entries_of life_entry_at 20 200 page })

-- the node that a page may spell: a leaf at level 1, and else an index node
abbrev pub life_node_in : List ℕ → LifeNode
life_node_in page = if slice_index page 1 == 1 then life_leaf_in page else life_index_in page

-- the objects of a leaf; an index node has none
abbrev pub leaf_objects : LifeNode → List Dated
leaf_objects (Leaf objects) = objects.items
leaf_objects (Index level entries) = []

-- the entries of an index node; a leaf has none
abbrev pub index_entries : LifeNode → List LifeEntry
index_entries (Leaf objects) = []
index_entries (Index level entries) = entries.items

-- the level; a leaf has level 1
abbrev pub life_level : LifeNode → ℕ
life_level (Leaf objects) = 1
life_level (Index level entries) = level
