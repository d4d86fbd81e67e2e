-- The node that a page of a node spells.
use Rattle.std.proofs.Common.{◌≡◌, ℕ, ◌≤◌, List, Bool, false, length, ap, ◌∙◌, arith}
use Rattle.ports.specs.declared.page.TheConstants.{FREE_PAGE}
use Rattle.std.specs.Prelude.{refl, slice_index, ◌≢◌, ◌==◌, if◌then◌else◌, IsTrue}
use Rattle.std.specs.List.{All}
use Rattle.std.proofs.lemmas.Bool.{ne_eqb}
use Rattle.bw_types.specs.declared.dated.Dated.{Dated}
use Rattle.page_layout.specs.declared.table_node.TableNode.{TableNode}
use Rattle.page_layout.specs.declared.table_node.TableNode.TheVariants.{Leaf, Index}
use Rattle.page_layout.specs.Counted.{not_free, entries_of, entries-counted}
use Rattle.page_layout.specs.Dated.{IsDatedTyped, dated_bytes, by_id_at, by_id_fits, length-dated, by_id-back}
use Rattle.page_layout.specs.TableNode.{IsTableNode, IsTyped, IsTableEntryTyped, table_entry_bytes, table_entry_at, length-table_entry, table_entry-back, table_node_page, table_leaf_in, table_index_in, table_node_in}

-- What an object has to be for its bytes to be read back.
abbrev IsReadBack : Dated → Type 0
IsReadBack d = IsDatedTyped d × IsTrue (by_id_fits d)

pub table_node_in-page : (node : TableNode) → IsTyped node → IsTableNode node → table_node_in (table_node_page node) ≡ node
table_node_in-page (Leaf objects) typed is_node =
    let few : length objects.items ≤ 15 = is_node.few in
    let read_back : All IsReadBack objects.items = λ k d h. (typed k d h, is_node.in_order.each k d h) in
    let items : entries_of by_id_at 272 15 (table_node_page (Leaf objects)) ≡ objects.items =
    entries-counted dated_bytes by_id_at 272 IsReadBack (λ d is. length-dated d is.0) (λ d rest is. by_id-back d rest is.0 is.1) 6 1 0 0 15 objects.items few (omega arith) read_back in
    λ i. Leaf (record { items = items i })
table_node_in-page (Index level entries) typed is_node =
    let few : length entries.items ≤ 200 = is_node.few in
    let low : 2 ≤ level = is_node.low_level in
    let no_leaf : (level == 1) ≡ false = ne_eqb level 1 (λ e. omega arith) in
    let page : List ℕ = table_node_page (Index level entries) in
    let items : entries_of table_entry_at 16 200 page ≡ entries.items =
    entries-counted table_entry_bytes table_entry_at 16 IsTableEntryTyped (λ e _. length-table_entry e) table_entry-back 6 level 0 0 200 entries.items few (omega arith) typed in
    ap (λ (leaf : Bool). if leaf then table_leaf_in page else table_index_in page) no_leaf ∙ (λ i. Index level (record { items = items i }))

pub table_node_in_use : (node : TableNode) → slice_index (table_node_page node) 0 ≢ FREE_PAGE
table_node_in_use (Leaf objects) = not_free _ refl
table_node_in_use (Index level entries) = not_free _ refl
