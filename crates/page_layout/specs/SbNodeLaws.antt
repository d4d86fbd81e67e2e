-- The node that a page of a node spells.
use Rattle.std.proofs.Common.{◌≡◌, ◌≤◌, length, arith}
use Rattle.page_layout.specs.declared.sb_node.SbNode.{SbNode}
use Rattle.page_layout.specs.Counted.{entries_of, entries-counted}
use Rattle.page_layout.specs.SbNode.{IsSbNode, IsTyped, IsSbEntryTyped, sb_entry_bytes, sb_entry_at, length-sb_entry, sb_entry-back, sb_node_page, sb_node_in}

pub sb_node_in-page : (node : SbNode) → IsTyped node → IsSbNode node → sb_node_in (sb_node_page node) ≡ node
sb_node_in-page node typed is_node =
    let few : length node.entries.items ≤ 64 = is_node.few in
    let entries : entries_of sb_entry_at 28 64 (sb_node_page node) ≡ node.entries.items =
    entries-counted sb_entry_bytes sb_entry_at 28 IsSbEntryTyped (λ x _. length-sb_entry x) sb_entry-back 2 node.level 0 0 64 node.entries.items few (omega arith) typed in
    λ i. record { level = node.level; entries = record { items = entries i } }
