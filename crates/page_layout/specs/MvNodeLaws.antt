-- The node that a page of a node spells.
use Rattle.std.proofs.Common.{◌≡◌, ℕ, ◌-◌, ◌≤◌, ◌++◌, List, length, arith}
use Rattle.std.specs.List.{flat_map}
use Rattle.page_layout.specs.declared.mv_node.MvNode.{MvNode}
use Rattle.page_layout.specs.Numbers.{zeros}
use Rattle.page_layout.specs.Counted.{front, entries_of, word_of, double_of, entries-counted, word-counted, double-counted}
use Rattle.page_layout.specs.MvNode.{IsMvNode, IsTyped, IsMvEntryTyped, mv_entry_bytes, mv_entry_at, length-mv_entry, mv_entry-back, mv_node_page, mv_node_in}

pub mv_node_in-page : (node : MvNode) → IsTyped node → IsMvNode node → mv_node_in (mv_node_page node) ≡ node
mv_node_in-page node typed is_node =
    let few : length node.entries.items ≤ 96 = is_node.few in
    let row : List ℕ = flat_map mv_entry_bytes node.entries.items in
    let pad : List ℕ = zeros (4096 - length (front 3 node.level (length node.entries.items) node.place node.before ++ row)) in
    let place : word_of (mv_node_page node) ≡ node.place = word-counted 3 node.level (length node.entries.items) node.place node.before row pad typed.place in
    let before : double_of (mv_node_page node) ≡ node.before = double-counted 3 node.level (length node.entries.items) node.place node.before row pad typed.before in
    let entries : entries_of mv_entry_at 40 96 (mv_node_page node) ≡ node.entries.items =
    entries-counted mv_entry_bytes mv_entry_at 40 IsMvEntryTyped (λ x _. length-mv_entry x) mv_entry-back 3 node.level node.place node.before 96 node.entries.items few (omega arith) typed.entries in
    λ i. record { level = node.level; place = place i; before = before i; entries = record { items = entries i } }
