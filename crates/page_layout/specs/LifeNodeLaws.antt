-- The node that a page of a node spells.
use Rattle.std.proofs.Common.{◌≡◌, ℕ, ◌≤◌, List, Bool, false, length, ap, ◌∙◌, arith}
use Rattle.ports.specs.declared.page.TheConstants.{FREE_PAGE}
use Rattle.std.specs.Prelude.{refl, slice_index, ◌≢◌, ◌==◌, if◌then◌else◌}
use Rattle.std.proofs.lemmas.Bool.{ne_eqb}
use Rattle.page_layout.specs.declared.life_node.LifeNode.{LifeNode}
use Rattle.page_layout.specs.declared.life_node.LifeNode.TheVariants.{Leaf, Index}
use Rattle.page_layout.specs.Counted.{not_free, entries_of, entries-counted}
use Rattle.page_layout.specs.Dated.{IsDatedTyped, by_life_bytes, by_life_at, length-by_life, by_life-back}
use Rattle.page_layout.specs.LifeNode.{IsLifeNode, IsTyped, IsLifeEntryTyped, life_entry_bytes, life_entry_at, length-life_entry, life_entry-back, life_node_page, life_leaf_in, life_index_in, life_node_in}

pub life_node_in-page : (node : LifeNode) → IsTyped node → IsLifeNode node → life_node_in (life_node_page node) ≡ node
life_node_in-page (Leaf objects) typed is_node =
    let few : length objects.items ≤ 14 = is_node.few in
    let items : entries_of by_life_at 276 14 (life_node_page (Leaf objects)) ≡ objects.items =
    entries-counted by_life_bytes by_life_at 276 IsDatedTyped length-by_life by_life-back 10 1 0 0 14 objects.items few (omega arith) typed in
    λ i. Leaf (record { items = items i })
life_node_in-page (Index level entries) typed is_node =
    let few : length entries.items ≤ 200 = is_node.few in
    let low : 2 ≤ level = is_node.low_level in
    let no_leaf : (level == 1) ≡ false = ne_eqb level 1 (λ e. omega arith) in
    let page : List ℕ = life_node_page (Index level entries) in
    let items : entries_of life_entry_at 20 200 page ≡ entries.items =
    entries-counted life_entry_bytes life_entry_at 20 IsLifeEntryTyped (λ e _. length-life_entry e) life_entry-back 10 level 0 0 200 entries.items few (omega arith) typed in
    ap (λ (leaf : Bool). if leaf then life_leaf_in page else life_index_in page) no_leaf ∙ (λ i. Index level (record { items = items i }))

pub life_node_in_use : (node : LifeNode) → slice_index (life_node_page node) 0 ≢ FREE_PAGE
life_node_in_use (Leaf objects) = not_free _ refl
life_node_in_use (Index level entries) = not_free _ refl
