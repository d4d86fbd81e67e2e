-- The node that a page of a node spells.
use Rattle.sb_tree.proofs.Common.{◌≡◌, ℕ, List, Some, sym, ap, ◌∙◌, rules, arith, PageMap, SbNode, IsSbNode, IsTyped, sb_node_page, sb_node_in, sb_node_in-page, SpellsNone, node_on, entries_on, FitsLevel, sb_pages}

pub node_on-spelled : (pages : PageMap) (page : ℕ) (node : SbNode) → IsTyped node → IsSbNode node → pages page ≡ Some (sb_node_page node) → node_on pages page ≡ node
node_on-spelled pages page node typed rules there = grind (arith, sb_node_in-page)

pub entries_on-spelled : (pages : PageMap) (page : ℕ) (node : SbNode) → IsTyped node → IsSbNode node → pages page ≡ Some (sb_node_page node) → entries_on pages page ≡ node.entries.items
entries_on-spelled pages page node typed rules there = grind (arith, node_on-spelled)

-- A page of a node spells one.
pub page_spells : (pages : PageMap) (page : ℕ) (node : SbNode) → IsTyped node → IsSbNode node → pages page ≡ Some (sb_node_page node) → SpellsNone sb_pages pages page → ⊥
page_spells pages page node typed rules there none = grind arith

-- One page spells one node.
pub same_spelled : (pages : PageMap) (page : ℕ) (node other : SbNode) (bytes : List ℕ) (l k : ℕ)
    → pages page ≡ Some (sb_node_page node) → FitsLevel l node (sb_node_page node) → pages page ≡ Some bytes → FitsLevel k other bytes → node ≡ other
same_spelled pages page node other bytes l k there fits here others =
    let spelled : sb_node_page node ≡ sb_node_page other = search rules in
    sym (sb_node_in-page node fits.typed fits.rules) ∙ ap sb_node_in spelled ∙ sb_node_in-page other others.typed others.rules
