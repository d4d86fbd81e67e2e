-- A node that was read, where a walk reaches it.
use Rattle.std.proofs.Common.{◌≡◌, ℕ, ◌<◌, ◌≤◌, List, length, Some, sym, ap, subst, ◌∙◌}
use Rattle.std.specs.List.{All}
use Rattle.ports.specs.Pages.{PageMap}
use Rattle.page_layout.specs.SbNode.{IsSbNode, IsTyped, sb_node_page}
use Rattle.page_layout.specs.declared.sb_node.SbNode.{SbNode}
use Rattle.page_layout.specs.declared.sb_node.SbEntry.{SbEntry}
use Rattle.sb_tree.specs.Damage.{FitsLevel}
use Rattle.sb_tree.specs.Stands.{NodeStands, first_low}
use Rattle.sb_tree.specs.Steps.{entries_on, node_on}
use Rattle.sb_tree.proofs.Nodes.{node_on-spelled}

-- what a walk asks of a node's entries
abbrev pub IsInPlace : List SbEntry → ℕ → ℕ → ℕ → Type 0
IsInPlace entries low high least = (first_low entries high ≡ low) × All (λ e. e.low < high) entries × (least ≤ length entries)

pub stands_at : (m : PageMap) (level page low high least : ℕ) (node : SbNode) → m page ≡ Some (sb_node_page node) → FitsLevel level node (sb_node_page node)
    → IsInPlace node.entries.items low high least → NodeStands m level page low high least × (entries_on m page ≡ node.entries.items)
stands_at m level page low high least node there fits place =
    let same : node ≡ node_on m page = sym (node_on-spelled m page node fits.typed fits.rules there) in (
      record {
        spelled = there ∙ ap (λ (n : SbNode). Some (sb_node_page n)) same;
        rules = subst IsSbNode same fits.rules;
        typed = subst IsTyped same fits.typed;
        at_level = ap (λ (n : SbNode). n.level) (sym same) ∙ fits.at_level;
        begins = ap (λ (n : SbNode). first_low n.entries.items high) (sym same) ∙ place.0;
        ends = subst (λ (n : SbNode). All (λ e. e.low < high) n.entries.items) same place.1;
        filled = subst (λ (n : SbNode). least ≤ length n.entries.items) same place.2;
      },
      ap (λ (n : SbNode). n.entries.items) (sym same),
    )

pub place_of : (m : PageMap) (level page low high least : ℕ) (node : SbNode) → m page ≡ Some (sb_node_page node) → FitsLevel level node (sb_node_page node)
    → NodeStands m level page low high least → IsInPlace node.entries.items low high least
place_of m level page low high least node there fits s =
    let same : node_on m page ≡ node = node_on-spelled m page node fits.typed fits.rules there in
    subst (λ (n : SbNode). IsInPlace n.entries.items low high least) same (s.begins, s.ends, s.filled)
