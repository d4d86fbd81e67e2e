-- The node that a page of a node spells.
use Rattle.std.proofs.Common.{◌≡◌, ℕ, List, Option, Some, sym, ap, ◌∙◌, subst}
use Rattle.std.specs.Option.{option_map_or}
use Rattle.ports.specs.Pages.{PageMap}
use Rattle.page_layout.specs.declared.mv_node.MvNode.{MvNode}
use Rattle.page_layout.specs.MvNode.{IsMvNode, IsTyped, mv_node_page, mv_node_in}
use Rattle.page_layout.specs.MvNodeLaws.{mv_node_in-page}
use Rattle.page_layout.specs.Spelled.{Spells}
use Rattle.mvsb_tree.specs.declared.place.Place.{Place}
use Rattle.mvsb_tree.specs.Damage.{FitsPlace, mv_pages}
use Rattle.mvsb_tree.specs.Steps.{node_on, no_node}

pub node_on-spelled : (pages : PageMap) (page : ℕ) (node : MvNode) → IsTyped node → IsMvNode node → pages page ≡ Some (mv_node_page node) → node_on pages page ≡ node
node_on-spelled pages page node typed rules there =
    ap (λ (o : Option (List ℕ)). option_map_or mv_node_in o no_node) there ∙ mv_node_in-page node typed rules

pub some_same : {X : Type 0} (x y : X) → Some x ≡ Some y → x ≡ y
some_same x y e = cc

-- One page spells one node.
pub same_spelled : (pages : PageMap) (page : ℕ) (node other : MvNode) (bytes : List ℕ) → IsTyped node → IsMvNode node → pages page ≡ Some (mv_node_page node)
    → IsTyped other → IsMvNode other → bytes ≡ mv_node_page other → pages page ≡ Some bytes → node ≡ other
same_spelled pages page node other bytes typed rules there other_typed other_rules spelled here =
    let same : mv_node_page node ≡ mv_node_page other = some_same (mv_node_page node) bytes (sym there ∙ here) ∙ spelled in
    sym (mv_node_in-page node typed rules) ∙ ap mv_node_in same ∙ mv_node_in-page other other_typed other_rules

-- What is said of a node where it is read in place holds of the node that is made of it.
pub fits_as : (level : ℕ) (place : Place) (view node : MvNode) → node ≡ view → FitsPlace level place view (mv_node_page view) → FitsPlace level place node (mv_node_page node)
fits_as level place view node is fits = subst (λ (n : MvNode). FitsPlace level place n (mv_node_page n)) (sym is) fits

pub spells_as : (view node : MvNode) → node ≡ view → Spells mv_pages view (mv_node_page view) → Spells mv_pages node (mv_node_page node)
spells_as view node is spells = subst (λ (n : MvNode). Spells mv_pages n (mv_node_page n)) (sym is) spells

pub found_as : (pages : PageMap) (page : ℕ) (view node : MvNode) → node ≡ view → pages page ≡ Some (mv_node_page view) → pages page ≡ Some (mv_node_page node)
found_as pages page view node is found = found ∙ ap (λ (n : MvNode). Some (mv_node_page n)) (sym is)
