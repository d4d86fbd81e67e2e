-- Nodes of a page that are written by hand.
use Rattle.std.proofs.Common.{ℕ, ◌<◌, ◌≤◌, ◌^◌, List, nat_le, refl, arith, IsTrue, All}
use Rattle.std.specs.List.{AllByRecursion}
use Rattle.std.proofs.lemmas.Bool.{and_from, le-leb}
use Rattle.std.proofs.lemmas.List.Elements.{All-from_recursion, All-weaker}
use Rattle.bw_types.specs.Empty.{empty_tree}
use Rattle.page_layout.specs.CutPage.{IsNodeTyped, node_fits, open_places}
use Rattle.page_layout.specs.declared.cut_page.CutNode.{CutNode}
use Rattle.page_layout.specs.declared.cut_page.CutNode.TheVariants.{Entry, Cut}
use Rattle.cut_parts.specs.Nodes.{AreNodes}

-- what is asked of each node by itself
pub record KeepsRules (node : CutNode) : Type 0 where
  pub fits : IsTrue (node_fits node)
  pub typed : IsNodeTyped node

pub entry_keeps : (child : ℕ) → 3 ≤ child → child < 2 ^ 64 → KeepsRules (Entry child)
entry_keeps child some less = record { fits = le-leb 3 child some; typed = less }

pub cut_keeps : (dimension key : ℕ) → dimension ≤ 2 → key < 2 ^ 64 → KeepsRules (Cut dimension key 1 empty_tree)
cut_keeps dimension key few less = record {
  fits = and_from (nat_le dimension 2) (node_fits (Cut 0 key 1 empty_tree)) (le-leb dimension 2 few) refl;
  typed = (less, omega arith, (omega arith, omega arith, omega arith, omega arith));
}

pub nodes_by_hand : (nodes : List CutNode) → IsTrue (open_places 1 nodes) → AllByRecursion KeepsRules nodes → AreNodes nodes
nodes_by_hand nodes filled all =
    let kept : All KeepsRules nodes = All-from_recursion KeepsRules nodes all in
    record {
      filled = filled;
      fit = All-weaker KeepsRules (λ node. IsTrue (node_fits node)) (λ node h. h.fits) nodes kept;
      typed = All-weaker KeepsRules IsNodeTyped (λ node h. h.typed) nodes kept;
    }
