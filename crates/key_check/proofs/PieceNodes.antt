-- The node at the head of a piece.
use Rattle.std.proofs.Common.{◌≡◌, ℕ, true, List, sym, ◌∙◌, ap, subst}
use Rattle.ports.specs.Frame.{names_page}
use Rattle.ports.specs.Pages.{PageMap}
use Rattle.page_layout.specs.declared.mv_node.MvEntry.{MvEntry}
use Rattle.page_layout.specs.declared.mv_node.MvNode.{MvNode}
use Rattle.mvsb_tree.specs.Steps.{entries_on, node_on}
use Rattle.key_check.specs.Cells.{NodeStandsThroughout}
use Rattle.key_check.specs.Chains.{HoldsThis}
use Rattle.key_check.specs.Pieces.{StandsThroughout}
use Rattle.key_check.specs.declared.piece.Piece.{Piece}

pub node_there : (level : ℕ) (m : PageMap) (nodes : List ℕ) (piece : Piece) (node : MvNode) → names_page nodes piece.page ≡ true → HoldsThis m piece.page node → node.level ≡ level
    → StandsThroughout node.entries.items piece → NodeStandsThroughout level m nodes piece
node_there level m nodes piece node listed h at stands = λ v from before.
    let cut = subst (λ (n : MvNode). StandsThroughout n.entries.items piece) (sym h.same) stands v from before in
    record {
      listed = listed;
      spelled = h.holds.spelled;
      rules = h.holds.rules;
      typed = h.holds.typed;
      at_level = ap (λ (n : MvNode). n.level) h.same ∙ at;
      differ = cut.differ;
      begins = cut.begins;
      ends = cut.ends;
      filled = cut.filled;
    }

pub node_entries : (m : PageMap) (page : ℕ) (node : MvNode) (es : List MvEntry) → node_on m page ≡ node → es ≡ node.entries.items → entries_on m page ≡ es
node_entries m page node es same is = ap (λ (n : MvNode). n.entries.items) same ∙ sym is
