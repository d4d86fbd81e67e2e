-- Nodes of a page of cuts, in memory.
use Rattle.std.specs.Prelude.{◌≡◌, ℕ, suc, ◌≤◌, List, ◌++◌, length, IsTrue}
use Rattle.std.specs.List.{All}
use Rattle.page_layout.specs.CutPage.{IsNodeTyped, node_fits, open_places}
use Rattle.page_layout.specs.declared.cut_page.CutNode.{CutNode}
use Rattle.bw_types.specs.declared.point.Point.{Point}
use Rattle.ports.specs.Pages.{PageMap}
use Rattle.cut_parts.specs.Damage.{after_parts}
use Rattle.cut_parts.specs.Parts.{Part}
use Rattle.cut_parts.specs.Spelling.{HoldsCuts, HoldsLeaf, nodes_of}

-- The nodes are those of one part, in pre-order, each of which keeps its rule, and whose numbers are those of their types. They
-- are a page where they are 3 to 127, and else an entry alone, or too many.
pub record AreNodes (nodes : List CutNode) : Type 0 where
  pub filled : IsTrue (open_places 1 nodes)
  pub fit : All (λ node. IsTrue (node_fits node)) nodes
  pub typed : All IsNodeTyped nodes

-- The nodes of a part fill one place, whatever follows.
abbrev pub PartsFillPlaces : Type 0
PartsFillPlaces = (part : Part) (places : ℕ) (rest : List CutNode) → open_places (suc places) (nodes_of part ++ rest) ≡ open_places places rest

-- Past the nodes of a part there is one part less to pass.
abbrev pub PartsAreSkipped : Type 0
PartsAreSkipped = (part : Part) (parts : ℕ) (rest : List CutNode) → after_parts (suc parts) (nodes_of part ++ rest) ≡ after_parts parts rest

-- A page holds no two lists of nodes, and what it holds are 3 to 127 nodes of one part.
abbrev pub PagesHoldNodes : Type 0
PagesHoldNodes = (pages : PageMap) (page : ℕ) (nodes others : List CutNode) → HoldsCuts pages page nodes → HoldsCuts pages page others
    → (nodes ≡ others) × AreNodes nodes × (3 ≤ length nodes) × (length nodes ≤ 127)

-- Nor does a page hold two lists of points.
abbrev pub LeavesHoldPoints : Type 0
LeavesHoldPoints = (pages : PageMap) (page : ℕ) (points others : List Point) → HoldsLeaf pages page points → HoldsLeaf pages page others → points ≡ others
