-- What the functions that build hand to each other.
use Rattle.std.specs.Prelude.{◌≡◌, ℕ, suc, ◌+◌, ◌*◌, ◌<◌, ◌≤◌, List, [], ◌++◌, length, IsTrue, Result, Err}
use Rattle.std.specs.List.{All}
use Rattle.bw_types.specs.Empty.{empty_tree}
use Rattle.bw_types.specs.declared.point.Point.{Point}
use Rattle.bw_types.specs.declared.tree.Tree.{Tree}
use Rattle.ports.specs.Calls.{Grows}
use Rattle.ports.specs.Frame.{Replaces}
use Rattle.ports.specs.Pages.{PageMap}
use Rattle.ports.specs.declared.page.StageFault.{StageFault}
use Rattle.ports.specs.declared.page.StageFault.TheVariants.{Damaged}
use Rattle.ports.specs.declared.pages.Pages as pages
use Rattle.page_layout.specs.CutPage.{IsNodeTyped, node_fits, open_places}
use Rattle.page_layout.specs.Footprint.{NamesNoneTwice}
use Rattle.page_layout.specs.declared.cut_page.CutNode.{CutNode}
use Rattle.bw_types.specs.Depths.{depth}
use Rattle.cut_parts.specs.Parts.{border_points}
use Rattle.cut_parts.specs.declared.border_tree.BorderTree.{Ghosts}

-- The nodes of one part, at least so many and fewer than so many, were put behind others; each keeps its rule, and its numbers
-- are those of their types.
pub record ArePushed (old new : List CutNode) (least most : ℕ) : Type 0 where
  pub more : List CutNode
  pub behind : new ≡ old ++ more
  pub filled : (places : ℕ) (rest : List CutNode) → open_places (suc places) (more ++ rest) ≡ open_places places rest
  pub fit : All (λ node. IsTrue (node_fits node)) more
  pub typed : All IsNodeTyped more
  pub some : least ≤ length more
  pub few : length more < most

-- A call is refused as damaged only where the free pages are not in order. It takes no page out of the map, and gives out at most
-- so many where the map is told, and else any number.
pub record Builds {P T : Type 0} (g : pages.Ghosts P) (most : ℕ) (old new : P) (result : Result T StageFault) : Type 0 where
  pub damaged : (page : ℕ) → result ≡ Err (Damaged page) → IsTrue (g.tells old) → g.free_in_order old → ⊥
  pub grows : Grows g (g.allotted new + 1) old new result
  pub few : IsTrue (g.tells old) → Grows g most old new result

-- The border of a cut was built over the points of its low side: it is empty where these are a leaf. Its pages are new and named
-- once, and no other page changed.
pub record IsBorderBuilt {B : Type 0} (g : Ghosts B) (dimension : ℕ) (lows : List Point) (before after : PageMap) (border : Tree) : Type 0 where
  pub none : length lows ≤ 64 → border ≡ empty_tree
  pub stood : 64 < length lows → g.stands after border (border_points dimension lows)
  pub balance : 64 < length lows → g.balanced after border
  pub change : Replaces [] (g.footprint after border) before after
  pub once : NamesNoneTwice (g.footprint after border)

-- the most pages of all borders in a part of n points
abbrev pub pages_of_borders : {B : Type 0} → Ghosts B → ℕ → ℕ
pages_of_borders g n = n * (depth n * g.share n)
