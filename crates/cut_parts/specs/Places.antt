-- Places among the nodes of a page of cuts.
use Rattle.std.specs.Prelude.{◌≡◌, ℕ, ◌≤◌, List, length, take}
use Rattle.page_layout.specs.CutPage.{cut_count}
use Rattle.page_layout.specs.declared.cut_page.CutNode.{CutNode}

-- A place is before a node or behind them all, and so many cuts stand before it.
pub record IsPlace (nodes : List CutNode) (place cuts : ℕ) : Type 0 where
  pub within : place ≤ length nodes
  pub before : cuts ≡ cut_count (take place nodes)
