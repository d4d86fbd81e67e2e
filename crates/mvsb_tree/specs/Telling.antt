-- What a node tells in a place.
use Rattle.std.specs.Prelude.{◌≡◌, ℕ, Option, Some, None}
use Rattle.ports.specs.Pages.{PageMap}
use Rattle.page_layout.specs.MvNode.{mv_node_page}
use Rattle.page_layout.specs.declared.mv_node.MvNode.{MvNode}
use Rattle.mv_pages.specs.Alive.{child_of, node_value}
use Rattle.mvsb_tree.specs.declared.place.Place.{Place}
use Rattle.mvsb_tree.specs.declared.step.Step.{Step}
use Rattle.mvsb_tree.specs.declared.told.Told.{Told}
use Rattle.mvsb_tree.specs.Damage.{FitsPlace, LeadsTo}

-- The step is the one on which the node leads.
abbrev pub StepsOn : MvNode → Place → Option Step → Type 0
StepsOn node place None = child_of node place.key place.version ≡ None
StepsOn node place (Some step) = LeadsTo place node step.child step.place

-- This is the node's value at the place's key and version, and its step on.
pub record TellsOf (node : MvNode) (place : Place) (told : Told) : Type 0 where
  pub value : told.value ≡ node_value node place.key place.version
  pub step : StepsOn node place told.step

-- The page spells a node of this level that keeps to the place, and this is what it tells.
pub record ToldIn (pages : PageMap) (page level : ℕ) (place : Place) (told : Told) : Type 0 where
  pub node : MvNode
  pub there : pages page ≡ Some (mv_node_page node)
  pub fits : FitsPlace level place node (mv_node_page node)
  pub tells : TellsOf node place told
