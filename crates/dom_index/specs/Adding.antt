-- Points that are added to a tree one after the other.
use Rattle.std.specs.Prelude.{ℕ, List, [], ◌∷◌}
use Rattle.bw_types.specs.declared.point.Point.{Point}
use Rattle.bw_types.specs.declared.tree.Tree.{Tree}
use Rattle.ports.specs.Frame.{Replaces}
use Rattle.ports.specs.Pages.{PageMap}
use Rattle.dom_index.specs.Points.{IsNewPoint}
use Rattle.dom_index.specs.declared.index.DomIndex.{Ghosts}

-- the points that are kept once these are added to them: the last one comes first
abbrev pub with_points : List Point → List Point → List Point
with_points [] kept = kept
with_points (p ∷ ps) kept = with_points ps (p ∷ kept)

-- Each of the points is new to those that are kept once the ones before it are added.
abbrev pub AreNewInTurn : ℕ → List Point → List Point → Type 0
AreNewInTurn dims kept [] = Unit {0}
AreNewInTurn dims kept (p ∷ ps) = IsNewPoint dims kept p × AreNewInTurn dims (p ∷ kept) ps

-- The tree stands for the added points beside those that it kept, is balanced where it was, and its pages alone changed.
pub record TreeTakes {X : Type 0} (g : Ghosts X) (dims : ℕ) (before after : PageMap) (old new : Tree) (added kept : List Point) : Type 0 where
  pub stands : g.stands after dims new (with_points added kept)
  pub change : Replaces (g.footprint before dims old) (g.footprint after dims new) before after
  pub balanced : g.balanced before dims old → g.balanced after dims new
