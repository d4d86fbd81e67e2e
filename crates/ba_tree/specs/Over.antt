-- Trees over one to three dimensions: what is said of them, from what is said of an index of one dimension, and of borders over one
-- and over two.
use Rattle.std.specs.Prelude.{ℕ, zero, suc, ◌==◌, ◌&&◌, nat_le, nat_lt, if◌then◌else◌, List, []}
use Rattle.bw_types.specs.Depths.{added_pages}
use Rattle.bw_types.specs.declared.point.Point.{Point}
use Rattle.bw_types.specs.declared.tree.Tree.{Tree}
use Rattle.ports.specs.Pages.{PageMap}
use Rattle.dom_index.specs.Becoming.{IsTreeAfter}
use Rattle.dom_index.specs.declared.index.DomIndex as index
use Rattle.cut_parts.specs.Damage as cuts
use Rattle.cut_parts.specs.Reach as reach
use Rattle.cut_parts.specs.Standing.{CutsBalanced, CutsStand, tree_pages}
use Rattle.cut_parts.specs.declared.border_tree.BorderTree as border

module _ {M K P : Type 0} (line : index.Ghosts M) (key : border.Ghosts K) (plane : border.Ghosts P) where
  -- In these pages the tree over so many dimensions keeps exactly the points, in any order.
  abbrev pub StandsOver : PageMap → ℕ → Tree → List Point → Type 0
  StandsOver pages zero tree points = ⊥
  StandsOver pages (suc zero) tree points = line.stands pages 1 tree points
  StandsOver pages (suc (suc zero)) tree points = CutsStand key pages tree points
  StandsOver pages (suc (suc (suc dims))) tree points = CutsStand plane pages tree points

  -- its pages
  abbrev pub pages_over : PageMap → ℕ → Tree → List ℕ
  pages_over pages zero tree = []
  pages_over pages (suc zero) tree = line.footprint pages 1 tree
  pages_over pages (suc (suc zero)) tree = tree_pages key pages tree
  pages_over pages (suc (suc (suc dims))) tree = tree_pages plane pages tree

  -- It is as low as it is kept, and so are the trees inside it.
  abbrev pub BalancedOver : PageMap → ℕ → Tree → Type 0
  BalancedOver pages zero tree = Unit {0}
  BalancedOver pages (suc zero) tree = line.balanced pages 1 tree
  BalancedOver pages (suc (suc zero)) tree = CutsBalanced key pages tree
  BalancedOver pages (suc (suc (suc dims))) tree = CutsBalanced plane pages tree

  -- What a sum at these keys and this version calls damaged.
  abbrev pub IsDamagedForSum : PageMap → ℕ → Tree → List ℕ → ℕ → ℕ → Type 0
  IsDamagedForSum pages zero tree keys version page = ⊥
  IsDamagedForSum pages (suc zero) tree keys version page = line.damaged_for_sum pages 1 tree keys version page
  IsDamagedForSum pages (suc (suc zero)) tree keys version page = cuts.IsDamagedForSum key pages tree keys version page
  IsDamagedForSum pages (suc (suc (suc dims))) tree keys version page = cuts.IsDamagedForSum plane pages tree keys version page

  -- What an addition of the point may change, whatever the pages hold.
  abbrev pub MayChange : PageMap → ℕ → Tree → Point → ℕ → Type 0
  MayChange pages zero tree point page = ⊥
  MayChange pages (suc zero) tree point page = line.may_change pages 1 tree point page
  MayChange pages (suc (suc zero)) tree point page = reach.Leads key pages tree point page
  MayChange pages (suc (suc (suc dims))) tree point page = reach.Leads plane pages tree point page

  -- What tree an addition of the point may make of it, whatever the pages hold.
  abbrev pub MayBecome : PageMap → ℕ → Tree → Point → Tree → Type 0
  MayBecome pages zero tree point new = ⊥
  MayBecome pages (suc zero) tree point new = line.may_become pages 1 tree point new
  MayBecome pages (suc (suc zero)) tree point new = IsTreeAfter (reach.Leads key pages tree point) pages tree new
  MayBecome pages (suc (suc (suc dims))) tree point new = IsTreeAfter (reach.Leads plane pages tree point) pages tree new

  -- What an addition of the point may call damaged, whatever the pages hold.
  abbrev pub IsDamagedForAdd : PageMap → ℕ → Tree → Point → ℕ → Type 0
  IsDamagedForAdd pages zero tree point page = ⊥
  IsDamagedForAdd pages (suc zero) tree point page = line.damaged_for_add pages 1 tree point page
  IsDamagedForAdd pages (suc (suc zero)) tree point page = reach.IsDamagedForAdd key pages tree point page
  IsDamagedForAdd pages (suc (suc (suc dims))) tree point page = reach.IsDamagedForAdd plane pages tree point page

-- The most page numbers that an addition to a tree of so many levels and points gives out, over one to three dimensions.
abbrev pub tree_growth : ℕ → ℕ → ℕ → ℕ
tree_growth dims levels count =
    if nat_le dims 1 then 24
    else if levels == 0 then 1
    else if levels == 1 && nat_lt count 64 then 0
    else added_pages dims count
