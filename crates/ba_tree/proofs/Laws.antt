-- The laws of trees over one to three dimensions, from those of each kind.
use Rattle.std.proofs.Common.{◌≡◌, ℕ, zero, suc, List, IsPermutation}
use Rattle.bw_types.specs.declared.point.Point.{Point}
use Rattle.bw_types.specs.declared.tree.Tree.{Tree}
use Rattle.ports.specs.Frame.{AgreeOn, AreInMap}
use Rattle.ports.specs.Pages.{PageMap}
use Rattle.dom_index.specs.Becoming.{IsTreeAfter}
use Rattle.cut_parts.specs.Borders.{HoldForTrees}
use Rattle.cut_parts.specs.Standing.{CutsBalanced, CutsStand, cuts_cost, cuts_growth, cuts_share, tree_pages}
use Rattle.mvsb_tree.specs.contracts.mv_index.MvIndexDomIndex.TheImpl as line
use Rattle.ba_tree.specs.contracts.key_tree.KeyTreeBorderTree.TheImpl as key
use Rattle.ba_tree.specs.contracts.plane_tree.PlaneTreeBorderTree.TheImpl as plane
use Rattle.ba_tree.specs.Over.{BalancedOver, MayBecome, MayChange, StandsOver, pages_over}

-- What holds of trees of cuts over two dimensions, and over three.
abbrev HoldOverTwo : Type 0
HoldOverTwo = HoldForTrees (CutsStand key.ghosts) (tree_pages key.ghosts) (CutsBalanced key.ghosts) (cuts_cost key.ghosts) (cuts_growth key.ghosts) (cuts_share key.ghosts)

abbrev HoldOverThree : Type 0
HoldOverThree = HoldForTrees (CutsStand plane.ghosts) (tree_pages plane.ghosts) (CutsBalanced plane.ghosts) (cuts_cost plane.ghosts) (cuts_growth plane.ghosts) (cuts_share plane.ghosts)

abbrev Stands : PageMap → ℕ → Tree → List Point → Type 0
Stands = StandsOver line.ghosts key.ghosts plane.ghosts

abbrev own_pages : PageMap → ℕ → Tree → List ℕ
own_pages = pages_over line.ghosts key.ghosts plane.ghosts

abbrev IsLow : PageMap → ℕ → Tree → Type 0
IsLow = BalancedOver line.ghosts key.ghosts plane.ghosts

pub by_its_pages : ((pages others : PageMap) (dims : ℕ) (tree : Tree) (points : List Point) → line.ghosts.stands pages dims tree points → AgreeOn (line.ghosts.footprint pages dims tree) pages others
    → line.ghosts.stands others dims tree points × (line.ghosts.footprint others dims tree ≡ line.ghosts.footprint pages dims tree))
    → HoldOverTwo → HoldOverThree → (pages others : PageMap) (dims : ℕ) (tree : Tree) (points : List Point) → Stands pages dims tree points → AgreeOn (own_pages pages dims tree) pages others
    → Stands others dims tree points × (own_pages others dims tree ≡ own_pages pages dims tree)
by_its_pages one two three pages others zero tree points stands agree = absurd stands
by_its_pages one two three pages others (suc zero) tree points stands agree = one pages others 1 tree points stands agree
by_its_pages one two three pages others (suc (suc zero)) tree points stands agree = two.by_its_pages pages others tree points stands agree
by_its_pages one two three pages others (suc (suc (suc dims))) tree points stands agree = three.by_its_pages pages others tree points stands agree

pub balance : ((pages others : PageMap) (dims : ℕ) (tree : Tree) (points : List Point) → line.ghosts.stands pages dims tree points → AgreeOn (line.ghosts.footprint pages dims tree) pages others
    → line.ghosts.balanced pages dims tree → line.ghosts.balanced others dims tree)
    → HoldOverTwo → HoldOverThree → (pages others : PageMap) (dims : ℕ) (tree : Tree) (points : List Point) → Stands pages dims tree points → AgreeOn (own_pages pages dims tree) pages others
    → IsLow pages dims tree → IsLow others dims tree
balance one two three pages others zero tree points stands agree low = absurd stands
balance one two three pages others (suc zero) tree points stands agree low = one pages others 1 tree points stands agree low
balance one two three pages others (suc (suc zero)) tree points stands agree low = two.balance pages others tree points stands agree low
balance one two three pages others (suc (suc (suc dims))) tree points stands agree low = three.balance pages others tree points stands agree low

pub in_map : ((pages : PageMap) (dims : ℕ) (tree : Tree) (points : List Point) → line.ghosts.stands pages dims tree points → AreInMap pages (line.ghosts.footprint pages dims tree))
    → HoldOverTwo → HoldOverThree → (pages : PageMap) (dims : ℕ) (tree : Tree) (points : List Point) → Stands pages dims tree points → AreInMap pages (own_pages pages dims tree)
in_map one two three pages zero tree points stands = absurd stands
in_map one two three pages (suc zero) tree points stands = one pages 1 tree points stands
in_map one two three pages (suc (suc zero)) tree points stands = two.in_map pages tree points stands
in_map one two three pages (suc (suc (suc dims))) tree points stands = three.in_map pages tree points stands

pub any_order : ((pages : PageMap) (dims : ℕ) (tree : Tree) (points others : List Point) → line.ghosts.stands pages dims tree points → IsPermutation points others → line.ghosts.stands pages dims tree others)
    → HoldOverTwo → HoldOverThree → (pages : PageMap) (dims : ℕ) (tree : Tree) (points others : List Point) → Stands pages dims tree points → IsPermutation points others → Stands pages dims tree others
any_order one two three pages zero tree points others stands same = absurd stands
any_order one two three pages (suc zero) tree points others stands same = one pages 1 tree points others stands same
any_order one two three pages (suc (suc zero)) tree points others stands same = two.any_order pages tree points others stands same
any_order one two three pages (suc (suc (suc dims))) tree points others stands same = three.any_order pages tree points others stands same

-- A tree becomes one of one point more, whose root is named as an addition may name it.
pub becoming : ((pages : PageMap) (dims : ℕ) (tree new : Tree) (point : Point) → line.ghosts.may_become pages dims tree point new
    → IsTreeAfter (line.ghosts.may_change pages dims tree point) pages tree new)
    → (pages : PageMap) (dims : ℕ) (tree new : Tree) (point : Point) → MayBecome line.ghosts key.ghosts plane.ghosts pages dims tree point new
    → IsTreeAfter (MayChange line.ghosts key.ghosts plane.ghosts pages dims tree point) pages tree new
becoming one pages zero tree new point becomes = absurd becomes
becoming one pages (suc zero) tree new point becomes = one pages 1 tree new point becomes
becoming one pages (suc (suc zero)) tree new point becomes = becomes
becoming one pages (suc (suc (suc dims))) tree new point becomes = becomes
