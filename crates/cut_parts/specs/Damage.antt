-- What a sum calls damaged.
use Rattle.std.specs.Prelude.{◌≡◌, ℕ, zero, suc, ◌-◌, ◌<◌, ◌≤◌, ◌⊎◌, List, [], ◌∷◌, length, slice_index}
use Rattle.bw_types.specs.Without.{keys_without}
use Rattle.bw_types.specs.Empty.{empty_tree}
use Rattle.bw_types.specs.declared.point.Point.{Point}
use Rattle.bw_types.specs.declared.tree.Tree.{Tree}
use Rattle.ports.specs.Pages.{PageMap}
use Rattle.page_layout.specs.declared.cut_page.CutNode.{CutNode}
use Rattle.page_layout.specs.declared.cut_page.CutNode.TheVariants.{Entry, Cut}
use Rattle.cut_parts.specs.Parts.{IsBalancedCut}
use Rattle.cut_parts.specs.Spelling.{HoldsCuts, HoldsLeaf}
use Rattle.cut_parts.specs.declared.border_tree.BorderTree.{Ghosts}

-- the nodes after so many parts
abbrev pub after_parts : ℕ → List CutNode → List CutNode
after_parts zero nodes = nodes
after_parts (suc parts) [] = []
after_parts (suc parts) (Entry child ∷ nodes) = after_parts parts nodes
after_parts (suc parts) (Cut dimension key low border ∷ nodes) = after_parts (suc (suc parts)) nodes

-- A cut is as one of n points has to be: in one of the dimensions, balanced, and with the empty border where its low side is a
-- leaf, and else one of as many points as that side has.
pub record IsSoundCut (dims n dimension low : ℕ) (border : Tree) : Type 0 where
  pub in_dims : dimension < dims
  pub balanced : IsBalancedCut n low
  pub few : low ≤ 64 → border ≡ empty_tree
  pub many : 64 < low → border.count ≡ low

-- Where a call stands in a tree: before a page, or in a page, before the nodes of a part.
pub data Spot : Type 0 where
  BeforePage : (page : ℕ) → Spot
  BeforePart : (page : ℕ) (nodes : List CutNode) → Spot
  BeforeCut : (page : ℕ) (nodes : List CutNode) → Spot

-- A call on the way of the keys that stands there, before a part of n points, comes within so many steps to the damaged page:
-- one that holds no leaf of as many points, or no cuts where there are more; one with a cut that is not sound; or one that is
-- damaged in a border.
abbrev pub IsDamagedWithin : {B : Type 0} → Ghosts B → ℕ → PageMap → ℕ → Spot → List ℕ → ℕ → ℕ → Type 0
IsDamagedWithin g zero pages n spot keys version damaged = ⊥
IsDamagedWithin g (suc steps) pages n (BeforePage page) keys version damaged =
    ((n ≤ 64) × (damaged ≡ page) × ((points : List Point) → HoldsLeaf pages page points → length points ≡ n → ⊥))
    ⊎ (((64 < n) × (damaged ≡ page) × ((nodes : List CutNode) → HoldsCuts pages page nodes → ⊥))
    ⊎ ((64 < n) × ((nodes : List CutNode) × HoldsCuts pages page nodes × IsDamagedWithin g steps pages n (BeforeCut page nodes) keys version damaged)))
IsDamagedWithin g (suc steps) pages n (BeforePart page []) keys version damaged = damaged ≡ page
IsDamagedWithin g (suc steps) pages n (BeforePart page (Entry child ∷ nodes)) keys version damaged =
    IsDamagedWithin g steps pages n (BeforePage child) keys version damaged
IsDamagedWithin g (suc steps) pages n (BeforePart page (Cut dimension key low border ∷ nodes)) keys version damaged =
    IsDamagedWithin g steps pages n (BeforeCut page (Cut dimension key low border ∷ nodes)) keys version damaged
IsDamagedWithin g (suc steps) pages n (BeforeCut page []) keys version damaged = damaged ≡ page
IsDamagedWithin g (suc steps) pages n (BeforeCut page (Entry child ∷ nodes)) keys version damaged = damaged ≡ page
IsDamagedWithin g (suc steps) pages n (BeforeCut page (Cut dimension key low border ∷ nodes)) keys version damaged =
    ((damaged ≡ page) × (IsSoundCut (suc g.DIMS) n dimension low border → ⊥))
    ⊎ (IsSoundCut (suc g.DIMS) n dimension low border
    × (((slice_index keys dimension < key) × IsDamagedWithin g steps pages low (BeforePart page nodes) keys version damaged)
    ⊎ ((key ≤ slice_index keys dimension)
    × (((low ≤ 64) × IsDamagedWithin g steps pages low (BeforePart page nodes) keys version damaged)
    ⊎ (((64 < low) × g.damaged_for_sum pages border (keys_without dimension keys) version damaged)
    ⊎ IsDamagedWithin g steps pages (n - low) (BeforePart page (after_parts 1 nodes)) keys version damaged)))))

-- The same within some number of steps.
abbrev pub IsDamagedOnWay : {B : Type 0} → Ghosts B → PageMap → ℕ → Spot → List ℕ → ℕ → ℕ → Type 0
IsDamagedOnWay g pages n spot keys version damaged = (steps : ℕ) × IsDamagedWithin g steps pages n spot keys version damaged

-- A sum in a tree comes to the damaged page: none does in a tree without levels.
abbrev pub IsDamagedForSum : {B : Type 0} → Ghosts B → PageMap → Tree → List ℕ → ℕ → ℕ → Type 0
IsDamagedForSum g pages tree keys version damaged =
    (tree.levels ≡ 0 → ⊥) × IsDamagedOnWay g pages tree.count (BeforePage tree.root) keys version damaged
