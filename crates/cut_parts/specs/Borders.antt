-- What a kind of trees owes to the trees of one dimension more, whose borders they are.
use Rattle.std.specs.Prelude.{◌≡◌, ℕ, ◌-◌, ◌^◌, ◌<◌, ◌≤◌, List, [], ◌∷◌, length, AllPairs, IsSome, IsTrue, IsPermutation, Result, Ok, Err}
use Rattle.std.specs.List.{All}
use Rattle.bw_types.specs.Empty.{empty_tree}
use Rattle.bw_types.specs.declared.point.Point.{Point}
use Rattle.bw_types.specs.declared.tree.Tree.{Tree}
use Rattle.ports.specs.Frame.{AgreeOn, AreInMap, Replaces}
use Rattle.ports.specs.Pages.{PageMap}
use Rattle.ports.specs.declared.page.PageFault.{PageFault}
use Rattle.ports.specs.declared.page.PageFault.TheVariants.{Damaged, Disk}
use Rattle.page_layout.specs.Footprint.{NamesNoneTwice}
use Rattle.dom_index.specs.Points.{AreKeysBelow, keys_differ}
use Rattle.bw_types.specs.Depths.{IsCost, NeverFalls}

-- A call that sums answers this total, save where the device failed.
abbrev pub IsSum : Result ℕ PageFault → ℕ → Type 0
IsSum (Ok value) total = value ≡ total
IsSum (Err Disk) total = Unit {0}
IsSum (Err (Damaged page)) total = ⊥

-- The pages that were there, and of which this does not hold, are as they were.
abbrev pub OthersStay : (ℕ → Type 0) → PageMap → PageMap → Type 0
OthersStay may before after = (page : ℕ) → IsSome (before page) → ¬ may page → after page ≡ before page

-- No two of the points share a key in one of the dimensions.
abbrev pub ShareNoKey : ℕ → List Point → Type 0
ShareNoKey dims points = AllPairs (λ p q. IsTrue (keys_differ dims p q)) points

-- A tree may be built of the points: at most 2^31, of which no two share a key in a dimension; their keys are below the end of
-- regions, and their versions below 2^32 - 1.
pub record MayBeBuilt (dims : ℕ) (points : List Point) : Type 0 where
  pub few : length points ≤ 2 ^ 31
  pub apart : ShareNoKey dims points
  pub keys : All (λ p. AreKeysBelow dims p.keys) points
  pub versions : All (λ p. p.version < 2 ^ 32 - 1) points
  pub three : All (λ p. length p.keys ≡ 3) points

module _ (stands : PageMap → Tree → List Point → Type 0) (footprint : PageMap → Tree → List ℕ) (balanced : PageMap → Tree → Type 0) where
  -- A tree that stood for points stands for one more, the map changed exactly by its pages, and it stays balanced.
  pub record TakesPoint (before after : PageMap) (tree grown : Tree) (points : List Point) (point : Point) : Type 0 where
    pub stood : stands after grown (point ∷ points)
    pub change : Replaces (footprint before tree) (footprint after grown) before after
    pub balance : balanced before tree → balanced after grown

  -- A tree was built of the points: it stands for them and is balanced, its pages are new, and no other page changed.
  pub record IsBuiltOf (before after : PageMap) (tree : Tree) (points : List Point) : Type 0 where
    pub stood : stands after tree points
    pub balance : balanced after tree
    pub change : Replaces [] (footprint after tree) before after

  -- What holds of every tree of the kind.
  pub record HoldForTrees (cost growth share : ℕ → ℕ) : Type 0 where
    -- whether a tree stands and is balanced, and which pages are its own, depends on these pages alone
    pub by_its_pages : (a b : PageMap) (tree : Tree) (points : List Point) → stands a tree points → AgreeOn (footprint a tree) a b
        → stands b tree points × (footprint b tree ≡ footprint a tree)
    pub balance : (a b : PageMap) (tree : Tree) (points : List Point) → stands a tree points → AgreeOn (footprint a tree) a b
        → balanced a tree → balanced b tree
    pub in_map : (a : PageMap) (tree : Tree) (points : List Point) → stands a tree points → AreInMap a (footprint a tree)
    pub once : (a : PageMap) (tree : Tree) (points : List Point) → stands a tree points → NamesNoneTwice (footprint a tree)
    -- the order of the points does not count
    pub any_order : (a : PageMap) (tree : Tree) (points others : List Point) → stands a tree points → IsPermutation points others → stands a tree others
    pub empty : (a : PageMap) → stands a empty_tree [] × (footprint a empty_tree ≡ []) × balanced a empty_tree
    pub counted : (a : PageMap) (tree : Tree) (points : List Point) → stands a tree points → tree.count ≡ length points
    pub is_cost : IsCost cost
    pub growth_rises : NeverFalls growth
    pub share_rises : NeverFalls share
