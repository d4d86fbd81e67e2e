-- Which page of a tree is damaged: one definition for every kind of tree.
--
-- A kind of tree says three things. What fits a place: when a page's bytes spell a node of the level by
-- which the page is reached, and that node keeps to the place by which it is reached. Where a node leads
-- on: which children a call goes on to, and what their places are. What stands beside: which damaged page
-- a call finds that a node names beside its children, such as a page of a tree of one
-- dimension less, of which this definition tells again.
use Rattle.std.specs.Prelude.{◌≡◌, ℕ, zero, suc, ◌⊎◌, List, Some}
use Rattle.ports.specs.Pages.{PageMap}

-- The page is missing, or its bytes fit no node of this level in this place.
abbrev pub HoldsNoNode : {N P : Type 0} → (ℕ → P → N → List ℕ → Type 0) → PageMap → ℕ → P → ℕ → Type 0
HoldsNoNode {N} {P} fits map level place page =
    (node : N) (bytes : List ℕ) → map page ≡ Some bytes → fits level place node bytes → ⊥

-- The node names nothing beside its children.
abbrev pub NothingBeside : {N P : Type 0} → PageMap → P → N → ℕ → Type 0
NothingBeside map place node damaged = ⊥

-- A call comes to the damaged page from this page on: it is this page, which holds no node; or this page
-- holds a node, and the damaged page stands beside its children, or is one that the call comes to from a
-- child of the next lower level to which the node leads.
abbrev pub IsDamagedBelow : {N P : Type 0} → (ℕ → P → N → List ℕ → Type 0) → (P → N → ℕ → P → Type 0) → (PageMap → P → N → ℕ → Type 0)
    → PageMap → ℕ → P → ℕ → ℕ → Type 0
IsDamagedBelow fits leads beside map zero place page damaged = ⊥
IsDamagedBelow {N} {P} fits leads beside map (suc level) place page damaged =
    ((damaged ≡ page) × HoldsNoNode fits map (suc level) place page)
    ⊎ ((node : N) × (bytes : List ℕ) × (map page ≡ Some bytes) × fits (suc level) place node bytes × beside map place node damaged)
    ⊎ ((node : N) × (bytes : List ℕ) × (child : ℕ) × (inner : P) × (map page ≡ Some bytes) × fits (suc level) place node bytes
    × leads place node child inner × IsDamagedBelow fits leads beside map level inner child damaged)
