-- What is stored of a node, in one page or in two.
use Rattle.std.specs.Prelude.{◌≡◌, ℕ, ◌+◌, ◌<◌, ◌≤◌, ◌^◌, ◌==◌, false, Bool, IsTrue, List, ◌∷◌, length, take, drop, Option, Some, None, IsSome}
use Rattle.bw_types.specs.declared.dated.Dated.{Dated}
use Rattle.object_table.specs.Edits.{IsMarked, IsPutIn}
use Rattle.ports.specs.Pages.{PageMap}
use Rattle.ports.specs.Frame.{names_page}
use Rattle.page_layout.specs.LifeNode.{life_node_page}
use Rattle.page_layout.specs.declared.life_node.LifeNode.{LifeNode}
use Rattle.page_layout.specs.declared.life_node.LifeNode.TheVariants.{Leaf, Index}
use Rattle.page_layout.specs.declared.life_node.LifeEntry.{LifeEntry}

-- a leaf of these objects
abbrev pub leaf_of : List Dated → LifeNode
leaf_of objects = Leaf (record { items = objects })

-- an index node of this level with these entries
abbrev pub index_of : ℕ → List LifeEntry → LifeNode
index_of level entries = Index level (record { items = entries })

-- the id and the life of an object
abbrev pub object_name : Dated → ℕ × ℕ
object_name d = (d.object.id, d.life)

-- the id and the life with which an entry begins
abbrev pub entry_name : LifeEntry → ℕ × ℕ
entry_name e = (e.low_id, e.low_life)

-- The page holds the node, and no other page changed.
abbrev pub IsWhole : LifeNode → PageMap → PageMap → ℕ → Type 0
IsWhole node before after page = (after page ≡ Some (life_node_page node)) × ((p : ℕ) → (page == p) ≡ false → after p ≡ before p)

-- The page holds the first node, and one that was in use for nothing the last. No other page changed.
pub record AreHalves (first last : LifeNode) (before after : PageMap) (page second : ℕ) : Type 0 where
  pub unused : before second ≡ None
  pub here : after page ≡ Some (life_node_page first)
  pub there : after second ≡ Some (life_node_page last)
  pub others : (p : ℕ) → (page == p) ≡ false → (second == p) ≡ false → after p ≡ before p

-- The entry begins with the first of these.
abbrev pub BeginsBy : {X : Type 0} → (X → ℕ × ℕ) → List X → LifeEntry → Type 0
BeginsBy {X} name xs e = (x : X) × (rest : List X) × (xs ≡ x ∷ rest) × (e.low_id ≡ (name x).0) × (e.low_life ≡ (name x).1)

-- All is stored in the page; or, where that is one more than a page takes, the first of it in the page and
-- the rest, from `half` on, in a new one.
abbrev pub IsStored : {X : Type 0} → (List X → LifeNode) → (X → ℕ × ℕ) → ℕ → ℕ → List X → PageMap → PageMap → ℕ → Option LifeEntry → Type 0
IsStored node name most half xs before after page None = (length xs ≤ most) × IsWhole (node xs) before after page
IsStored node name most half xs before after page (Some second) =
    (length xs ≡ most + 1) × BeginsBy name (drop half xs) second × AreHalves (node (take half xs)) (node (drop half xs)) before after page second.child

-- The second page of a split, where there was one: it was given out, begins with the second half, and the
-- first page was full.
abbrev pub IsSecondOf : {X : Type 0} → (X → ℕ × ℕ) → ℕ → ℕ → List X → Option LifeEntry → Type 0
IsSecondOf name most half xs None = Unit {0}
IsSecondOf name most half xs (Some second) =
    (3 ≤ second.child) × (second.child < 2 ^ 64) × BeginsBy name (drop half xs) second × (length xs ≡ most + 1)

-- The pages of the map that the list does not name are as they were.
abbrev pub OthersStay : List ℕ → PageMap → PageMap → Type 0
OthersStay pages before after = (page : ℕ) → names_page pages page ≡ false → IsSome (before page) → after page ≡ before page

-- The object was put in among those of the leaf, and they are stored.
pub record IsPutInLeaf (objects : List Dated) (d : Dated) (tells : Bool) (before after : PageMap) (page : ℕ) (second : Option LifeEntry) : Type 0 where
  pub new : List Dated
  pub put : IsPutIn objects new d
  pub second_is : IsSecondOf object_name 14 7 new second
  pub stored : IsTrue tells → IsStored leaf_of object_name 14 7 new before after page second

-- The last life of the id was withdrawn among the objects of the leaf, and they are stored.
pub record IsMarkedInLeaf (objects : List Dated) (id version event : ℕ) (tells : Bool) (before after : PageMap) (page : ℕ) : Type 0 where
  pub new : List Dated
  pub marked : IsMarked objects new id version event
  pub stored : IsTrue tells → IsWhole (leaf_of new) before after page
