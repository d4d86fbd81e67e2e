-- When an object table stands for a list of objects.
use Rattle.std.specs.Prelude.{◌≡◌, ◌⊎◌, ℕ, zero, suc, ◌<◌, ◌≤◌, List, [], ◌∷◌, length, Some}
use Rattle.std.specs.List.{All}
use Rattle.bw_types.specs.declared.dated.Dated.{Dated}
use Rattle.bw_types.specs.declared.tree.Tree.{Tree}
use Rattle.ports.specs.Pages.{PageMap}
use Rattle.page_layout.specs.Footprint.{NamesNoneTwice}
use Rattle.page_layout.specs.declared.life_node.LifeEntry.{LifeEntry}
use Rattle.object_table.specs.declared.form.Form.{Form}
use Rattle.object_table.specs.declared.form.Form.TheVariants.{ByLives, ByIds}
use Rattle.object_table.specs.Keys.{key, low_key, key_end}
use Rattle.object_table.specs.Nodes.{FitsLevel, node_on, objects_on, entries_on}
use Rattle.object_table.specs.Lives.{lives_below, table_lives, table_pages}

-- The page spells a node of this level.
pub record NodeStands (form : Form) (pages : PageMap) (level page : ℕ) : Type 0 where
  pub bytes : List ℕ
  pub there : pages page ≡ Some bytes
  pub fits : FitsLevel form level (node_on form pages page) bytes

-- The page spells a leaf of at least so many objects, whose keys lie from `low` to before `high`.
pub record LeafStands (form : Form) (pages : PageMap) (page low high least : ℕ) : Type 0 where
  pub node : NodeStands form pages 1 page
  pub from : All (λ d. low ≤ key d) (objects_on form pages page)
  pub ends : All (λ d. key d < high) (objects_on form pages page)
  pub filled : least ≤ length (objects_on form pages page)

-- where the first of the entries begins, or `high` where there is none
abbrev pub first_low : List LifeEntry → ℕ → ℕ
first_low [] high = high
first_low (e ∷ entries) high = low_key e

-- The page spells an index node of this level with at least so many entries, which begin with `low` and
-- all below `high`.
pub record IndexStands (form : Form) (pages : PageMap) (level page low high least : ℕ) : Type 0 where
  pub node : NodeStands form pages level page
  pub begins : first_low (entries_on form pages page) high ≡ low
  pub ends : All (λ e. low_key e < high) (entries_on form pages page)
  pub filled : least ≤ length (entries_on form pages page)

-- The first object has this key.
abbrev pub BeginWith : List Dated → ℕ → Type 0
BeginWith [] k = ⊥
BeginWith (d ∷ lives) k = key d ≡ k

-- Where an entry's low has a life, that life is the first under it. So the last life of an id stands where
-- the path to the id's greatest key leads.
abbrev pub KeepsItsLow : LifeEntry → List Dated → Type 0
KeepsItsLow e lives = (e.low_life ≡ 0) ⊎ BeginWith lives (low_key e)

-- Each entry's child stands between the entry's low and the next one's.
abbrev pub EachStands : (LifeEntry → ℕ → Type 0) → List LifeEntry → ℕ → Type 0
EachStands stands [] high = Unit {0}
EachStands stands (e ∷ entries) high = stands e (first_low entries high) × EachStands stands entries high

-- the fewest objects of a leaf below the root
abbrev pub fewest_objects : Form → ℕ
fewest_objects ByLives = 7
fewest_objects ByIds = 8

-- the fewest objects or entries of a node of this level below the root
abbrev pub fewest : Form → ℕ → ℕ
fewest form zero = 0
fewest form (suc zero) = fewest_objects form
fewest form (suc (suc level)) = 100

-- The page and those below it stand for the keys from `low` to before `high`. Below it each node has at
-- least the fewest objects or entries.
abbrev pub StandsBelow : Form → ℕ → PageMap → ℕ → ℕ → ℕ → ℕ → Type 0
StandsBelow form zero pages page low high least = ⊥
StandsBelow form (suc zero) pages page low high least = LeafStands form pages page low high least
StandsBelow form (suc (suc level)) pages page low high least =
    IndexStands form pages (suc (suc level)) page low high least
    × EachStands (λ e to. StandsBelow form (suc level) pages e.child (low_key e) to (fewest form (suc level))
    × KeepsItsLow e (lives_below form (suc level) pages e.child)) (entries_on form pages page) high

-- Where there are levels, the nodes stand for all keys; where there are none, no page is named.
abbrev pub RootStands : Form → ℕ → PageMap → ℕ → Type 0
RootStands form zero pages root = root ≡ 0
RootStands form (suc level) pages root = StandsBelow form (suc level) pages root 0 key_end 1

-- The table stands for the objects: its leaves have just these, in this order.
pub record TableStands (form : Form) (pages : PageMap) (table : Tree) (lives : List Dated) : Type 0 where
  pub has : table_lives form pages table ≡ lives
  pub count : table.count ≡ length lives
  pub changes : table.changes ≡ 0
  pub last : table.last ≡ 0
  pub nodes : RootStands form table.levels pages table.root
  pub once : NamesNoneTwice (table_pages form pages table)

-- A table without objects. It has no pages.
abbrev pub IsEmptyTable : Tree → Type 0
IsEmptyTable table = (table.root ≡ 0) × (table.levels ≡ 0) × (table.count ≡ 0) × (table.changes ≡ 0) × (table.last ≡ 0)
