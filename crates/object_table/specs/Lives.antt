-- What an object table keeps, as the pages of the map tell it.
use Rattle.std.specs.Prelude.{◌≡◌, ℕ, zero, suc, ◌==◌, nat_le, List, [], ◌∷◌, ◌++◌, reverse, Option, Some, None, ◌+◌}
use Rattle.std.specs.List.{flat_map, filter, find}
use Rattle.bw_types.specs.declared.dated.Dated.{Dated}
use Rattle.bw_types.specs.declared.tree.Tree.{Tree}
use Rattle.ports.specs.Pages.{PageMap}
use Rattle.object_table.specs.declared.form.Form.{Form}
use Rattle.object_table.specs.Keys.{key_of, key, greatest_key}
use Rattle.object_table.specs.Nodes.{objects_on, entries_on}

-- the objects in the leaves from this page down
abbrev pub lives_below : Form → ℕ → PageMap → ℕ → List Dated
lives_below form zero pages page = []
lives_below form (suc zero) pages page = objects_on form pages page
lives_below form (suc (suc level)) pages page = flat_map (λ e. lives_below form (suc level) pages e.child) (entries_on form pages page)

-- the objects in the table's leaves
abbrev pub table_lives : Form → PageMap → Tree → List Dated
table_lives form pages table = lives_below form table.levels pages table.root

-- the pages from this one down
abbrev pub pages_below : Form → ℕ → PageMap → ℕ → List ℕ
pages_below form zero pages page = []
pages_below form (suc zero) pages page = page ∷ []
pages_below form (suc (suc level)) pages page = page ∷ flat_map (λ e. pages_below form (suc level) pages e.child) (entries_on form pages page)

-- the table's footprint
abbrev pub table_pages : Form → PageMap → Tree → List ℕ
table_pages form pages table = pages_below form table.levels pages table.root

-- the last object of the id
abbrev pub last_life : ℕ → List Dated → Option Dated
last_life id lives = find (λ d. d.object.id == id) (reverse lives)

-- the first object of which the key is at least so great
abbrev pub first_from : ℕ → List Dated → Option Dated
first_from least lives = find (λ d. nat_le least (key d)) lives

-- the objects of which the key is at least so great
abbrev pub lives_from : ℕ → List Dated → List Dated
lives_from least lives = filter (λ d. nat_le least (key d)) lives

-- These are the first of the objects from a key on: some, unless there are none.
pub record AreNext (found : List Dated) (least : ℕ) (lives : List Dated) : Type 0 where
  pub later : List Dated
  pub cut : lives_from least lives ≡ found ++ later
  pub some : found ≡ [] → later ≡ []

-- the least key that comes after an id and a life, or the least of all
abbrev pub from_life : Option (ℕ × ℕ) → ℕ
from_life None = 0
from_life (Some after) = key_of after.0 after.1 + 1

-- the least key that comes after an id, or the least of all
abbrev pub from_id : Option ℕ → ℕ
from_id None = 0
from_id (Some id) = greatest_key id + 1
