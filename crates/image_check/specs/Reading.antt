-- Reading a table whole.
use Rattle.std.specs.Prelude.{◌≡◌, ℕ, true, IsTrue, List, length}
use Rattle.std.specs.List.{flat_map}
use Rattle.bw_types.specs.declared.dated.Dated.{Dated}
use Rattle.bw_types.specs.declared.tree.Tree.{Tree}
use Rattle.ports.specs.Calls.{WasRead}
use Rattle.ports.specs.Frame.{names_page}
use Rattle.ports.specs.Pages.{PageMap}
use Rattle.ports.specs.declared.pages.Pages.{Ghosts}
use Rattle.page_layout.specs.Footprint.{NamesNoneTwice}
use Rattle.page_layout.specs.declared.life_node.LifeEntry.{LifeEntry}
use Rattle.object_table.specs.declared.form.Form.{Form}
use Rattle.object_table.specs.Keys.{low_key}
use Rattle.object_table.specs.Lives.{lives_below, pages_below, table_pages}
use Rattle.object_table.specs.Stands.{EachStands, KeepsItsLow, StandsBelow, fewest}

-- The pages were only read, each of them once, and only pages of the table.
pub record ReadsEachOnce {P : Type 0} (g : Ghosts P) (form : Form) (table : Tree) (old new : P) : Type 0 where
  pub seen : List ℕ
  pub once : NamesNoneTwice seen
  pub read : WasRead g (length seen) old new
  pub own : IsTrue (g.tells old) → (page : ℕ) → names_page seen page ≡ true → names_page (table_pages form (g.map old) table) page ≡ true

-- These are the pages of the table, each named once.
pub record AreItsPages (form : Form) (map : PageMap) (table : Tree) (pages : List ℕ) : Type 0 where
  pub once : NamesNoneTwice pages
  pub same : (page : ℕ) → names_page pages page ≡ names_page (table_pages form map table) page

-- The entry's child stands up to where the next entry begins, and begins with the entry's low where that has a life.
abbrev pub EntryStands : Form → ℕ → PageMap → LifeEntry → ℕ → Type 0
EntryStands form level pages e to = StandsBelow form level pages e.child (low_key e) to (fewest form level) × KeepsItsLow e (lives_below form level pages e.child)

-- The child of each of the entries stands, up to where the next one begins.
abbrev pub EntriesStand : Form → ℕ → PageMap → List LifeEntry → ℕ → Type 0
EntriesStand form level pages entries high = EachStands (EntryStands form level pages) entries high

-- the pages from the children of the entries down
abbrev pub entry_pages : Form → ℕ → PageMap → List LifeEntry → List ℕ
entry_pages form level pages entries = flat_map (λ e. pages_below form level pages e.child) entries

-- the objects in the leaves from there down
abbrev pub entry_lives : Form → ℕ → PageMap → List LifeEntry → List Dated
entry_lives form level pages entries = flat_map (λ e. lives_below form level pages e.child) entries
