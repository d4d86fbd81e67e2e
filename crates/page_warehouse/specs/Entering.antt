-- What the pages of a stage keep while the changes of a batch are entered, one by one.
use Rattle.std.specs.Prelude.{◌≡◌, ◌≢◌, ℕ, ◌≤◌, Bool, true, false, IsTrue, List, ◌++◌, length, map, Result, Err, OnOk, IsPermutation}
use Rattle.std.specs.List.{All}
use Rattle.bw_types.specs.Fits.{IsInRange}
use Rattle.bw_types.specs.History.{History}
use Rattle.bw_types.specs.Lives.{lives}
use Rattle.bw_types.specs.declared.dated.Dated.{Dated}
use Rattle.ports.specs.Calls.{Changes}
use Rattle.ports.specs.Pages.{PageMap}
use Rattle.ports.specs.declared.page.StageFault.{StageFault}
use Rattle.ports.specs.declared.page.StageFault.TheVariants.{Damaged}
use Rattle.ports.specs.declared.pages.Pages.{Ghosts as PageGhosts}
use Rattle.page_layout.specs.Footprint.{NamesNoneTwice}
use Rattle.page_layout.specs.TreeValue.{plain_tree_fits, tree_fits}
use Rattle.corner_forest.specs.Entries.{root_count}
use Rattle.corner_weights.specs.PlaneSums.{Entered}
use Rattle.object_table.specs.Lives.{table_pages}
use Rattle.object_table.specs.Stands.{TableStands}
use Rattle.object_table.specs.declared.form.Form.TheVariants.{ByIds, ByLives}
use Rattle.dom_index.specs.declared.index.DomIndex.{Ghosts}
use Rattle.corner_forest.specs.Stands.{AreBalanced, ForestStands, forest_pages}
use Rattle.history_laws.specs.Entries.{history_entries}
use Rattle.page_warehouse.specs.Waiting.{LeadTo, entered_at}
use Rattle.page_warehouse.specs.declared.roots.Roots.{Roots}
use Rattle.corner_forest.specs.declared.entry.Entry.{Entry as Waiting}

module _ {X : Type 0} (g : Ghosts X) where
  -- In these pages the table keeps exactly the lives of the history, by lives, and the trees stand for the entries, each as low as
  -- the index keeps it. No page belongs to two of them.
  pub record PagesTell (pages : PageMap) (roots : Roots) (h : History) (entries : List Entered) : Type 0 where
    pub kept : List Dated
    pub stands : TableStands ByLives pages roots.table kept
    pub all : IsPermutation kept (lives h)
    pub forest : ForestStands g pages roots.forest.params roots.forest.roots.items entries
    pub balanced : AreBalanced g pages roots.forest.params roots.forest.roots.items
    pub apart : NamesNoneTwice (table_pages ByLives pages roots.table ++ forest_pages g pages roots.forest.params roots.forest.roots.items)

  -- The trees stand for the history's own entries.
  abbrev pub PagesKeep : PageMap → Roots → History → Type 0
  PagesKeep pages roots h = PagesTell pages roots h (history_entries h)

  -- The table is ahead of the trees: those that wait, in this order, lead from the entries that the trees stand for to those of the
  -- history.
  pub record PagesWait (pages : PageMap) (roots : Roots) (version : ℕ) (h : History) (waiting : List Waiting) : Type 0 where
    pub entered : List Entered
    pub tell : PagesTell pages roots h entered
    pub lead : LeadTo roots.forest.params entered (map (entered_at version) waiting) (history_entries h)

  -- The same of a table of the earlier form.
  pub record OldPagesKeep (pages : PageMap) (roots : Roots) (h : History) : Type 0 where
    pub kept : List Dated
    pub stands : TableStands ByIds pages roots.table kept
    pub all : IsPermutation kept (lives h)
    pub forest : ForestStands g pages roots.forest.params roots.forest.roots.items (history_entries h)
    pub balanced : AreBalanced g pages roots.forest.params roots.forest.roots.items
    pub apart : NamesNoneTwice (table_pages ByIds pages roots.table ++ forest_pages g pages roots.forest.params roots.forest.roots.items)

  abbrev pub FormKeeps : Bool → PageMap → Roots → History → Type 0
  FormKeeps true pages roots h = OldPagesKeep pages roots h
  FormKeeps false pages roots h = PagesKeep pages roots h

-- The table and the trees are such as a meta page may spell, and the forest is one for so many dimensions.
pub record RootsFit (most : ℕ) (roots : Roots) : Type 0 where
  pub in_range : IsInRange roots.forest.params
  pub dims : roots.forest.params.dims ≤ most
  pub count : length roots.forest.roots.items ≡ root_count roots.forest.params
  pub table : IsTrue (plain_tree_fits roots.table)
  pub trees : All (λ t. IsTrue (tree_fits t)) roots.forest.roots.items

-- A call that answers Ok leaves such roots, of a forest for the same params.
abbrev pub StayRoots : {T : Type 0} → ℕ → Roots → Roots → Result T StageFault → Type 0
StayRoots most old new result = (new.forest.params ≡ old.forest.params) × OnOk result (RootsFit most new)

-- A call on a stage whose pages keep a history: it gives out at most so many page numbers, calls no page damaged where the free
-- pages are in order, and leaves what it is to leave.
pub record KeepsOn {P T : Type 0} (s : PageGhosts P) (most : ℕ) (old new : P) (result : Result T StageFault) (Left : Type 0) : Type 0 where
  pub changes : Changes s most old new result
  pub sound : s.free_in_order old → (page : ℕ) → result ≢ Err (Damaged page)
  pub left : OnOk result Left
