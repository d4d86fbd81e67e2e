-- How many page numbers a batch may give out.
use Rattle.std.specs.Prelude.{ℕ, ◌+◌, ◌*◌, ◌<◌, ◌≤◌, ◌==◌, if◌then◌else◌, List, length}
use Rattle.std.specs.List.{All}
use Rattle.bw_types.specs.History.{History, changes, flat}
use Rattle.bw_types.specs.declared.params.Params.{Params}
use Rattle.bw_types.specs.declared.row.Row.{Row}
use Rattle.bw_types.specs.declared.tree.Tree.{Tree}
use Rattle.page_disk.specs.Image.{Image, PageList, page_at}
use Rattle.page_layout.specs.Meta.{meta_in}
use Rattle.page_layout.specs.declared.meta.Meta.{Meta}
use Rattle.redo_journal.specs.Settled.{SettlesTo}
use Rattle.corner_forest.specs.Entries.{point_count, root_count}
use Rattle.page_warehouse.specs.Growth.{most_growth}

-- the objects of a table of the earlier form, which the next commit writes anew
abbrev pub old_objects : Meta → ℕ
old_objects meta = if meta.lives == 0 then meta.table.count else 0

-- the page numbers that are given out, and those that writing the table anew may take
abbrev pub meta_charge : Meta → ℕ
meta_charge meta = meta.allotted + 8 * old_objects meta

-- the same of these pages, by the meta page among them
abbrev pub pages_charge : PageList → ℕ
pages_charge pages = meta_charge (meta_in (page_at pages 2))

-- the same of a disk, by the meta page that it has in its place
abbrev pub charge_of : Image → ℕ
charge_of x = pages_charge x.pages

-- the most that so many changes take after so many others: 8 in the table for each, and what its entry takes in the trees
abbrev pub changes_need : Params → ℕ → ℕ → ℕ
changes_need params earlier n = n * (8 + most_growth params (earlier + n))

-- the most that a batch takes on a history
abbrev pub batch_need : Params → History → List Row → ℕ
batch_need params h rows = changes_need params (length (changes h)) (length (flat rows))

-- The trees stay one page each: over two or three dimensions, each tree has one page at most, and the points of so many changes
-- have room on it.
pub record StayOnePage (params : Params) (n : ℕ) (roots : List Tree) : Type 0 where
  pub dims : 2 ≤ params.dims
  pub low : All (λ t. t.levels ≤ 1) roots
  pub room : (root : ℕ) → root < root_count params → n * point_count params root ≤ 64

-- So do the trees of the meta page among these pages, with the changes of the history and of the batch.
abbrev pub StaysSmallIn : PageList → Params → History → List Row → Type 0
StaysSmallIn pages params h rows = StayOnePage params (length (changes h) + length (flat rows)) (meta_in (page_at pages 2)).roots.items

-- So do those of the meta page that this disk has in its place.
abbrev pub StaysSmall : Image → Params → History → List Row → Type 0
StaysSmall x params h rows = StaysSmallIn x.pages params h rows

-- the most that so many changes take in trees that stay one page each: 8 in the table for each, and a first page for each tree
abbrev pub small_need : Params → ℕ → ℕ
small_need params n = 8 * n + root_count params

-- By its numbers a batch may find no page among these: what it may give out passes the limit.
pub record LacksPagesIn (pages : PageList) (params : Params) (h : History) (rows : List Row) : Type 0 where
  pub need : params.pages < pages_charge pages + batch_need params h rows
  pub small : StaysSmallIn pages params h rows → params.pages < pages_charge pages + small_need params (length (flat rows))

-- By its numbers a batch may find no page on the pages that this disk stands for: what it may give out passes the limit.
abbrev pub LacksPages : Image → Params → History → List Row → Type 0
LacksPages x params h rows = (pages : PageList) → SettlesTo x pages → LacksPagesIn pages params h rows

-- After a batch was put last, this disk has given out no more than that.
pub record RisesWithin (x : Image) (params : Params) (h : History) (rows : List Row) (y : Image) : Type 0 where
  pub need : charge_of y ≤ charge_of x + batch_need params h rows
  pub small : StaysSmall x params h rows → charge_of y ≤ charge_of x + small_need params (length (flat rows))
