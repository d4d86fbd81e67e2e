-- A batch of entries more in a forest.
use Rattle.std.specs.Prelude.{ℕ, ◌+◌, ◌-◌, ◌*◌, ◌^◌, ◌<◌, Bool, nat_lt, if◌then◌else◌, IsTrue, List, map, get_or}
use Rattle.bw_types.specs.Empty.{empty_tree}
use Rattle.bw_types.specs.Depths.{added_pages}
use Rattle.bw_types.specs.Fits.{object_fits}
use Rattle.bw_types.specs.declared.object.Object.{Object}
use Rattle.bw_types.specs.declared.params.Params.{Params}
use Rattle.bw_types.specs.declared.point.Point.{Point}
use Rattle.bw_types.specs.declared.tree.Tree.{Tree}
use Rattle.ports.specs.Frame.{Replaces}
use Rattle.ports.specs.Pages.{PageMap}
use Rattle.page_layout.specs.Footprint.{NamesNoneTwice}
use Rattle.corner_weights.specs.PlaneSums.{Entered}
use Rattle.dom_index.specs.Growth.{TakesMore, sum_below}
use Rattle.dom_index.specs.declared.index.DomIndex.{Ghosts}
use Rattle.corner_forest.specs.Entries.{AreNextEntries, point_count, root_count, root_points, with_entries}
use Rattle.corner_forest.specs.Stands.{ForestStands, AreBalanced, forest_pages}
use Rattle.corner_forest.specs.Trees.{EachStands}
use Rattle.corner_forest.specs.declared.entry.Entry.{Entry}

-- the entry of this object
abbrev pub entry_of : Object → Bool → ℕ → ℕ → Entered
entry_of o minus event version = record { object = o; event = event; version = version; minus = minus }

-- the entry as one that counts from this version on
abbrev pub entered_at : ℕ → Entry → Entered
entered_at version e = entry_of e.object e.minus e.event version

-- those of a batch, all from the same version on
abbrev pub all_entered_at : ℕ → List Entry → List Entered
all_entered_at version batch = map (entered_at version) batch

-- A forest for these params takes the entry.
abbrev pub CanEnter : Params → Entry → Type 0
CanEnter params e = IsTrue (object_fits params e.object) × (e.event < 2 ^ 28)

-- the most page numbers that the additions of an entry to a tree give out, after so many entries
abbrev pub root_growth : Params → ℕ → ℕ → ℕ
root_growth params entries root = point_count params root * added_pages params.dims ((entries + 1) * point_count params root)

-- those of all trees together
abbrev pub entry_growth : Params → ℕ → ℕ
entry_growth params entries = sum_below (root_count params) (root_growth params entries)

-- those of so many entries, each after the ones before it
abbrev pub batch_growth : Params → ℕ → ℕ → ℕ
batch_growth params entries n = sum_below n (λ k. entry_growth params (entries + k))

-- Each tree has at most one page, on which the points of so many entries more have room.
abbrev pub HaveRoom : Params → ℕ → List Tree → Type 0
HaveRoom params n roots = (root : ℕ) → root < root_count params → TakesMore (n * point_count params root) (get_or roots root empty_tree)

-- the pages that a tree takes for its first point: one where it has none yet
abbrev pub first_page : List Tree → ℕ → ℕ
first_page roots root = 1 - (get_or roots root empty_tree).levels

-- how many trees have no page yet
abbrev pub first_pages : Params → List Tree → ℕ
first_pages params roots = sum_below (root_count params) (first_page roots)

-- The forest stands for the entries and names none of its pages twice, and those of the batch come next.
pub record MayEnter {X : Type 0} (g : Ghosts X) (pages : PageMap) (params : Params) (roots : List Tree) (entries batch : List Entered) : Type 0 where
  pub stands : ForestStands g pages params roots entries
  pub once : NamesNoneTwice (forest_pages g pages params roots)
  pub next : AreNextEntries params entries batch

-- The forest stood for the entries, and stands for those of the batch besides.
pub record ForestEnters {X : Type 0} (g : Ghosts X) (params : Params) (before after : PageMap) (old new : List Tree) (entries batch : List Entered) : Type 0 where
  pub stands : ForestStands g after params new (with_entries batch entries)
  pub once : NamesNoneTwice (forest_pages g after params new)
  pub change : Replaces (forest_pages g before params old) (forest_pages g after params new) before after
  pub balanced : AreBalanced g before params old → AreBalanced g after params new

-- the points of a tree while a batch is entered: those of the trees before `reached` have it
abbrev pub points_reached : Params → List Entered → List Entered → ℕ → ℕ → List Point
points_reached params entries batch reached root =
    if nat_lt root reached then root_points params (with_entries batch entries) root else root_points params entries root

-- The batch is entered in the trees before `reached`. Each is balanced where all were.
pub record IsEntering {X : Type 0} (g : Ghosts X) (params : Params) (before after : PageMap) (old new : List Tree) (entries batch : List Entered) (reached : ℕ) : Type 0 where
  pub stands : EachStands (λ tree points. g.stands after params.dims tree points × (AreBalanced g before params old → g.balanced after params.dims tree))
      (points_reached params entries batch reached) 0 new
  pub once : NamesNoneTwice (forest_pages g after params new)
  pub change : Replaces (forest_pages g before params old) (forest_pages g after params new) before after
