-- The history that a disk holds.
use Rattle.std.specs.Prelude.{◌≡◌, ◌≤◌, ◌==◌, if◌then◌else◌, List, ◌++◌, length, IsPermutation}
use Rattle.std.specs.List.{All}
use Rattle.bw_types.specs.History.{History, changes, event_count, last_version}
use Rattle.bw_types.specs.Lawful.{IsLawful}
use Rattle.bw_types.specs.Lives.{lives}
use Rattle.bw_types.specs.Refusals.{total_mass}
use Rattle.bw_types.specs.declared.dated.Dated.{Dated}
use Rattle.bw_types.specs.declared.params.Params.{Params}
use Rattle.bw_types.specs.declared.tree.Tree.{Tree}
use Rattle.ports.specs.Pages.{PageMap}
use Rattle.page_disk.specs.Image.{Image, page_at}
use Rattle.page_layout.specs.Footprint.{NamesNoneTwice}
use Rattle.page_layout.specs.Meta.{meta_in}
use Rattle.page_layout.specs.declared.meta.Meta.{Meta}
use Rattle.page_space.specs.Space.{HoldsSpace}
use Rattle.object_table.specs.Lives.{table_pages}
use Rattle.object_table.specs.Stands.{TableStands}
use Rattle.object_table.specs.declared.form.Form.{Form}
use Rattle.object_table.specs.declared.form.Form.TheVariants.{ByIds, ByLives}
use Rattle.dom_index.specs.declared.index.DomIndex.{Ghosts}
use Rattle.corner_forest.specs.Stands.{AreBalanced, ForestStands, forest_pages}
use Rattle.history_laws.specs.Bounds.{HasSmallWeight}
use Rattle.history_laws.specs.Entries.{history_entries}

-- The meta page tells of the history: its last version, its events, its adds and withdrawals, and the mass of all objects that
-- were ever added.
pub record TellsOf (params : Params) (meta : Meta) (h : History) : Type 0 where
  pub version : meta.version ≡ last_version h
  pub events : meta.events ≡ event_count h
  pub rows : meta.rows ≡ length (changes h)
  pub mass : meta.mass ≡ total_mass params (changes h)

-- the form of the object table, by the meta page: the earlier one where `lives` is 0
abbrev pub table_form : Meta → Form
table_form meta = if meta.lives == 0 then ByIds else ByLives

-- The meta page in its place tells of a table by lives.
abbrev pub IsByLives : Image → Type 0
IsByLives x = (meta_in (page_at x.pages 2)).lives ≡ 1

-- In these pages the object table keeps exactly the lives of the history. In the earlier form each life is its id's first.
pub record TableKeeps (pages : PageMap) (meta : Meta) (h : History) : Type 0 where
  pub kept : List Dated
  pub stands : TableStands (table_form meta) pages meta.table kept
  pub all : IsPermutation kept (lives h)
  pub first : meta.lives ≡ 0 → All (λ d. d.life ≡ 1) kept

module _ {X : Type 0} (g : Ghosts X) where
  -- In these pages the trees stand for the entries of the history, each as low as the index keeps it. The index has as many dimensions.
  pub record TreesStand (params : Params) (pages : PageMap) (roots : List Tree) (h : History) : Type 0 where
    pub dims : params.dims ≤ g.DIMS
    pub forest : ForestStands g pages params roots (history_entries h)
    pub balanced : AreBalanced g pages params roots

  -- The disk holds the history as far as queries read: whatever the pages of the object table and the free pages hold.
  pub record HoldsTrees (x : Image) (params : Params) (h : History) : Type 0 where
    pub meta : Meta
    pub pages : PageMap
    pub space : HoldsSpace x params meta pages ⊥
    pub tells : TellsOf params meta h
    pub lawful : IsLawful params h
    pub weights : All HasSmallWeight (changes h)
    pub trees : TreesStand params pages meta.roots.items h

  -- The disk holds the history: in its object table, in its trees, and no page of these is named twice. Its free pages are in order.
  pub record Holds (x : Image) (params : Params) (h : History) : Type 0 where
    pub meta : Meta
    pub pages : PageMap
    pub space : HoldsSpace x params meta pages (Unit {0})
    pub tells : TellsOf params meta h
    pub lawful : IsLawful params h
    pub weights : All HasSmallWeight (changes h)
    pub table : TableKeeps pages meta h
    pub trees : TreesStand params pages meta.roots.items h
    pub apart : NamesNoneTwice (table_pages (table_form meta) pages meta.table ++ forest_pages g pages params meta.roots.items)
