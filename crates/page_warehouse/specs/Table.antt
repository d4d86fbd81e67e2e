-- The lives in the object table of a disk that holds a history.
use Rattle.std.specs.Prelude.{◌≡◌, List, IsPermutation}
use Rattle.bw_types.specs.History.{History}
use Rattle.bw_types.specs.Lives.{lives}
use Rattle.bw_types.specs.declared.dated.Dated.{Dated}
use Rattle.bw_types.specs.declared.params.Params.{Params}
use Rattle.page_disk.specs.Image.{Image}
use Rattle.object_table.specs.Laws.{Ascend}
use Rattle.dom_index.specs.declared.index.DomIndex.{Ghosts}
use Rattle.page_warehouse.specs.Holds.{Holds}

module _ {X : Type 0} (g : Ghosts X) where
  -- The disk holds the history, and its object table keeps these lives, in this order.
  pub record KeepsLives (x : Image) (params : Params) (h : History) (kept : List Dated) : Type 0 where
    pub holds : Holds g x params h
    pub table : holds.table.kept ≡ kept

  -- The object table of a disk that holds a history keeps its lives, ascending by id and then by life.
  pub record IsTableOf (x : Image) (params : Params) (h : History) (kept : List Dated) : Type 0 where
    pub keeps : KeepsLives x params h kept
    pub all : IsPermutation kept (lives h)
    pub ascend : Ascend kept

  abbrev pub TablesKeepLives : Type 0
  TablesKeepLives = (x : Image) (params : Params) (h : History) → Holds g x params h → (kept : List Dated) × IsTableOf x params h kept
