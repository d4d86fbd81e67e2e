-- What the desk of grids answers by.
use Rattle.std.specs.Prelude.{◌≡◌, false}
use Rattle.bw_types.specs.History.{History}
use Rattle.bw_types.specs.declared.params.Params.{Params}
use Rattle.page_disk.specs.declared.disk.Disk.{Ghosts}
use Rattle.dom_index.specs.declared.index.DomIndex.{Ghosts as IndexGhosts}
use Rattle.warehouse.specs.Left.{IsAsBefore}
use Rattle.page_warehouse.specs.declared.state.Warehouse.{Warehouse}
use Rattle.page_warehouse.specs.Shown.{HasNewForm, HoldsHistory, disk_charge, disk_in, params_in}
use Rattle.grid_report.specs.declared.desk.GridDesk.{GridDesk}

-- a history with what it was made for
pub record Told : Type 0 where
  pub params : Params
  pub history : History

-- the warehouse of the desk
abbrev pub house_of : {D X : Type 0} {d : Ghosts D} {i : IndexGhosts X} → GridDesk D X d i → Warehouse D X d i
house_of desk = desk.house

module _ {D X : Type 0} (d : Ghosts D) (i : IndexGhosts X) where
  -- The warehouse has the params, and its disk holds the history as far as queries read.
  pub record StandsFor (desk : GridDesk D X d i) (told : Told) : Type 0 where
    pub params : params_in (house_of desk) ≡ told.params
    pub holds : HoldsHistory d i false (disk_in (house_of desk)) (params_in (house_of desk)) told.history

  -- the warehouse is as before
  abbrev pub HouseIsAsBefore : GridDesk D X d i → GridDesk D X d i → Type 0
  HouseIsAsBefore old new = IsAsBefore params_in disk_in (HoldsHistory d i) (HasNewForm d) d.tells d.image d.moments (disk_charge d) (house_of old) (house_of new)
