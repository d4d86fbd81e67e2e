-- What a disk holds is said of the pages that it stands for.
use Rattle.std.proofs.Common.{subst}
use Rattle.bw_types.specs.History.{History}
use Rattle.bw_types.specs.declared.params.Params.{Params}
use Rattle.page_disk.specs.Image.{Image, PageList}
use Rattle.page_layout.specs.declared.meta.Meta.{Meta}
use Rattle.ports.specs.Pages.{PageMap}
use Rattle.redo_journal.specs.Settled.{SettlesTo, SettlesToOne}
use Rattle.page_space.specs.Space.{HoldsSpace}
use Rattle.dom_index.specs.declared.index.DomIndex.{Ghosts}
use Rattle.page_warehouse.specs.Holds.{Holds, HoldsTrees}

pub space_by_pages : SettlesToOne → (x y : Image) (pages : PageList) (params : Params) (meta : Meta) (map : PageMap) (ordered : Type 0) → SettlesTo x pages → SettlesTo y pages
    → HoldsSpace x params meta map ordered → HoldsSpace y params meta map ordered
space_by_pages one x y pages params meta map ordered sx sy h = record {
  pages = h.pages;
  settled = subst (λ (ps : PageList). SettlesTo y ps) (one x pages h.pages sx h.settled) sy;
  space = h.space;
}

module _ {X : Type 0} (g : Ghosts X) (one : SettlesToOne) where
  pub holds_by_pages : (x y : Image) (pages : PageList) (params : Params) (h : History) → SettlesTo x pages → SettlesTo y pages → Holds g x params h → Holds g y params h
  holds_by_pages x y pages params h sx sy held = record {
    meta = held.meta;
    pages = held.pages;
    space = space_by_pages one x y pages params held.meta held.pages _ sx sy held.space;
    tells = held.tells;
    lawful = held.lawful;
    weights = held.weights;
    table = held.table;
    trees = held.trees;
    apart = held.apart;
  }

  pub trees_by_pages : (x y : Image) (pages : PageList) (params : Params) (h : History) → SettlesTo x pages → SettlesTo y pages → HoldsTrees g x params h → HoldsTrees g y params h
  trees_by_pages x y pages params h sx sy held = record {
    meta = held.meta;
    pages = held.pages;
    space = space_by_pages one x y pages params held.meta held.pages _ sx sy held.space;
    tells = held.tells;
    lawful = held.lawful;
    weights = held.weights;
    trees = held.trees;
  }
