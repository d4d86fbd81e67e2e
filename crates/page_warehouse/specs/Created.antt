-- A disk on which a warehouse was made.
use Rattle.std.specs.Prelude.{◌≡◌, ◌⊎◌, true, replicate}
use Rattle.bw_types.specs.Empty.{empty_tree}
use Rattle.bw_types.specs.declared.params.Params.{Params}
use Rattle.page_disk.specs.Image.{Image}
use Rattle.page_layout.specs.Meta.{meta_page}
use Rattle.page_layout.specs.declared.meta.Meta.{Meta}
use Rattle.redo_journal.specs.Gates.{IsCreated, is_empty}
use Rattle.page_space.specs.Space.{params_page}
use Rattle.corner_forest.specs.Entries.{root_count}
use Rattle.page_warehouse.specs.declared.creating.Created.{Created}
use Rattle.page_warehouse.specs.declared.creating.Created.TheVariants.{Done, AlreadyThere, Disk}

-- the meta page of a warehouse without versions: only its three first pages are given out
abbrev pub new_meta : Params → Meta
new_meta params = record {
  lives = 1;
  version = 0;
  events = 0;
  rows = 0;
  allotted = 3;
  free = 0;
  mass = 0;
  table = empty_tree;
  roots = record { items = replicate (root_count params) empty_tree };
}

-- The disk has a new warehouse with these params.
abbrev pub IsNew : Params → Image → Type 0
IsNew params x = IsCreated (params_page params) (meta_page (new_meta params)) x

-- There is no warehouse, or a new one.
abbrev pub IsEmptyOrNew : Params → Image → Type 0
IsEmptyOrNew params x = (is_empty x ≡ true) ⊎ IsNew params x

module _ {D : Type 0} where
  -- the disk that is handed back
  abbrev pub created_disk : Created D → D
  created_disk (Done disk) = disk
  created_disk (AlreadyThere disk) = disk
  created_disk (Disk disk) = disk

  abbrev pub IfMade : Created D → Type 0 → Type 0
  IfMade (Done disk) P = P
  IfMade (AlreadyThere disk) P = Unit {0}
  IfMade (Disk disk) P = Unit {0}

  abbrev pub IfThere : Created D → Type 0 → Type 0
  IfThere (Done disk) P = Unit {0}
  IfThere (AlreadyThere disk) P = P
  IfThere (Disk disk) P = Unit {0}

  abbrev pub IfFailed : Created D → Type 0 → Type 0
  IfFailed (Done disk) P = Unit {0}
  IfFailed (AlreadyThere disk) P = Unit {0}
  IfFailed (Disk disk) P = P
