-- What a space on a disk that is only read shows.
use Rattle.std.specs.Prelude.{ℕ, Bool, List}
use Rattle.bw_types.specs.declared.params.Params.{Params}
use Rattle.ports.specs.Pages.{PageMap}
use Rattle.page_layout.specs.declared.meta.Meta.{Meta}
use Rattle.page_disk.specs.Image.{Image, page_at}
use Rattle.page_disk.specs.Moment.{Moment}
use Rattle.page_disk.specs.declared.disk.Disk.{Ghosts}
use Rattle.page_space.specs.Bytes.{PageBytes}
use Rattle.page_space.specs.Chain.{FreeInOrder, chain_from}
use Rattle.page_space.specs.InUse.{pages_in_use}
use Rattle.settled_pages.specs.Shown.{pages_shown}
use Rattle.settled_pages.specs.declared.settled.SettledPages.{SettledPages}
use Rattle.settled_pages.specs.declared.space.SettledSpace.{SettledSpace}

-- What is looked at and no get changes: the reference to the disk by its name, whether the disk tells, its
-- image and its moments so far, where its pages were found, the params and the meta page.
pub record Looked : Type 0 where
  pub name : ℕ
  pub tells : Bool
  pub image : Image
  pub moments : List Moment
  pub found : SettledPages
  pub params : Params
  pub meta : Meta

module _ {D : Type 0} {g : Ghosts D} where
  abbrev pub disk_of : SettledSpace D g → D
  disk_of space = space.disk.now

  abbrev pub pages_of : SettledSpace D g → SettledPages
  pages_of space = space.pages.now

  abbrev pub params_of : SettledSpace D g → Params
  params_of space = space.params

  abbrev pub meta_of : SettledSpace D g → Meta
  meta_of space = space.meta.now

  abbrev pub looked_at : SettledSpace D g → Looked
  looked_at space = record {
    name = space.disk.ghost_name;
    tells = g.tells space.disk.now;
    image = g.image space.disk.now;
    moments = g.moments space.disk.now;
    found = space.pages.now;
    params = space.params;
    meta = space.meta.now;
  }

  -- the bytes at each page
  abbrev pub bytes_of : SettledSpace D g → PageBytes
  bytes_of space = page_at (pages_shown (g.image space.disk.now) space.pages.now)

  -- the pages in use
  abbrev pub map_of : SettledSpace D g → PageMap
  map_of space = pages_in_use (bytes_of space) space.meta.now.allotted

  -- the chain of free pages
  abbrev pub chain_of : SettledSpace D g → List ℕ
  chain_of space = chain_from (bytes_of space) space.meta.now.allotted space.meta.now.free

  -- The free pages are in order.
  abbrev pub IsInOrder : SettledSpace D g → Type 0
  IsInOrder space = FreeInOrder (bytes_of space) space.meta.now.allotted space.meta.now.free
