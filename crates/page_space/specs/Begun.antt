-- What stands under a stage.
use Rattle.std.specs.Prelude.{ℕ, Bool, List}
use Rattle.bw_types.specs.declared.params.Params.{Params}
use Rattle.ports.specs.Pages.{PageMap}
use Rattle.page_disk.specs.Image.{Image, page_at}
use Rattle.page_disk.specs.Moment.{Moment}
use Rattle.page_layout.specs.declared.meta.Meta.{Meta}
use Rattle.page_space.specs.Bytes.{PageBytes}
use Rattle.page_space.specs.InUse.{pages_in_use}
use Rattle.page_space.specs.Chain.{FreeInOrder, chain_from}

-- The space that a stage began on: whether its disk tells, the image and the moments so far, its params
-- and its meta page.
pub record Begun : Type 0 where
  pub tells : Bool
  pub image : Image
  pub moments : List Moment
  pub params : Params
  pub meta : Meta

-- the bytes at each of its pages
abbrev pub bytes_under : Begun → PageBytes
bytes_under begun = page_at begun.image.pages

-- the pages that it has in use
abbrev pub map_under : Begun → PageMap
map_under begun = pages_in_use (bytes_under begun) begun.meta.allotted

-- Its free pages are in order.
abbrev pub OrderedUnder : Begun → Type 0
OrderedUnder begun = FreeInOrder (bytes_under begun) begun.meta.allotted begun.meta.free

-- its chain of free pages
abbrev pub chain_under : Begun → List ℕ
chain_under begun = chain_from (bytes_under begun) begun.meta.allotted begun.meta.free
