-- What a space and a stage show.
use Rattle.std.specs.Prelude.{ℕ, List, length, Result, Ok, Err}
use Rattle.bw_types.specs.declared.params.Params.{Params}
use Rattle.ports.specs.Pages.{PageMap}
use Rattle.page_disk.specs.declared.disk.Disk.{Ghosts}
use Rattle.page_cache.specs.Cache.{kept_pages}
use Rattle.page_layout.specs.declared.meta.Meta.{Meta}
use Rattle.redo_journal.specs.Images.{image_list, image_map}
use Rattle.redo_journal.specs.Placing.{ImageList, placed_at}
use Rattle.page_space.specs.declared.space.Space.{Space}
use Rattle.page_space.specs.declared.staged.Staged.{Staged}
use Rattle.page_space.specs.Begun.{Begun, map_under, chain_under, OrderedUnder}
use Rattle.page_space.specs.Bytes.{PageBytes}
use Rattle.page_space.specs.InUse.{pages_in_use}
use Rattle.page_space.specs.Chain.{FreeInOrder, chain_from}
use Rattle.page_space.specs.MetaSet.{HasMeta}

module _ {D : Type 0} {g : Ghosts D} where
  abbrev pub disk_of : Space D g → D
  disk_of space = space.disk

  abbrev pub params_of : Space D g → Params
  params_of space = space.params

  abbrev pub meta_of : Space D g → Meta
  meta_of space = space.meta

  -- the pages that it keeps in memory
  abbrev pub cached_pages : Space D g → PageMap
  cached_pages space = kept_pages space.cache

  -- what a stage that begins on the space stands on
  abbrev pub begun_of : Space D g → Begun
  begun_of space = record {
    tells = g.tells space.disk;
    image = g.image space.disk;
    moments = g.moments space.disk;
    params = space.params;
    meta = space.meta;
  }

  -- the pages in use
  abbrev pub map_of : Space D g → PageMap
  map_of space = map_under (begun_of space)

  -- the chain of free pages
  abbrev pub chain_of : Space D g → List ℕ
  chain_of space = chain_under (begun_of space)

  -- The free pages are in order.
  abbrev pub IsInOrder : Space D g → Type 0
  IsInOrder space = OrderedUnder (begun_of space)

  -- what the stage stands on
  abbrev pub base_of : Staged D g → Begun
  base_of staged = begun_of staged.space

  -- the disk under the stage
  abbrev pub disk_under : Staged D g → D
  disk_under staged = staged.space.disk

  -- the meta page as it is to be
  abbrev pub staged_meta : Staged D g → Meta
  staged_meta staged = staged.meta

  -- its images, which a commit writes
  abbrev pub staged_images : Staged D g → ImageList
  staged_images staged = image_list staged.images

  -- how many images it has
  abbrev pub image_count : Staged D g → ℕ
  image_count staged = length (staged_images staged)

  -- the bytes at each page: the image where there is one, and else as the disk has it
  abbrev pub staged_bytes : Staged D g → PageBytes
  staged_bytes staged = placed_at (image_map staged.images) (base_of staged).image.pages

  -- the pages in use
  abbrev pub staged_map : Staged D g → PageMap
  staged_map staged = pages_in_use (staged_bytes staged) staged.meta.allotted

  -- the chain of free pages
  abbrev pub staged_chain : Staged D g → List ℕ
  staged_chain staged = chain_from (staged_bytes staged) staged.meta.allotted staged.meta.free

  -- The free pages are in order.
  abbrev pub IsStagedInOrder : Staged D g → Type 0
  IsStagedInOrder staged = FreeInOrder (staged_bytes staged) staged.meta.allotted staged.meta.free

  -- The image of the meta page is the spelling of the meta page as it is to be.
  abbrev pub IsMetaSet : Staged D g → Type 0
  IsMetaSet staged = HasMeta (image_map staged.images) staged.meta

  -- the disk after a commit
  abbrev pub disk_out : Result (Space D g) D → D
  disk_out (Ok space) = space.disk
  disk_out (Err disk) = disk
