-- What is so of every space.
use Rattle.std.specs.Prelude.{◌≡◌, ℕ, ◌<◌, ◌≤◌, false, true, None}
use Rattle.bw_types.specs.declared.params.Params.{Params}
use Rattle.bw_types.specs.Fits.{IsInRange}
use Rattle.ports.specs.Pages.{PageMap, empty_map}
use Rattle.page_disk.specs.Image.{PageList, Image, page_at}
use Rattle.page_layout.specs.Meta.{IsMeta, IsTyped, meta_page}
use Rattle.page_layout.specs.declared.meta.Meta.{Meta}
use Rattle.redo_journal.specs.Gates.{IsCreated, is_empty}
use Rattle.redo_journal.specs.Settled.{SettlesTo}
use Rattle.ports.specs.Frame.{names_page}
use Rattle.page_layout.specs.Footprint.{NamesNoneTwice}
use Rattle.page_space.specs.Bytes.{PageBytes}
use Rattle.page_space.specs.InUse.{pages_in_use}
use Rattle.page_space.specs.Chain.{FreeInOrder, IsChain, chain_from}
use Rattle.page_space.specs.Opening.{StandsDamagedAt}
use Rattle.page_space.specs.Settling.{IsBadAt}
use Rattle.page_space.specs.Space.{HoldsSpace, params_page}

-- A warehouse that was made with these params and a meta page by which no page was given out yet is a
-- space with no page in use, whose free pages are in order.
abbrev pub CreatedHolds : Type 0
CreatedHolds = (x : Image) (params : Params) (meta : Meta) → IsInRange params → IsMeta meta → IsTyped meta → meta.allotted ≡ 3 → meta.free ≡ 0
    → IsCreated (params_page params) (meta_page meta) x → HoldsSpace x params meta empty_map (Unit {0})

-- A disk holds one space, whether its free pages are in order or not.
abbrev pub HoldsOne : Type 0
HoldsOne = (x : Image) (params params' : Params) (meta meta' : Meta) (map map' : PageMap)
    → HoldsSpace x params meta map ⊥ → HoldsSpace x params' meta' map' ⊥ → (params ≡ params') × (meta ≡ meta') × (map ≡ map')

-- Where the space that a disk holds has its free pages in order, they are so in the pages that the disk stands for.
abbrev pub HoldsOrder : Type 0
HoldsOrder = (x : Image) (pages : PageList) (params : Params) (meta : Meta) (map : PageMap)
    → HoldsSpace x params meta map (Unit {0}) → SettlesTo x pages → FreeInOrder (page_at pages) meta.allotted meta.free

-- A disk that holds a space is not empty, its journal is not bad, and the pages that it stands for are not
-- damaged: an opening of it is refused only where the device fails or there is no memory.
pub record Opens (x : Image) : Type 0 where
  pub not_empty : is_empty x ≡ false
  pub not_bad : (page : ℕ) → IsBadAt x page → ⊥
  pub not_damaged : (page : ℕ) → StandsDamagedAt x page → ⊥

abbrev pub HeldOpens : Type 0
HeldOpens = (x : Image) (params : Params) (meta : Meta) (map : PageMap) → HoldsSpace x params meta map ⊥ → Opens x

-- Where the free pages are in order, the chain leads from page to page to its end and names none twice;
-- each of its pages was given out and is not in use.
pub record IsChainOfFree (bytes : PageBytes) (allotted first : ℕ) : Type 0 where
  pub leads : IsChain bytes allotted first (chain_from bytes allotted first)
  pub once : NamesNoneTwice (chain_from bytes allotted first)
  pub given_out : (page : ℕ) → names_page (chain_from bytes allotted first) page ≡ true → (3 ≤ page) × (page < allotted)
  pub not_in_use : (page : ℕ) → names_page (chain_from bytes allotted first) page ≡ true → pages_in_use bytes allotted page ≡ None

abbrev pub ChainIsFree : Type 0
ChainIsFree = (bytes : PageBytes) (allotted first : ℕ) → FreeInOrder bytes allotted first → IsChainOfFree bytes allotted first
