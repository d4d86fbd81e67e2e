-- What a `MemStage` shows.
use Rattle.std.specs.Prelude.{ℕ, ◌+◌, List, length, reverse}
use Rattle.ports.specs.Pages.{PageMap}
use Rattle.ports.specs.Kept.{kept_of, map_of}
use Rattle.ports.specs.declared.mem_stage.MemStage.{MemStage}

abbrev pub page_map : MemStage → PageMap
page_map stage = map_of (kept_of stage.pages.items)

abbrev pub page_limit : MemStage → ℕ
page_limit stage = stage.limit

abbrev pub allotted_pages : MemStage → ℕ
allotted_pages stage = 3 + length stage.pages.items

-- the pages that were freed, the last one first
abbrev pub chain_of : MemStage → List ℕ
chain_of stage = reverse stage.freed.items

abbrev pub get_count : MemStage → ℕ
get_count stage = stage.gets
