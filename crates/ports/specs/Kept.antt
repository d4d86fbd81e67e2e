-- A list of pages as a map.
use Rattle.std.specs.Prelude.{ℕ, ◌-◌, ◌==◌, nat_le, if◌then◌else◌, List, map, replicate, Option, Some, None, slice_index, slice_index_or}
use Rattle.ports.specs.Pages.{PageMap}
use Rattle.ports.specs.declared.page.TheConstants.{FREE_PAGE}

-- a page of a free one's kind
unfoldable pub freed_bytes : List ℕ
freed_bytes = replicate 4096 FREE_PAGE

-- a page, where its kind is not that of a free one
abbrev pub used_bytes : List ℕ → Option (List ℕ)
used_bytes bytes = if slice_index bytes 0 == FREE_PAGE then None else Some bytes

-- the pages that are in use, each at its place, and nothing at the place of a freed one
abbrev pub kept_of : List (List ℕ) → List (Option (List ℕ))
kept_of pages = map used_bytes pages

-- The first of the list is page 3.
abbrev pub map_of : List (Option (List ℕ)) → PageMap
map_of kept = λ page. if nat_le 3 page then slice_index_or kept (page - 3) None else None
