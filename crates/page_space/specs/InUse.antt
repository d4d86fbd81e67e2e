-- The pages in use.
use Rattle.std.specs.Prelude.{ℕ, nat_le, nat_lt, ◌==◌, ◌&&◌, not, Bool, if◌then◌else◌, List, Some, None, slice_index}
use Rattle.ports.specs.Pages.{PageMap}
use Rattle.page_space.specs.Bytes.{PageBytes}

-- whether the page was ever given out, of which the pages below 3 are none
abbrev pub is_given_out : ℕ → ℕ → Bool
is_given_out allotted page = nat_le 3 page && nat_lt page allotted

-- whether the bytes begin as a free page does
abbrev pub is_free_kind : List ℕ → Bool
is_free_kind bytes = slice_index bytes 0 == 9

-- A page is in use where it was given out and does not begin as a free page.
abbrev pub is_in_use : PageBytes → ℕ → ℕ → Bool
is_in_use bytes allotted page = is_given_out allotted page && not (is_free_kind (bytes page))

-- the pages in use, with their bytes
abbrev pub pages_in_use : PageBytes → ℕ → PageMap
pages_in_use bytes allotted = λ page. if is_in_use bytes allotted page then Some (bytes page) else None
