-- Maps of pages.
use Rattle.std.specs.Prelude.{ℕ, ◌==◌, if◌then◌else◌, Option, Some, None, List, replicate}

-- Which pages are there, and their 4096 bytes.
abbrev pub PageMap : Type 0
PageMap = ℕ → Option (List ℕ)

-- the map with these bytes at this page
abbrev pub put_page : PageMap → ℕ → List ℕ → PageMap
put_page map page bytes = λ p. if page == p then Some bytes else map p

-- the map without this page
abbrev pub remove_page : PageMap → ℕ → PageMap
remove_page map page = λ p. if page == p then None else map p

abbrev pub empty_map : PageMap
empty_map = λ _. None

-- a page of zeros
unfoldable pub blank_bytes : List ℕ
blank_bytes = replicate 4096 0
