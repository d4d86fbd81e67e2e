-- Free pages.
use Rattle.std.specs.Prelude.{ℕ, ◌<◌, ◌^◌, List, Bool, ◌||◌, ◌==◌, nat_le, IsTrue}
use Rattle.page_layout.specs.Numbers.{padded}
use Rattle.page_layout.specs.Counted.{front, double_of}
use Rattle.page_layout.specs.declared.free_page.FreePage.{FreePage}

-- the next free page: none, spelled 0, or at least 3
abbrev pub next_fits : ℕ → Bool
next_fits next = next == 0 || nat_le 3 next

-- What a free page is.
abbrev pub IsFreePage : FreePage → Type 0
IsFreePage free = IsTrue (next_fits free.next)

-- The number is that of its type.
abbrev pub IsTyped : FreePage → Type 0
IsTyped free = free.next < 2 ^ 64

-- the page that it is spelled by
abbrev pub free_page_page : FreePage → List ℕ
free_page_page free = padded (front 9 0 0 0 free.next)

-- the free page that a page may spell
abbrev pub free_page_in : List ℕ → FreePage
free_page_in page = record { next = double_of page }
