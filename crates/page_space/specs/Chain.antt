-- The chain of free pages.
use Rattle.std.specs.Prelude.{◌≡◌, ℕ, zero, suc, ◌<◌, ◌≤◌, ◌==◌, ◌&&◌, Bool, if◌then◌else◌, List, [], ◌∷◌}
use Rattle.page_layout.specs.FreePage.{IsFreePage, IsTyped, free_page_page, free_page_in}
use Rattle.page_layout.specs.Footprint.{NamesNoneTwice}
use Rattle.page_layout.specs.declared.free_page.FreePage.{FreePage}
use Rattle.page_space.specs.Bytes.{PageBytes}
use Rattle.page_space.specs.InUse.{is_given_out, is_free_kind}

-- These bytes are those of a free page.
pub record SpellsFree (bytes : List ℕ) (free : FreePage) : Type 0 where
  pub rules : IsFreePage free
  pub typed : IsTyped free
  pub spelled : bytes ≡ free_page_page free

-- This is a page that was given out, and a free page which names the next one.
pub record LeadsOn (bytes : PageBytes) (allotted page : ℕ) (free : FreePage) : Type 0 where
  pub low : 3 ≤ page
  pub high : page < allotted
  pub is_free : SpellsFree (bytes page) free

-- whether the page was given out and begins as a free page, so that it names a next one
abbrev pub names_next : PageBytes → ℕ → ℕ → Bool
names_next bytes allotted page = is_given_out allotted page && is_free_kind (bytes page)

-- the pages from this one on, each named by the one before it, of which so many are looked at
abbrev pub pages_from : PageBytes → ℕ → ℕ → ℕ → List ℕ
pages_from bytes allotted zero first = []
pages_from bytes allotted (suc most) first = if first == 0 then [] else
    first ∷ (if names_next bytes allotted first then pages_from bytes allotted most (free_page_in (bytes first)).next else [])

-- the chain of free pages: the first one, the page that it names, and so on. No more are looked at than
-- were given out.
abbrev pub chain_from : PageBytes → ℕ → ℕ → List ℕ
chain_from bytes allotted first = pages_from bytes allotted allotted first

-- From this page on, each of these pages is a free page that names the one after it, and the last names none.
abbrev pub IsChain : PageBytes → ℕ → ℕ → List ℕ → Type 0
IsChain bytes allotted first [] = first ≡ 0
IsChain bytes allotted first (page ∷ rest) =
    (first ≡ page) × ((free : FreePage) × (LeadsOn bytes allotted page free × IsChain bytes allotted free.next rest))

-- The free pages are in order: from the first one on they are a chain, which names no page twice.
pub record FreeInOrder (bytes : PageBytes) (allotted first : ℕ) : Type 0 where
  pub chain : List ℕ
  pub leads : IsChain bytes allotted first chain
  pub once : NamesNoneTwice chain
