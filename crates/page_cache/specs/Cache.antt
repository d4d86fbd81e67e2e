-- Which pages a cache keeps, and how it agrees with a disk.
use Rattle.std.specs.Prelude.{◌≡◌, ◌⊎◌, ℕ, ◌<◌, ◌≤◌, ◌==◌, Bool, true, false, length, nat_eq, if◌then◌else◌, List, Some, IsSome, option_map}
use Rattle.std.specs.Box.{box_value}
use Rattle.std.specs.Map.{lookup}
use Rattle.ports.specs.Frame.{names_page}
use Rattle.ports.specs.Pages.{PageMap}
use Rattle.ports.specs.declared.page.PageFault.{PageFault}
use Rattle.ports.specs.declared.page.PageFault.TheVariants.{Disk, Damaged}
use Rattle.page_disk.specs.Image.{PageList, page_at}
use Rattle.page_cache.specs.declared.cache.Cache.{Cache}

-- the pages that it keeps, with their bytes
abbrev pub kept_pages : Cache → PageMap
kept_pages cache = λ page. option_map (λ kept. box_value kept) (lookup (nat_eq page) cache.pages.entries)

-- how many pages it keeps at most
abbrev pub capacity : Cache → ℕ
capacity cache = cache.pages.cap

-- At most so many pages are kept: some list of no more pages names each that is.
pub record KeepsAtMost (kept : PageMap) (most : ℕ) : Type 0 where
  pub pages : List ℕ
  pub few : length pages ≤ most
  pub all : (page : ℕ) → IsSome (kept page) → names_page pages page ≡ true

-- Each page that is kept is as the area has it.
abbrev pub Agrees : PageMap → PageList → Type 0
Agrees kept area = (page : ℕ) (bytes : List ℕ) → kept page ≡ Some bytes → (page < length area) × (page_at area page ≡ bytes)

-- Each page that is kept was kept before with the same bytes, or is this one with these.
abbrev pub KeepsNoOther : PageMap → PageMap → ℕ → List ℕ → Type 0
KeepsNoOther old new page bytes = (p : ℕ) (b : List ℕ) → new p ≡ Some b → (old p ≡ Some b) ⊎ ((p ≡ page) × (b ≡ bytes))

-- the same pages, this one with these bytes where it is kept
abbrev pub renewed : PageMap → ℕ → List ℕ → PageMap
renewed kept page bytes = λ p. if page == p then option_map (λ _. bytes) (kept p) else kept p

-- whether the device failed
abbrev pub is_disk : PageFault → Bool
is_disk Disk = true
is_disk (Damaged page) = false
