-- What an addition below a page leaves: the page, or the two pages into which it was split.
use Rattle.std.specs.Prelude.{◌≡◌, ℕ, ◌+◌, ◌%◌, ◌^◌, ◌<◌, ◌≤◌, ◌==◌, ◌||◌, nat_le, if◌then◌else◌, IsTrue, List, ◌++◌, Option, Some, None}
use Rattle.std.specs.List.{All, list_any}
use Rattle.ports.specs.Pages.{PageMap}
use Rattle.ports.specs.Frame.{Replaces}
use Rattle.page_layout.specs.Footprint.{NamesNoneTwice}
use Rattle.sb_tree.specs.declared.second.Second.{Second}
use Rattle.sb_tree.specs.Steps.{total_below, pages_below, lows_below}
use Rattle.sb_tree.specs.Stands.{StandsBelow}

-- The page stands as before, or it stands up to where the second one begins, and that one from there on,
-- both with at least 32 entries.
abbrev pub PartsStand : ℕ → PageMap → ℕ → Option Second → ℕ → ℕ → ℕ → Type 0
PartsStand level pages page None low high least = StandsBelow level pages page low high least
PartsStand level pages page (Some second) low high least =
    StandsBelow level pages page low second.low 32 × StandsBelow level pages second.page second.low high 32

abbrev pub parts_pages : ℕ → PageMap → ℕ → Option Second → List ℕ
parts_pages level pages page None = pages_below level pages page
parts_pages level pages page (Some second) = pages_below level pages page ++ pages_below level pages second.page

abbrev pub parts_lows : ℕ → PageMap → ℕ → Option Second → List ℕ
parts_lows level pages page None = lows_below level pages page
parts_lows level pages page (Some second) = lows_below level pages page ++ lows_below level pages second.page

-- the total at a version: that of the second page from where it begins
abbrev pub parts_total : ℕ → PageMap → ℕ → Option Second → ℕ → ℕ
parts_total level pages page None version = total_below level pages page version
parts_total level pages page (Some second) version =
    if nat_le second.low version then total_below level pages second.page version else total_below level pages page version

-- what an addition adds at a version
abbrev pub added_at : ℕ → ℕ → ℕ → ℕ
added_at from value version = if nat_le from version then value else 0

-- the low is the version of the addition, or one of those before
abbrev pub IsLowOf : List ℕ → ℕ → ℕ → Type 0
IsLowOf lows from low = IsTrue (low == from || list_any (λ l. l == low) lows)

-- The second page of a split, where there was one, can be named by an entry that begins within the place.
abbrev pub SecondFits : ℕ → ℕ → Option Second → Type 0
SecondFits low high None = Unit {0}
SecondFits low high (Some second) =
    (3 ≤ second.page) × (low < second.low) × (second.low < high) × (second.low < 2 ^ 32) × (second.page < 2 ^ 64)

-- Where there was a split, the page was full.
abbrev pub WasFull : Option Second → Type 0 → Type 0
WasFull None full = Unit {0}
WasFull (Some second) full = full

-- From the version on, what stands below the page has so much more, and nothing else changed.
pub record IsRaised (level : ℕ) (before after : PageMap) (page low high least from value : ℕ) (second : Option Second) : Type 0 where
  pub stands : PartsStand level after page second low high least
  pub once : NamesNoneTwice (parts_pages level after page second)
  pub change : Replaces (pages_below level before page) (parts_pages level after page second) before after
  pub lows : All (λ l. IsLowOf (lows_below level before page) from l) (parts_lows level after page second)
  pub values : (version : ℕ) → low ≤ version → version < high
      → parts_total level after page second version % 2 ^ 128 ≡ (total_below level before page version + added_at from value version) % 2 ^ 128
