-- What a change of a map of pages leaves alone.
use Rattle.std.specs.Prelude.{◌≡◌, ℕ, ◌==◌, Bool, true, false, List, ◌++◌, None, IsSome}
use Rattle.std.specs.List.{list_any}
use Rattle.ports.specs.Pages.{PageMap}

-- whether the list names this page
abbrev pub names_page : List ℕ → ℕ → Bool
names_page pages page = list_any (λ p. p == page) pages

-- no page is named by both
abbrev pub AreApart : List ℕ → List ℕ → Type 0
AreApart xs ys = (page : ℕ) → names_page xs page ≡ true → names_page ys page ≡ false

-- Each page of the list is in the map.
abbrev pub AreInMap : PageMap → List ℕ → Type 0
AreInMap map pages = (page : ℕ) → names_page pages page ≡ true → IsSome (map page)

-- The two maps have the same bytes at each page of the list.
abbrev pub AgreeOn : List ℕ → PageMap → PageMap → Type 0
AgreeOn pages before after = (page : ℕ) → names_page pages page ≡ true → after page ≡ before page

-- The pages `old` made way for the pages `new`, of which some may be the same, and nothing else changed.
pub record Replaces (old new : List ℕ) (before after : PageMap) : Type 0 where
  -- a page on neither list is as it was
  pub others : (page : ℕ) → names_page old page ≡ false → names_page new page ≡ false → after page ≡ before page
  -- a page that only the new list names was not in the map
  pub fresh : (page : ℕ) → names_page old page ≡ false → names_page new page ≡ true → before page ≡ None
  -- a page that only the old list names is in the map no more
  pub gone : (page : ℕ) → names_page old page ≡ true → names_page new page ≡ false → after page ≡ None

-- No page left the map.
abbrev pub KeepsPages : PageMap → PageMap → Type 0
KeepsPages before after = (page : ℕ) → IsSome (before page) → IsSome (after page)

-- One change after another is a change, whatever the pages in between are.
abbrev pub ChangesCompose : Type 0
ChangesCompose = (a b c : List ℕ) (first second third : PageMap)
    → Replaces a b first second → Replaces b c second third → Replaces a c first third

-- Two changes of different pages, one after the other, are one change of all of them.
abbrev pub ChangesStandBeside : Type 0
ChangesStandBeside = (a b c d : List ℕ) (first second third : PageMap)
    → Replaces a b first second → Replaces c d second third → Replaces (a ++ c) (b ++ d) first third

-- Pages that are in the map, and apart from what a change replaces, stay as they are.
abbrev pub ApartPagesStay : Type 0
ApartPagesStay = (pages old new : List ℕ) (before after : PageMap) → Replaces old new before after
    → AreInMap before pages → AreApart pages old → AgreeOn pages before after × AreApart pages new
