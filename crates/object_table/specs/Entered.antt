-- What entering an object below a page leaves: the page, or the two pages into which it was split.
use Rattle.std.specs.Prelude.{ℕ, ◌<◌, ◌≤◌, List, [], ◌∷◌, ◌++◌, Option, Some, None}
use Rattle.bw_types.specs.declared.dated.Dated.{Dated}
use Rattle.ports.specs.Pages.{PageMap}
use Rattle.ports.specs.Frame.{Replaces}
use Rattle.page_layout.specs.Footprint.{NamesNoneTwice}
use Rattle.page_layout.specs.LifeNode.{IsLifeEntryTyped}
use Rattle.page_layout.specs.declared.life_node.LifeEntry.{LifeEntry}
use Rattle.object_table.specs.declared.form.Form.TheVariants.{ByLives}
use Rattle.object_table.specs.Keys.{low_key}
use Rattle.object_table.specs.Lives.{lives_below, pages_below}
use Rattle.object_table.specs.Edits.{IsPutIn}
use Rattle.object_table.specs.Stands.{KeepsItsLow, fewest, StandsBelow}

-- the entry of the second page of a split, where there was one
abbrev pub second_entries : Option LifeEntry → List LifeEntry
second_entries None = []
second_entries (Some second) = second ∷ []

-- The page stands as before, or it stands up to where the second one begins, and that one from there on,
-- both with at least the fewest objects or entries of a node below the root.
abbrev pub PartsStand : ℕ → PageMap → ℕ → Option LifeEntry → ℕ → ℕ → ℕ → Type 0
PartsStand level pages page None low high least = StandsBelow ByLives level pages page low high least
PartsStand level pages page (Some second) low high least =
    StandsBelow ByLives level pages page low (low_key second) (fewest ByLives level)
    × StandsBelow ByLives level pages second.child (low_key second) high (fewest ByLives level)
    × KeepsItsLow second (lives_below ByLives level pages second.child)

abbrev pub parts_pages : ℕ → PageMap → ℕ → Option LifeEntry → List ℕ
parts_pages level pages page None = pages_below ByLives level pages page
parts_pages level pages page (Some second) = pages_below ByLives level pages page ++ pages_below ByLives level pages second.child

abbrev pub parts_lives : ℕ → PageMap → ℕ → Option LifeEntry → List Dated
parts_lives level pages page None = lives_below ByLives level pages page
parts_lives level pages page (Some second) = lives_below ByLives level pages page ++ lives_below ByLives level pages second.child

-- What stood below the page stands there with the object, and nothing else changed.
pub record IsEntered (level : ℕ) (before after : PageMap) (page low high least : ℕ) (dated : Dated) (second : Option LifeEntry) : Type 0 where
  pub stands : PartsStand level after page second low high least
  pub once : NamesNoneTwice (parts_pages level after page second)
  pub change : Replaces (pages_below ByLives level before page) (parts_pages level after page second) before after
  pub lives : IsPutIn (lives_below ByLives level before page) (parts_lives level after page second) dated

-- The second page of a split, where there was one, can be named by an entry within the place.
pub record FitsWithin (low high : ℕ) (second : LifeEntry) : Type 0 where
  pub child : 3 ≤ second.child
  pub from : low < low_key second
  pub below : low_key second < high
  pub typed : IsLifeEntryTyped second

abbrev pub SecondFits : ℕ → ℕ → Option LifeEntry → Type 0
SecondFits low high None = Unit {0}
SecondFits low high (Some second) = FitsWithin low high second

-- Where there was a split, the page was full.
abbrev pub WasFull : Option LifeEntry → Type 0 → Type 0
WasFull None full = Unit {0}
WasFull (Some second) full = full

-- the entries of a root above two pages
abbrev pub root_entries : ℕ → LifeEntry → List LifeEntry
root_entries first second = record { low_id = 0; low_life = 0; child = first } ∷ second ∷ []
