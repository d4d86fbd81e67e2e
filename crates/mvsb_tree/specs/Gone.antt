-- What it means to free pages in a map that has lost others before.
--
-- Trees are freed one after another, each in a map that has lost the pages of those before it. Which pages a tree has, and
-- what is damaged in it, is told of whatever map this one was before it lost pages.
use Rattle.std.specs.Prelude.{◌≡◌, ℕ, true, ◌⊎◌, List, []}
use Rattle.bw_types.specs.declared.tree.Tree.{Tree}
use Rattle.ports.specs.Frame.{AreInMap, Replaces, names_page}
use Rattle.ports.specs.Pages.{PageMap}
use Rattle.page_layout.specs.Footprint.{IsNamedTwice}
use Rattle.mvsb_tree.specs.Damage.{IsDamagedForFree}
use Rattle.mvsb_tree.specs.Steps.{tree_pages}

-- The pages that are named before were all still there, and are gone; nothing else changed.
abbrev pub AreDropped : (PageMap → List ℕ) → PageMap → PageMap → Type 0
AreDropped named old new = (before : PageMap) (gone : List ℕ) → Replaces gone [] before old
    → AreInMap old (named before) × Replaces (named before) [] old new

-- The page was damaged before, or is named twice there, or is named there and gone.
abbrev pub WasDamaged : (PageMap → List ℕ) → (PageMap → ℕ → Type 0) → PageMap → ℕ → Type 0
WasDamaged named is_damaged old damaged = (before : PageMap) (gone : List ℕ) → Replaces gone [] before old
    → (is_damaged before damaged ⊎ IsNamedTwice (named before) damaged)
    ⊎ ((names_page gone damaged ≡ true) × (names_page (named before) damaged ≡ true))

-- Of the map at the call itself: the pages that it names were there, and are gone; nothing else changed.
abbrev pub DroppedPagesWereThere : Type 0
DroppedPagesWereThere = (named : PageMap → List ℕ) (old new : PageMap) → AreDropped named old new
    → AreInMap old (named old) × Replaces (named old) [] old new

-- What was damaged in a tree, of whatever map this one was before, is damaged in the map at the call itself.
abbrev pub DamageIsThere : Type 0
DamageIsThere = (pages : PageMap) (tree : Tree) (page : ℕ)
    → WasDamaged (λ m. tree_pages m tree) (λ m damaged. IsDamagedForFree m tree damaged) pages page → IsDamagedForFree pages tree page
