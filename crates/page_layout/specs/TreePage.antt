-- Pages of trees.
use Rattle.std.specs.Prelude.{◌≡◌, ℕ, List, Some}
use Rattle.ports.specs.Pages.{PageMap}
use Rattle.page_layout.specs.declared.spelled.Spelled.{Ghosts}

-- The bytes spell a value of this level.
pub record FitsLevel {T : Type 0} (g : Ghosts T) (level_in : T → ℕ) (level : ℕ) (value : T) (bytes : List ℕ) : Type 0 where
  pub spelled : bytes ≡ g.spelling value
  pub rules : g.keeps value
  pub typed : g.is_typed value
  pub at_level : level_in value ≡ level

-- The page is missing, or spells no value of this level.
abbrev pub HoldsNoLevel : {T : Type 0} → Ghosts T → (T → ℕ) → PageMap → ℕ → ℕ → Type 0
HoldsNoLevel {T} g level_in map level page =
    (value : T) (bytes : List ℕ) → map page ≡ Some bytes → FitsLevel g level_in level value bytes → ⊥

-- The bytes spell a value of this level that the place admits.
pub record FitsPlace {T L : Type 0} (g : Ghosts T) (level_in : T → ℕ) (admits : ℕ → L → T → Type 0) (level : ℕ) (place : L) (value : T) (bytes : List ℕ) : Type 0 where
  pub fits : FitsLevel g level_in level value bytes
  pub admitted : admits level place value
