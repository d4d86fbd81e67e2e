-- What a page spells, for any type of which pages spell values.
use Rattle.std.specs.Prelude.{◌≡◌, ℕ, List, Some}
use Rattle.ports.specs.Pages.{PageMap}
use Rattle.page_layout.specs.declared.spelled.Spelled.{Ghosts}

-- The bytes are the spelling of the value, which keeps the rules, and whose numbers are those of their types.
pub record Spells {T : Type 0} (g : Ghosts T) (value : T) (bytes : List ℕ) : Type 0 where
  pub spelled : bytes ≡ g.spelling value
  pub rules : g.keeps value
  pub typed : g.is_typed value

-- The page is missing, or spells no such value.
abbrev pub SpellsNone : {T : Type 0} → Ghosts T → PageMap → ℕ → Type 0
SpellsNone {T} g map page = (value : T) (bytes : List ℕ) → map page ≡ Some bytes → Spells g value bytes → ⊥
