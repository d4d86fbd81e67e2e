-- The root from a version on, where an addition closed the one before.
use Rattle.std.specs.Prelude.{◌≡◌, ℕ, ◌+◌, ◌%◌, ◌^◌, ◌<◌, ◌≤◌, ◌⊎◌, Bool, nat_lt, cond, List, [], ◌∷◌, length, Option, Some, None}
use Rattle.ports.specs.Pages.{PageMap}
use Rattle.page_layout.specs.declared.mv_node.MvNode.{MvNode}
use Rattle.page_layout.specs.declared.mv_node.MvEntry.{MvEntry}
use Rattle.mv_pages.specs.Edits.{Cut, new_entry}
use Rattle.mv_pages.specs.Lows.{alive_lows}
use Rattle.mvsb_tree.specs.declared.replaced.Replaced.{Replaced}
use Rattle.mvsb_tree.specs.Grown.{Grown}
use Rattle.mvsb_tree.specs.Stands.{StandsOnWay}
use Rattle.mvsb_tree.specs.Steps.{chain_from, entries_on, root_level, total_below}
use Rattle.mvsb_tree.specs.Stored.{IsNext}
use Rattle.mvsb_tree.specs.Ways.{added_at}

-- the entries of a leaf of one addition: one begins at 0, and one at the key where that is another
abbrev pub first_entries : ℕ → ℕ → ℕ → List MvEntry
first_entries key version value = cond (nat_lt 0 key) (new_entry 0 version 0 0 ∷ new_entry key version value 0 ∷ []) (new_entry key version value 0 ∷ [])

-- the leaf of one addition, the first of a chain
abbrev pub first_node : ℕ → ℕ → ℕ → MvNode
first_node key version value = record { level = 1; place = 1; before = 0; entries = record { items = first_entries key version value } }

-- a root above two pages, before it has its place
abbrev pub root_node : ℕ → ℕ → ℕ → ℕ → ℕ → MvNode
root_node level version first cut second = record {
  level = level;
  place = 1;
  before = 0;
  entries = record { items = new_entry 0 version 0 first ∷ new_entry cut version 0 second ∷ [] };
}

abbrev pub IsTopOf : PageMap → PageMap → ℕ → ℕ → ℕ → Option Cut → ℕ → ℕ → ℕ → Type 0
IsTopOf before after level version first None last new_last top = (top ≡ first) × (after ≡ before) × (new_last ≡ last)
IsTopOf before after level version first (Some second) last new_last top =
    IsNext before after last (root_node (level + 1) version first second.0 second.1) top × (new_last ≡ top)

-- The root is the page still, or the one that took its part; two pages that did have a new root above them.
abbrev pub IsTop : PageMap → PageMap → ℕ → ℕ → ℕ → Option Replaced → ℕ → ℕ → ℕ → Type 0
IsTop before after root level version None last new_last top = (top ≡ root) × (after ≡ before) × (new_last ≡ last)
IsTop before after root level version (Some replaced) last new_last top = IsTopOf before after level version replaced.first replaced.second last new_last top

-- The numbers of two pages that took a root's part, and of their cut, are those of their types.
abbrev pub IsCutTyped : ℕ → Option Cut → Type 0
IsCutTyped first None = Unit {0}
IsCutTyped first (Some second) = (first < 2 ^ 64) × (second.0 < 2 ^ 64) × (second.1 < 2 ^ 64)

abbrev pub IsReplacedTyped : Option Replaced → Type 0
IsReplacedTyped None = Unit {0}
IsReplacedTyped (Some replaced) = IsCutTyped replaced.first replaced.second

-- The root is as high as before, or is a leaf, or it is one higher and leads to two pages.
abbrev pub IsHigher : PageMap → PageMap → ℕ → ℕ → ℕ → Type 0
IsHigher before after root top version =
    (root_level after top ≡ root_level before root) ⊎ (root_level after top ≡ 1)
    ⊎ ((root_level after top ≡ root_level before root + 1) × (2 ≤ length (alive_lows (entries_on after top) version)))

-- The chain has grown, and the ways of all keys at the version stand from the new root down, with so much more from
-- the addition's key on.
pub record RootAdded (test : ℕ → Bool) (before after : PageMap) (root top version key value places last new_last : ℕ) : Type 0 where
  pub new_places : ℕ
  pub grown : Grown version test before after places last new_places new_last
  pub ways : (q : ℕ) → q < 2 ^ 64 → StandsOnWay (root_level after top) after (chain_from new_places after new_last) top version q 0 None 1
  pub totals : (q : ℕ) → q < 2 ^ 64 → total_below (root_level after top) after top q version % 2 ^ 128 ≡ (total_below (root_level before root) before root q version + added_at key value q) % 2 ^ 128
  pub height : IsHigher before after root top version
