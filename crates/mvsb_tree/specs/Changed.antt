-- How an index node changes where a page below it did.
use Rattle.std.specs.Prelude.{◌≡◌, ℕ, ◌<◌, ◌≤◌, nat_le, cond, IsTrue, List, [], ◌∷◌, Option, Some, None}
use Rattle.mv_pages.specs.Edits.{Cut, page_for}
use Rattle.mv_pages.specs.Lows.{greater_low, lesser_low, low_above, low_at, with_low}
use Rattle.mvsb_tree.specs.declared.replaced.Replaced.{Replaced}
use Rattle.mvsb_tree.specs.Stands.{ends_after}

-- The low, where there is one, is at or below the key; and where there is none, nothing is.
abbrev pub IsFrom : Option ℕ → ℕ → Type 0
IsFrom None key = ⊥
IsFrom (Some low) key = low ≤ key

-- There is a low, and it is below the key.
abbrev pub IsAbove : Option ℕ → ℕ → Type 0
IsAbove None key = ⊥
IsAbove (Some low) key = low < key

-- The pages that took a child's part can be named, and the cut lies inside the child's keys.
abbrev pub CutFits : Option ℕ → Option ℕ → Option Cut → Type 0
CutFits low next None = Unit {0}
CutFits low next (Some second) = (3 ≤ second.1) × IsAbove low second.0 × IsTrue (ends_after next second.0)

abbrev pub ReplacedFits : Option ℕ → Option ℕ → Option Replaced → Type 0
ReplacedFits low next None = Unit {0}
ReplacedFits low next (Some replaced) = (3 ≤ replaced.first) × CutFits low next replaced.second

-- the cut of what took a child's part, if any
abbrev pub cut_of : Option Replaced → Option Cut
cut_of None = None
cut_of (Some replaced) = replaced.second

-- the page that a key leads to, where it led to `child`
abbrev pub part_page : ℕ → Option Replaced → ℕ → ℕ
part_page child None key = child
part_page child (Some replaced) key = page_for replaced.first replaced.second key

-- what is added at a key beside the child: the value from the next low on
abbrev pub beside_value : Option ℕ → ℕ → ℕ → ℕ
beside_value None value key = 0
beside_value (Some next) value key = cond (nat_le next key) value 0

-- The lows around a key once a low is put in are those of before and that one, whichever is nearer.
pub record LowsPut (cut : ℕ) (lows : List ℕ) (key : ℕ) : Type 0 where
  pub at : low_at (with_low cut lows) key ≡ greater_low (low_at (cut ∷ []) key) (low_at lows key)
  pub above : low_above (with_low cut lows) key ≡ lesser_low (low_above (cut ∷ []) key) (low_above lows key)
