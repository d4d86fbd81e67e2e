-- What an addition makes of the nodes on its way, in memory before they are stored, and how many pages that takes.
use Rattle.std.specs.Prelude.{◌≡◌, ℕ, zero, suc, ◌+◌, ◌<◌, ◌≤◌, ◌||◌, nat_le, if◌then◌else◌, List, length, Option, Some, None}
use Rattle.ports.specs.Pages.{PageMap}
use Rattle.page_layout.specs.declared.mv_node.MvNode.{MvNode}
use Rattle.page_layout.specs.declared.mv_node.MvEntry.{MvEntry}
use Rattle.mv_pages.specs.Alive.{alive_at, child_of}
use Rattle.mv_pages.specs.Copies.{AreTwoCopies}
use Rattle.mv_pages.specs.Edits.{Cut, LeadsOn, TakesAbove, TakesIn}
use Rattle.mvsb_tree.specs.declared.replaced.Replaced.{Replaced}
use Rattle.mvsb_tree.specs.Steps.{node_on}
use Rattle.mvsb_tree.specs.Stored.{all_start_at}

-- One copy takes the node's part where at most 48 entries are alive at the version, and else two do, the second from the cut on.
abbrev pub AreCopies : MvNode → ℕ → Option Cut → Type 0
AreCopies node version None = length (alive_at node.entries.items version) ≤ 48
AreCopies node version (Some second) = (first : MvNode) × (rest : MvNode) × AreTwoCopies node version first second.0 rest

-- The pages take the node's part, where it has more entries than a page has room for.
abbrev pub TakesPart : MvNode → ℕ → Option Replaced → Type 0
TakesPart node version None = length node.entries.items ≤ 96
TakesPart node version (Some replaced) = (96 < length node.entries.items) × AreCopies node version replaced.second

-- how many new pages that takes: the first of two copies stays in the node's page where the node has no past
abbrev pub new_pages : MvNode → ℕ → ℕ
new_pages node version =
    if nat_le (length node.entries.items) 96 then 0
    else if nat_le (length (alive_at node.entries.items version)) 48 || all_start_at version node.entries.items then 1
    else 2

-- The entry of the child leads to what takes the child's part, if anything does.
abbrev pub IsLedOn : List MvEntry → List MvEntry → ℕ → ℕ → Option Replaced → Type 0
IsLedOn old new key version None = new ≡ old
IsLedOn old new key version (Some replaced) = LeadsOn old new key version replaced.first replaced.second

-- The entries of an index node take an addition below it: the first entry above the key takes the value, and then
-- the entry of the child is led on.
abbrev pub TakesBelow : List MvEntry → List MvEntry → ℕ → ℕ → ℕ → Option Replaced → Type 0
TakesBelow old new key version value replaced = (beside : List MvEntry) × TakesAbove old beside key version value × IsLedOn beside new key version replaced

-- An index node becomes the new one where its child becomes another, with so many new pages below the node.
pub record BecomesAbove (Below : ℕ → MvNode → ℕ → Type 0) (old : MvNode) (key version value : ℕ) (new : MvNode) (taken : ℕ) : Type 0 where
  pub child : ℕ
  pub leads : child_of old key version ≡ Some child
  pub changed : MvNode
  pub before : ℕ
  pub below : Below child changed before
  pub pages : taken ≡ before + new_pages changed version
  pub replaced : Option Replaced
  pub part : TakesPart changed version replaced
  pub takes : TakesBelow old.entries.items new.entries.items key version value replaced

-- A node of the level becomes the new one by an addition, with so many new pages below it.
abbrev pub Becomes : ℕ → PageMap → MvNode → ℕ → ℕ → ℕ → MvNode → ℕ → Type 0
Becomes zero pages old key version value new taken = ⊥
Becomes (suc zero) pages old key version value new taken = TakesIn old.entries.items new.entries.items key version value × (taken ≡ 0)
Becomes (suc (suc level)) pages old key version value new taken =
    BecomesAbove (λ child changed before. Becomes (suc level) pages (node_on pages child) key version value changed before) old key version value new taken
