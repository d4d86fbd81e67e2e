-- What the copies of a node say, which take its part from a version on.
use Rattle.std.specs.Prelude.{◌≡◌, ℕ, ◌+◌, ◌/◌, ◌%◌, ◌^◌, ◌<◌, ◌≤◌, List, ◌∷◌, ◌++◌, length, map, take, drop, sum_by}
use Rattle.std.specs.List.{All}
use Rattle.page_layout.specs.MvNode.{IsMvEntryTyped, raised_entry}
use Rattle.page_layout.specs.Summed.{raised_first}
use Rattle.page_layout.specs.declared.mv_node.MvNode.{MvNode}
use Rattle.page_layout.specs.declared.mv_node.MvEntry.{MvEntry}
use Rattle.mv_pages.specs.declared.copy.Copied.{Copied}
use Rattle.mv_pages.specs.declared.copy.Copied.TheVariants.{One, Two}
use Rattle.mv_pages.specs.Alive.{alive_at, node_value, child_of, AreEntriesOf, IsChangeable}
use Rattle.mv_pages.specs.Edits.{new_entry}
use Rattle.mv_pages.specs.Lows.{alive_lows}

-- the entry anew, from the version on
abbrev pub renewed : ℕ → MvEntry → MvEntry
renewed version e = new_entry e.low version e.value e.child

-- the entries that are alive at the version, anew from it on
abbrev pub copies : List MvEntry → ℕ → List MvEntry
copies entries version = map (renewed version) (alive_at entries version)

-- the total of the entries' values
abbrev pub total : List MvEntry → ℕ
total entries = sum_by (λ e. e.value) entries

-- the entry with so much more, modulo 2^128
abbrev pub with_more : ℕ → MvEntry → MvEntry
with_more more e = raised_entry e more

-- the entries with so much more in the first, where there is one
abbrev pub first_raised : ℕ → List MvEntry → List MvEntry
first_raised more entries = raised_first raised_entry entries more

-- the first half of the entries, rounded down
abbrev pub first_half : List MvEntry → List MvEntry
first_half entries = take (length entries / 2) entries

-- the rest of the entries, of which the first takes on the values of the first half
abbrev pub second_half : List MvEntry → List MvEntry
second_half entries = first_raised (total (first_half entries) % 2 ^ 128) (drop (length entries / 2) entries)

-- the node with other entries
abbrev pub with_entries : MvNode → List MvEntry → MvNode
with_entries node entries = record { level = node.level; place = node.place; before = node.before; entries = record { items = entries } }

-- Each entry starts at the version and is not closed, so all are alive from it on, no two begin at one low, and they keep the rules.
pub record AreFresh (level version : ℕ) (entries : List MvEntry) : Type 0 where
  pub starts : All (λ e. (e.start ≡ version) × (e.end ≡ 4294967295)) entries
  pub alive : (v : ℕ) → version ≤ v → alive_at entries v ≡ entries
  pub rules : AreEntriesOf level entries
  pub changeable : IsChangeable version entries

-- At the key, from the version on, the copy says what the node does.
pub record Follows (node copy : MvNode) (version key : ℕ) : Type 0 where
  pub value : (v : ℕ) → version ≤ v → node_value copy key v ≡ node_value node key v
  pub child : (v : ℕ) → version ≤ v → child_of copy key v ≡ child_of node key v

-- One node takes the part of another, in which at most 48 entries are alive at the version.
pub record IsOneCopy (node : MvNode) (version : ℕ) (one : MvNode) : Type 0 where
  pub few : length (alive_at node.entries.items version) ≤ 48
  pub made : one ≡ with_entries node (copies node.entries.items version)
  pub count : length one.entries.items ≡ length (alive_at node.entries.items version)
  pub fresh : AreFresh node.level version one.entries.items
  pub follows : (key : ℕ) → Follows node one version key
  pub lows : (v : ℕ) → version ≤ v → alive_lows one.entries.items v ≡ alive_lows node.entries.items v

-- Two nodes take the part of another, in which more are alive: the first below the cut, with the first half
-- of the entries, rounded down, and the second from there on, with the rest, of which the first takes on the
-- values of the first half.
pub record AreTwoCopies (node : MvNode) (version : ℕ) (first : MvNode) (cut : ℕ) (second : MvNode) : Type 0 where
  pub many : 48 < length (alive_at node.entries.items version)
  pub first_made : first ≡ with_entries node (first_half (copies node.entries.items version))
  pub second_made : second ≡ with_entries node (second_half (copies node.entries.items version))
  pub first_count : length first.entries.items ≡ length (alive_at node.entries.items version) / 2
  pub counts : length first.entries.items + length second.entries.items ≡ length (alive_at node.entries.items version)
  pub sizes : (24 ≤ length first.entries.items) × (length first.entries.items ≤ 50) × (24 ≤ length second.entries.items) × (length second.entries.items ≤ 50)
  pub first_lows : All (λ e. e.low < cut) first.entries.items
  pub cut_is : (e : MvEntry) × (rest : List MvEntry) × (second.entries.items ≡ e ∷ rest) × (e.low ≡ cut)
  pub first_fresh : AreFresh node.level version first.entries.items
  pub second_fresh : AreFresh node.level version second.entries.items
  pub below : (key : ℕ) → key < cut → Follows node first version key
  pub above : (key : ℕ) → cut ≤ key → Follows node second version key
  pub lows : (v : ℕ) → version ≤ v → alive_lows first.entries.items v ++ alive_lows second.entries.items v ≡ alive_lows node.entries.items v

-- The copies take the node's part from the version on.
abbrev pub IsCopied : MvNode → ℕ → Copied → Type 0
IsCopied node version (One one) = IsOneCopy node version one
IsCopied node version (Two first cut second) = AreTwoCopies node version first cut second

-- The numbers of the copies' entries are those of their types.
abbrev pub AreTyped : Copied → Type 0
AreTyped (One one) = All IsMvEntryTyped one.entries.items
AreTyped (Two first cut second) = All IsMvEntryTyped first.entries.items × All IsMvEntryTyped second.entries.items
