-- What is stored of a node that was changed, in its page or in those that take its part.
use Rattle.std.specs.Prelude.{◌≡◌, ℕ, ◌+◌, ◌⊎◌, ◌<◌, ◌≤◌, ◌==◌, Bool, true, false, IsTrue, List, length, Option, Some, None}
use Rattle.std.specs.List.{All, list_all}
use Rattle.ports.specs.Pages.{PageMap, put_page}
use Rattle.page_layout.specs.Spelled.{SpellsNone}
use Rattle.page_layout.specs.MvNode.{IsMvNode, IsMvEntryTyped, IsTyped, before_fits, mv_node_page}
use Rattle.page_layout.specs.declared.mv_node.MvNode.{MvNode}
use Rattle.page_layout.specs.declared.mv_node.MvEntry.{MvEntry}
use Rattle.mv_pages.specs.Alive.{AreEntriesOf, IsChangeable, alive_at}
use Rattle.mv_pages.specs.Copies.{AreTwoCopies, IsOneCopy}
use Rattle.mvsb_tree.specs.declared.replaced.Replaced.{Replaced}
use Rattle.mvsb_tree.specs.Damage.{mv_pages}
use Rattle.mvsb_tree.specs.Steps.{node_on}

-- the node with these entries, at the place after that of the last page
abbrev pub next_node : PageMap → ℕ → MvNode → MvNode
next_node map last node = record { level = node.level; place = (node_on map last).place + 1; before = last; entries = node.entries }

-- The page was put to the end of the chain with the node's entries, and nothing else changed.
pub record IsNext (before after : PageMap) (last : ℕ) (node : MvNode) (page : ℕ) : Type 0 where
  pub fresh : before page ≡ None
  pub made : after page ≡ Some (mv_node_page (next_node before last node))
  pub others : (p : ℕ) → (page == p) ≡ false → after p ≡ before p
  pub rules : IsMvNode (next_node before last node)
  pub typed : All IsMvEntryTyped node.entries.items → IsTyped (next_node before last node)

-- The last page of the chain spells no node, or has the last place that there is.
abbrev pub IsLastDamaged : PageMap → ℕ → ℕ → Type 0
IsLastDamaged map last damaged =
    (damaged ≡ last) × (SpellsNone mv_pages map last ⊎ ((node_on map last).place ≡ 4294967295))

-- A node in memory before it is stored: its entries keep the rules of its level, and are at most 99.
pub record IsStorable (version : ℕ) (node : MvNode) : Type 0 where
  pub place : 1 ≤ node.place
  pub before : IsTrue (before_fits node.place node.before)
  pub low_level : 1 ≤ node.level
  pub high_level : node.level ≤ 16
  pub some : 1 ≤ length node.entries.items
  pub few : length node.entries.items ≤ 99
  pub entries : AreEntriesOf node.level node.entries.items
  pub typed : All IsMvEntryTyped node.entries.items
  pub changeable : IsChangeable version node.entries.items
  pub living : 1 ≤ length (alive_at node.entries.items version)

-- The first of two copies is stored in the node's page, or where the node has a past in a new page.
abbrev pub IsFirstStored : Bool → PageMap → PageMap → ℕ → ℕ → ℕ → MvNode → ℕ → Type 0
IsFirstStored true before after page last new_last node first =
    (first ≡ page) × (new_last ≡ last) × (after ≡ put_page before page (mv_node_page node)) × IsMvNode node
IsFirstStored false before after page last new_last node first = (new_last ≡ first) × IsNext before after last node first

-- the entries all start at the version
abbrev pub all_start_at : ℕ → List MvEntry → Bool
all_start_at version entries = list_all (λ e. e.start == version) entries

-- The node is closed: one copy is stored in a new page, or two, of which the first stays in the page where the
-- node has no past.
pub record AreTwoStored (before after : PageMap) (page : ℕ) (node : MvNode) (version last new_last : ℕ) (first cut second : ℕ) : Type 0 where
  pub first_node : MvNode
  pub second_node : MvNode
  pub copies : AreTwoCopies node version first_node cut second_node
  pub typed : All IsMvEntryTyped first_node.entries.items × All IsMvEntryTyped second_node.entries.items
  pub between : PageMap
  pub between_last : ℕ
  pub stored : IsFirstStored (all_start_at version node.entries.items) before between page last between_last first_node first
  pub next : IsNext between after between_last second_node second
  pub ends : new_last ≡ second

abbrev pub IsClosedBy : PageMap → PageMap → ℕ → MvNode → ℕ → ℕ → ℕ → ℕ → Option (ℕ × ℕ) → Type 0
IsClosedBy before after page node version last new_last first None =
    (one : MvNode) × IsOneCopy node version one × All IsMvEntryTyped one.entries.items × IsNext before after last one first × (new_last ≡ first)
IsClosedBy before after page node version last new_last first (Some second) =
    AreTwoStored before after page node version last new_last first second.0 second.1

abbrev pub IsClosed : PageMap → PageMap → ℕ → MvNode → ℕ → ℕ → ℕ → Replaced → Type 0
IsClosed before after page node version last new_last replaced = IsClosedBy before after page node version last new_last replaced.first replaced.second

abbrev pub IsStored : PageMap → PageMap → ℕ → MvNode → ℕ → ℕ → ℕ → Option Replaced → Type 0
IsStored before after page node version last new_last None =
    (length node.entries.items ≤ 96) × (new_last ≡ last) × (after ≡ put_page before page (mv_node_page node)) × IsMvNode node
IsStored before after page node version last new_last (Some replaced) =
    (96 < length node.entries.items) × IsClosed before after page node version last new_last replaced

-- What a cut of the node's copies is.
abbrev pub SplitCut : MvNode → ℕ → Option (ℕ × ℕ) → Type 0
SplitCut node version None = Unit {0}
SplitCut node version (Some second) = (3 ≤ second.1) × (first_node : MvNode) × (second_node : MvNode) × AreTwoCopies node version first_node second.0 second_node

-- The pages that took the node's part can be named, and the cut is one of its copies.
abbrev pub IsSplitOf : MvNode → ℕ → Option Replaced → Type 0
IsSplitOf node version None = Unit {0}
IsSplitOf node version (Some replaced) = (3 ≤ replaced.first) × SplitCut node version replaced.second
