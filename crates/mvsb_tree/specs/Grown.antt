-- How the nodes of a tree grow at a version: the past stays, and the chain gets longer at its end.
use Rattle.std.specs.Prelude.{◌≡◌, ℕ, ◌<◌, true, IsTrue, Bool, List, ◌++◌, None}
use Rattle.std.specs.List.{All}
use Rattle.ports.specs.Pages.{PageMap}
use Rattle.ports.specs.Frame.{names_page, Replaces}
use Rattle.page_layout.specs.Footprint.{NamesNoneTwice}
use Rattle.page_layout.specs.declared.mv_node.MvNode.{MvNode}
use Rattle.mv_pages.specs.Alive.{IsPastOf, child_of, node_value}
use Rattle.mv_pages.specs.Lows.{alive_lows}
use Rattle.mvsb_tree.specs.Stands.{ChainStands}
use Rattle.mvsb_tree.specs.Steps.{chain_from, node_on}

-- At each version before this one the node says what it did; it keeps its level and its place in the chain.
pub record PastStays (version : ℕ) (old new : MvNode) : Type 0 where
  pub level : new.level ≡ old.level
  pub place : new.place ≡ old.place
  pub before : new.before ≡ old.before
  pub values : (key v : ℕ) → v < version → node_value new key v ≡ node_value old key v
  pub children : (key v : ℕ) → v < version → child_of new key v ≡ child_of old key v
  pub lows : (v : ℕ) → v < version → alive_lows new.entries.items v ≡ alive_lows old.entries.items v

-- No entry starts or was closed after the version, and each low in a leaf passes the test.
pub record EntriesHold (version : ℕ) (test : ℕ → Bool) (node : MvNode) : Type 0 where
  pub past : All (IsPastOf version) node.entries.items
  pub lows : node.level ≡ 1 → All (λ e. IsTrue (test e.low)) node.entries.items

-- So it is in each node of the pages.
abbrev pub NodesHold : ℕ → (ℕ → Bool) → PageMap → List ℕ → Type 0
NodesHold version test map nodes = (page : ℕ) → names_page nodes page ≡ true → EntriesHold version test (node_on map page)

-- The chain from the one last page has become that from the other: new pages were put to its end, nodes
-- of it were changed, which say of the past what they did, and nothing else changed in the map.
pub record Grown (version : ℕ) (test : ℕ → Bool) (before after : PageMap) (places last : ℕ) (new_places new_last : ℕ) : Type 0 where
  pub stands : ChainStands new_places after new_last
  pub hold : NodesHold version test after (chain_from new_places after new_last)
  pub new : List ℕ
  pub chain : chain_from new_places after new_last ≡ new ++ chain_from places before last
  pub once : NamesNoneTwice new
  pub fresh : (page : ℕ) → names_page new page ≡ true → before page ≡ None
  pub past : (page : ℕ) → names_page (chain_from places before last) page ≡ true → PastStays version (node_on before page) (node_on after page)
  pub replaces : Replaces (chain_from places before last) (chain_from new_places after new_last) before after
