-- What is stored of a node, in one page or in two.
use Rattle.std.specs.Prelude.{◌≡◌, ℕ, ◌<◌, ◌≤◌, ◌^◌, ◌==◌, false, IsTrue, List, length, drop, Option, Some, None, IsSome}
use Rattle.ports.specs.Pages.{PageMap}
use Rattle.ports.specs.Frame.{names_page}
use Rattle.page_layout.specs.Children.{child_fits}
use Rattle.page_layout.specs.Entries.{AreInOrder}
use Rattle.page_layout.specs.SbNode.{sb_node_page}
use Rattle.page_layout.specs.declared.sb_node.SbNode.{SbNode}
use Rattle.page_layout.specs.declared.sb_node.SbEntry.{SbEntry}
use Rattle.sb_tree.specs.declared.second.Second.{Second}
use Rattle.sb_tree.specs.Edits.{first_half, second_half}
use Rattle.sb_tree.specs.Stands.{first_low}

-- the page of a node of this level with these entries
abbrev pub page_of : ℕ → List SbEntry → List ℕ
page_of level entries = sb_node_page (record { level = level; entries = record { items = entries } })

-- A node in memory before it is stored: its entries keep the rules of its level, and are at most 65.
pub record IsStorable (node : SbNode) : Type 0 where
  pub low_level : 1 ≤ node.level
  pub high_level : node.level ≤ 16
  pub some : 1 ≤ length node.entries.items
  pub few : length node.entries.items ≤ 65
  pub entries : AreInOrder (λ e. IsTrue (child_fits node.level e.child)) (λ e next. e.low < next.low) node.entries.items

-- The page holds the entries: it alone, or, where they are 65, the first half of them, and a page that was
-- in use for nothing the second half. No other page changed.
abbrev pub IsStored : ℕ → List SbEntry → PageMap → PageMap → ℕ → Option Second → Type 0
IsStored level entries before after page None =
    (length entries ≤ 64) × (after page ≡ Some (page_of level entries)) × ((p : ℕ) → (page == p) ≡ false → after p ≡ before p)
IsStored level entries before after page (Some second) =
    (length entries ≡ 65) × (second.low ≡ first_low (drop 32 entries) 0) × (before second.page ≡ None)
    × (after page ≡ Some (page_of level (first_half entries))) × (after second.page ≡ Some (page_of level (second_half entries)))
    × ((p : ℕ) → (page == p) ≡ false → (second.page == p) ≡ false → after p ≡ before p)

-- The second page of a split, where there was one: it was given out, its entries are the second half, and
-- the node was full.
abbrev pub IsSecondOf : List SbEntry → Option Second → Type 0
IsSecondOf entries None = Unit {0}
IsSecondOf entries (Some second) =
    (3 ≤ second.page) × (second.page < 2 ^ 64) × (second.low ≡ first_low (drop 32 entries) 0) × (length entries ≡ 65)

-- The pages of the map that the list does not name are as they were.
abbrev pub OthersStay : List ℕ → PageMap → PageMap → Type 0
OthersStay pages before after = (page : ℕ) → names_page pages page ≡ false → IsSome (before page) → after page ≡ before page
