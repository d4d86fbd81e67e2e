-- The ways of keys through a tree at one version, and how an addition raises them.
use Rattle.std.specs.Prelude.{◌≡◌, ℕ, zero, suc, ◌+◌, ◌%◌, ◌^◌, ◌<◌, ◌≤◌, nat_le, cond, Bool, IsTrue, List, [], ◌∷◌, length, Option, Some, None}
use Rattle.std.specs.List.{All}
use Rattle.std.specs.Option.{option_map_or}
use Rattle.ports.specs.Pages.{PageMap}
use Rattle.page_layout.specs.declared.mv_node.MvNode.{MvNode}
use Rattle.mv_pages.specs.Alive.{child_of}
use Rattle.mv_pages.specs.Edits.{Cut}
use Rattle.mv_pages.specs.Lows.{alive_lows, ascend}
use Rattle.mvsb_tree.specs.declared.replaced.Replaced.{Replaced}
use Rattle.mvsb_tree.specs.Changed.{cut_of, part_page}
use Rattle.mvsb_tree.specs.Stands.{StandsOnWay, ends_after, first_of, inner_high, inner_low}
use Rattle.mvsb_tree.specs.Grown.{Grown}
use Rattle.mvsb_tree.specs.Steps.{chain_from, node_on, node_total, total_below}

-- the pages on the way of a key at a version, from this page of the level down
abbrev pub way_pages : ℕ → PageMap → ℕ → ℕ → ℕ → List ℕ
way_pages zero map page key version = []
way_pages (suc level) map page key version =
    page ∷ option_map_or (λ child. way_pages level map child key version) (child_of (node_on map page) key version) []

-- The key lies in the interval.
pub record IsKeyIn (low : ℕ) (high : Option ℕ) (key : ℕ) : Type 0 where
  pub from : low ≤ key
  pub before : IsTrue (ends_after high key)
  pub fits : key < 2 ^ 64

-- What stands below a node on the way of a key.
abbrev pub BelowStands : ℕ → PageMap → List ℕ → MvNode → ℕ → ℕ → ℕ → Option ℕ → Type 0
BelowStands zero map nodes node version key low high = ⊥
BelowStands (suc zero) map nodes node version key low high = Unit {0}
BelowStands (suc (suc level)) map nodes node version key low high =
    (child : ℕ) × (child_of node key version ≡ Some child)
    × StandsOnWay (suc level) map nodes child version key (inner_low low (alive_lows node.entries.items version) key)
    (inner_high high (alive_lows node.entries.items version) key) 24

-- The alive lows of a node cut an interval.
pub record LowsCut (lows : List ℕ) (low : ℕ) (high : Option ℕ) (least : ℕ) : Type 0 where
  pub differ : IsTrue (ascend lows)
  pub begins : first_of lows ≡ Some low
  pub ends : All (λ l. IsTrue (ends_after high l)) lows
  pub filled : least ≤ length lows

-- A node in memory stands for the keys of an interval, with what is below it, and has these totals.
pub record NodeWays (map : PageMap) (nodes : List ℕ) (node : MvNode) (version low : ℕ) (high : Option ℕ) (least : ℕ) (total : ℕ → ℕ) : Type 0 where
  pub cut : LowsCut (alive_lows node.entries.items version) low high least
  pub below : (key : ℕ) → IsKeyIn low high key → BelowStands node.level map nodes node version key low high
  pub totals : (key : ℕ) → IsKeyIn low high key → node_total map node key version % 2 ^ 128 ≡ total key % 2 ^ 128

-- where the interval of a part begins and ends that has the key
abbrev pub cut_low : ℕ → Option Cut → ℕ → ℕ
cut_low low None key = low
cut_low low (Some second) key = cond (nat_le second.0 key) second.0 low

abbrev pub cut_high : Option ℕ → Option Cut → ℕ → Option ℕ
cut_high high None key = high
cut_high high (Some second) key = cond (nat_le second.0 key) high (Some second.0)

-- two parts have 24 alive entries each
abbrev pub cut_least : ℕ → Option Cut → ℕ
cut_least least None = least
cut_least least (Some second) = 24

-- The page of an interval, or what took its part, stands for its keys at the version, with these totals.
pub record PartsStand (level : ℕ) (map : PageMap) (nodes : List ℕ) (page version low : ℕ) (high : Option ℕ) (least : ℕ) (replaced : Option Replaced) (total : ℕ → ℕ) : Type 0 where
  pub ways : (key : ℕ) → IsKeyIn low high key → StandsOnWay level map nodes (part_page page replaced key) version key
      (cut_low low (cut_of replaced) key) (cut_high high (cut_of replaced) key) (cut_least least (cut_of replaced))
  pub totals : (key : ℕ) → IsKeyIn low high key → total_below level map (part_page page replaced key) key version % 2 ^ 128 ≡ total key % 2 ^ 128

-- what an addition at a key adds at another
abbrev pub added_at : ℕ → ℕ → ℕ → ℕ
added_at key value q = cond (nat_le key q) value 0

-- An addition below a page was taken in: the chain has grown, and the page, or what took its part, stands for the
-- keys with so much more from the addition's key on.
pub record IsAdded (level : ℕ) (test : ℕ → Bool) (before after : PageMap) (page version key value low : ℕ) (high : Option ℕ) (least places last new_last : ℕ) (replaced : Option Replaced) : Type 0 where
  pub new_places : ℕ
  pub grown : Grown version test before after places last new_places new_last
  pub parts : PartsStand level after (chain_from new_places after new_last) page version low high least replaced (λ q. total_below level before page q version + added_at key value q)

-- The nodes on the ways of the keys of an interval stand.
abbrev pub WaysStand : ℕ → PageMap → List ℕ → ℕ → ℕ → ℕ → Option ℕ → ℕ → Type 0
WaysStand level map nodes page version low high least = (q : ℕ) → IsKeyIn low high q → StandsOnWay level map nodes page version q low high least
