-- The entries of a node cut a piece into cells: the keys that lead to an entry, version by version.
use Rattle.std.specs.Prelude.{◌≡◌, ℕ, ◌+◌, ◌%◌, ◌^◌, ◌<◌, ◌≤◌, ◌==◌, ◌&&◌, Bool, nat_lt, nat_le, max, min, if◌then◌else◌, List, [], ◌∷◌, Option}
use Rattle.ports.specs.Pages.{PageMap}
use Rattle.key_check.specs.declared.corner.Corner.{Corner}
use Rattle.key_check.specs.Sums.{corner_sum}
use Rattle.page_layout.specs.declared.mv_node.MvEntry.{MvEntry}
use Rattle.mv_pages.specs.Alive.{or_later, value_of}
use Rattle.mv_pages.specs.Lows.{alive_lows}
use Rattle.mvsb_tree.specs.Stands.{NodeStands, StandsOnWay, ends_after, first_of}
use Rattle.mvsb_tree.specs.Steps.{total_below}
use Rattle.mvsb_tree.specs.Ways.{IsKeyIn}
use Rattle.key_check.specs.Pieces.{is_in_piece}
use Rattle.key_check.specs.declared.piece.Piece.{Piece}

-- At each of the piece's versions its page spells a node that stands.
abbrev pub NodeStandsThroughout : ℕ → PageMap → List ℕ → Piece → Type 0
NodeStandsThroughout level pages nodes piece = (version : ℕ) → piece.from ≤ version → version < piece.to
    → NodeStands pages nodes level piece.page version piece.low piece.high piece.least

-- where the life of an entry ends; one that is open lives on to the end of all versions
abbrev pub end_of : MvEntry → ℕ
end_of e = if e.end == 4294967295 then 2 ^ 32 else e.end

-- the child of an entry, as long as the entry lives within the piece
abbrev pub life_in : Piece → MvEntry → Piece
life_in piece e = record { page = e.child; from = max piece.from e.start; to = min piece.to (end_of e); low = e.low; high = piece.high; least = 24 }

-- where the keys end at a version that lead to an entry with these behind it
abbrev pub next_low : Option ℕ → List MvEntry → ℕ → Option ℕ
next_low high rest version = or_later high (first_of (alive_lows rest version))

-- The child stands for the keys that lead to it, from the beginning of its life to before the version.
abbrev pub CellStands : ℕ → PageMap → List ℕ → Piece → List MvEntry → ℕ → Type 0
CellStands level pages nodes life rest to = (version key : ℕ) → life.from ≤ version → version < to
    → IsKeyIn life.low (next_low life.high rest version) key
    → StandsOnWay level pages nodes life.page version key life.low (next_low life.high rest version) life.least

-- the version and the key lie within these bounds
abbrev pub is_within : ℕ → ℕ → ℕ → Option ℕ → ℕ → ℕ → Bool
is_within from to low high version key = (nat_le from version && nat_lt version to) && (nat_le low key && ends_after high key)

-- what the child comes to for the keys that lead to it, from the beginning of its life to before the version
abbrev pub cell_total : ℕ → PageMap → Piece → List MvEntry → ℕ → ℕ → ℕ → ℕ
cell_total level pages life rest to key version =
    if is_within life.from to life.low (next_low life.high rest version) version key then total_below level pages life.page key version else 0

-- The child of each entry stands for the keys that lead to it, as long as the entry lives within the piece.
abbrev pub CellsStand : ℕ → PageMap → List ℕ → Piece → List MvEntry → Type 0
CellsStand level pages nodes piece [] = Unit {0}
CellsStand level pages nodes piece (e ∷ rest) =
    CellStands level pages nodes (life_in piece e) rest (life_in piece e).to × CellsStand level pages nodes piece rest

-- what they come to together
abbrev pub cells_total : ℕ → PageMap → Piece → List MvEntry → ℕ → ℕ → ℕ
cells_total level pages piece [] key version = 0
cells_total level pages piece (e ∷ rest) key version =
    cell_total level pages (life_in piece e) rest (life_in piece e).to key version + cells_total level pages piece rest key version

-- what the entries themselves come to within the piece
abbrev pub entries_total : Piece → List MvEntry → ℕ → ℕ → ℕ
entries_total piece entries key version = if is_in_piece piece version key then value_of entries key version else 0

-- a weight within these bounds
abbrev pub weight_within : ℕ → ℕ → ℕ → Option ℕ → ℕ → ℕ → ℕ → ℕ
weight_within from to low high weight key version = if is_within from to low high version key then weight else 0

-- The sum of the corners has risen by so much at each key and version.
abbrev pub Adds : (ℕ → ℕ → ℕ) → List Corner → List Corner → Type 0
Adds more old new = (key version : ℕ) → key < 2 ^ 64 → version < 2 ^ 32
    → corner_sum new key version ≡ (corner_sum old key version + more key version) % 2 ^ 128
