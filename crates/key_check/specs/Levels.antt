-- The pieces that a walk has still to go to.
use Rattle.std.specs.Prelude.{◌≡◌, ℕ, ◌+◌, ◌%◌, ◌^◌, ◌<◌, ◌≤◌, IsTrue, List}
use Rattle.std.specs.List.{All, sum_by}
use Rattle.ports.specs.Pages.{PageMap}
use Rattle.key_check.specs.declared.corner.Corner.{Corner}
use Rattle.key_check.specs.Sums.{corner_sum}
use Rattle.mvsb_tree.specs.Stands.{ends_after}
use Rattle.key_check.specs.Pieces.{PieceStands, piece_total}
use Rattle.key_check.specs.declared.leveled.Leveled.{Leveled}

-- The piece has a version and a key, and its level is at most this one.
pub record IsWhole (level : ℕ) (l : Leveled) : Type 0 where
  pub below : l.level ≤ level
  pub some : l.piece.from < l.piece.to
  pub most : l.piece.to ≤ 2 ^ 32
  pub keys : IsTrue (ends_after l.piece.high l.piece.low)
  pub fits : l.piece.low < 2 ^ 64

-- Each of the pieces does.
abbrev pub AreWhole : ℕ → List Leveled → Type 0
AreWhole level pieces = All (IsWhole level) pieces

-- The piece stands with its level.
abbrev pub StandsThere : PageMap → List ℕ → Leveled → Type 0
StandsThere pages nodes l = PieceStands l.level pages nodes l.piece

-- Each of the pieces stands.
abbrev pub PiecesStand : PageMap → List ℕ → List Leveled → Type 0
PiecesStand pages nodes pieces = All (StandsThere pages nodes) pieces

-- what a piece comes to at a key and a version
abbrev pub total_there : PageMap → Leveled → ℕ → ℕ → ℕ
total_there pages l key version = piece_total l.level pages l.piece version key

-- what they come to together
abbrev pub pieces_total : PageMap → List Leveled → ℕ → ℕ → ℕ
pieces_total pages pieces key version = sum_by (λ l. total_there pages l key version) pieces

-- The new pieces stand exactly where the old ones and something more does, and come to as much as these.
pub record Pushes (Stands : Type 0) (total : ℕ → ℕ → ℕ) (pages : PageMap) (nodes : List ℕ) (old new : List Leveled) : Type 0 where
  pub parts : PiecesStand pages nodes new → PiecesStand pages nodes old × Stands
  pub whole : PiecesStand pages nodes old → Stands → PiecesStand pages nodes new
  pub totals : (key version : ℕ) → pieces_total pages new key version ≡ pieces_total pages old key version + total key version

-- The same, where corners count for a part of what is more.
pub record Leaves (Stands : Type 0) (total : ℕ → ℕ → ℕ) (pages : PageMap) (nodes : List ℕ) (old new : List Leveled) (corners new_corners : List Corner) : Type 0 where
  pub parts : PiecesStand pages nodes new → PiecesStand pages nodes old × Stands
  pub whole : PiecesStand pages nodes old → Stands → PiecesStand pages nodes new
  pub totals : (key version : ℕ) → key < 2 ^ 64 → version < 2 ^ 32
      → (corner_sum new_corners key version + pieces_total pages new key version) % 2 ^ 128
      ≡ (corner_sum corners key version + pieces_total pages old key version + total key version) % 2 ^ 128

-- The second piece is of the same node, interval and level, and begins where the first one ends.
pub record Follows (a b : Leveled) : Type 0 where
  pub level : a.level ≡ b.level
  pub page : a.piece.page ≡ b.piece.page
  pub low : a.piece.low ≡ b.piece.low
  pub high : a.piece.high ≡ b.piece.high
  pub least : a.piece.least ≡ b.piece.least
  pub at : a.piece.to ≡ b.piece.from
