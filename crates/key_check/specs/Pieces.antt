-- The pieces in which a walk reaches the nodes of a multiversion tree.
use Rattle.std.specs.Prelude.{ℕ, ◌<◌, ◌≤◌, Bool, ◌&&◌, nat_lt, nat_le, if◌then◌else◌, List}
use Rattle.ports.specs.Pages.{PageMap}
use Rattle.mvsb_tree.specs.Stands.{StandsOnWay, ends_after}
use Rattle.mvsb_tree.specs.Steps.{total_below}
use Rattle.page_layout.specs.declared.mv_node.MvEntry.{MvEntry}
use Rattle.mv_pages.specs.Lows.{alive_lows}
use Rattle.mvsb_tree.specs.Ways.{IsKeyIn, LowsCut}
use Rattle.key_check.specs.declared.piece.Piece.{Piece}

-- At the version the alive lows of the entries cut the piece's interval.
abbrev pub StandsAt : List MvEntry → Piece → ℕ → Type 0
StandsAt entries piece version = LowsCut (alive_lows entries version) piece.low piece.high piece.least

-- They do at each of the piece's versions.
abbrev pub StandsThroughout : List MvEntry → Piece → Type 0
StandsThroughout entries piece = (version : ℕ) → piece.from ≤ version → version < piece.to → StandsAt entries piece version

-- The version and the key lie in the piece.
pub record IsInPiece (piece : Piece) (version key : ℕ) : Type 0 where
  pub from : piece.from ≤ version
  pub before : version < piece.to
  pub inside : IsKeyIn piece.low piece.high key

-- whether they do
abbrev pub is_in_piece : Piece → ℕ → ℕ → Bool
is_in_piece piece version key = (nat_le piece.from version && nat_lt version piece.to) && (nat_le piece.low key && ends_after piece.high key)

-- The nodes from the piece's page down stand on the way of each of its keys at each of its versions.
abbrev pub PieceStands : ℕ → PageMap → List ℕ → Piece → Type 0
PieceStands level pages nodes piece = (version key : ℕ) → IsInPiece piece version key
    → StandsOnWay level pages nodes piece.page version key piece.low piece.high piece.least

-- what the nodes of the piece come to at a version and a key: nothing outside it
abbrev pub piece_total : ℕ → PageMap → Piece → ℕ → ℕ → ℕ
piece_total level pages piece version key = if is_in_piece piece version key then total_below level pages piece.page key version else 0
