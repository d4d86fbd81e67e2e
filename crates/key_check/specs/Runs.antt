-- Entries with the same low and child whose lives follow one another are a run: together they are one cell.
use Rattle.std.specs.Prelude.{◌≡◌, ℕ, ◌==◌, ◌&&◌, Bool, nat_lt, max, min, if◌then◌else◌, List, [], ◌∷◌, drop}
use Rattle.page_layout.specs.declared.mv_node.MvEntry.{MvEntry}
use Rattle.key_check.specs.Cells.{end_of}
use Rattle.key_check.specs.declared.piece.Piece.{Piece}

-- The second entry leads the same low on to the same child where the first one ends, and both live.
abbrev pub continues : MvEntry → MvEntry → Bool
continues e f = (e.low == f.low && e.child == f.child) && (nat_lt e.start (end_of e) && (end_of e == f.start && nat_lt f.start (end_of f)))

-- where the run ends that begins with an entry and goes on in these behind it
abbrev pub run_end : MvEntry → List MvEntry → ℕ
run_end e [] = end_of e
run_end e (f ∷ rest) = if continues e f then run_end f rest else end_of e

-- the entries behind the run
abbrev pub after_run : MvEntry → List MvEntry → List MvEntry
after_run e [] = []
after_run e (f ∷ rest) = if continues e f then after_run f rest else f ∷ rest

-- The run that begins at this place of the entries ends there, and these are behind it.
abbrev pub IsRun : List MvEntry → ℕ → ℕ → ℕ → Type 0
IsRun entries place end behind = (e : MvEntry) (rest : List MvEntry) → drop place entries ≡ e ∷ rest
    → (end ≡ run_end e rest) × (drop behind entries ≡ after_run e rest)

-- the child of an entry from its start to before an end, as far as that is within the piece
abbrev pub life_until : Piece → MvEntry → ℕ → Piece
life_until piece e end = record { page = e.child; from = max piece.from e.start; to = min piece.to end; low = e.low; high = piece.high; least = 24 }
