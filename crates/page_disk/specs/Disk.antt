-- The answers of a disk.
use Rattle.std.specs.Prelude.{◌≡◌, ℕ, ◌<◌, ◌≤◌, Bool, true, false, List, [], ◌∷◌, length}
use Rattle.page_disk.specs.Image.{PageList, Image, page_at}
use Rattle.page_disk.specs.Moment.{Moment, MayBeLeft}

-- the buffer after a read: whether the page is there, and then its bytes
abbrev pub IsRead : PageList → ℕ → Bool → List ℕ → Type 0
IsRead pages page true after = (page < length pages) × (after ≡ page_at pages page)
IsRead pages page false after = length pages ≤ page

-- Where a disk tells its crashes it tells its image, which is one that a crash now may leave.
abbrev pub TellsImage : Bool → Image → List Moment → Type 0
TellsImage tells image [] = Unit {0}
TellsImage tells image (m ∷ earlier) = (tells ≡ true) × MayBeLeft m image
