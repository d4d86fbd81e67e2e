-- What a crash may leave, at each moment so far.
use Rattle.std.specs.Prelude.{◌≡◌, ◌⊎◌, ℕ, ◌+◌, ◌<◌, ◌≤◌, max, Bool, false, List, [], ◌∷◌, ◌++◌, length}
use Rattle.ports.specs.Frame.{names_page}
use Rattle.page_disk.specs.declared.disk.Area.{Area}
use Rattle.page_disk.specs.declared.disk.Area.TheVariants.{Pages, Journal}
use Rattle.page_disk.specs.Image.{PageList, Image, page_at, AreWhole}

-- of an area at a moment
pub record AreaMoment : Type 0 where
  -- its pages as of the last sync that succeeded
  pub synced : PageList
  -- the greatest length since
  pub greatest : ℕ
  -- the pages written since
  pub written : List ℕ

pub record Moment : Type 0 where
  pub pages : AreaMoment
  pub journal : AreaMoment

abbrev pub is_written : AreaMoment → ℕ → Bool
is_written m page = names_page m.written page

-- A crash at the moment may leave the area so: its length lies between the synced one and the greatest
-- since, each synced page that was not written since is as it was, and the other pages hold any bytes.
pub record AreaMayBeLeft (m : AreaMoment) (x : PageList) : Type 0 where
  pub no_shorter : length m.synced ≤ length x
  pub no_longer : length x ≤ m.greatest
  pub kept : (page : ℕ) → page < length m.synced → is_written m page ≡ false → page_at x page ≡ page_at m.synced page
  pub whole : AreWhole x

-- A crash at the moment may leave this image, and no other.
pub record MayBeLeft (m : Moment) (x : Image) : Type 0 where
  pub pages : AreaMayBeLeft m.pages x.pages
  pub journal : AreaMayBeLeft m.journal x.journal

-- the moment after a sync that succeeded
abbrev pub area_settled : PageList → AreaMoment
area_settled pages = record { synced = pages; greatest = length pages; written = [] }

abbrev pub settled_moment : Image → Moment
settled_moment x = record { pages = area_settled x.pages; journal = area_settled x.journal }

-- the moment with one more page counted as written
abbrev pub area_counted : ℕ → AreaMoment → AreaMoment
area_counted page m = record { synced = m.synced; greatest = max m.greatest (page + 1); written = m.written ++ page ∷ [] }

abbrev pub counted_in : Area → ℕ → Moment → Moment
counted_in Pages page m = record { pages = area_counted page m.pages; journal = m.journal }
counted_in Journal page m = record { pages = m.pages; journal = area_counted page m.journal }

-- The moments, the newest first, and one more, which is made of the newest. A disk that does not tell its
-- crashes has none, and stays so.
abbrev pub then_moment : {M : Type 0} → (M → M) → List M → List M
then_moment change [] = []
then_moment change (m ∷ earlier) = change m ∷ m ∷ earlier

-- a crash now may leave x
abbrev pub MayBeLeftNow : List Moment → Image → Type 0
MayBeLeftNow [] x = ⊥
MayBeLeftNow (m ∷ earlier) x = MayBeLeft m x

-- The clock: it rises wherever a call changes what a crash may leave.
abbrev pub clock_of : List Moment → ℕ
clock_of moments = length moments

-- a crash at some moment since the clock stood at t may have left x
abbrev pub MayBeLeftSince : List Moment → ℕ → Image → Type 0
MayBeLeftSince [] t x = ⊥
MayBeLeftSince (m ∷ earlier) t x = MayBeLeft m x ⊎ ((t ≤ clock_of earlier) × MayBeLeftSince earlier t x)
