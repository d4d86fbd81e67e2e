-- What each kind of crash leaves, of all that may be left.
use Rattle.std.specs.Prelude.{◌≡◌, ℕ, ◌<◌, if◌then◌else◌, List, [], ◌∷◌, length, replicate}
use Rattle.page_disk.specs.declared.torn.Torn.{Torn}
use Rattle.page_disk.specs.declared.torn.Torn.TheVariants.{Lost, Landed, Filled}
use Rattle.page_disk.specs.Image.{PageList, Image, page_at}
use Rattle.page_disk.specs.Moment.{AreaMoment, Moment, is_written}

-- a page full of one byte
unfoldable pub full_of : ℕ → List ℕ
full_of byte = replicate 4096 byte

-- The pages that are pending hold these bytes, and the others are as they read.
pub record IsFilled (bytes : List ℕ) (m : AreaMoment) (pages left : PageList) : Type 0 where
  pub len : length left ≡ length pages
  pub each : (page : ℕ) → page < length pages → page_at left page ≡ (if is_written m page then bytes else page_at pages page)

abbrev pub AreaLeftBy : Torn → AreaMoment → PageList → PageList → Type 0
AreaLeftBy Lost m pages left = left ≡ m.synced
AreaLeftBy Landed m pages left = left ≡ pages
AreaLeftBy (Filled byte) m pages left = IsFilled (full_of byte) m pages left

-- A crash now leaves this of an image that reads so.
abbrev pub LeftBy : Torn → List Moment → Image → Image → Type 0
LeftBy torn [] now left = ⊥
LeftBy torn (m ∷ earlier) now left =
    AreaLeftBy torn m.pages now.pages left.pages × AreaLeftBy torn m.journal now.journal left.journal
