-- What holds of each moment of a stretch of calls.
use Rattle.std.specs.Prelude.{◌≡◌, ◌⊎◌, ℕ, ◌≤◌, List}
use Rattle.page_disk.specs.Image.{Image}
use Rattle.page_disk.specs.Moment.{Moment, MayBeLeft, MayBeLeftNow, MayBeLeftSince, clock_of, settled_moment, then_moment}

-- A crash now leaves this image and no other: nothing is pending.
abbrev pub LeavesNow : List Moment → Image → Type 0
LeavesNow moments image = (x : Image) → MayBeLeftNow moments x → x ≡ image

-- From the one list of moments to the other: whatever a crash since a time before may have left, it
-- might have left already then, or it has P.
pub record LeavesOnly (P : Image → Type 0) (old new : List Moment) : Type 0 where
  pub later : clock_of old ≤ clock_of new
  pub each : (t : ℕ) (x : Image) → t ≤ clock_of old → MayBeLeftSince new t x → MayBeLeftSince old t x ⊎ P x

-- After a sync that succeeds the image as it read is the only one that may be left.
abbrev pub SyncLeavesOne : Type 0
SyncLeavesOne = (image x : Image) → MayBeLeft (settled_moment image) x → x ≡ image

-- Since the clock's own time a crash may have left what it may leave now.
abbrev pub SinceNowIsNow : Type 0
SinceNowIsNow = (moments : List Moment) (x : Image) → MayBeLeftSince moments (clock_of moments) x → MayBeLeftNow moments x

-- After a sync that succeeds nothing is pending.
abbrev pub SyncSettles : Type 0
SyncSettles = (image : Image) (moments : List Moment) → LeavesNow (then_moment (λ _. settled_moment image) moments) image
