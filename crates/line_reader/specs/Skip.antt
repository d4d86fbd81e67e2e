-- The passing over of a line that is too long.
use Rattle.std.specs.Prelude.{◌≡◌, ℕ, ◌<◌, List, ◌++◌, length}
use Rattle.line_reader.specs.Lines.{HasNoLineFeed}

-- more bytes than most were passed, and no line feed was among them
pub record SkipsTo (most : ℕ) (before after : List ℕ) : Type 0 where
  pub passed : List ℕ
  pub cut : before ≡ passed ++ after
  pub in_line : HasNoLineFeed passed
  pub long : most < length passed
