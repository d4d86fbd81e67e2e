-- How long the body of a commit makes the journal.
use Rattle.std.specs.Prelude.{ℕ, ◌+◌, ◌/◌}

-- the heads of so many images, one for each 500
abbrev pub head_count : ℕ → ℕ
head_count images = (images + 499) / 500

-- the pages of a journal that holds so many images: its gate, the heads, and the images
abbrev pub journal_length : ℕ → ℕ
journal_length images = 1 + head_count images + images
