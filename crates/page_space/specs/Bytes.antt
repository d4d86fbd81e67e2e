-- The bytes at each page.
use Rattle.std.specs.Prelude.{ℕ, ◌==◌, if◌then◌else◌, List}

-- the bytes at each page number
abbrev pub PageBytes : Type 0
PageBytes = ℕ → List ℕ

-- the same bytes at each page but this one, which has these
abbrev pub bytes_with : PageBytes → ℕ → List ℕ → PageBytes
bytes_with bytes page image = λ p. if page == p then image else bytes p
