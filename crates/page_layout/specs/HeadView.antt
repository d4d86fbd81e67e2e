-- The heads of the journal's groups, read in place.
use Rattle.std.specs.Prelude.{ℕ, ◌<◌, ◌^◌, min, List, drop}
use Rattle.page_layout.specs.Numbers.{number_in}
use Rattle.page_layout.specs.Bytes.{AreBytes, bytes-drop}
use Rattle.page_layout.specs.Head.{IsTyped, head_in}
use Rattle.page_layout.specs.Respelled.{number_in-lt, each_of}

pub head_in-typed : (page : List ℕ) → AreBytes page → IsTyped (head_in page)
head_in-typed page h = each_of (λ home. home < 2 ^ 64) (number_in 8) 8 (number_in-lt 8) (min (number_in 2 (drop 2 page)) 500) (drop 16 page) (bytes-drop 16 page h)
