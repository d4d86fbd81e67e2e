-- Images in boxes, in the order of their homes.
use Rattle.std.specs.Prelude.{ℕ, nat_lt, ◌&&◌, Bool, true, List, [], ◌∷◌, Option, Some, None, Box}
use Rattle.std.specs.List.{list_all}
use Rattle.std.specs.declared.alloc.Global.{Global}
use Rattle.redo_journal.specs.Placing.{ImageList}

-- what the boxes hold
abbrev pub unboxed : List (ℕ × Box (List ℕ) Global) → ImageList
unboxed [] = []
unboxed (image ∷ images) = (image.0, image.1.value) ∷ unboxed images

-- what a box holds, if there is one
abbrev pub in_box : Option (Box (List ℕ) Global) → Option (List ℕ)
in_box None = None
in_box (Some image) = Some image.value

-- whether each home is below all that come after it
abbrev pub ascends : List ℕ → Bool
ascends [] = true
ascends (home ∷ homes) = list_all (λ next. nat_lt home next) homes && ascends homes
