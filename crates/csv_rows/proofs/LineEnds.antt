-- Two tests of the bytes of a line, one after the other.
use Rattle.std.proofs.Common.{◌≡◌, ℕ, Bool, false, List, [], ◌∷◌, ◌||◌, refl}
use Rattle.std.proofs.lemmas.Bool.{or_parts}
use Rattle.std.specs.List.{list_any}

pub any-second : (p q : ℕ → Bool) (xs : List ℕ) → list_any p xs ≡ false → list_any (λ b. p b || q b) xs ≡ list_any q xs
any-second p q [] h = refl
any-second p q (x ∷ xs) h =
    let none = or_parts (p x) (list_any p xs) h in
    rw (none.0, any-second p q xs none.1) refl
