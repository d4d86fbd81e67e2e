-- Entries of one size in a row.
use Rattle.std.specs.Prelude.{◌≡◌, ℕ, zero, suc, ◌+◌, ◌*◌, List, [], ◌∷◌, ◌++◌, length, drop, refl}
use Rattle.std.specs.List.{flat_map, All, AllAdjacentBelow}
use Rattle.std.proofs.Common.{sym, append_assoc, arith, length-append}
use Rattle.std.proofs.lemmas.List.{drop_at}
use Rattle.std.proofs.Math.Nat.{zero-mul, suc-mul}

-- the first n entries of this size, each read by f
unfoldable pub entries_at : {X : Type 0} → (List ℕ → X) → ℕ → ℕ → List ℕ → List X
entries_at f size zero bytes = []
entries_at f size (suc n) bytes = f bytes ∷ entries_at f size n (drop size bytes)

-- each entry keeps its rule, and precedes the next one
pub record AreInOrder {X : Type 0} (keeps : X → Type 0) (precedes : X → X → Type 0) (entries : List X) : Type 0 where
  pub each : All keeps entries
  pub order : AllAdjacentBelow precedes entries (length entries)

pub length-entries : {X : Type 0} (spelling : X → List ℕ) (size : ℕ) (typed : X → Type 0) → ((x : X) → typed x → length (spelling x) ≡ size) → (xs : List X) → All typed xs → length (flat_map spelling xs) ≡ length xs * size
length-entries spelling size typed sized [] all = sym (zero-mul size)
length-entries spelling size typed sized (x ∷ xs) all =
    let product : suc (length xs) * size ≡ length xs * size + size = suc-mul (length xs) size in
    omega (arith, length-append (spelling x) (flat_map spelling xs), sized x (all 0 x (omega arith)), length-entries spelling size typed sized xs (λ k d h. all (suc k) d (omega arith)))

pub entries_at-spelled : {X : Type 0} (spelling : X → List ℕ) (f : List ℕ → X) (size : ℕ) (typed : X → Type 0)
    → ((x : X) → typed x → length (spelling x) ≡ size) → ((x : X) (rest : List ℕ) → typed x → f (spelling x ++ rest) ≡ x)
    → (xs : List X) (rest : List ℕ) → All typed xs → entries_at f size (length xs) (flat_map spelling xs ++ rest) ≡ xs
unfolding entries_at
entries_at-spelled spelling f size typed sized back [] rest all = refl
entries_at-spelled spelling f size typed sized back (x ∷ xs) rest all =
    let others = flat_map spelling xs ++ rest in
    let regroup : (spelling x ++ flat_map spelling xs) ++ rest ≡ spelling x ++ others = append_assoc (spelling x) (flat_map spelling xs) rest in
    let first : f (spelling x ++ others) ≡ x = back x others (all 0 x (omega arith)) in
    let after : drop size (spelling x ++ others) ≡ others = drop_at (spelling x) others size (sized x (all 0 x (omega arith))) in
    let tail : entries_at f size (length xs) others ≡ xs = entries_at-spelled spelling f size typed sized back xs rest (λ k d h. all (suc k) d (omega arith)) in
    rw (regroup, first, after, tail) refl
