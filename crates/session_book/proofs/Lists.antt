-- Lists of lists, seen through a function that gives the items of each.
use Rattle.std.proofs.Common.{◌≡◌, ℕ, zero, suc, ◌<◌, List, [], ◌∷◌, ◌++◌, length, map, get_or, set, replicate, refl, arith}
use Rattle.std.proofs.lemmas.List.{get_or-map, set-get_or}

-- one list has one item more at its end
pub set-push : {A X : Type 0} (items : A → List X) (lists : List A) (k : ℕ) (d : A) (seen : List (List X)) (x : X) (now : List X) → k < length lists → map items lists ≡ seen → now ≡ items (get_or lists k d) ++ x ∷ [] → set (map items lists) k now ≡ set seen k (get_or seen k [] ++ x ∷ [])
set-push items lists k d seen x now within view is =
    rw (is, ← get_or-map items lists k d [] within, view) refl

-- one list is as it was
pub set-same : {A X : Type 0} (items : A → List X) (lists : List A) (k : ℕ) (d : A) (seen : List (List X)) (now : List X) → k < length lists → map items lists ≡ seen → now ≡ items (get_or lists k d) → set (map items lists) k now ≡ seen
set-same items lists k d seen now within view is =
    rw (is, ← get_or-map items lists k d [] within, view) (set-get_or seen k [])

-- each list is empty
pub map-empty : {A X : Type 0} (items : A → List X) (lists : List A) (n : ℕ) → length lists ≡ n → ((i : ℕ) (d : A) → i < n → items (get_or lists i d) ≡ []) → map items lists ≡ replicate n []
map-empty items [] zero long empty = refl
map-empty items [] (suc n) long empty = absurd (omega arith)
map-empty items (x ∷ xs) zero long empty = absurd (omega arith)
map-empty items (x ∷ xs) (suc n) long empty =
    let first : items x ≡ [] = empty zero x (omega arith) in
    let others : map items xs ≡ replicate n [] = map-empty items xs n (omega arith) (λ i d lt. empty (suc i) d (omega arith)) in
    rw (first, others) refl
