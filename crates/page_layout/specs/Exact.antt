-- Bytes that are the spelling of what they may spell, where some of them are named by no field and have to be 0.
use Rattle.std.specs.Prelude.{◌≡◌, ◌≢◌, ℕ, zero, suc, ◌+◌, ◌-◌, ◌*◌, ◌≤◌, ◌↔◌, List, ◌∷◌, ◌++◌, length, take, drop, slice_index, refl}
use Rattle.std.specs.List.{flat_map}
use Rattle.std.proofs.Common.{sym, ap, ◌∙◌, subst, append_assoc, drop-cons, arith}
use Rattle.std.proofs.Math.Nat.{zero-mul, suc-mul}
use Rattle.std.proofs.lemmas.List.{drop_at, drop-drop, take-append-drop}
use Rattle.page_layout.specs.Numbers.{spelled, number_in, zeros, past_more}
use Rattle.page_layout.specs.Bytes.{AreBytes, bytes-drop}
use Rattle.page_layout.specs.Entries.{entries_at}
use Rattle.page_layout.specs.Respelled.{respelled, respelled_at, number_in-lt}
use Rattle.page_layout.specs.TreeValue.{tree_bytes, tree_at, IsTreeTyped, length-tree}

-- The bytes at the front are the spelling of the value that is read of them.
abbrev pub IsExact : {X : Type 0} → (X → List ℕ) → (List ℕ → X) → ℕ → List ℕ → Type 0
IsExact spelling f size bytes = spelling (f bytes) ++ drop size bytes ≡ bytes

-- So many times in a row.
abbrev pub EachExact : {X : Type 0} → (X → List ℕ) → (List ℕ → X) → ℕ → ℕ → List ℕ → Type 0
EachExact spelling f size zero bytes = Unit {0}
EachExact spelling f size (suc n) bytes = IsExact spelling f size bytes × EachExact spelling f size n (drop size bytes)

-- So many bytes from this place on are 0.
abbrev pub AreZerosAt : ℕ → ℕ → List ℕ → Type 0
AreZerosAt place many bytes = take many (drop place bytes) ≡ zeros many

module _ {X : Type 0} (spelling : X → List ℕ) (f : List ℕ → X) (size : ℕ) where
  -- exact bytes in a row are the spelling of their values in a row
  pub row_exact : (n : ℕ) (bytes : List ℕ) → EachExact spelling f size n bytes → flat_map spelling (entries_at f size n bytes) ++ drop (n * size) bytes ≡ bytes
  unfolding entries_at
  row_exact zero bytes h = ap (λ (k : ℕ). drop k bytes) (zero-mul size)
  row_exact (suc n) bytes h =
      let product : suc n * size ≡ n * size + size = suc-mul n size in
      let others : List ℕ = flat_map spelling (entries_at f size n (drop size bytes)) in
      let places : suc n * size ≡ size + n * size = omega (arith, product) in
      let next : drop (suc n * size) bytes ≡ drop (n * size) (drop size bytes) = ap (λ (k : ℕ). drop k bytes) places ∙ sym (drop-drop (n * size) size bytes) in
      append_assoc (spelling (f bytes)) others (drop (suc n * size) bytes)
      ∙ ap (λ (b : List ℕ). spelling (f bytes) ++ (others ++ b)) next
      ∙ ap (λ (b : List ℕ). spelling (f bytes) ++ b) (row_exact n (drop size bytes) h.1)
      ∙ h.0

  -- and the spelling of values in a row is exact at each of them
  pub exact_row : ((bytes : List ℕ) → AreBytes bytes → length (spelling (f bytes)) ≡ size) → (n : ℕ) (bytes rest : List ℕ) → AreBytes bytes
      → flat_map spelling (entries_at f size n bytes) ++ rest ≡ bytes → EachExact spelling f size n bytes × (rest ≡ drop (n * size) bytes)
  unfolding entries_at
  exact_row sized zero bytes rest h e = (tt, e ∙ sym (ap (λ (k : ℕ). drop k bytes) (zero-mul size)))
  exact_row sized (suc n) bytes rest h e =
      let product : suc n * size ≡ n * size + size = suc-mul n size in
      let first : List ℕ = spelling (f bytes) in
      let others : List ℕ = flat_map spelling (entries_at f size n (drop size bytes)) in
      let right : first ++ (others ++ rest) ≡ bytes = sym (append_assoc first others rest) ∙ e in
      let later : others ++ rest ≡ drop size bytes = sym (drop_at first (others ++ rest) size (sized bytes h)) ∙ ap (λ (b : List ℕ). drop size b) right in
      let more = exact_row sized n (drop size bytes) rest (bytes-drop size bytes h) later in
      let places : size + n * size ≡ suc n * size = omega (arith, product) in (
        (ap (λ (b : List ℕ). first ++ b) (sym later) ∙ right, more.0),
        more.1 ∙ drop-drop (n * size) size bytes ∙ ap (λ (k : ℕ). drop k bytes) places,
      )

  pub each_exact-step : (n : ℕ) (bytes : List ℕ) → n ≢ 0 → EachExact spelling f size n bytes ↔ (IsExact spelling f size bytes × EachExact spelling f size (n - 1) (drop size bytes))
  each_exact-step zero bytes some = absurd (some refl)
  each_exact-step (suc n) bytes some =
      let less : suc n - 1 ≡ n = omega arith in (
        λ h. (h.0, subst (λ (k : ℕ). EachExact spelling f size k (drop size bytes)) (sym less) h.1),
        λ h. (h.0, subst (λ (k : ℕ). EachExact spelling f size k (drop size bytes)) less h.1),
      )

  pub each_exact-at : (m n : ℕ) (a b : List ℕ) → n ≡ m → b ≡ a → EachExact spelling f size n b ↔ EachExact spelling f size m a
  each_exact-at m n a b is_n is_b = (
    λ h. subst (λ (k : ℕ). EachExact spelling f size k a) is_n (subst (λ (x : List ℕ). EachExact spelling f size n x) is_b h),
    λ h. subst (λ (x : List ℕ). EachExact spelling f size n x) (sym is_b) (subst (λ (k : ℕ). EachExact spelling f size k a) (sym is_n) h),
  )

-- a byte at a place, and those after it
pub next_byte : (k x : ℕ) (bytes : List ℕ) → slice_index bytes k ≡ x → suc k ≤ length bytes → x ∷ drop (suc k) bytes ≡ drop k bytes
next_byte k x bytes is_byte room = ap (λ (y : ℕ). y ∷ drop (suc k) bytes) (sym is_byte) ∙ sym (drop-cons bytes k 0 (omega arith))

zeros_then : (m k : ℕ) (b : List ℕ) → AreZerosAt m k b → zeros k ++ drop (m + k) b ≡ drop m b
zeros_then m k b z =
    ap (λ (p : List ℕ). p ++ drop (m + k) b) (sym z) ∙ ap (λ (r : List ℕ). take k (drop m b) ++ r) (sym (drop-drop k m b)) ∙ take-append-drop k (drop m b)

three_zeros : (m : ℕ) (b : List ℕ) → AreZerosAt m 3 b → 0 ∷ 0 ∷ 0 ∷ drop (m + 3) b ≡ drop m b
unfolding zeros
three_zeros m b z = zeros_then m 3 b z

take_three : (r : List ℕ) → take 3 (0 ∷ 0 ∷ 0 ∷ r) ≡ zeros 3
unfolding zeros
take_three r = refl

-- A tree is exact where its three unnamed bytes are 0.
pub tree_exact : (b : List ℕ) → AreBytes b → 28 ≤ length b → AreZerosAt 9 3 b ↔ IsExact tree_bytes tree_at 28 b
tree_exact b h room =
    let root : List ℕ = spelled 8 (number_in 8 b) in
    let levels : ℕ = slice_index b 8 in
    let count : List ℕ = spelled 4 (number_in 4 (drop 12 b)) in
    let changes : List ℕ = spelled 4 (number_in 4 (drop 16 b)) in
    let last : List ℕ = spelled 8 (number_in 8 (drop 20 b)) in
    let right : tree_bytes (tree_at b) ++ drop 28 b ≡ root ++ (levels ∷ 0 ∷ 0 ∷ 0 ∷ ((count ++ (changes ++ last)) ++ drop 28 b)) =
    append_assoc root (levels ∷ 0 ∷ 0 ∷ 0 ∷ (count ++ (changes ++ last))) (drop 28 b) in
    let behind : (count ++ (changes ++ last)) ++ drop 28 b ≡ drop 12 b =
    append_assoc count (changes ++ last) (drop 28 b) ∙ ap (λ (r : List ℕ). count ++ r) (append_assoc changes last (drop 28 b))
    ∙ ap (λ (r : List ℕ). count ++ (changes ++ r)) (respelled_at 20 8 b h room)
    ∙ ap (λ (r : List ℕ). count ++ r) (respelled_at 16 4 b h (omega arith)) ∙ respelled_at 12 4 b h (omega arith) in (
      λ z. right ∙ ap (λ (r : List ℕ). root ++ (levels ∷ 0 ∷ 0 ∷ 0 ∷ r)) behind
          ∙ ap (λ (r : List ℕ). root ++ (levels ∷ r)) (three_zeros 9 b z)
          ∙ ap (λ (r : List ℕ). root ++ r) (sym (drop-cons b 8 0 (omega arith))) ∙ respelled 8 b h (omega arith),
      λ e. ap (λ (x : List ℕ). take 3 (drop 9 x)) (sym e ∙ right)
          ∙ ap (λ (x : List ℕ). take 3 x) (past_more 8 1 (number_in 8 b) (levels ∷ 0 ∷ 0 ∷ 0 ∷ ((count ++ (changes ++ last)) ++ drop 28 b)))
          ∙ take_three ((count ++ (changes ++ last)) ++ drop 28 b),
    )

pub tree_sized : (b : List ℕ) → AreBytes b → length (tree_bytes (tree_at b)) ≡ 28
tree_sized b h = length-tree (tree_at b)

pub tree-typed : (b : List ℕ) → AreBytes b → IsTreeTyped (tree_at b)
tree-typed b h = (number_in-lt 8 b h, number_in-lt 4 (drop 12 b) (bytes-drop 12 b h), number_in-lt 4 (drop 16 b) (bytes-drop 16 b h), number_in-lt 8 (drop 20 b) (bytes-drop 20 b h))
