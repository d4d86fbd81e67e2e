-- Pages of points, read in place.
use Rattle.std.specs.Prelude.{◌≡◌, ℕ, ◌<◌, ◌≤◌, ◌^◌, min, zero, suc, List, [], ◌∷◌, ◌++◌, length, drop, get_or, refl}
use Rattle.std.proofs.Common.{ap, ◌∙◌, append_assoc, arith}
use Rattle.page_layout.specs.Numbers.{spelled, number_in}
use Rattle.page_layout.specs.Bytes.{AreBytes, bytes-drop}
use Rattle.page_layout.specs.Respelled.{Respells, respelled, respelled_at, number_in-lt, length-entries_at, each_of}
use Rattle.page_layout.specs.PointLeaf.{point_bytes, point_at, IsPointTyped, IsPointLeaf, IsTyped, point_leaf_in}

-- A point names each of its bytes, so any 44 bytes are the spelling of the point that is read of them.
pub point-respells : Respells point_bytes point_at 44
point-respells b h room =
    let k0 : List ℕ = spelled 8 (number_in 8 b) in
    let k1 : List ℕ = spelled 8 (number_in 8 (drop 8 b)) in
    let k2 : List ℕ = spelled 8 (number_in 8 (drop 16 b)) in
    let version : List ℕ = spelled 4 (number_in 4 (drop 24 b)) in
    let weight : List ℕ = spelled 16 (number_in 16 (drop 28 b)) in
    let flat : ((k0 ++ (k1 ++ k2)) ++ (version ++ weight)) ++ drop 44 b ≡ k0 ++ (k1 ++ (k2 ++ (version ++ (weight ++ drop 44 b)))) = simp append_assoc in
    flat
    ∙ ap (λ (r : List ℕ). k0 ++ (k1 ++ (k2 ++ (version ++ r)))) (respelled_at 28 16 b h room)
    ∙ ap (λ (r : List ℕ). k0 ++ (k1 ++ (k2 ++ r))) (respelled_at 24 4 b h (omega arith))
    ∙ ap (λ (r : List ℕ). k0 ++ (k1 ++ r)) (respelled_at 16 8 b h (omega arith))
    ∙ ap (λ (r : List ℕ). k0 ++ r) (respelled_at 8 8 b h (omega arith))
    ∙ respelled 8 b h (omega arith)

three-below : (a b c m : ℕ) → a < m → b < m → c < m → (k d : ℕ) → k < length (a ∷ b ∷ c ∷ []) → get_or (a ∷ b ∷ c ∷ []) k d < m
three-below a b c m x y z zero d h = x
three-below a b c m x y z (suc zero) d h = y
three-below a b c m x y z (suc (suc zero)) d h = z
three-below a b c m x y z (suc (suc (suc k))) d h = absurd (omega arith)

point-typed : (b : List ℕ) → AreBytes b → IsPointTyped (point_at b)
point-typed b h = (
  record {
    three = refl;
    below = three-below (number_in 8 b) (number_in 8 (drop 8 b)) (number_in 8 (drop 16 b)) (2 ^ 64) (number_in-lt 8 b h) (number_in-lt 8 (drop 8 b) (bytes-drop 8 b h)) (number_in-lt 8 (drop 16 b) (bytes-drop 16 b h));
  },
  number_in-lt 4 (drop 24 b) (bytes-drop 24 b h),
  number_in-lt 16 (drop 28 b) (bytes-drop 28 b h),
)

pub point_leaf_in-typed : (page : List ℕ) → AreBytes page → IsTyped (point_leaf_in page)
point_leaf_in-typed page h = record {
  next = number_in-lt 8 (drop 8 page) (bytes-drop 8 page h);
  points = each_of IsPointTyped point_at 44 point-typed (min (number_in 2 (drop 2 page)) 64) (drop 16 page) (bytes-drop 16 page h);
}

pub length-points : (page : List ℕ) → length (point_leaf_in page).points.items ≡ min (number_in 2 (drop 2 page)) 64
length-points page = length-entries_at point_bytes point_at 44 point-respells (min (number_in 2 (drop 2 page)) 64) (drop 16 page)

pub is_point_leaf : (page : List ℕ) (count : ℕ) → count ≡ min (number_in 2 (drop 2 page)) 64 → 1 ≤ count → IsPointLeaf (point_leaf_in page)
is_point_leaf page count is_count some = record {
  some = omega (arith, length-points page);
  few = omega (arith, length-points page);
}
