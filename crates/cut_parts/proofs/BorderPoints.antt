-- Points that may be built may be built without a dimension.
use Rattle.std.proofs.Common.{◌≡◌, ℕ, zero, suc, ◌-◌, ◌^◌, ◌<◌, ◌≤◌, IsTrue, inl, inr, List, [], ◌∷◌, ◌++◌, length, get_or, map, take, slice_index, refl, sym, ◌∙◌, subst, arith, length-append}
use Rattle.std.specs.Prelude.{AllPairs}
use Rattle.std.proofs.lemmas.Bool.{cases_lt}
use Rattle.std.proofs.lemmas.List.{get_or-take, get_or_default, get_or_past, length-take}
use Rattle.std.proofs.lemmas.List.Elements.{All-map}
use Rattle.std.proofs.lemmas.List.Kept.{AllPairs-cons}
use Rattle.bw_types.specs.Without.{keys_without, without_dimension}
use Rattle.bw_types.specs.declared.point.Point.{Point}
use Rattle.dom_index.specs.Points.{AreKeysBelow, keys_differ}
use Rattle.cut_parts.specs.Borders.{MayBeBuilt}
use Rattle.cut_parts.specs.Parts.{border_points}
use Rattle.cut_parts.proofs.Differing.{key_at, still_differ}
use Rattle.cut_parts.proofs.Halves.{all_left, all_right, length_mapped}

below_each : (n : ℕ) (keys : List ℕ) → ((j : ℕ) → j < n → slice_index keys j < 2 ^ 64 - 2 ^ 32) → AreKeysBelow n keys
below_each n keys each = λ k d lt.
    let long = length-take n keys in
    let before : k < n = omega (arith, lt, long) in
    let there : k < length keys = omega (arith, lt, long) in
    subst (λ (key : ℕ). key < 2 ^ 64 - 2 ^ 32) (sym (get_or-take n keys k d before ∙ get_or_default keys k d 0 there)) (each k before)

below_at : (n : ℕ) (keys : List ℕ) (j : ℕ) → AreKeysBelow n keys → j < n → slice_index keys j < 2 ^ 64 - 2 ^ 32
below_at n keys j below lt = elim (cases_lt j (length keys)) [
  | inl there ↦
      let few : j < length (take n keys) = omega (arith, lt, there, length-take n keys) in
      subst (λ (key : ℕ). key < 2 ^ 64 - 2 ^ 32) (get_or-take n keys j 0 lt) (below j 0 few)
  | inr past ↦ let none : slice_index keys j ≡ 0 = get_or_past keys j 0 past in omega (arith, none)
]

pub still_below : (dims i : ℕ) (keys : List ℕ) → i < dims → AreKeysBelow dims keys → AreKeysBelow (dims - 1) (keys_without i keys)
still_below dims i keys lt below = below_each (dims - 1) (keys_without i keys) (λ j less.
    let at = key_at dims i j lt less in
    subst (λ (key : ℕ). key < 2 ^ 64 - 2 ^ 32) (sym (at.2 keys)) (below_at dims keys at.0 below at.1))

-- what holds of each pair still does after a function
pairs_map : {X Y : Type 0} (f : X → Y) (R : Y → Y → Type 0) (xs : List X) → AllPairs (λ x y. R (f x) (f y)) xs → AllPairs R (map f xs)
pairs_map f R [] pairs = λ i j d less lt. absurd (omega (arith, lt))
pairs_map f R (x ∷ xs) pairs = AllPairs-cons R (f x) (map f xs) (All-map (R (f x)) f xs (λ k d lt. pairs 0 (suc k) d (omega arith) (omega (arith, lt))))
    (pairs_map f R xs (λ i j d less lt. pairs (suc i) (suc j) d (omega (arith, less)) (omega (arith, lt))))

three_without : (i : ℕ) (keys : List ℕ) → i < 3 → length keys ≡ 3 → length (keys_without i keys) ≡ 3
three_without i [] few three = absurd (omega (arith, three))
three_without i (a ∷ []) few three = absurd (omega (arith, three))
three_without i (a ∷ b ∷ []) few three = absurd (omega (arith, three))
three_without i (a ∷ b ∷ c ∷ d ∷ keys) few three = absurd (omega (arith, three))
three_without zero (a ∷ b ∷ c ∷ []) few three = refl
three_without (suc zero) (a ∷ b ∷ c ∷ []) few three = refl
three_without (suc (suc zero)) (a ∷ b ∷ c ∷ []) few three = refl
three_without (suc (suc (suc i))) (a ∷ b ∷ c ∷ []) few three = absurd (omega (arith, few))

-- the points of a border
pub border_may : (dims i : ℕ) (points : List Point) → i < suc dims → suc dims ≤ 3 → MayBeBuilt (suc dims) points → MayBeBuilt dims (border_points i points)
border_may dims i points lt few may =
    let less : suc dims - 1 ≡ dims = omega arith in
    record {
      few = omega (arith, may.few, length_mapped (without_dimension i) points);
      apart = pairs_map (without_dimension i) (λ (p q : Point). IsTrue (keys_differ dims p q)) points
          (λ j k d before lt2. subst (λ (n : ℕ). IsTrue (keys_differ n (without_dimension i (get_or points j d)) (without_dimension i (get_or points k d)))) less
          (still_differ (suc dims) i (get_or points j d) (get_or points k d) lt (may.apart j k d before lt2)));
      keys = All-map (λ (p : Point). AreKeysBelow dims p.keys) (without_dimension i) points
          (λ k d lt2. subst (λ (n : ℕ). AreKeysBelow n (keys_without i (get_or points k d).keys)) less (still_below (suc dims) i (get_or points k d).keys lt (may.keys k d lt2)));
      versions = All-map (λ (p : Point). p.version < 2 ^ 32 - 1) (without_dimension i) points may.versions;
      three = All-map (λ (p : Point). length p.keys ≡ 3) (without_dimension i) points
          (λ k d lt2. three_without i (get_or points k d).keys (omega (arith, lt, few)) (may.three k d lt2));
    }

pairs_left : {X : Type 0} (R : X → X → Type 0) (xs ys : List X) → AllPairs R (xs ++ ys) → AllPairs R xs
pairs_left R [] ys pairs = λ i j d less lt. absurd (omega (arith, lt))
pairs_left R (x ∷ xs) ys pairs = AllPairs-cons R x xs
    (all_left (R x) xs ys (λ k d lt. pairs 0 (suc k) d (omega arith) (omega (arith, lt))))
    (pairs_left R xs ys (λ i j d less lt. pairs (suc i) (suc j) d (omega (arith, less)) (omega (arith, lt))))

pairs_right : {X : Type 0} (R : X → X → Type 0) (xs ys : List X) → AllPairs R (xs ++ ys) → AllPairs R ys
pairs_right R [] ys pairs = pairs
pairs_right R (x ∷ xs) ys pairs = pairs_right R xs ys (λ i j d less lt. pairs (suc i) (suc j) d (omega (arith, less)) (omega (arith, lt)))

-- the points of a side
pub left_may : (dims : ℕ) (lows highs : List Point) → MayBeBuilt dims (lows ++ highs) → MayBeBuilt dims lows
left_may dims lows highs may = record {
  few = omega (arith, may.few, length-append lows highs);
  apart = pairs_left (λ (p q : Point). IsTrue (keys_differ dims p q)) lows highs may.apart;
  keys = all_left (λ (p : Point). AreKeysBelow dims p.keys) lows highs may.keys;
  versions = all_left (λ (p : Point). p.version < 2 ^ 32 - 1) lows highs may.versions;
  three = all_left (λ (p : Point). length p.keys ≡ 3) lows highs may.three;
}

pub right_may : (dims : ℕ) (lows highs : List Point) → MayBeBuilt dims (lows ++ highs) → MayBeBuilt dims highs
right_may dims lows highs may = record {
  few = omega (arith, may.few, length-append lows highs);
  apart = pairs_right (λ (p q : Point). IsTrue (keys_differ dims p q)) lows highs may.apart;
  keys = all_right (λ (p : Point). AreKeysBelow dims p.keys) lows highs may.keys;
  versions = all_right (λ (p : Point). p.version < 2 ^ 32 - 1) lows highs may.versions;
  three = all_right (λ (p : Point). length p.keys ≡ 3) lows highs may.three;
}
