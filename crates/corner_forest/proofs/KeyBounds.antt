-- The keys of corners keep below the end of keys.
use Rattle.std.proofs.Common.{◌≡◌, ℕ, zero, suc, ◌-◌, ◌^◌, ◌<◌, ◌≤◌, ◌&&◌, Bool, true, false, nat_le, nat_lt, if◌then◌else◌, List, [], ◌∷◌, slice_index, Some, None, inl, inr, subst, arith}
use Rattle.std.specs.List.{All}
use Rattle.std.proofs.lemmas.Bool.{cases_lt, cases_eq, and_parts, leb-true, lt-ltb, le-ltb, eq-eqb, ne_eqb}
use Rattle.std.proofs.lemmas.List.Elements.{All-cons, All-nil, All-take}
use Rattle.bw_types.specs.Fits.{ends_fit, object_fits, greatest_number}
use Rattle.bw_types.specs.Keys.{point_key, query_key}
use Rattle.bw_types.specs.Tally.{each_below}
use Rattle.bw_types.specs.declared.object.Object.{Object}
use Rattle.bw_types.specs.declared.params.Params.{Params}
use Rattle.bw_types.specs.declared.query.Query.{Query}
use Rattle.corner_weights.specs.Subsets.{is_in_subset}
use Rattle.corner_weights.specs.Corners.{of_first_dimensions, object_end, query_end, meet_bound, has_bound, meet_corner, corner_keys, integral_corner}
use Rattle.dom_index.specs.Points.{AreKeysBelow}

at_one : (n i : ℕ) (p : ℕ → Bool) → each_below n p ≡ true → i < n → p i ≡ true
at_one zero i p h lt = absurd (omega (arith, lt))
at_one (suc n) i p h lt =
    let both = and_parts (each_below n p) (p n) h in
    elim (cases_lt i n) [
      | inl below ↦ at_one n i p both.0 below
      | inr above ↦ let e : i ≡ n = omega (arith, lt, above) in rw e both.1
    ]

greatest_below : (params : Params) → greatest_number params ≤ 4294967294
greatest_below params = elim (cases_eq params.origin 0) [
  | inl e ↦ rw (eq-eqb params.origin 0 e) (omega arith)
  | inr ne ↦ rw (ne_eqb params.origin 0 ne) (omega arith)
]

-- the ends of a box that fits are below the greatest number
pub ends_below : (params : Params) (low high : List ℕ) (i : ℕ) → ends_fit params low high ≡ true → i < params.dims
    → (slice_index low i ≤ 4294967294) × (slice_index high i ≤ 4294967294)
ends_below params low high i fits lt =
    let here = at_one params.dims i (λ j. nat_le (slice_index low j) (slice_index high j) && nat_le (slice_index high j) (greatest_number params)) fits lt in
    let both = and_parts (nat_le (slice_index low i) (slice_index high i)) (nat_le (slice_index high i) (greatest_number params)) here in
    let first : slice_index low i ≤ slice_index high i = leb-true (slice_index low i) (slice_index high i) both.0 in
    let second : slice_index high i ≤ greatest_number params = leb-true (slice_index high i) (greatest_number params) both.1 in
    let most = greatest_below params in
    (omega (arith, first, second, most), omega (arith, second, most))

within : (dims : ℕ) (f : ℕ → ℕ) (i : ℕ) → ((j : ℕ) → j < dims → f j < 2 ^ 64 - 2 ^ 32) → (if nat_lt i dims then f i else 0) < 2 ^ 64 - 2 ^ 32
within dims f i below = elim (cases_lt i dims) [
  | inl lt ↦ rw (lt-ltb i dims lt) (below i lt)
  | inr ge ↦ rw (le-ltb i dims ge) (omega arith)
]

three : (P : ℕ → Type 0) (a b c : ℕ) → P a → P b → P c → All P (a ∷ b ∷ c ∷ [])
three P a b c x y z = All-cons P a (b ∷ c ∷ []) x (All-cons P b (c ∷ []) y (All-cons P c [] z (All-nil P)))

-- keys of the first dimensions that are each below the end
pub keys_below : (dims : ℕ) (f : ℕ → ℕ) → ((j : ℕ) → j < dims → f j < 2 ^ 64 - 2 ^ 32) → AreKeysBelow dims (of_first_dimensions dims f)
keys_below dims f below =
    All-take (λ (key : ℕ). key < 2 ^ 64 - 2 ^ 32) dims (of_first_dimensions dims f)
    (three (λ (key : ℕ). key < 2 ^ 64 - 2 ^ 32) (if nat_lt 0 dims then f 0 else 0) (if nat_lt 1 dims then f 1 else 0) (if nat_lt 2 dims then f 2 else 0)
    (within dims f 0 below) (within dims f 1 below) (within dims f 2 below))

chosen : (t : Bool) (a b most : ℕ) → a ≤ most → b ≤ most → (if t then a else b) ≤ most
chosen true a b most x y = x
chosen false a b most x y = y

pub meet_keys_below : (params : Params) (q : Query) (subset : ℕ) → ends_fit params q.low q.high ≡ true
    → AreKeysBelow params.dims (of_first_dimensions params.dims (λ i. query_key (meet_bound q subset i)))
meet_keys_below params q subset fits = keys_below params.dims (λ i. query_key (meet_bound q subset i)) (λ i lt.
    let ends = ends_below params q.low q.high i fits lt in
    let low = ends.0 in
    let bound : meet_bound q subset i ≤ 4294967294 = chosen (is_in_subset i subset) (slice_index q.low i - 1) (slice_index q.high i) 4294967294 (omega (arith, low)) ends.1 in
    omega (arith, bound))

pub integral_keys_below : (params : Params) (q : Query) (subset : ℕ) → ends_fit params q.low q.high ≡ true
    → AreKeysBelow params.dims (integral_corner params.dims q subset)
integral_keys_below params q subset fits = keys_below params.dims (λ i. query_key (query_end q subset i)) (λ i lt.
    let ends = ends_below params q.low q.high i fits lt in
    let bound : query_end q subset i ≤ 4294967294 = chosen (is_in_subset i subset) (slice_index q.low i) (slice_index q.high i) 4294967294 ends.0 ends.1 in
    omega (arith, bound))

pub corner_keys_below : (params : Params) (o : Object) (number subset : ℕ) → object_fits params o ≡ true → number < 2 ^ 32
    → AreKeysBelow params.dims (corner_keys params.dims o number subset)
corner_keys_below params o number subset fits small = keys_below params.dims (λ i. point_key (object_end o subset i) number) (λ i lt.
    let both = and_parts (ends_fit params o.low o.high) _ (and_parts _ _ fits).0 in
    let ends = ends_below params o.low o.high i both.0 lt in
    let bound : object_end o subset i ≤ 4294967294 = chosen (is_in_subset i subset) (slice_index o.high i) (slice_index o.low i) 4294967294 ends.1 ends.0 in
    omega (arith, bound, small))

there : (b : Bool) (keys corner : List ℕ) → Some keys ≡ (if b then Some corner else None) → corner ≡ keys
there true keys corner e = cc
there false keys corner e = cc

pub meet_corner_below : (params : Params) (q : Query) (subset : ℕ) (keys : List ℕ) → ends_fit params q.low q.high ≡ true
    → Some keys ≡ meet_corner params.dims q subset → AreKeysBelow params.dims keys
meet_corner_below params q subset keys fits e =
    subst (λ (ks : List ℕ). AreKeysBelow params.dims ks)
    (there (each_below params.dims (has_bound q subset)) keys (of_first_dimensions params.dims (λ i. query_key (meet_bound q subset i))) e)
    (meet_keys_below params q subset fits)
