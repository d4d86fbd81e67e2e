-- The points of the next entry are new to each tree.
use Rattle.std.proofs.Common.{◌≡◌, ℕ, zero, suc, ◌+◌, ◌-◌, ◌*◌, ◌^◌, ◌<◌, ◌≤◌, ◌==◌, ◌++◌, map, Bool, true, false, not, nat_lt, if◌then◌else◌, IsTrue, inl, inr, List, [], ◌∷◌, length, get_or, slice_index, refl, sym, ap, ◌∙◌, arith, length-append}
use Rattle.std.specs.List.{All, flat_map, range_with_len}
use Rattle.std.proofs.Math.Nat.{mul-le-mul_right, mul-le-mul_left, pow-le-pow_right}
use Rattle.std.proofs.lemmas.Bool.{cases_lt, lt-ltb, le-ltb, ne_eqb}
use Rattle.std.proofs.lemmas.List.{length-map}
use Rattle.std.proofs.lemmas.List.FromFn.{length-range_with_len}
use Rattle.std.proofs.lemmas.List.Elements.{All-append, All-cons, All-head, All-map, All-nil, All-tail}
use Rattle.bw_types.specs.Keys.{point_key}
use Rattle.bw_types.specs.Tally.{each_below}
use Rattle.bw_types.specs.declared.object.Object.{Object}
use Rattle.bw_types.specs.declared.params.Params.{Params}
use Rattle.bw_types.specs.declared.point.Point.{Point}
use Rattle.corner_weights.specs.Corners.{corner_keys, object_end, of_first_dimensions}
use Rattle.corner_weights.specs.Entries.{corner_point}
use Rattle.corner_weights.specs.PlaneSums.{Entered, EnteredFits, corner_number, plane_point}
use Rattle.dom_index.specs.Points.{IsNewPoint, keys_differ}
use Rattle.corner_forest.specs.Entries.{IsNextEntry, as_met, corner_count, entry_point, entry_points, point_count, root_points}

-- so many of the entry's points in a tree, from that of this corner on
abbrev pub points_from : Params → Entered → ℕ → ℕ → ℕ → List Point
points_from params e root from n = map (entry_point params e root) (range_with_len from n)

-- Each of the entry's points in the tree is new there, after those of the later corners.
abbrev pub AreNewPoints : Params → Entered → ℕ → List Point → Type 0
AreNewPoints params e root points =
    (corner : ℕ) → corner < point_count params root
    → IsNewPoint params.dims (points_from params e root (corner + 1) (point_count params root - 1 - corner) ++ points) (entry_point params e root corner)

each_of : (n : ℕ) (p : ℕ → Bool) → ((i : ℕ) → i < n → p i ≡ true) → each_below n p ≡ true
each_of zero p h = refl
each_of (suc n) p h =
    let before : each_below n p ≡ true = each_of n p (λ i lt. h i (omega (arith, lt))) in
    let here : p n ≡ true = h n (omega arith) in
    rw (before, here) refl

-- one of the keys of a corner
key_at : (dims : ℕ) (f : ℕ → ℕ) (i : ℕ) → i < dims → dims ≤ 3 → slice_index (of_first_dimensions dims f) i ≡ f i
key_at dims f zero lt few = rw (lt-ltb 0 dims lt) refl
key_at dims f (suc zero) lt few = rw (lt-ltb 1 dims lt) refl
key_at dims f (suc (suc zero)) lt few = rw (lt-ltb 2 dims lt) refl
key_at dims f (suc (suc (suc i))) lt few = absurd (omega (arith, lt, few))

-- corners with different numbers share no key
pub corners_differ : (dims : ℕ) (o u : Object) (n k s t : ℕ) (p q : Point) → dims ≤ 3 → n < 2 ^ 32 → k < 2 ^ 32 → (n ≡ k → ⊥)
    → p.keys ≡ corner_keys dims o n s → q.keys ≡ corner_keys dims u k t → IsTrue (keys_differ dims p q)
corners_differ dims o u n k s t p q few small little ne is_p is_q = each_of dims (λ i. not (slice_index p.keys i == slice_index q.keys i)) (λ i lt.
    let a : slice_index p.keys i ≡ point_key (object_end o s i) n = ap (λ (l : List ℕ). slice_index l i) is_p ∙ key_at dims (λ j. point_key (object_end o s j) n) i lt few in
    let b : slice_index q.keys i ≡ point_key (object_end u t i) k = ap (λ (l : List ℕ). slice_index l i) is_q ∙ key_at dims (λ j. point_key (object_end u t j) k) i lt few in
    let apart : slice_index p.keys i ≡ slice_index q.keys i → ⊥ = λ e. ne (omega (arith, a, b, e, small, little)) in
    rw (ne_eqb (slice_index p.keys i) (slice_index q.keys i) apart) refl)

number_of : Params → Entered → ℕ → ℕ → ℕ
number_of params e root corner = if nat_lt root (corner_count params) then e.event else corner_number params.dims e.event corner

subset_of : Params → ℕ → ℕ → ℕ
subset_of params root corner = if nat_lt root (corner_count params) then root else corner

picked_keys : (dims : ℕ) (o : Object) (a : Bool) (x y : Point) (n k s t : ℕ) → x.keys ≡ corner_keys dims o n s → y.keys ≡ corner_keys dims o k t
    → (if a then x else y).keys ≡ corner_keys dims o (if a then n else k) (if a then s else t)
picked_keys dims o true x y n k s t h i = h
picked_keys dims o false x y n k s t h i = i

picked_version : (a : Bool) (x y : Point) (v : ℕ) → x.version ≡ v → y.version ≡ v → (if a then x else y).version ≡ v
picked_version true x y v h i = h
picked_version false x y v h i = i

entry_keys : (params : Params) (e : Entered) (root corner : ℕ) → (entry_point params e root corner).keys ≡ corner_keys params.dims e.object (number_of params e root corner) (subset_of params root corner)
unfolding number_of subset_of
entry_keys params e root corner =
    picked_keys params.dims e.object (nat_lt root (corner_count params)) (corner_point params.dims root (as_met e)) (plane_point params (root - corner_count params) corner e)
    e.event (corner_number params.dims e.event corner) root corner refl refl

entry_version : (params : Params) (e : Entered) (root corner : ℕ) → (entry_point params e root corner).version ≡ e.version
entry_version params e root corner =
    picked_version (nat_lt root (corner_count params)) (corner_point params.dims root (as_met e)) (plane_point params (root - corner_count params) corner e) e.version refl refl

few_corners : (dims : ℕ) → dims ≤ 3 → 2 ^ dims ≤ 8
few_corners dims few = pow-le-pow_right {n = 2} (omega arith) few

-- the numbers of a plane's points
plane_number : (n event : ℕ) (corner : ℕ) → n ≤ 8 → event < 2 ^ 28 → corner < n → event * n + corner < 2 ^ 32
plane_number n event corner few small lt =
    let most : event * n ≤ event * 8 = mul-le-mul_left event few in
    omega (arith, most, few, small, lt)

later_number : (n early late a b : ℕ) → early < late → a < n → early * n + a ≡ late * n + b → ⊥
later_number n early late a b lt small e =
    let next : (early + 1) * n ≤ late * n = mul-le-mul_right n (omega (arith, lt)) in
    let whole : (early + 1) * n ≡ early * n + n = let more : early + 1 ≡ suc early = omega arith in rw more (omega arith) in
    omega (arith, next, whole, small, e)

numbers_fit : (params : Params) (e : Entered) (root corner : ℕ) → params.dims ≤ 3 → e.event < 2 ^ 28 → corner < corner_count params → number_of params e root corner < 2 ^ 32
unfolding number_of
numbers_fit params e root corner few small lt = elim (cases_lt root (corner_count params)) [
  | inl box ↦ rw (lt-ltb root (corner_count params) box) (omega (arith, small))
  | inr plane ↦ rw (le-ltb root (corner_count params) plane) (plane_number (corner_count params) e.event corner (few_corners params.dims few) small lt)
]

-- an earlier entry's points have other numbers
numbers_differ : (params : Params) (f e : Entered) (root a b : ℕ) → f.event < e.event → a < corner_count params → number_of params f root a ≡ number_of params e root b → ⊥
unfolding number_of
numbers_differ params f e root a b lt small = elim (cases_lt root (corner_count params)) [
  | inl box ↦ rw (lt-ltb root (corner_count params) box) (λ same. omega (arith, lt, same))
  | inr plane ↦ rw (le-ltb root (corner_count params) plane) (λ same. later_number (corner_count params) f.event e.event a b lt small same)
]

-- in a plane another corner of the entry has another number
corners_numbered : (params : Params) (e : Entered) (root a b : ℕ) → corner_count params ≤ root → (a ≡ b → ⊥) → number_of params e root a ≡ number_of params e root b → ⊥
unfolding number_of
corners_numbered params e root a b plane ne = rw (le-ltb root (corner_count params) plane) (λ same. ne (omega (arith, same)))

all_between : {P : ℕ → Type 0} (from n : ℕ) → ((i : ℕ) → from ≤ i → i < from + n → P i) → All P (range_with_len from n)
all_between {P} from zero h = All-nil P
all_between {P} from (suc n) h =
    All-cons P from (range_with_len (from + 1) n) (h from (omega arith) (omega arith)) (all_between (from + 1) n (λ i low high. h i (omega (arith, low)) (omega (arith, high))))

all_flat : {A B : Type 0} (P : B → Type 0) (f : A → List B) (xs : List A) → All (λ x. All P (f x)) xs → All P (flat_map f xs)
all_flat P f [] h = All-nil P
all_flat {A} {B} P f (x ∷ xs) h =
    All-append P (f x) (flat_map f xs) (All-head (λ (y : A). All P (f y)) x xs h) (all_flat P f xs (All-tail (λ (y : A). All P (f y)) x xs h))

count_below : (params : Params) (root : ℕ) → point_count params root ≤ corner_count params
count_below params root = elim (cases_lt root (corner_count params)) [
  | inl box ↦ rw (lt-ltb root (corner_count params) box) (omega (arith, box))
  | inr plane ↦ rw (le-ltb root (corner_count params) plane) (omega arith)
]

in_plane : (params : Params) (root corner other : ℕ) → corner < other → other < point_count params root → corner_count params ≤ root
in_plane params root corner other lt = elim (cases_lt root (corner_count params)) [
  | inl box ↦ rw (lt-ltb root (corner_count params) box) (λ small. absurd (omega (arith, lt, small)))
  | inr plane ↦ rw (le-ltb root (corner_count params) plane) (λ small. plane)
]

pub length_root : (params : Params) (es : List Entered) (root : ℕ) → length (root_points params es root) ≡ length es * point_count params root
length_root params [] root = let none : 0 * point_count params root ≡ 0 = omega arith in sym none
length_root params (e ∷ es) root =
    let rest = length_root params es root in
    let first : length (entry_points params root e) ≡ point_count params root =
    length-map (range_with_len 0 (point_count params root)) (entry_point params e root) ∙ length-range_with_len 0 (point_count params root) in
    let whole : length (root_points params (e ∷ es) root) ≡ length (entry_points params root e) + length (root_points params es root) =
    length-append (entry_points params root e) (root_points params es root) in
    let ring : length (e ∷ es) * point_count params root ≡ length es * point_count params root + point_count params root = omega arith in
    omega (arith, rest, first, whole, ring)

pub next_is_new : (params : Params) (entries : List Entered) (e : Entered) (root : ℕ) → params.dims ≤ 3 → All (EnteredFits params) entries → e.event < 2 ^ 28 → IsNextEntry params entries e
    → AreNewPoints params e root (root_points params entries root)
next_is_new params entries e root few fits small next = λ corner lt.
    let n = point_count params root in
    let p = entry_point params e root corner in
    let most = count_below params root in
    let own : List Point = points_from params e root (corner + 1) (n - 1 - corner) in
    let others : List Point = root_points params entries root in
    let own_fits = numbers_fit params e root corner few small (omega (arith, lt, most)) in
    let own_apart : All (λ q. IsTrue (keys_differ params.dims q p)) own =
    All-map (λ (q : Point). IsTrue (keys_differ params.dims q p)) (entry_point params e root) (range_with_len (corner + 1) (n - 1 - corner))
    (all_between {P = λ i. IsTrue (keys_differ params.dims (entry_point params e root i) p)} (corner + 1) (n - 1 - corner) (λ i low high.
    let plane = in_plane params root corner i (omega (arith, low)) (omega (arith, high, lt)) in
    corners_differ params.dims e.object e.object (number_of params e root i) (number_of params e root corner) (subset_of params root i) (subset_of params root corner) (entry_point params e root i) p few
    (numbers_fit params e root i few small (omega (arith, high, lt, most))) own_fits (corners_numbered params e root i corner plane (λ same. omega (arith, low, same))) (entry_keys params e root i) (entry_keys params e root corner))) in
    let others_apart : All (λ q. IsTrue (keys_differ params.dims q p)) others =
    all_flat (λ (q : Point). IsTrue (keys_differ params.dims q p)) (entry_points params root) entries (λ i d inside.
    let f = get_or entries i d in
    let early = (fits i d inside).1 in
    let before = next.after i d inside in
    All-map (λ (q : Point). IsTrue (keys_differ params.dims q p)) (entry_point params f root) (range_with_len 0 n)
    (all_between {P = λ a. IsTrue (keys_differ params.dims (entry_point params f root a) p)} 0 n (λ a low high.
    let lower : a < corner_count params = omega (arith, high, most) in
    corners_differ params.dims f.object e.object (number_of params f root a) (number_of params e root corner) (subset_of params root a) (subset_of params root corner) (entry_point params f root a) p few
    (numbers_fit params f root a few early lower) own_fits (numbers_differ params f e root a corner before lower) (entry_keys params f root a) (entry_keys params e root corner)))) in
    let own_last : All (λ q. q.version ≤ p.version) own =
    All-map (λ (q : Point). q.version ≤ p.version) (entry_point params e root) (range_with_len (corner + 1) (n - 1 - corner))
    (all_between {P = λ i. (entry_point params e root i).version ≤ p.version} (corner + 1) (n - 1 - corner) (λ i low high.
    let a = entry_version params e root i in let b = entry_version params e root corner in omega (arith, a, b))) in
    let others_last : All (λ q. q.version ≤ p.version) others =
    all_flat (λ (q : Point). q.version ≤ p.version) (entry_points params root) entries (λ i d inside.
    let f = get_or entries i d in
    let before = next.last i d inside in
    All-map (λ (q : Point). q.version ≤ p.version) (entry_point params f root) (range_with_len 0 n)
    (all_between {P = λ i. (entry_point params f root i).version ≤ p.version} 0 n (λ i low high. let a = entry_version params f root i in let b = entry_version params e root corner in omega (arith, a, b, before)))) in
    let own_count : length own ≡ n - 1 - corner = length-map (range_with_len (corner + 1) (n - 1 - corner)) (entry_point params e root) ∙ length-range_with_len (corner + 1) (n - 1 - corner) in
    let others_count = length_root params entries root in
    let whole = length-append own others in
    let all : length entries * n ≤ length entries * corner_count params = mul-le-mul_left (length entries) most in
    let most_entries = next.few in
    record {
      apart = All-append (λ (q : Point). IsTrue (keys_differ params.dims q p)) own others own_apart others_apart;
      last = All-append (λ (q : Point). q.version ≤ p.version) own others own_last others_last;
      few = omega (arith, own_count, others_count, whole, all, most_entries, most, lt);
    }
