-- The points of a batch, which are added to a tree one after another.
use Rattle.std.proofs.Common.{◌≡◌, ℕ, zero, suc, ◌+◌, ◌-◌, ◌*◌, ◌^◌, ◌≤◌, inl, inr, List, [], ◌∷◌, ◌++◌, length, refl, sym, ap, ◌∙◌, subst, arith, length-append}
use Rattle.std.specs.List.{All}
use Rattle.std.proofs.Math.Nat.{pow-le-pow_right}
use Rattle.std.proofs.lemmas.Bool.{cases_lt, lt-ltb, le-ltb}
use Rattle.std.proofs.lemmas.Nat.{mul-le}
use Rattle.std.proofs.lemmas.List.{length-map}
use Rattle.std.proofs.lemmas.List.Elements.{All-cons, All-head, All-map, All-tail}
use Rattle.bw_types.specs.declared.params.Params.{Params}
use Rattle.bw_types.specs.declared.point.Point.{Point}
use Rattle.corner_weights.specs.PlaneSums.{Entered, EnteredFits}
use Rattle.dom_index.specs.Adding.{AreNewInTurn, with_points}
use Rattle.dom_index.specs.Points.{IsNewPoint}
use Rattle.corner_forest.specs.BatchPowers.{HaveSmallWeights}
use Rattle.corner_forest.specs.Enters.{CanEnter, all_entered_at, entered_at}
use Rattle.corner_forest.specs.Entries.{AreNextEntries, added_points, batch_points, corner_count, entry_point, entry_points, point_count, points_below, root_points, with_entries}
use Rattle.corner_forest.specs.Stands.{HasSmallWeight}
use Rattle.corner_forest.specs.declared.entry.Entry.{Entry}
use Rattle.corner_forest.proofs.Newness.{AreNewPoints, next_is_new, points_from}

-- the point of one corner and those of the later ones
one_from : (params : Params) (e : Entered) (root n c : ℕ) → suc n ≤ c
    → points_from params e root n (c - n) ≡ entry_point params e root n ∷ points_from params e root (suc n) (c - suc n)
one_from params e root n c le =
    let more : c - n ≡ suc (c - suc n) = omega (arith, le) in
    let next : n + 1 ≡ suc n = omega arith in
    ap (λ (m : ℕ). points_from params e root n m) more ∙ ap (λ (k : ℕ). entry_point params e root n ∷ points_from params e root k (c - suc n)) next

corners_turn : (params : Params) (e : Entered) (root n : ℕ) (kept : List Point) → n ≤ point_count params root → AreNewPoints params e root kept
    → AreNewInTurn params.dims (points_from params e root n (point_count params root - n) ++ kept) (points_below params e root n)
corners_turn params e root zero kept le new = tt
corners_turn params e root (suc n) kept le new =
    let c = point_count params root in
    let from : n + 1 ≡ suc n = omega arith in
    let many : c - 1 - n ≡ c - suc n = omega (arith, le) in
    let here = new n (omega (arith, le)) in
    let first : IsNewPoint params.dims (points_from params e root (suc n) (c - suc n) ++ kept) (entry_point params e root n) =
    subst (λ (k : ℕ). IsNewPoint params.dims (points_from params e root k (c - suc n) ++ kept) (entry_point params e root n)) from
    (subst (λ (m : ℕ). IsNewPoint params.dims (points_from params e root (n + 1) m ++ kept) (entry_point params e root n)) many here) in
    let rest = corners_turn params e root n kept (omega (arith, le)) new in
    (first, subst (λ (l : List Point). AreNewInTurn params.dims (l ++ kept) (points_below params e root n)) (one_from params e root n c le) rest)

corners_entered : (params : Params) (e : Entered) (root n : ℕ) (kept : List Point) → n ≤ point_count params root
    → with_points (points_below params e root n) (points_from params e root n (point_count params root - n) ++ kept) ≡ entry_points params root e ++ kept
corners_entered params e root zero kept le =
    let all : point_count params root - 0 ≡ point_count params root = omega arith in
    ap (λ (m : ℕ). points_from params e root 0 m ++ kept) all
corners_entered params e root (suc n) kept le =
    ap (λ (l : List Point). with_points (points_below params e root n) (l ++ kept)) (sym (one_from params e root n (point_count params root) le))
    ∙ corners_entered params e root n kept (omega (arith, le))

-- none are later than the last corner
none_later : (params : Params) (e : Entered) (root : ℕ) (kept : List Point) → points_from params e root (point_count params root) (point_count params root - point_count params root) ++ kept ≡ kept
none_later params e root kept =
    let none : point_count params root - point_count params root ≡ 0 = omega arith in
    ap (λ (m : ℕ). points_from params e root (point_count params root) m ++ kept) none

-- the points of one entry, new in turn
entry_turn : (params : Params) (e : Entered) (root : ℕ) (kept : List Point) → AreNewPoints params e root kept → AreNewInTurn params.dims kept (added_points params root e)
entry_turn params e root kept new =
    subst (λ (l : List Point). AreNewInTurn params.dims l (added_points params root e)) (none_later params e root kept)
    (corners_turn params e root (point_count params root) kept (omega arith) new)

entry_entered : (params : Params) (e : Entered) (root : ℕ) (kept : List Point) → with_points (added_points params root e) kept ≡ entry_points params root e ++ kept
entry_entered params e root kept =
    ap (with_points (added_points params root e)) (sym (none_later params e root kept)) ∙ corners_entered params e root (point_count params root) kept (omega arith)

turn_append : (dims : ℕ) (xs ys kept : List Point) → AreNewInTurn dims kept xs → AreNewInTurn dims (with_points xs kept) ys → AreNewInTurn dims kept (xs ++ ys)
turn_append dims [] ys kept first rest = rest
turn_append dims (x ∷ xs) ys kept first rest = (first.0, turn_append dims xs ys (x ∷ kept) first.1 rest)

with_append : (xs ys kept : List Point) → with_points (xs ++ ys) kept ≡ with_points ys (with_points xs kept)
with_append [] ys kept = refl
with_append (x ∷ xs) ys kept = with_append xs ys (x ∷ kept)

-- a tree that stands for the points of entries stands for those of the batch besides
pub batch_entered : (params : Params) (root : ℕ) (batch entries : List Entered)
    → with_points (batch_points params root batch) (root_points params entries root) ≡ root_points params (with_entries batch entries) root
batch_entered params root [] entries = refl
batch_entered params root (e ∷ batch) entries =
    with_append (added_points params root e) (batch_points params root batch) (root_points params entries root)
    ∙ ap (with_points (batch_points params root batch)) (entry_entered params e root (root_points params entries root))
    ∙ batch_entered params root batch (e ∷ entries)

-- the points of the next entries are new to each tree, in turn
pub batch_is_new : (params : Params) (root : ℕ) (batch entries : List Entered) → params.dims ≤ 3 → All (EnteredFits params) entries → All (EnteredFits params) batch
    → AreNextEntries params entries batch → AreNewInTurn params.dims (root_points params entries root) (batch_points params root batch)
batch_is_new params root [] entries few fits can next = tt
batch_is_new params root (e ∷ batch) entries few fits can next =
    let kept : List Point = root_points params entries root in
    let own = All-head (EnteredFits params) e batch can in
    let first = entry_turn params e root kept (next_is_new params entries e root few fits own.1 next.0) in
    let rest = batch_is_new params root batch (e ∷ entries) few (All-cons (EnteredFits params) e entries own fits) (All-tail (EnteredFits params) e batch can) next.1 in
    turn_append params.dims (added_points params root e) (batch_points params root batch) kept first
    (subst (λ (l : List Point). AreNewInTurn params.dims l (batch_points params root batch)) (sym (entry_entered params e root kept)) rest)

length_below : (params : Params) (e : Entered) (root n : ℕ) → length (points_below params e root n) ≡ n
length_below params e root zero = refl
length_below params e root (suc n) = let rest = length_below params e root n in omega (arith, rest)

length_points : (params : Params) (root : ℕ) (batch : List Entered) → length (batch_points params root batch) ≡ length batch * point_count params root
length_points params root [] = let none : 0 * point_count params root ≡ 0 = omega arith in sym none
length_points params root (e ∷ batch) =
    let rest = length_points params root batch in
    let first = length_below params e root (point_count params root) in
    let whole = length-append (added_points params root e) (batch_points params root batch) in
    let ring : length (e ∷ batch) * point_count params root ≡ length batch * point_count params root + point_count params root = omega arith in
    omega (arith, rest, first, whole, ring)

-- how many points a batch has in a tree
pub length_batch : (params : Params) (root version : ℕ) (batch : List Entry)
    → length (batch_points params root (all_entered_at version batch)) ≡ length batch * point_count params root
length_batch params root version batch =
    length_points params root (all_entered_at version batch) ∙ ap (λ (n : ℕ). n * point_count params root) (length-map batch (entered_at version))

-- what holds of the entries and of the batch holds of all together
pub all_with : (P : Entered → Type 0) (entries batch : List Entered) → All P entries → All P batch → All P (with_entries batch entries)
all_with P entries [] all own = all
all_with P entries (e ∷ batch) all own = all_with P (e ∷ entries) batch (All-cons P e entries (All-head P e batch own) all) (All-tail P e batch own)

-- no tree gets too many points
pub few_with : (params : Params) (entries batch : List Entered) → length entries * corner_count params ≤ 2 ^ 31 → AreNextEntries params entries batch
    → length (with_entries batch entries) * corner_count params ≤ 2 ^ 31
few_with params entries [] few next = few
few_with params entries (e ∷ batch) few next =
    let most = next.0.few in
    let ring : length (e ∷ entries) * corner_count params ≡ length entries * corner_count params + corner_count params = omega arith in
    few_with params (e ∷ entries) batch (omega (arith, most, ring)) next.1

pub batch_fits : (params : Params) (version : ℕ) (batch : List Entry) → All (CanEnter params) batch → All (EnteredFits params) (all_entered_at version batch)
batch_fits params version batch can = All-map (EnteredFits params) (entered_at version) batch (λ i d lt. can i d lt)

pub batch_small : (version : ℕ) (batch : List Entry) → HaveSmallWeights batch → All HasSmallWeight (all_entered_at version batch)
batch_small version batch small = All-map HasSmallWeight (entered_at version) batch (λ i d lt. small i d lt)

some_corners : (params : Params) (root : ℕ) → 1 ≤ point_count params root
some_corners params root = elim (cases_lt root (corner_count params)) [
  | inl box ↦ rw (lt-ltb root (corner_count params) box) (omega arith)
  | inr plane ↦ rw (le-ltb root (corner_count params) plane) (let more : 2 ^ 0 ≤ 2 ^ params.dims = pow-le-pow_right {n = 2} (omega arith) {i = 0} (omega arith) in omega (arith, more))
]

-- a batch that is not empty has a point in each tree
pub some_points : (params : Params) (root n many : ℕ) → many ≡ n * point_count params root → 1 ≤ n → 1 ≤ many
some_points params root n many is some =
    let each = some_corners params root in
    let le : 1 * 1 ≤ n * point_count params root = mul-le 1 1 n (point_count params root) some each in
    omega (arith, is, le)
