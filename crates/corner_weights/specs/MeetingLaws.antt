-- The laws of meeting by corners.
use Rattle.std.specs.Prelude.{◌≡◌, ℕ, zero, suc, ◌^◌, ◌<◌, ◌≤◌, Bool, true, false, not, ◌&&◌, nat_lt, nat_le, if◌then◌else◌, List, slice_index, take, Some, None, ℤ, pos, refl, ◌+◌, ◌%◌, [], ◌∷◌, map}
use Rattle.std.specs.List.{sum_by, All}
use Rattle.std.proofs.lemmas.List.Sums.{sum_by-cons}
use Rattle.std.proofs.Math.Nat.{mod-lt, add-mod-mod}
use Rattle.std.specs.Option.{option_map_or}
use Rattle.std.proofs.Common.{arith, lit<, sym, ◌∙◌, ap}
use Rattle.std.proofs.lemmas.Bool.{and_parts, and_from}
use Rattle.bw_types.specs.Tally.{each_below}
use Rattle.bw_types.specs.Meets.{meets}
use Rattle.bw_types.specs.Fits.{IsInRange, object_fits, ends_fit, greatest_number}
use Rattle.bw_types.specs.Keys.{point_key, query_key}
use Rattle.bw_types.specs.Dominance.{keys_at_most, is_dominated, dominated_weight, dominance_sum}
use Rattle.bw_types.specs.Residues.{residue}
use Rattle.bw_types.specs.ResidueLaws.{residue_of_small}
use Rattle.bw_types.specs.declared.params.Params.{Params}
use Rattle.bw_types.specs.declared.object.Object.{Object}
use Rattle.bw_types.specs.declared.point.Point.{Point}
use Rattle.bw_types.specs.declared.query.Query.{Query}
use Rattle.corner_weights.specs.Subsets.{is_in_subset, signed_by, residue_signed_by}
use Rattle.corner_weights.specs.Sums.{residue_sum_below, int_sum_below}
use Rattle.corner_weights.specs.Corners.{meet_corner, has_bound, meet_bound, object_end, corner_keys, of_first_dimensions}
use Rattle.corner_weights.specs.SumLaws.{int_sum_below-equal, sum_below_of_equal, sum_below_of_sums, sum_below_of_nothing, sign_of_nothing, sign_of_residue_sum, residue_keeps_sign, residue_of_sum_below}
use Rattle.corner_weights.specs.Meeting.{corner_counts, counted_at_corner, ends_are_ordered, WeightsMeetByCorners, BoxesMeetByCorners, ResiduesMeetByCorners, PointCountsAtCorner, NothingCountsWithoutCorner}
use Rattle.corner_weights.specs.Expansion.{weighed, key_keeps_bound, below_is_at_most, not-below, expand_one, expand_two, expand_three, pair_one, pair_two, pair_three, group_three}

-- in a dimension the object's end keeps the bound of the subset, said of coordinates
abbrev pub keeps_bound : Query → Object → ℕ → ℕ → Bool
keeps_bound q o subset i =
    if is_in_subset i subset then nat_lt (slice_index o.high i) (slice_index q.low i) else nat_le (slice_index o.low i) (slice_index q.high i)

-- in each of one to three dimensions
abbrev pub keeps_bounds : ℕ → Query → Object → ℕ → Bool
keeps_bounds zero q o subset = true
keeps_bounds (suc zero) q o subset = keeps_bound q o subset 0
keeps_bounds (suc (suc zero)) q o subset = keeps_bound q o subset 0 && keeps_bound q o subset 1
keeps_bounds (suc (suc (suc n))) q o subset = keeps_bound q o subset 0 && (keeps_bound q o subset 1 && keeps_bound q o subset 2)

-- the bound is there, and the point's key keeps it
abbrev key_keeps : Query → Object → ℕ → ℕ → ℕ → Bool
key_keeps q o number subset i = nat_le (point_key (object_end o subset i) number) (query_key (meet_bound q subset i))

one : (q : Query) (o : Object) (number subset i : ℕ) → number < 2 ^ 32 → (has_bound q subset i && key_keeps q o number subset i) ≡ keeps_bound q o subset i
one q o number subset i n = key_keeps_bound (slice_index o.low i) (slice_index o.high i) (slice_index q.low i) (slice_index q.high i) number n (is_in_subset i subset)

there : (b : Bool) (corner : List ℕ) (f : List ℕ → Bool) → option_map_or f (if b then Some corner else None) false ≡ (b && f corner)
there true corner f = refl
there false corner f = refl

there_counts : (dims : ℕ) (q : Query) (o : Object) (number subset : ℕ)
    → corner_counts dims q o number subset
    ≡ (each_below dims (has_bound q subset) && keys_at_most (take dims (corner_keys dims o number subset)) (take dims (of_first_dimensions dims (λ i. query_key (meet_bound q subset i)))))
there_counts dims q o number subset =
    there (each_below dims (has_bound q subset)) (of_first_dimensions dims (λ i. query_key (meet_bound q subset i))) (λ corner. keys_at_most (take dims (corner_keys dims o number subset)) (take dims corner))

pub counts_where_bounds_are_kept : (dims : ℕ) (q : Query) (o : Object) (number subset : ℕ) → 1 ≤ dims → dims ≤ 3 → number < 2 ^ 32
    → corner_counts dims q o number subset ≡ keeps_bounds dims q o subset
counts_where_bounds_are_kept zero q o number subset some few n = absurd (omega arith)
counts_where_bounds_are_kept (suc zero) q o number subset some few n =
    there_counts 1 q o number subset ∙ pair_one (has_bound q subset 0) (key_keeps q o number subset 0) ∙ one q o number subset 0 n
counts_where_bounds_are_kept (suc (suc zero)) q o number subset some few n =
    there_counts 2 q o number subset
    ∙ pair_two (has_bound q subset 0) (has_bound q subset 1) (key_keeps q o number subset 0) (key_keeps q o number subset 1)
    ∙ ap (λ x. x && (has_bound q subset 1 && key_keeps q o number subset 1)) (one q o number subset 0 n)
    ∙ ap (λ x. keeps_bound q o subset 0 && x) (one q o number subset 1 n)
counts_where_bounds_are_kept (suc (suc (suc zero))) q o number subset some few n =
    there_counts 3 q o number subset
    ∙ pair_three (has_bound q subset 0) (has_bound q subset 1) (has_bound q subset 2) (key_keeps q o number subset 0) (key_keeps q o number subset 1) (key_keeps q o number subset 2)
    ∙ ap (λ x. x && ((has_bound q subset 1 && key_keeps q o number subset 1) && (has_bound q subset 2 && key_keeps q o number subset 2))) (one q o number subset 0 n)
    ∙ ap (λ x. keeps_bound q o subset 0 && (x && (has_bound q subset 2 && key_keeps q o number subset 2))) (one q o number subset 1 n)
    ∙ ap (λ x. keeps_bound q o subset 0 && (keeps_bound q o subset 1 && x)) (one q o number subset 2 n)
counts_where_bounds_are_kept (suc (suc (suc (suc m)))) q o number subset some few n = absurd (omega arith)

-- the product of the differences over the first dimensions
abbrev low_reaches : Query → Object → ℕ → Bool
low_reaches q o i = nat_le (slice_index o.low i) (slice_index q.high i)

abbrev high_is_below : Query → Object → ℕ → Bool
high_is_below q o i = nat_lt (slice_index o.high i) (slice_index q.low i)

in_dimension : (q : Query) (o : Object) (i : ℕ) → (low_reaches q o i && not (high_is_below q o i)) ≡ (nat_le (slice_index o.low i) (slice_index q.high i) && nat_le (slice_index q.low i) (slice_index o.high i))
in_dimension q o i = ap (λ x. low_reaches q o i && x) (not-below (slice_index o.high i) (slice_index q.low i))

-- an object whose high end is below the query's low end has its low end at most the query's high end
ordered_in : (q : Query) (o : Object) (i : ℕ) → nat_le (slice_index o.low i) (slice_index o.high i) ≡ true → nat_le (slice_index q.low i) (slice_index q.high i) ≡ true
    → high_is_below q o i ≡ true → low_reaches q o i ≡ true
ordered_in q o i eo eq h = below_is_at_most (slice_index o.low i) (slice_index o.high i) (slice_index q.low i) (slice_index q.high i) eo eq h

abbrev bounds_sum : ℕ → Query → Object → ℤ → ℤ
bounds_sum dims q o weight = int_sum_below (2 ^ dims) (λ subset. signed_by subset (if keeps_bounds dims q o subset then weight else pos 0))

bounds_sum_one : (q : Query) (o : Object) (weight : ℤ) → ends_are_ordered 1 o.low o.high ≡ true → ends_are_ordered 1 q.low q.high ≡ true
    → bounds_sum 1 q o weight ≡ (if meets 1 q o then weight else pos 0)
unfolding weighed
bounds_sum_one q o weight eo eq =
    expand_one weight (low_reaches q o 0) (high_is_below q o 0) (ordered_in q o 0 eo eq)
    ∙ ap (weighed weight) (in_dimension q o 0)

bounds_sum_two : (q : Query) (o : Object) (weight : ℤ) → ends_are_ordered 2 o.low o.high ≡ true → ends_are_ordered 2 q.low q.high ≡ true
    → bounds_sum 2 q o weight ≡ (if meets 2 q o then weight else pos 0)
unfolding weighed
bounds_sum_two q o weight eo eq =
    let oo = and_parts _ _ eo in
    let qq = and_parts _ _ eq in
    expand_two weight (low_reaches q o 0) (high_is_below q o 0) (low_reaches q o 1) (high_is_below q o 1) (ordered_in q o 0 oo.0 qq.0) (ordered_in q o 1 oo.1 qq.1)
    ∙ ap (λ x. weighed weight (x && (low_reaches q o 1 && not (high_is_below q o 1)))) (in_dimension q o 0)
    ∙ ap (λ x. weighed weight ((nat_le (slice_index o.low 0) (slice_index q.high 0) && nat_le (slice_index q.low 0) (slice_index o.high 0)) && x)) (in_dimension q o 1)

bounds_sum_three : (q : Query) (o : Object) (weight : ℤ) → ends_are_ordered 3 o.low o.high ≡ true → ends_are_ordered 3 q.low q.high ≡ true
    → bounds_sum 3 q o weight ≡ (if meets 3 q o then weight else pos 0)
unfolding weighed
bounds_sum_three q o weight eo eq =
    let oo = and_parts _ _ eo in
    let qq = and_parts _ _ eq in
    let of = and_parts _ _ oo.0 in
    let qf = and_parts _ _ qq.0 in
    let touch : ℕ → Bool = λ i. nat_le (slice_index o.low i) (slice_index q.high i) && nat_le (slice_index q.low i) (slice_index o.high i) in
    expand_three weight (low_reaches q o 0) (high_is_below q o 0) (low_reaches q o 1) (high_is_below q o 1) (low_reaches q o 2) (high_is_below q o 2)
    (ordered_in q o 0 of.0 qf.0) (ordered_in q o 1 of.1 qf.1) (ordered_in q o 2 oo.1 qq.1)
    ∙ ap (λ x. weighed weight (x && ((low_reaches q o 1 && not (high_is_below q o 1)) && (low_reaches q o 2 && not (high_is_below q o 2))))) (in_dimension q o 0)
    ∙ ap (λ x. weighed weight (touch 0 && (x && (low_reaches q o 2 && not (high_is_below q o 2))))) (in_dimension q o 1)
    ∙ ap (λ x. weighed weight (touch 0 && (touch 1 && x))) (in_dimension q o 2)
    ∙ ap (weighed weight) (sym (group_three (touch 0) (touch 1) (touch 2)))

bounds_sum_meets : (dims : ℕ) (q : Query) (o : Object) (weight : ℤ) → 1 ≤ dims → dims ≤ 3
    → ends_are_ordered dims o.low o.high ≡ true → ends_are_ordered dims q.low q.high ≡ true
    → bounds_sum dims q o weight ≡ (if meets dims q o then weight else pos 0)
bounds_sum_meets zero q o weight some few eo eq = absurd (omega arith)
bounds_sum_meets (suc zero) q o weight some few eo eq = bounds_sum_one q o weight eo eq
bounds_sum_meets (suc (suc zero)) q o weight some few eo eq = bounds_sum_two q o weight eo eq
bounds_sum_meets (suc (suc (suc zero))) q o weight some few eo eq = bounds_sum_three q o weight eo eq
bounds_sum_meets (suc (suc (suc (suc m)))) q o weight some few eo eq = absurd (omega arith)

-- boxes whose ends are in order meet exactly where the signed weight of corners is the weight
pub ordered_boxes_meet_by_corners : (dims : ℕ) (q : Query) (o : Object) (number : ℕ) (weight : ℤ) → 1 ≤ dims → dims ≤ 3 → number < 2 ^ 32
    → ends_are_ordered dims o.low o.high ≡ true → ends_are_ordered dims q.low q.high ≡ true
    → int_sum_below (2 ^ dims) (λ subset. signed_by subset (if corner_counts dims q o number subset then weight else pos 0))
    ≡ (if meets dims q o then weight else pos 0)
ordered_boxes_meet_by_corners dims q o number weight some few n eo eq =
    int_sum_below-equal (2 ^ dims) (λ subset. signed_by subset (if corner_counts dims q o number subset then weight else pos 0))
    (λ subset. signed_by subset (if keeps_bounds dims q o subset then weight else pos 0))
    (λ subset. ap (λ x. signed_by subset (if x then weight else pos 0)) (counts_where_bounds_are_kept dims q o number subset some few n))
    ∙ bounds_sum_meets dims q o weight some few eo eq

-- a test that follows from another holds of each number where that one does
each_below-follows : (n : ℕ) (p r : ℕ → Bool) → ((i : ℕ) → p i ≡ true → r i ≡ true) → each_below n p ≡ true → each_below n r ≡ true
each_below-follows zero p r h e = refl
each_below-follows (suc n) p r h e =
    let parts = and_parts (each_below n p) (p n) e in
    and_from (each_below n r) (r n) (each_below-follows n p r h parts.0) (h n parts.1)

-- ends that fit are in order
pub fitting_ends_are_ordered : (params : Params) (low high : List ℕ) → ends_fit params low high ≡ true → ends_are_ordered params.dims low high ≡ true
fitting_ends_are_ordered params low high e =
    each_below-follows params.dims (λ i. nat_le (slice_index low i) (slice_index high i) && nat_le (slice_index high i) (greatest_number params))
    (λ i. nat_le (slice_index low i) (slice_index high i)) (λ i t. (and_parts _ _ t).0) e

pub weights_meet_by_corners : WeightsMeetByCorners
weights_meet_by_corners params q o number weight range n fo fq =
    let ends : ends_fit params o.low o.high ≡ true = (and_parts _ _ (and_parts _ _ fo).0).0 in
    ordered_boxes_meet_by_corners params.dims q o number weight range.some_dims range.dims n
    (fitting_ends_are_ordered params o.low o.high ends) (fitting_ends_are_ordered params q.low q.high fq)

pub boxes_meet_by_corners : BoxesMeetByCorners
boxes_meet_by_corners params q o number range n fo fq = weights_meet_by_corners params q o number (pos 1) range n fo fq

-- the residue of a weight that is taken or not
residue_of_choice : (t : Bool) (weight : ℕ) → weight < 2 ^ 128 → residue (if t then pos weight else pos 0) ≡ (if t then weight else 0)
residue_of_choice true weight h = residue_of_small weight h
residue_of_choice false weight h = residue_of_small 0 (lit< tt)

pub residues_meet_by_corners : ResiduesMeetByCorners
residues_meet_by_corners params q o number weight range n h fo fq =
    let counts : ℕ → Bool = corner_counts params.dims q o number in
    let term : ℕ → ℤ = λ subset. signed_by subset (if counts subset then pos weight else pos 0) in
    sum_below_of_equal (2 ^ params.dims) (λ subset. residue_signed_by subset (if counts subset then weight else 0)) (λ subset. residue (term subset))
    (λ subset _. sym (residue_keeps_sign subset (if counts subset then pos weight else pos 0) ∙ ap (residue_signed_by subset) (residue_of_choice (counts subset) weight h)))
    ∙ sym (residue_of_sum_below (2 ^ params.dims) term)
    ∙ ap residue (weights_meet_by_corners params q o number (pos weight) range n fo fq)
    ∙ residue_of_choice (meets params.dims q o) weight h

pub point_counts_at_corner : PointCountsAtCorner
point_counts_at_corner dims q o number subset version corner p keys e = rw (keys, e) refl

pub nothing_counts_without_corner : NothingCountsWithoutCorner
nothing_counts_without_corner dims q o number subset e = rw e refl

-- a weight that is taken or not is below what it is below
choice-below : (t : Bool) (weight : ℕ) → weight < 2 ^ 128 → (if t then weight else 0) < 2 ^ 128
choice-below true weight h = h
choice-below false weight h = lit< tt

-- one number more in a sum modulo 2^128
one_more : (a b : ℕ) → (a + b) % 2 ^ 128 ≡ (a + b % 2 ^ 128) % 2 ^ 128
one_more a b = sym (add-mod-mod a b (2 ^ 128))

counted_at_corner-cons : {X : Type 0} (dims : ℕ) (q : Query) (object : X → Object) (number weight : X → ℕ) (x : X) (xs : List X) (subset : ℕ)
    → counted_at_corner dims q object number weight (x ∷ xs) subset
    ≡ ((if corner_counts dims q (object x) (number x) subset then weight x else 0) + counted_at_corner dims q object number weight xs subset) % 2 ^ 128
unfolding counted_at_corner
counted_at_corner-cons dims q object number weight x xs subset =
    ap (λ s. s % 2 ^ 128) (sum_by-cons (λ e. if corner_counts dims q (object e) (number e) subset then weight e else 0) x xs)
    ∙ one_more (if corner_counts dims q (object x) (number x) subset then weight x else 0)
    (sum_by (λ e. if corner_counts dims q (object e) (number e) subset then weight e else 0) xs)

counted_at_corner-below : {X : Type 0} (dims : ℕ) (q : Query) (object : X → Object) (number weight : X → ℕ) (xs : List X) (subset : ℕ)
    → counted_at_corner dims q object number weight xs subset < 2 ^ 128
unfolding counted_at_corner
counted_at_corner-below dims q object number weight xs subset =
    mod-lt (sum_by (λ e. if corner_counts dims q (object e) (number e) subset then weight e else 0) xs) (lit< tt)

-- Over a list of entries that keep the rules, the signed totals of the weights that count at the corners come
-- to the total of the weights whose objects meet the query, modulo 2^128.
pub lists_meet_by_corners : {X : Type 0} (params : Params) (q : Query) (object : X → Object) (number weight : X → ℕ) (entries : List X)
    → IsInRange params → ends_fit params q.low q.high ≡ true
    → All (λ e. (object_fits params (object e) ≡ true) × (number e < 2 ^ 32) × (weight e < 2 ^ 128)) entries
    → residue_sum_below (2 ^ params.dims) (λ subset. residue_signed_by subset (counted_at_corner params.dims q object number weight entries subset))
    ≡ sum_by (λ e. if meets params.dims q (object e) then weight e else 0) entries % 2 ^ 128
unfolding counted_at_corner
lists_meet_by_corners params q object number weight [] range fq all =
    sum_below_of_equal (2 ^ params.dims) (λ subset. residue_signed_by subset 0) (λ subset. 0) (λ subset _. sign_of_nothing subset)
    ∙ sum_below_of_nothing (2 ^ params.dims)
lists_meet_by_corners params q object number weight (x ∷ xs) range fq all =
    let first = all 0 x (omega arith) in
    let counts : ℕ → ℕ = λ subset. if corner_counts params.dims q (object x) (number x) subset then weight x else 0 in
    let rest : ℕ → ℕ = λ subset. counted_at_corner params.dims q object number weight xs subset in
    let met : ℕ = if meets params.dims q (object x) then weight x else 0 in
    sum_below_of_equal (2 ^ params.dims) (λ subset. residue_signed_by subset (counted_at_corner params.dims q object number weight (x ∷ xs) subset))
    (λ subset. (residue_signed_by subset (counts subset) + residue_signed_by subset (rest subset)) % 2 ^ 128)
    (λ subset _. ap (residue_signed_by subset) (counted_at_corner-cons params.dims q object number weight x xs subset)
    ∙ sign_of_residue_sum subset (counts subset) (rest subset) (choice-below (corner_counts params.dims q (object x) (number x) subset) (weight x) first.2) (counted_at_corner-below params.dims q object number weight xs subset))
    ∙ sum_below_of_sums (2 ^ params.dims) (λ subset. residue_signed_by subset (counts subset)) (λ subset. residue_signed_by subset (rest subset))
    ∙ ap (λ s. (s + residue_sum_below (2 ^ params.dims) (λ subset. residue_signed_by subset (rest subset))) % 2 ^ 128) (residues_meet_by_corners params q (object x) (number x) (weight x) range first.1 first.2 first.0 fq)
    ∙ ap (λ s. (met + s) % 2 ^ 128) (lists_meet_by_corners params q object number weight xs range fq (λ k d h. all (suc k) d (omega arith)))
    ∙ sym (one_more met (sum_by (λ e. if meets params.dims q (object e) then weight e else 0) xs))
    ∙ ap (λ s. s % 2 ^ 128) (sym (sum_by-cons (λ e. if meets params.dims q (object e) then weight e else 0) x xs))

-- a test of two parts takes a weight where both hold
both_parts : (a b : Bool) (weight : ℕ) → (if a && b then weight else 0) ≡ (if b then (if a then weight else 0) else 0)
both_parts false false weight = refl
both_parts false true weight = refl
both_parts true b weight = refl

weights_at_corner : {X : Type 0} (dims : ℕ) (q : Query) (object : X → Object) (number : X → ℕ) (point : X → Point) (entries : List X) (subset version : ℕ) (corner : List ℕ)
    → ((e : X) → (point e).keys ≡ corner_keys dims (object e) (number e) subset) → meet_corner dims q subset ≡ Some corner
    → dominated_weight dims (map point entries) corner version
    ≡ sum_by (λ e. if corner_counts dims q (object e) (number e) subset then (if nat_le (point e).version version then (point e).weight else 0) else 0) entries
weights_at_corner dims q object number point [] subset version corner keys there = refl
weights_at_corner dims q object number point (x ∷ xs) subset version corner keys there =
    let counts : Bool = corner_counts dims q (object x) (number x) subset in
    let reached : Bool = nat_le (point x).version version in
    let taken = ap (λ t. if t then (point x).weight else 0) (point_counts_at_corner dims q (object x) (number x) subset version corner (point x) (keys x) there)
    ∙ both_parts reached counts (point x).weight in
    sum_by-cons (λ p. if is_dominated dims corner version p then p.weight else 0) (point x) (map point xs)
    ∙ ap (λ s. s + dominated_weight dims (map point xs) corner version) taken
    ∙ ap (λ s. (if counts then (if reached then (point x).weight else 0) else 0) + s) (weights_at_corner dims q object number point xs subset version corner keys there)
    ∙ sym (sum_by-cons (λ e. if corner_counts dims q (object e) (number e) subset then (if nat_le (point e).version version then (point e).weight else 0) else 0) x xs)

no_weights : {X : Type 0} (dims : ℕ) (q : Query) (object : X → Object) (number weight : X → ℕ) (entries : List X) (subset : ℕ)
    → meet_corner dims q subset ≡ None → sum_by (λ e. if corner_counts dims q (object e) (number e) subset then weight e else 0) entries ≡ 0
no_weights dims q object number weight [] subset missing = refl
no_weights dims q object number weight (x ∷ xs) subset missing =
    sum_by-cons (λ e. if corner_counts dims q (object e) (number e) subset then weight e else 0) x xs
    ∙ ap (λ t. (if t then weight x else 0) + sum_by (λ e. if corner_counts dims q (object e) (number e) subset then weight e else 0) xs) (nothing_counts_without_corner dims q (object x) (number x) subset missing)
    ∙ ap (λ s. 0 + s) (no_weights dims q object number weight xs subset missing)

-- Where the query has a corner, the dominance sum there of points with the keys of the objects' corners is the total
-- of the weights that count at the corner, a weight being 0 for a point of a later version.
pub dominance_at_corner : {X : Type 0} (dims : ℕ) (q : Query) (object : X → Object) (number : X → ℕ) (point : X → Point) (entries : List X) (subset version : ℕ) (corner : List ℕ)
    → ((e : X) → (point e).keys ≡ corner_keys dims (object e) (number e) subset) → meet_corner dims q subset ≡ Some corner
    → dominance_sum dims (map point entries) corner version
    ≡ counted_at_corner dims q object number (λ e. if nat_le (point e).version version then (point e).weight else 0) entries subset
unfolding counted_at_corner
dominance_at_corner dims q object number point entries subset version corner keys there =
    ap (λ s. s % 2 ^ 128) (weights_at_corner dims q object number point entries subset version corner keys there)

-- Where the query has no corner, no weight counts at it.
pub nothing_at_missing_corner : {X : Type 0} (dims : ℕ) (q : Query) (object : X → Object) (number weight : X → ℕ) (entries : List X) (subset : ℕ)
    → meet_corner dims q subset ≡ None → counted_at_corner dims q object number weight entries subset ≡ 0
unfolding counted_at_corner
nothing_at_missing_corner dims q object number weight entries subset missing =
    ap (λ s. s % 2 ^ 128) (no_weights dims q object number weight entries subset missing)
