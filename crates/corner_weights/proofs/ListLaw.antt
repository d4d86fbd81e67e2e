-- The integrals of a list of objects by the dominance sums of their planes' points.
use Rattle.std.proofs.Common.{List, [], ◌∷◌, map, take, ◌≡◌, ℕ, zero, suc, ◌+◌, ◌*◌, ◌^◌, ◌<◌, ◌≤◌, Bool, true, false, ◌&&◌, nat_le, if◌then◌else◌, ℤ, pos, ◌*ℤ◌, slice_index_or, Option, Some, None, IsSome, inl, inr, arith, refl, ◌∙◌, ap, sym}
use Rattle.std.specs.List.{zip, range_with_len, sum_by}
use Rattle.std.specs.Option.{option_map_or}
use Rattle.std.proofs.Math.Nat.{mul-le-mul_left}
use Rattle.std.proofs.lemmas.Bool.{cases_lt, false≢true, le-leb, lt-leb}
use Rattle.bw_types.specs.Tally.{int_sum_by, each_below}
use Rattle.bw_types.specs.Fits.{IsInRange, ends_fit}
use Rattle.bw_types.specs.Keys.{point_key, query_key}
use Rattle.bw_types.specs.Residues.{residue}
use Rattle.bw_types.specs.ResidueLaws.{residue_of_natural}
use Rattle.bw_types.specs.Dominance.{keys_at_most, is_dominated, dominance_sum}
use Rattle.bw_types.specs.Integral.{integral_over}
use Rattle.bw_types.specs.declared.params.Params.{Params}
use Rattle.bw_types.specs.declared.point.Point.{Point}
use Rattle.bw_types.specs.declared.query.Query.{Query}
use Rattle.corner_weights.specs.Subsets.{signed_by, residue_signed_by}
use Rattle.corner_weights.specs.Sums.{int_sum_below, residue_sum_below}
use Rattle.corner_weights.specs.SumLaws.{residue_keeps_sign, residue_of_sum_below, sum_below_of_equal}
use Rattle.corner_weights.specs.Corners.{of_first_dimensions, object_end, query_end, integral_corner}
use Rattle.corner_weights.specs.Planes.{plane_count, plane_weight, plane_exponents, corner_weight, monomial, planes_value}
use Rattle.corner_weights.specs.Integrals.{query_corner, corner_is_below, plane_at_corner, value_at_corner}
use Rattle.corner_weights.specs.PlaneSums.{Entered, EnteredFits, counts_at, corner_number, entered_weight, plane_point, plane_points, summed_planes, integral_at, IntegralByPlanes}
use Rattle.corner_weights.proofs.Whole.{times_assoc}
use Rattle.corner_weights.proofs.Digits.{length-plane_exponents}
use Rattle.corner_weights.proofs.ListSums.{EachOf, sum-equal, sum-map, sum-flat_map, sum-times, times-sum, sum-exchange}
use Rattle.corner_weights.proofs.SubsetSums.{below-equal, times-below, below-exchange, signed-sum, times-signed}
use Rattle.corner_weights.proofs.ResidueSums.{each-of-all, residue-sum, sum-each, residue-below, sum-numbers, sum_by-whole, residue-times, taken-residue, sum-beside}
use Rattle.corner_weights.proofs.ObjectLaw.{object_integral_by_planes}

-- a point's key is at most a query's exactly where its coordinate is
key_at_most : (a b number : ℕ) → number < 2 ^ 32 → nat_le (point_key a number) (query_key b) ≡ nat_le a b
key_at_most a b number h = elim (cases_lt b a) [
  | inl past ↦ rw (lt-leb a b past, lt-leb (point_key a number) (query_key b) (omega arith)) refl
  | inr within ↦ rw (le-leb a b within, le-leb (point_key a number) (query_key b) (omega arith)) refl
]

group_three : (x y z : Bool) → (x && (y && (z && true))) ≡ (((true && x) && y) && z)
group_three true true true = refl
group_three true true false = refl
group_three true false z = refl
group_three false y z = refl

group_two : (x y : Bool) → (x && (y && true)) ≡ ((true && x) && y)
group_two true true = refl
group_two true false = refl
group_two false y = refl

group_one : (x : Bool) → (x && true) ≡ (true && x)
group_one true = refl
group_one false = refl

-- so keys of a corner are at most a query's exactly where the corner is at or below it
keys_tell : (dims number : ℕ) (a b : ℕ → ℕ) → 1 ≤ dims → dims ≤ 3 → number < 2 ^ 32
    → keys_at_most (take dims (of_first_dimensions dims (λ i. point_key (a i) number))) (take dims (of_first_dimensions dims (λ i. query_key (b i)))) ≡ each_below dims (λ i. nat_le (a i) (b i))
keys_tell zero number a b some few h = absurd (omega arith)
keys_tell (suc zero) number a b some few h =
    ap (λ x. x && true) (key_at_most (a 0) (b 0) number h) ∙ group_one (nat_le (a 0) (b 0))
keys_tell (suc (suc zero)) number a b some few h =
    ap (λ x. x && (nat_le (point_key (a 1) number) (query_key (b 1)) && true)) (key_at_most (a 0) (b 0) number h)
    ∙ ap (λ x. nat_le (a 0) (b 0) && (x && true)) (key_at_most (a 1) (b 1) number h)
    ∙ group_two (nat_le (a 0) (b 0)) (nat_le (a 1) (b 1))
keys_tell (suc (suc (suc zero))) number a b some few h =
    ap (λ x. x && (nat_le (point_key (a 1) number) (query_key (b 1)) && (nat_le (point_key (a 2) number) (query_key (b 2)) && true))) (key_at_most (a 0) (b 0) number h)
    ∙ ap (λ x. nat_le (a 0) (b 0) && (x && (nat_le (point_key (a 2) number) (query_key (b 2)) && true))) (key_at_most (a 1) (b 1) number h)
    ∙ ap (λ x. nat_le (a 0) (b 0) && (nat_le (a 1) (b 1) && (x && true))) (key_at_most (a 2) (b 2) number h)
    ∙ group_three (nat_le (a 0) (b 0)) (nat_le (a 1) (b 1)) (nat_le (a 2) (b 2))
keys_tell (suc (suc (suc (suc m)))) number a b some few h = absurd (omega arith)

-- the number of a corner's point is below 2^32
number_small : (dims event corner : ℕ) → 2 ^ dims ≤ 8 → event < 2 ^ 28 → corner < 2 ^ dims → corner_number dims event corner < 2 ^ 32
number_small dims event corner few small h =
    let most : event * 2 ^ dims ≤ event * 8 = mul-le-mul_left event few in
    omega arith

subsets_few : (dims : ℕ) → dims ≤ 3 → 2 ^ dims ≤ 8
subsets_few zero h = omega arith
subsets_few (suc zero) h = omega arith
subsets_few (suc (suc zero)) h = omega arith
subsets_few (suc (suc (suc zero))) h = omega arith
subsets_few (suc (suc (suc (suc m)))) h = absurd (omega arith)

-- what one corner of an entry gives to a plane's sum
corner_gives : (params : Params) (q : Query) (version subset plane corner : ℕ) (e : Entered) → 1 ≤ params.dims → params.dims ≤ 3 → e.event < 2 ^ 28 → corner < 2 ^ params.dims
    → residue (pos (if is_dominated params.dims (integral_corner params.dims q subset) version (plane_point params plane corner e) then entered_weight params plane corner e else 0))
    ≡ residue (counts_at version e *ℤ (if corner_is_below params.dims e.object corner q subset then plane_weight params e.object corner plane else pos 0))
corner_gives params q version subset plane corner e some few event h =
    let number = corner_number params.dims e.event corner in
    let small : number < 2 ^ 32 = number_small params.dims e.event corner (subsets_few params.dims few) event h in
    ap (λ b. residue (pos (if nat_le e.version version && b then entered_weight params plane corner e else 0)))
    (keys_tell params.dims number (λ i. object_end e.object corner i) (λ i. query_end q subset i) some few small)
    ∙ taken-residue (nat_le e.version version) (corner_is_below params.dims e.object corner q subset) e.minus (plane_weight params e.object corner plane)

-- what a plane's points come to at the query's corner
abbrev plane_total : Params → Query → ℕ → ℕ → List Entered → ℕ → ℤ
plane_total params q version subset entries plane =
    int_sum_by (λ e. counts_at version e *ℤ int_sum_below (2 ^ params.dims) (λ corner. if corner_is_below params.dims e.object corner q subset then plane_weight params e.object corner plane else pos 0)) entries

plane_sum_is : (params : Params) (q : Query) (version subset plane : ℕ) (entries : List Entered) → 1 ≤ params.dims → params.dims ≤ 3 → EachOf (EnteredFits params) entries
    → dominance_sum params.dims (plane_points params plane entries) (integral_corner params.dims q subset) version ≡ residue (plane_total params q version subset entries plane)
plane_sum_is params q version subset plane entries some few fits =
    let n = 2 ^ params.dims in
    let taken : Point → ℕ = λ p. if is_dominated params.dims (integral_corner params.dims q subset) version p then p.weight else 0 in
    let own : Entered → List Point = λ e. map (λ corner. plane_point params plane corner e) (range_with_len 0 n) in
    let weight : Entered → ℕ → ℤ = λ e corner. if corner_is_below params.dims e.object corner q subset then plane_weight params e.object corner plane else pos 0 in
    sym (residue_of_natural (sum_by taken (plane_points params plane entries)))
    ∙ ap residue (sum_by-whole taken (plane_points params plane entries) ∙ sum-flat_map (λ p. pos (taken p)) own entries)
    ∙ residue-sum (EnteredFits params) (λ e. int_sum_by (λ p. pos (taken p)) (own e)) (λ e. counts_at version e *ℤ int_sum_below n (weight e)) entries fits
    (λ e fit. ap residue (sum-map (λ p. pos (taken p)) (λ corner. plane_point params plane corner e) (range_with_len 0 n)
    ∙ sum-numbers (λ corner. pos (taken (plane_point params plane corner e))) n)
    ∙ residue-below n (λ corner. pos (taken (plane_point params plane corner e))) (λ corner. counts_at version e *ℤ weight e corner) (λ corner h. corner_gives params q version subset plane corner e some few fit.1 h)
    ∙ ap residue (times-below n (counts_at version e) (weight e)))

-- the same, by the exponents of the plane
abbrev exponents_total : Params → ℕ → Query → ℕ → ℕ → List Entered → List ℕ → ℤ
exponents_total params g q version subset entries fs = int_sum_by (λ e. counts_at version e *ℤ plane_at_corner params e.object g q subset fs) entries

by_exponents : (params : Params) (g : ℕ) (q : Query) (version subset : ℕ) (entries : List Entered) (plane : ℕ) → params.degree ≡ Some g
    → plane_total params q version subset entries plane ≡ exponents_total params g q version subset entries (slice_index_or (plane_exponents params.dims g) plane [])
by_exponents params g q version subset entries plane has =
    let n = 2 ^ params.dims in
    let fs : List ℕ = slice_index_or (plane_exponents params.dims g) plane [] in
    sum-equal (λ e. counts_at version e *ℤ int_sum_below n (λ corner. if corner_is_below params.dims e.object corner q subset then plane_weight params e.object corner plane else pos 0))
    (λ e. counts_at version e *ℤ plane_at_corner params e.object g q subset fs) entries
    (λ e. ap (λ z. counts_at version e *ℤ z) (below-equal n (λ corner. if corner_is_below params.dims e.object corner q subset then plane_weight params e.object corner plane else pos 0)
    (λ corner. if corner_is_below params.dims e.object corner q subset then corner_weight params e.object g corner fs else pos 0)
    (λ corner. ap (λ d. if corner_is_below params.dims e.object corner q subset then option_map_or (λ g. corner_weight params e.object g corner (slice_index_or (plane_exponents params.dims g) plane [])) d (pos 0) else pos 0) has)))

-- the value of the summed planes at the query's corner
abbrev pub entries_value : Params → ℕ → Query → ℕ → ℕ → List Entered → ℤ
entries_value params g q version subset entries = int_sum_by (λ e. counts_at version e *ℤ value_at_corner params e.object g q subset) entries

each-any : {X : Type 0} (xs : List X) → EachOf (λ (x : X). Unit {0}) xs
each-any [] = tt
each-any (x ∷ xs) = (tt, each-any xs)

pub value_is : (params : Params) (g : ℕ) (q : Query) (version subset : ℕ) (entries : List Entered) → IsInRange params → params.degree ≡ Some g → g ≤ 2 → EachOf (EnteredFits params) entries
    → residue (planes_value params (summed_planes params q version entries subset) (query_corner q subset)) ≡ residue (entries_value params g q version subset entries)
value_is params g q version subset entries range has small fits =
    let lists : List (List ℕ) = plane_exponents params.dims g in
    let m : List ℕ → ℤ = λ fs. monomial params (query_corner q subset) fs in
    let sum : ℕ → ℕ = λ plane. dominance_sum params.dims (plane_points params plane entries) (integral_corner params.dims q subset) version in
    let total : List ℕ → ℤ = λ fs. exponents_total params g q version subset entries fs in
    let count : ℕ = (g + 2) ^ params.dims in
    let term : ℕ × List ℕ → ℤ = λ p. pos p.0 *ℤ m p.1 in
    ap (λ d. residue (option_map_or (λ g. int_sum_by term (zip (map sum (range_with_len 0 (plane_count params))) (plane_exponents params.dims g))) d (pos 0))) has
    ∙ ap (λ d. residue (int_sum_by term (zip (map sum (range_with_len 0 (option_map_or (λ g. (g + 2) ^ params.dims) d 0))) lists))) has
    ∙ ap residue (sum-beside term sum (λ fs. residue (total fs)) 0 count lists (length-plane_exponents params.dims g range.dims small)
    (λ plane h. ap sum (plain plane) ∙ plane_sum_is params q version subset plane entries range.some_dims range.dims fits ∙ ap residue (by_exponents params g q version subset entries plane has)))
    ∙ residue-sum (λ fs. Unit {0}) (λ fs. pos (residue (total fs)) *ℤ m fs) (λ fs. total fs *ℤ m fs) lists (each-any lists) (λ fs u. residue-times (residue (total fs)) (total fs) (m fs) refl)
    ∙ ap residue (sum-equal (λ fs. total fs *ℤ m fs) (λ fs. int_sum_by (λ e. counts_at version e *ℤ (plane_at_corner params e.object g q subset fs *ℤ m fs)) entries) lists
    (λ fs. sym (sum-times (λ e. counts_at version e *ℤ plane_at_corner params e.object g q subset fs) (m fs) entries)
    ∙ sum-equal (λ e. counts_at version e *ℤ plane_at_corner params e.object g q subset fs *ℤ m fs) (λ e. counts_at version e *ℤ (plane_at_corner params e.object g q subset fs *ℤ m fs)) entries
    (λ e. times_assoc (counts_at version e) (plane_at_corner params e.object g q subset fs) (m fs)))
    ∙ sum-exchange (λ fs e. counts_at version e *ℤ (plane_at_corner params e.object g q subset fs *ℤ m fs)) lists entries
    ∙ sum-equal (λ e. int_sum_by (λ fs. counts_at version e *ℤ (plane_at_corner params e.object g q subset fs *ℤ m fs)) lists) (λ e. counts_at version e *ℤ value_at_corner params e.object g q subset) entries
    (λ e. times-sum (counts_at version e) (λ fs. plane_at_corner params e.object g q subset fs *ℤ m fs) lists))
  where
    plain : (k : ℕ) → 0 + k ≡ k
    plain k = omega arith

-- the signed values of all entries come to their integrals
signed_values : (params : Params) (g : ℕ) (q : Query) (version : ℕ) (entries : List Entered) → IsInRange params → params.degree ≡ Some g → ends_fit params q.low q.high ≡ true → EachOf (EnteredFits params) entries
    → int_sum_below (2 ^ params.dims) (λ subset. signed_by subset (entries_value params g q version subset entries)) ≡ integral_at params q version entries
signed_values params g q version entries range has fq fits =
    let n = 2 ^ params.dims in
    let value : Entered → ℕ → ℤ = λ e subset. value_at_corner params e.object g q subset in
    below-equal n (λ subset. signed_by subset (entries_value params g q version subset entries)) (λ subset. int_sum_by (λ e. counts_at version e *ℤ signed_by subset (value e subset)) entries)
    (λ subset. sym (signed-sum subset (λ e. counts_at version e *ℤ value e subset) entries)
    ∙ sum-equal (λ e. signed_by subset (counts_at version e *ℤ value e subset)) (λ e. counts_at version e *ℤ signed_by subset (value e subset)) entries (λ e. times-signed subset (counts_at version e) (value e subset)))
    ∙ sym (below-exchange n (λ e subset. counts_at version e *ℤ signed_by subset (value e subset)) entries)
    ∙ sum-each (EnteredFits params) (λ e. int_sum_below n (λ subset. counts_at version e *ℤ signed_by subset (value e subset))) (λ e. counts_at version e *ℤ integral_over params q e.object) entries fits
    (λ e fit. times-below n (counts_at version e) (λ subset. signed_by subset (value e subset))
    ∙ ap (λ z. counts_at version e *ℤ z) (object_integral_by_planes params q e.object g range has fit.0 fq))

with_degree : (params : Params) (g : ℕ) (q : Query) (version : ℕ) (entries : List Entered) → IsInRange params → params.degree ≡ Some g → ends_fit params q.low q.high ≡ true → EachOf (EnteredFits params) entries
    → residue_sum_below (2 ^ params.dims) (λ subset. residue_signed_by subset (residue (planes_value params (summed_planes params q version entries subset) (query_corner q subset))))
    ≡ residue (integral_at params q version entries)
with_degree params g q version entries range has fq fits =
    let n = 2 ^ params.dims in
    let small : g ≤ 2 = rw has at range.degree in
    let signed : ℕ → ℤ = λ subset. signed_by subset (entries_value params g q version subset entries) in
    sum_below_of_equal n (λ subset. residue_signed_by subset (residue (planes_value params (summed_planes params q version entries subset) (query_corner q subset)))) (λ subset. residue (signed subset))
    (λ subset h. ap (residue_signed_by subset) (value_is params g q version subset entries range has small fits) ∙ sym (residue_keeps_sign subset (entries_value params g q version subset entries)))
    ∙ sym (residue_of_sum_below n signed)
    ∙ ap residue (signed_values params g q version entries range has fq fits)

pub integral_by_planes : IntegralByPlanes
integral_by_planes params q version entries range degree fq all = by_degree params.degree refl degree
  where
    by_degree : (d : Option ℕ) → params.degree ≡ d → IsSome d
        → residue_sum_below (2 ^ params.dims) (λ subset. residue_signed_by subset (residue (planes_value params (summed_planes params q version entries subset) (query_corner q subset))))
        ≡ residue (integral_at params q version entries)
    by_degree (Some g) has some = with_degree params g q version entries range has fq (each-of-all (EnteredFits params) entries all)
    by_degree None has some = absurd (false≢true some)
