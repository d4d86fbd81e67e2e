-- The planes' sums of the points of entries come to their integrals.
use Rattle.std.proofs.Common.{◌≡◌, ℕ, ◌+◌, ◌*◌, ◌<◌, true, false, nat_lt, if◌then◌else◌, Bool, IsSome, List, [], ◌∷◌, length, map, refl, ap, ◌∙◌, arith}
use Rattle.std.specs.List.{All, range_with_len}
use Rattle.std.proofs.lemmas.Bool.{le-ltb}
use Rattle.bw_types.specs.Dominance.{dominance_sum}
use Rattle.bw_types.specs.Fits.{IsInRange, ends_fit}
use Rattle.bw_types.specs.Residues.{residue}
use Rattle.bw_types.specs.declared.params.Params.{Params}
use Rattle.bw_types.specs.declared.point.Point.{Point}
use Rattle.bw_types.specs.declared.query.Query.{Query}
use Rattle.page_layout.specs.Three.{three-is}
use Rattle.corner_weights.specs.Corners.{integral_corner}
use Rattle.corner_weights.specs.Subsets.{residue_signed_by}
use Rattle.corner_weights.specs.Sums.{residue_sum_below}
use Rattle.corner_weights.specs.SumLaws.{sum_below_of_equal}
use Rattle.corner_weights.specs.Integrals.{query_corner}
use Rattle.corner_weights.specs.Planes.{plane_count, planes_value}
use Rattle.corner_weights.specs.PlaneSums.{BelowByPlanes, Entered, EnteredFits, IntegralByPlanes, entered_below, integral_at, plane_points, summed_planes}
use Rattle.corner_forest.specs.Corners.{planes_at}
use Rattle.corner_forest.specs.Entries.{corner_count, root_points}
use Rattle.corner_forest.proofs.Newness.{length_root}
use Rattle.corner_forest.proofs.TreePoints.{root_planed}

map_equal : (f h : ℕ → ℕ) (xs : List ℕ) → ((x : ℕ) → f x ≡ h x) → map f xs ≡ map h xs
map_equal f h [] e = refl
map_equal f h (x ∷ xs) e = ap (λ (y : ℕ). y ∷ map f xs) (e x) ∙ ap (λ (ys : List ℕ). h x ∷ ys) (map_equal f h xs e)

planes_summed : (params : Params) (q : Query) (version : ℕ) (es : List Entered) (subset : ℕ)
    → planes_at params (root_points params es) (integral_corner params.dims q subset) version ≡ summed_planes params q version es subset
planes_summed params q version es subset =
    map_equal (λ plane. dominance_sum params.dims (root_points params es (corner_count params + plane)) (integral_corner params.dims q subset) version)
    (λ plane. dominance_sum params.dims (plane_points params plane es) (integral_corner params.dims q subset) version) (range_with_len 0 (plane_count params))
    (λ plane. ap (λ (ps : List Point). dominance_sum params.dims ps (integral_corner params.dims q subset) version) (root_planed params plane es))

pub integral_by_corners : IntegralByPlanes → (params : Params) (q : Query) (version : ℕ) (es : List Entered) (total n : ℕ) → IsInRange params → IsSome params.degree → ends_fit params q.low q.high ≡ true
    → All (EnteredFits params) es → n ≡ corner_count params
    → total ≡ residue_sum_below n (λ subset. residue_signed_by subset (residue (planes_value params (planes_at params (root_points params es) (integral_corner params.dims q subset) version) (query_corner q subset))))
    → total ≡ residue (integral_at params q version es)
integral_by_corners law params q version es total n range degree fits all is_n is_total =
    let f : ℕ → ℕ = λ subset. residue_signed_by subset (residue (planes_value params (planes_at params (root_points params es) (integral_corner params.dims q subset) version) (query_corner q subset))) in
    let h : ℕ → ℕ = λ subset. residue_signed_by subset (residue (planes_value params (summed_planes params q version es subset) (query_corner q subset))) in
    let same : (k : ℕ) → k < corner_count params → f k ≡ h k = λ k lt.
    ap (λ (planes : List ℕ). residue_signed_by k (residue (planes_value params planes (query_corner q k)))) (planes_summed params q version es k) in
    is_total ∙ ap (λ (m : ℕ). residue_sum_below m f) is_n ∙ sum_below_of_equal (corner_count params) f h same ∙ law params q version es range degree fits all

-- At the subset of no dimension the corner is the high one.
high_corner : (q : Query) → length q.high ≡ 3 → query_corner q 0 ≡ q.high
high_corner q three = three-is q.high three

pub below_by_corner : BelowByPlanes → (params : Params) (q : Query) (version : ℕ) (es : List Entered) (value : ℕ) → IsInRange params → IsSome params.degree
    → All (EnteredFits params) es → length q.high ≡ 3
    → value ≡ residue (planes_value params (planes_at params (root_points params es) (integral_corner params.dims q 0) version) (query_corner q 0))
    → value ≡ residue (entered_below params q.high version es)
below_by_corner law params q version es value range degree all three is_value =
    is_value ∙ ap (λ (planes : List ℕ). residue (planes_value params planes (query_corner q 0))) (planes_summed params q version es 0) ∙ law params q version es 0 range degree all
    ∙ ap (λ (corner : List ℕ). residue (entered_below params corner version es)) (high_corner q three)

pub planed_count : (params : Params) (es : List Entered) (plane : ℕ) → plane < plane_count params → length (root_points params es (corner_count params + plane)) ≡ length es * corner_count params
planed_count params es plane lt =
    let above : nat_lt (corner_count params + plane) (corner_count params) ≡ false = le-ltb (corner_count params + plane) (corner_count params) (omega arith) in
    length_root params es (corner_count params + plane) ∙ ap (λ (t : Bool). length es * (if t then 1 else corner_count params)) above
