-- The value at one corner of a query is the integral below it.
use Rattle.std.proofs.Common.{List, ◌≡◌, ℕ, ◌≤◌, Bool, true, false, if◌then◌else◌, ℤ, pos, ◌-ℤ◌, ◌*ℤ◌, slice_index, Option, Some, None, IsSome, inl, inr, arith, refl, ◌∙◌, ap, sym}
use Rattle.std.proofs.lemmas.Bool.{cases_lt, and_parts, false≢true}
use Rattle.std.specs.Prelude.{int_lt}
use Rattle.std.specs.List.{zip}
use Rattle.std.specs.Int.{int_min}
use Rattle.std.specs.Option.{option_map_or}
use Rattle.bw_types.specs.Fits.{ends_fit, coordinate}
use Rattle.bw_types.specs.Integral.{exponent_lists, moment}
use Rattle.bw_types.specs.Below.{high_below, moment_below, integral_of_degree_below, integral_below}
use Rattle.bw_types.specs.Residues.{residue}
use Rattle.bw_types.specs.declared.params.Params.{Params}
use Rattle.bw_types.specs.declared.object.Object.{Object}
use Rattle.bw_types.specs.declared.query.Query.{Query}
use Rattle.corner_weights.specs.Corners.{query_end}
use Rattle.corner_weights.specs.Planes.{primitive, planes_value}
use Rattle.corner_weights.specs.Integrals.{query_corner, value_at_corner}
use Rattle.corner_weights.specs.PlaneSums.{EnteredFits, counts_at, summed_planes, entered_below, BelowByPlanes}
use Rattle.corner_weights.proofs.ListSums.{EachOf, sum-equal, product-equal}
use Rattle.corner_weights.proofs.ResidueSums.{each-of-all, sum-each}
use Rattle.corner_weights.proofs.OneDimension.{reached, between, lesser, reached_below, reached_inside, reached_above, between_ordered, between_reversed, greater_second, lesser_first, lesser_second, moment_between}
use Rattle.corner_weights.proofs.ObjectLaw.{end_of, antiderivative, value_of_corners, term_reached, term_reached_is, terms_reached, ordered_at}
use Rattle.corner_weights.proofs.ListLaw.{value_is}

-- in one dimension what is reached at x lies between the low end and x, or the high end
reached_from : (p : ℕ → ℤ) (low high x : ℕ) → low ≤ high → reached p low high x ≡ between p low (lesser high x)
reached_from p low high x o = elim (cases_lt x low) [
  | inl before ↦
      reached_below p low high x o before
      ∙ sym (ap (between p low) (lesser_second high x (omega arith)) ∙ between_reversed p low x (omega arith))
  | inr from ↦ elim (cases_lt x high) [
    | inl inside ↦
        reached_inside p low high x from inside
        ∙ sym (ap (between p low) (lesser_second high x inside) ∙ between_ordered p low x from)
    | inr above ↦
        reached_above p low high x o above
        ∙ sym (ap (between p low) (lesser_first high x above) ∙ between_ordered p low high o)
  ]
]

-- said of coordinates: it is the common part with a box that begins at the low end
pub moment_from : (e o low high x : ℕ)
    → between (λ n. primitive e (pos n -ℤ pos o)) low (lesser high x) ≡ moment e (pos low -ℤ pos o) (int_min (pos high -ℤ pos o) (pos x -ℤ pos o))
moment_from e o low high x =
    let end : ℤ = int_min (pos high -ℤ pos o) (pos x -ℤ pos o) in
    ap (λ n. between (λ n. primitive e (pos n -ℤ pos o)) n (lesser high x)) (sym (greater_second low low (omega arith)))
    ∙ moment_between e o low high low x
    ∙ ap (λ a. moment e a end) (same (pos low -ℤ pos o) (int_lt (pos low -ℤ pos o) (pos low -ℤ pos o)))
  where
    same : (a : ℤ) (t : Bool) → (if t then a else a) ≡ a
    same a true = refl
    same a false = refl

-- what is reached in each dimension of the object is its part below the corner
term_below : (params : Params) (o : Object) (q : Query) (at : ℕ) (es : List ℕ) → 1 ≤ params.dims → params.dims ≤ 3 → ends_fit params o.low o.high ≡ true
    → term_reached params o q at es ≡ moment_below params (query_corner q at) o es
term_below params o q at es some few fits =
    term_reached_is params o q at es some few
    ∙ product-equal params.dims (λ i. reached (antiderivative params es i) (slice_index o.low i) (slice_index o.high i) (query_end q at i))
    (λ i. moment (slice_index es i) (coordinate params (slice_index o.low i)) (high_below params (query_corner q at) o i))
    (λ i h. reached_from (antiderivative params es i) (slice_index o.low i) (slice_index o.high i) (query_end q at i) (ordered_at params o.low o.high i fits h)
    ∙ moment_from (slice_index es i) params.origin (slice_index o.low i) (slice_index o.high i) (query_end q at i)
    ∙ ap (λ n. moment (slice_index es i) (coordinate params (slice_index o.low i)) (int_min (coordinate params (slice_index o.high i)) (coordinate params n))) (sym (end_of (λ i. query_end q at i) i (omega arith))))

value_below : (params : Params) (o : Object) (g : ℕ) (q : Query) (at : ℕ) → 1 ≤ params.dims → params.dims ≤ 3 → g ≤ 2 → ends_fit params o.low o.high ≡ true
    → value_at_corner params o g q at ≡ integral_of_degree_below params (query_corner q at) o g
value_below params o g q at some few small fits =
    value_of_corners params o g q at few small
    ∙ terms_reached params o g q at
    ∙ sum-equal (λ z. z.0 *ℤ term_reached params o q at z.1) (λ z. z.0 *ℤ moment_below params (query_corner q at) o z.1) (zip o.coeffs (exponent_lists params.dims g))
    (λ z. ap (λ m. z.0 *ℤ m) (term_below params o q at z.1 some few fits))

pub below_by_planes : BelowByPlanes
below_by_planes params q version entries subset range degree all = by_degree params.degree refl degree
  where
    by_degree : (d : Option ℕ) → params.degree ≡ d → IsSome d
        → residue (planes_value params (summed_planes params q version entries subset) (query_corner q subset)) ≡ residue (entered_below params (query_corner q subset) version entries)
    by_degree (Some g) has some =
        let small : g ≤ 2 = rw has at range.degree in
        let fits : EachOf (EnteredFits params) entries = each-of-all (EnteredFits params) entries all in
        value_is params g q version subset entries range has small fits
        ∙ ap residue (sum-each (EnteredFits params) (λ e. counts_at version e *ℤ value_at_corner params e.object g q subset) (λ e. counts_at version e *ℤ integral_below params (query_corner q subset) e.object) entries fits
        (λ e fit. ap (λ z. counts_at version e *ℤ z) (value_below params e.object g q subset range.some_dims range.dims small (and_parts _ _ (and_parts _ _ fit.0).0).0
        ∙ ap (λ d. option_map_or (integral_of_degree_below params (query_corner q subset) e.object) d (pos 0)) (sym has))))
    by_degree None has some = absurd (false≢true some)
