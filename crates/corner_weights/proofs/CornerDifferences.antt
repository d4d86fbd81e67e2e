-- The integral over a box is the difference, in each dimension, of those below its ends.
use Rattle.std.proofs.Common.{List, [], ◌≡◌, ℕ, ◌^◌, ◌≤◌, Bool, true, if◌then◌else◌, ℤ, pos, ◌-ℤ◌, ◌*ℤ◌, slice_index, Option, Some, None, inl, inr, arith, ◌∙◌, ap, sym}
use Rattle.std.proofs.lemmas.Int.{ints}
use Rattle.std.proofs.lemmas.Bool.{cases_lt}
use Rattle.std.specs.List.{zip}
use Rattle.std.specs.Int.{int_max, int_min}
use Rattle.std.specs.Option.{option_map_or}
use Rattle.bw_types.specs.Tally.{int_product_below, int_sum_by}
use Rattle.bw_types.specs.Fits.{ends_fit, coordinate}
use Rattle.bw_types.specs.Integral.{exponent_lists, moment, common_low, common_high, common_moment, integral_of_degree, integral_over}
use Rattle.bw_types.specs.Below.{moment_below, integral_of_degree_below, integral_below, below_at}
use Rattle.bw_types.specs.Answers.{integral_at}
use Rattle.bw_types.specs.History.{History, live}
use Rattle.bw_types.specs.declared.params.Params.{Params}
use Rattle.bw_types.specs.declared.object.Object.{Object}
use Rattle.bw_types.specs.declared.query.Query.{Query}
use Rattle.corner_weights.specs.Subsets.{is_in_subset, signed_by}
use Rattle.corner_weights.specs.Sums.{int_sum_below}
use Rattle.corner_weights.specs.Corners.{query_end}
use Rattle.corner_weights.specs.Planes.{primitive}
use Rattle.corner_weights.specs.Integrals.{query_corner}
use Rattle.corner_weights.proofs.ListSums.{sum-equal, product-equal}
use Rattle.corner_weights.proofs.SubsetSums.{below-equal, below-exchange, signed-sum, signed-multiples, signed_products}
use Rattle.corner_weights.proofs.OneDimension.{between, greater, lesser, between_ordered, between_reversed, greater_first, greater_second, lesser_first, lesser_second, moment_between}
use Rattle.corner_weights.proofs.ObjectLaw.{end_of, ordered_at}
use Rattle.corner_weights.proofs.BelowCorner.{moment_from}

-- the lesser of two numbers is at most the second, and a number at most both is at most it
lesser_most : (a b : ℕ) → lesser a b ≤ b
lesser_most a b = elim (cases_lt b a) [
  | inl below ↦ rw (lesser_second a b below) (omega arith)
  | inr from ↦ rw (lesser_first a b from) from
]

lesser_least : (n a b : ℕ) → n ≤ a → n ≤ b → n ≤ lesser a b
lesser_least n a b first second = elim (cases_lt b a) [
  | inl below ↦ rw (lesser_second a b below) second
  | inr from ↦ rw (lesser_first a b from) first
]

-- in one dimension: what lies below b, less what lies below a, is what lies between them
between_ends : (p : ℕ → ℤ) (low high a b : ℕ) → a ≤ b
    → between p low (lesser high b) -ℤ between p low (lesser high a) ≡ between p (greater low a) (lesser high b)
between_ends p low high a b h =
    elim (cases_lt a low) [
      | inl before ↦
          let most : lesser high a ≤ a = lesser_most high a in
          ap (λ z. between p low (lesser high b) -ℤ z) (between_reversed p low (lesser high a) (omega arith))
          ∙ less_nothing (between p low (lesser high b))
          ∙ sym (ap (λ n. between p n (lesser high b)) (greater_first low a before))
      | inr from ↦ elim (cases_lt a high) [
        | inl inside ↦
            let least : a ≤ lesser high b = lesser_least a high b (omega arith) h in
            ap (λ z. z -ℤ between p low (lesser high a)) (between_ordered p low (lesser high b) (omega arith))
            ∙ ap (λ z. p (lesser high b) -ℤ p low -ℤ z) (ap (between p low) (lesser_second high a inside) ∙ between_ordered p low a from)
            ∙ less_common (p (lesser high b)) (p a) (p low)
            ∙ sym (ap (λ n. between p n (lesser high b)) (greater_second low a from) ∙ between_ordered p a (lesser high b) least)
        | inr past ↦
            ap (λ n. between p low (lesser high b) -ℤ between p low n) (lesser_first high a past ∙ sym (lesser_first high b (omega arith)))
            ∙ less_itself (between p low (lesser high b))
            ∙ sym (ap (λ n. between p n (lesser high b)) (greater_second low a from) ∙ ap (between p a) (lesser_first high b (omega arith)) ∙ between_reversed p a high past)
      ]
    ]
  where
    less_nothing : (x : ℤ) → x -ℤ pos 0 ≡ x
    less_nothing x = omega (arith, ints)

    less_common : (x y z : ℤ) → x -ℤ z -ℤ (y -ℤ z) ≡ x -ℤ y
    less_common x y z = omega (arith, ints)

    less_itself : (x : ℤ) → x -ℤ x ≡ pos 0
    less_itself x = omega (arith, ints)

-- said of coordinates
moment_ends : (e o low high a b : ℕ) → a ≤ b
    → moment e (pos low -ℤ pos o) (int_min (pos high -ℤ pos o) (pos b -ℤ pos o)) -ℤ moment e (pos low -ℤ pos o) (int_min (pos high -ℤ pos o) (pos a -ℤ pos o))
    ≡ moment e (int_max (pos low -ℤ pos o) (pos a -ℤ pos o)) (int_min (pos high -ℤ pos o) (pos b -ℤ pos o))
moment_ends e o low high a b h =
    let p : ℕ → ℤ = λ n. primitive e (pos n -ℤ pos o) in
    let below : ℕ → ℤ = λ x. moment e (pos low -ℤ pos o) (int_min (pos high -ℤ pos o) (pos x -ℤ pos o)) in
    ap (λ z. z -ℤ below a) (sym (moment_from e o low high b))
    ∙ ap (λ z. between p low (lesser high b) -ℤ z) (sym (moment_from e o low high a))
    ∙ between_ends p low high a b h
    ∙ moment_between e o low high a b

-- the signed moments below the corners are the moment of the common part
term_between : (params : Params) (q : Query) (o : Object) (es : List ℕ) → 1 ≤ params.dims → params.dims ≤ 3 → ends_fit params q.low q.high ≡ true
    → int_sum_below (2 ^ params.dims) (λ at. signed_by at (moment_below params (query_corner q at) o es)) ≡ common_moment params q o es
term_between params q o es some few fits =
    let above : ℕ → Bool → ℕ = λ i s. if s then slice_index q.low i else slice_index q.high i in
    let below : ℕ → ℕ → ℤ = λ i x. moment (slice_index es i) (coordinate params (slice_index o.low i)) (int_min (coordinate params (slice_index o.high i)) (coordinate params x)) in
    below-equal (2 ^ params.dims) (λ at. signed_by at (moment_below params (query_corner q at) o es)) (λ at. signed_by at (int_product_below params.dims (λ i. below i (above i (is_in_subset i at)))))
    (λ at. ap (signed_by at) (product-equal params.dims (λ i. below i (slice_index (query_corner q at) i)) (λ i. below i (query_end q at i))
    (λ i h. ap (below i) (end_of (λ i. query_end q at i) i (omega arith)))))
    ∙ signed_products params.dims (λ i s. below i (above i s)) some few
    ∙ product-equal params.dims (λ i. below i (slice_index q.high i) -ℤ below i (slice_index q.low i)) (λ i. moment (slice_index es i) (common_low params q o i) (common_high params q o i))
    (λ i h. moment_ends (slice_index es i) params.origin (slice_index o.low i) (slice_index o.high i) (slice_index q.low i) (slice_index q.high i) (ordered_at params q.low q.high i fits h))

-- so for the value function; without a degree both sides are 0
object_by_corners : (params : Params) (q : Query) (o : Object) → 1 ≤ params.dims → params.dims ≤ 3 → ends_fit params q.low q.high ≡ true
    → int_sum_below (2 ^ params.dims) (λ at. signed_by at (integral_below params (query_corner q at) o)) ≡ integral_over params q o
object_by_corners params q o some few fits = by_degree params.degree
  where
    by_degree : (d : Option ℕ) → int_sum_below (2 ^ params.dims) (λ at. signed_by at (option_map_or (integral_of_degree_below params (query_corner q at) o) d (pos 0))) ≡ option_map_or (integral_of_degree params q o) d (pos 0)
    by_degree (Some g) =
        let terms : List (ℤ × List ℕ) = zip o.coeffs (exponent_lists params.dims g) in
        let below : ℕ → ℤ × List ℕ → ℤ = λ at z. moment_below params (query_corner q at) o z.1 in
        signed-multiples (2 ^ params.dims) (λ z. z.0) below terms
        ∙ sum-equal (λ z. z.0 *ℤ int_sum_below (2 ^ params.dims) (λ at. signed_by at (below at z))) (λ z. z.0 *ℤ common_moment params q o z.1) terms
        (λ z. ap (λ m. z.0 *ℤ m) (term_between params q o z.1 some few fits))
    by_degree None = signed-multiples (2 ^ params.dims) (λ z. z) (λ at z. z) []

-- and for the objects live at a version
pub live_by_corners : (params : Params) (h : History) (version : ℕ) (q : Query) → 1 ≤ params.dims → params.dims ≤ 3 → ends_fit params q.low q.high ≡ true
    → int_sum_below (2 ^ params.dims) (λ at. signed_by at (below_at params h version (query_corner q at))) ≡ integral_at params h version q
live_by_corners params h version q some few fits =
    let n = 2 ^ params.dims in
    let below : Object → ℕ → ℤ = λ o at. integral_below params (query_corner q at) o in
    below-equal n (λ at. signed_by at (int_sum_by (λ o. below o at) (live h version))) (λ at. int_sum_by (λ o. signed_by at (below o at)) (live h version))
    (λ at. sym (signed-sum at (λ o. below o at) (live h version)))
    ∙ sym (below-exchange n (λ o at. signed_by at (below o at)) (live h version))
    ∙ sum-equal (λ o. int_sum_below n (λ at. signed_by at (below o at))) (integral_over params q) (live h version) (λ o. object_by_corners params q o some few fits)
