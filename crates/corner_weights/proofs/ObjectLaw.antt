-- The integral of one object by its planes.
use Rattle.std.proofs.Common.{List, ◌≡◌, ℕ, zero, suc, ◌+◌, ◌^◌, ◌<◌, ◌≤◌, Bool, true, false, ◌&&◌, nat_le, if◌then◌else◌, ℤ, pos, ◌-ℤ◌, ◌*ℤ◌, slice_index, arith, refl, ◌∙◌, ap, sym}
use Rattle.std.specs.List.{zip, range_with_len}
use Rattle.std.specs.Int.{int_pow}
use Rattle.std.specs.Option.{option_map_or}
use Rattle.std.proofs.lemmas.Bool.{and_parts, leb-true}
use Rattle.bw_types.specs.Tally.{int_product_below, int_sum_by}
use Rattle.bw_types.specs.Fits.{ends_fit, coordinate, greatest_number}
use Rattle.bw_types.specs.Integral.{exponent_lists, moment, common_low, common_high, common_moment, integral_of_degree}
use Rattle.bw_types.specs.declared.params.Params.{Params}
use Rattle.bw_types.specs.declared.object.Object.{Object}
use Rattle.bw_types.specs.declared.query.Query.{Query}
use Rattle.corner_weights.specs.Subsets.{is_in_subset, signed_by}
use Rattle.corner_weights.specs.Sums.{int_sum_below}
use Rattle.corner_weights.specs.Corners.{of_dimensions, object_end, object_corner, query_end}
use Rattle.corner_weights.specs.Planes.{primitive, coefficient, corner_coefficient, corner_sum, plane_exponents, monomial}
use Rattle.corner_weights.specs.Integrals.{query_corner, corner_is_below, value_at_corner, ObjectIntegralByPlanes}
use Rattle.corner_weights.proofs.Whole.{times_assoc}
use Rattle.corner_weights.proofs.Digits.{at_one}
use Rattle.corner_weights.proofs.ListSums.{sum-equal, sum-times, times-sum, sum-exchange, sum-zip, product-equal, product-products, product-tested, distribute, exponents-small}
use Rattle.corner_weights.proofs.OneDimension.{polynomial, reached, reached_between, moment_between}
use Rattle.corner_weights.proofs.SubsetSums.{below-equal, below-times, below-exchange, signed-sum, signed-multiples, taken-times, taken-sum, times-taken, signed_products}

-- an end of a corner is that of its dimension
pub end_of : (f : ℕ → ℕ) (i : ℕ) → i < 3 → slice_index (of_dimensions f) i ≡ f i
end_of f zero h = refl
end_of f (suc zero) h = refl
end_of f (suc (suc zero)) h = refl
end_of f (suc (suc (suc i))) h = absurd (omega arith)

-- the antiderivative of a term's factor in a dimension, of a stored number
abbrev pub antiderivative : Params → List ℕ → ℕ → ℕ → ℤ
antiderivative params es i n = primitive (slice_index es i) (coordinate params n)

-- what a term of the value function gives at a corner of the query for a corner of the object
abbrev term_at : Params → Object → ℕ → Query → ℕ → List ℕ → ℤ
term_at params o corner q at es =
    int_product_below params.dims (λ i. antiderivative params es i (query_end q at i) -ℤ antiderivative params es i (object_end o corner i))

-- and the value function whole
abbrev terms_at : Params → Object → ℕ → ℕ → Query → ℕ → ℤ
terms_at params o g corner q at = int_sum_by (λ (c, es). c *ℤ term_at params o corner q at es) (zip o.coeffs (exponent_lists params.dims g))

-- the polynomial of one term
term_polynomial : (params : Params) (o : Object) (g corner : ℕ) (q : Query) (at : ℕ) (es : List ℕ) → params.dims ≤ 3 → g ≤ 2 → ((i : ℕ) → i < params.dims → slice_index es i < g + 1)
    → int_sum_by (λ fs. corner_coefficient params (object_corner o corner) fs es *ℤ monomial params (query_corner q at) fs) (plane_exponents params.dims g) ≡ term_at params o corner q at es
term_polynomial params o g corner q at es few small each =
    let c : ℕ → ℤ = λ i. coordinate params (slice_index (object_corner o corner) i) in
    let x : ℕ → ℤ = λ i. coordinate params (slice_index (query_corner q at) i) in
    let factor : ℕ → ℕ → ℤ = λ i f. coefficient (slice_index es i) f (c i) *ℤ int_pow (x i) f in
    sum-equal (λ fs. corner_coefficient params (object_corner o corner) fs es *ℤ monomial params (query_corner q at) fs) (λ fs. int_product_below params.dims (λ i. factor i (slice_index fs i))) (plane_exponents params.dims g)
    (λ fs. sym (product-products params.dims (λ i. coefficient (slice_index es i) (slice_index fs i) (c i)) (λ i. int_pow (x i) (slice_index fs i))))
    ∙ distribute params.dims (g + 1) factor
    ∙ product-equal params.dims (λ i. int_sum_by (factor i) (range_with_len 0 (g + 1 + 1))) (λ i. antiderivative params es i (query_end q at i) -ℤ antiderivative params es i (object_end o corner i))
    (λ i h. polynomial g (slice_index es i) (c i) (x i) small (each i h)
    ∙ ap (λ n. primitive (slice_index es i) (coordinate params n) -ℤ primitive (slice_index es i) (c i)) (end_of (λ i. query_end q at i) i (omega arith))
    ∙ ap (λ n. antiderivative params es i (query_end q at i) -ℤ primitive (slice_index es i) (coordinate params n)) (end_of (λ i. object_end o corner i) i (omega arith)))

-- the polynomial of a corner, without its sign
corner_polynomial : (params : Params) (o : Object) (g corner : ℕ) (q : Query) (at : ℕ) → params.dims ≤ 3 → g ≤ 2
    → int_sum_by (λ fs. corner_sum params o g (object_corner o corner) fs *ℤ monomial params (query_corner q at) fs) (plane_exponents params.dims g) ≡ terms_at params o g corner q at
corner_polynomial params o g corner q at few small =
    let terms : List (ℤ × List ℕ) = zip o.coeffs (exponent_lists params.dims g) in
    let planes : List (List ℕ) = plane_exponents params.dims g in
    let k : List ℕ → List ℕ → ℤ = λ fs es. corner_coefficient params (object_corner o corner) fs es in
    let m : List ℕ → ℤ = λ fs. monomial params (query_corner q at) fs in
    let term : List ℕ → ℤ × List ℕ → ℤ = λ fs z. z.0 *ℤ k fs z.1 in
    sum-equal (λ fs. int_sum_by (term fs) terms *ℤ m fs) (λ fs. int_sum_by (λ z. term fs z *ℤ m fs) terms) planes (λ fs. sym (sum-times (term fs) (m fs) terms))
    ∙ sum-exchange (λ fs z. term fs z *ℤ m fs) planes terms
    ∙ sum-zip (λ es. (i : ℕ) → i < params.dims → slice_index es i < g + 1) (λ z. int_sum_by (λ fs. term fs z *ℤ m fs) planes) (λ z. z.0 *ℤ term_at params o corner q at z.1) o.coeffs (exponent_lists params.dims g) (exponents-small params.dims g)
    (λ c es each. sum-equal (λ fs. c *ℤ k fs es *ℤ m fs) (λ fs. c *ℤ (k fs es *ℤ m fs)) planes (λ fs. times_assoc c (k fs es) (m fs))
    ∙ times-sum c (λ fs. k fs es *ℤ m fs) planes
    ∙ ap (λ z. c *ℤ z) (term_polynomial params o g corner q at es few small each))

-- the value at a corner of the query: each corner of the object that is at or below it gives its terms, with its sign
pub value_of_corners : (params : Params) (o : Object) (g : ℕ) (q : Query) (at : ℕ) → params.dims ≤ 3 → g ≤ 2
    → value_at_corner params o g q at
    ≡ int_sum_below (2 ^ params.dims) (λ corner. signed_by corner (if corner_is_below params.dims o corner q at then terms_at params o g corner q at else pos 0))
value_of_corners params o g q at few small =
    let planes : List (List ℕ) = plane_exponents params.dims g in
    let below : ℕ → Bool = λ corner. corner_is_below params.dims o corner q at in
    let m : List ℕ → ℤ = λ fs. monomial params (query_corner q at) fs in
    let sum : ℕ → List ℕ → ℤ = λ corner fs. corner_sum params o g (object_corner o corner) fs in
    let weight : List ℕ → ℕ → ℤ = λ fs corner. if below corner then signed_by corner (sum corner fs) else pos 0 in
    sum-equal (λ fs. int_sum_below (2 ^ params.dims) (weight fs) *ℤ m fs) (λ fs. int_sum_below (2 ^ params.dims) (λ corner. weight fs corner *ℤ m fs)) planes
    (λ fs. below-times (2 ^ params.dims) (weight fs) (m fs))
    ∙ below-exchange (2 ^ params.dims) (λ fs corner. weight fs corner *ℤ m fs) planes
    ∙ below-equal (2 ^ params.dims) (λ corner. int_sum_by (λ fs. weight fs corner *ℤ m fs) planes) (λ corner. signed_by corner (if below corner then terms_at params o g corner q at else pos 0))
    (λ corner. sum-equal (λ fs. weight fs corner *ℤ m fs) (λ fs. signed_by corner (if below corner then sum corner fs *ℤ m fs else pos 0)) planes
    (λ fs. taken-times corner (below corner) (sum corner fs) (m fs))
    ∙ signed-sum corner (λ fs. if below corner then sum corner fs *ℤ m fs else pos 0) planes
    ∙ ap (signed_by corner) (taken-sum (below corner) (λ fs. sum corner fs *ℤ m fs) planes)
    ∙ ap (λ z. signed_by corner (if below corner then z else pos 0)) (corner_polynomial params o g corner q at few small))

-- what a term gives at a corner of the query: each corner of the object that is at or below it, with its sign
abbrev pub term_reached : Params → Object → Query → ℕ → List ℕ → ℤ
term_reached params o q at es =
    int_sum_below (2 ^ params.dims) (λ corner. signed_by corner (if corner_is_below params.dims o corner q at then term_at params o corner q at es else pos 0))

-- it is a product of what the two ends of each dimension give
pub term_reached_is : (params : Params) (o : Object) (q : Query) (at : ℕ) (es : List ℕ) → 1 ≤ params.dims → params.dims ≤ 3
    → term_reached params o q at es ≡ int_product_below params.dims (λ i. reached (antiderivative params es i) (slice_index o.low i) (slice_index o.high i) (query_end q at i))
term_reached_is params o q at es some few =
    let p : ℕ → ℕ → ℤ = λ i. antiderivative params es i in
    let end : ℕ → Bool → ℕ = λ i t. if t then slice_index o.high i else slice_index o.low i in
    let part : ℕ → Bool → ℤ = λ i t. if nat_le (end i t) (query_end q at i) then p i (query_end q at i) -ℤ p i (end i t) else pos 0 in
    below-equal (2 ^ params.dims) (λ corner. signed_by corner (if corner_is_below params.dims o corner q at then term_at params o corner q at es else pos 0))
    (λ corner. signed_by corner (int_product_below params.dims (λ i. part i (is_in_subset i corner))))
    (λ corner. ap (signed_by corner) (product-tested params.dims (λ i. nat_le (object_end o corner i) (query_end q at i)) (λ i. p i (query_end q at i) -ℤ p i (object_end o corner i))))
    ∙ signed_products params.dims part some few

-- so for the value function, term by term
pub terms_reached : (params : Params) (o : Object) (g : ℕ) (q : Query) (at : ℕ)
    → int_sum_below (2 ^ params.dims) (λ corner. signed_by corner (if corner_is_below params.dims o corner q at then terms_at params o g corner q at else pos 0))
    ≡ int_sum_by (λ (c, es). c *ℤ term_reached params o q at es) (zip o.coeffs (exponent_lists params.dims g))
terms_reached params o g q at =
    let n = 2 ^ params.dims in
    let terms : List (ℤ × List ℕ) = zip o.coeffs (exponent_lists params.dims g) in
    let below : ℕ → Bool = λ corner. corner_is_below params.dims o corner q at in
    let taken : ℕ → ℤ × List ℕ → ℤ = λ corner z. if below corner then term_at params o corner q at z.1 else pos 0 in
    below-equal n (λ corner. signed_by corner (if below corner then terms_at params o g corner q at else pos 0)) (λ corner. signed_by corner (int_sum_by (λ z. z.0 *ℤ taken corner z) terms))
    (λ corner. ap (signed_by corner) (sym (taken-sum (below corner) (λ z. z.0 *ℤ term_at params o corner q at z.1) terms)
    ∙ sum-equal (λ z. if below corner then z.0 *ℤ term_at params o corner q at z.1 else pos 0) (λ z. z.0 *ℤ taken corner z) terms (λ z. times-taken (below corner) z.0 (term_at params o corner q at z.1))))
    ∙ signed-multiples n (λ z. z.0) taken terms

-- the signed values of one term
abbrev term_value : Params → Object → Query → List ℕ → ℤ
term_value params o q es = int_sum_below (2 ^ params.dims) (λ at. signed_by at (term_reached params o q at es))

-- the ends are in order in each dimension
pub ordered_at : (params : Params) (low high : List ℕ) (i : ℕ) → ends_fit params low high ≡ true → i < params.dims → slice_index low i ≤ slice_index high i
ordered_at params low high i fits h =
    let both = at_one params.dims i (λ i. nat_le (slice_index low i) (slice_index high i) && nat_le (slice_index high i) (greatest_number params)) fits h in
    leb-true (slice_index low i) (slice_index high i) (and_parts _ _ both).0

-- they come to the moment of the common part
term_value_is : (params : Params) (o : Object) (q : Query) (es : List ℕ) → 1 ≤ params.dims → params.dims ≤ 3 → ends_fit params o.low o.high ≡ true → ends_fit params q.low q.high ≡ true
    → term_value params o q es ≡ common_moment params q o es
term_value_is params o q es some few fo fq =
    let p : ℕ → ℕ → ℤ = λ i. antiderivative params es i in
    let above : ℕ → Bool → ℕ = λ i s. if s then slice_index q.low i else slice_index q.high i in
    let part : ℕ → Bool → ℤ = λ i s. reached (p i) (slice_index o.low i) (slice_index o.high i) (above i s) in
    below-equal (2 ^ params.dims) (λ at. signed_by at (term_reached params o q at es)) (λ at. signed_by at (int_product_below params.dims (λ i. part i (is_in_subset i at))))
    (λ at. ap (signed_by at) (term_reached_is params o q at es some few))
    ∙ signed_products params.dims part some few
    ∙ product-equal params.dims (λ i. part i false -ℤ part i true) (λ i. moment (slice_index es i) (common_low params q o i) (common_high params q o i))
    (λ i h. reached_between (p i) (slice_index o.low i) (slice_index o.high i) (slice_index q.low i) (slice_index q.high i) (ordered_at params o.low o.high i fo h) (ordered_at params q.low q.high i fq h)
    ∙ moment_between (slice_index es i) params.origin (slice_index o.low i) (slice_index o.high i) (slice_index q.low i) (slice_index q.high i))

pub object_integral_of_degree : (params : Params) (q : Query) (o : Object) (g : ℕ) → 1 ≤ params.dims → params.dims ≤ 3 → g ≤ 2 → ends_fit params o.low o.high ≡ true → ends_fit params q.low q.high ≡ true
    → int_sum_below (2 ^ params.dims) (λ at. signed_by at (value_at_corner params o g q at)) ≡ integral_of_degree params q o g
object_integral_of_degree params q o g some few small fo fq =
    let n = 2 ^ params.dims in
    let terms : List (ℤ × List ℕ) = zip o.coeffs (exponent_lists params.dims g) in
    below-equal n (λ at. signed_by at (value_at_corner params o g q at)) (λ at. signed_by at (int_sum_by (λ z. z.0 *ℤ term_reached params o q at z.1) terms))
    (λ at. ap (signed_by at) (value_of_corners params o g q at few small ∙ terms_reached params o g q at))
    ∙ signed-multiples n (λ z. z.0) (λ at z. term_reached params o q at z.1) terms
    ∙ sum-equal (λ z. z.0 *ℤ term_value params o q z.1) (λ z. z.0 *ℤ common_moment params q o z.1) terms
    (λ z. ap (λ m. z.0 *ℤ m) (term_value_is params o q z.1 some few fo fq))

pub object_integral_by_planes : ObjectIntegralByPlanes
object_integral_by_planes params q o g range has fo fq =
    let small : g ≤ 2 = rw has at range.degree in
    let ends : ends_fit params o.low o.high ≡ true = (and_parts _ _ (and_parts _ _ fo).0).0 in
    object_integral_of_degree params q o g range.some_dims range.dims small ends fq
    ∙ ap (λ d. option_map_or (integral_of_degree params q o) d (pos 0)) (sym has)
