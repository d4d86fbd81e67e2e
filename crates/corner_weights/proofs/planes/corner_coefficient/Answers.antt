use Rattle.std.proofs.Common.{◌≡◌, ◌+◌, ◌<◌, ℕ, ℤ, [], refl, sym, ap, ◌∙◌, lit<, arith, slice_index, slice_index_or}
use Rattle.bw_types.specs.ResidueLaws.{residue_of_small}
use Rattle.bw_types.specs.Fits.{coordinate}
use Rattle.bw_types.specs.Residues.{residue}
use Rattle.bw_types.specs.Integral.{exponent_lists}
use Rattle.bw_types.specs.declared.object.Object.{Object}
use Rattle.bw_types.specs.declared.params.Params.{Params}
use Rattle.corner_weights.specs.Corners.{object_corner}
use Rattle.corner_weights.specs.Planes.{coefficient, plane_exponents}
use Rattle.corner_weights.proofs.Steps.{product_step, product-zero}
use Rattle.corner_weights.proofs.planes.corner_coefficient.Goals as goal

-- the factor of a dimension
abbrev pub factor_of : Params → Object → ℕ → ℕ → ℕ → ℕ → ℕ → ℤ
factor_of params o g subset plane k i =
    coefficient (slice_index (slice_index_or (exponent_lists params.dims g) k []) i) (slice_index (slice_index_or (plane_exponents params.dims g) plane []) i)
    (coordinate params (slice_index (object_corner o subset) i))

pub loop-i-init : goal.loop-i-init
loop-i-init c = sym (residue_of_small 1 (lit< tt))

-- the exponents are those of the term and of the plane
factor_is : (params : Params) (o : Object) (g subset plane k i e f dims degree base : ℕ) → dims ≡ params.dims → degree ≡ g → base ≡ g → e ≡ slice_index (slice_index_or (exponent_lists dims degree) k []) i
    → f ≡ slice_index (slice_index_or (exponent_lists dims (base + 1)) plane []) i
    → coefficient e f (coordinate params (slice_index (object_corner o subset) i)) ≡ factor_of params o g subset plane k i
factor_is params o g subset plane k i e f dims degree base is_dims is_degree is_base is_e is_f =
    let at : ℤ = coordinate params (slice_index (object_corner o subset) i) in
    ap (λ (x : ℕ). coefficient x f at) (is_e ∙ ap (λ (d : ℕ). slice_index (slice_index_or (exponent_lists d degree) k []) i) is_dims ∙ ap (λ (d : ℕ). slice_index (slice_index_or (exponent_lists params.dims d) k []) i) is_degree)
    ∙ ap (λ (x : ℕ). coefficient (slice_index (slice_index_or (exponent_lists params.dims g) k []) i) x at)
    (is_f ∙ ap (λ (d : ℕ). slice_index (slice_index_or (exponent_lists d (base + 1)) plane []) i) is_dims ∙ ap (λ (d : ℕ). slice_index (slice_index_or (exponent_lists params.dims (d + 1)) plane []) i) is_base)

pub returns-in_default : goal.returns-in_default
returns-in_default c =
    let params = c.args.params.now in
    let o = c.args.object.now in
    let f = factor_of params o c.args.degree c.args.subset c.args.plane c.args.k in
    let dims : c.loop-i.i < params.dims = omega (arith, c.loop-i-test.true, c.from-dims.ensures) in
    let none = c.in_default.ensures.none refl (coordinate params (slice_index (object_corner o c.args.subset) c.loop-i.i)) in
    let is = factor_is params o c.args.degree c.args.subset c.args.plane c.args.k c.loop-i.i c.exponent-e.result c.exponent-f.result c.from-dims.result c.from.result c.from-in-loop-i.result c.from-dims.ensures c.from.ensures c.from-in-loop-i.ensures c.exponent-e.ensures.digit c.exponent-f.ensures.digit in
    sym (residue_of_small 0 (lit< tt)) ∙ ap residue (sym (product-zero params.dims c.loop-i.i f dims (sym is ∙ none)))

pub loop-i-preserved : goal.loop-i-preserved
loop-i-preserved c =
    let params = c.args.params.now in
    let o = c.args.object.now in
    let f = factor_of params o c.args.degree c.args.subset c.args.plane c.args.k in
    let there = c.power_at.ensures params o c.requires.powers in
    let some = c.in-Some.ensures.some (coordinate params (slice_index (object_corner o c.args.subset) c.loop-i.i)) there in
    let is = factor_is params o c.args.degree c.args.subset c.args.plane c.args.k c.loop-i.i c.exponent-e.result c.exponent-f.result c.from-dims.result c.from.result c.from-in-loop-i.result c.from-dims.ensures c.from.ensures c.from-in-loop-i.ensures c.exponent-e.ensures.digit c.exponent-f.ensures.digit in
    product_step f c.loop-i.i c.loop-i.product c.in-Some.factor c.res_mul-product.result c.loop-i.invariant (some ∙ ap residue is) c.res_mul-product.ensures
