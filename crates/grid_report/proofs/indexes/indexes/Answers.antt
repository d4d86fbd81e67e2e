use Rattle.std.proofs.Common.{ℕ, subst, sym, ◌≡◌, ◌-◌, ◌<◌, [], ◌∷◌, refl, slice_index, arith}
use Rattle.grid_report.proofs.IndexSteps.{HoldsIndexes, holds-all, holds-more, holds-none, some-index}
use Rattle.grid_report.proofs.indexes.indexes.Goals as goal

pub loop-i-init : goal.loop-i-init
loop-i-init c =
    let n = λ (i : ℕ). slice_index c.args.sizes.now i in
    subst (λ i. HoldsIndexes c.args.dims n c.args.number i c.args.number (0 ∷ 0 ∷ 0 ∷ [])) (sym c.from-i.ensures) (holds-none c.args.dims n c.args.number (0 ∷ 0 ∷ 0 ∷ []) refl c.requires.dims c.requires.number)

pub nonzero_rem-at : goal.nonzero_rem-at
nonzero_rem-at c =
    let some : 0 < slice_index c.args.sizes.now (c.loop-i.i - 1) = some-index c.loop-i.i (λ i. slice_index c.args.sizes.now i) c.loop-i.rest c.loop-i-test.true c.loop-i.invariant.below in
    omega (arith, c.from-size.ensures)

pub nonzero_div-rest : goal.nonzero_div-rest
nonzero_div-rest c =
    let some : 0 < slice_index c.args.sizes.now (c.loop-i.i - 1) = some-index c.loop-i.i (λ i. slice_index c.args.sizes.now i) c.loop-i.rest c.loop-i-test.true c.loop-i.invariant.below in
    omega (arith, c.from-size.ensures)

pub overflow_cast-at : goal.overflow_cast-at
overflow_cast-at c =
    let some : 0 < slice_index c.args.sizes.now (c.loop-i.i - 1) = some-index c.loop-i.i (λ i. slice_index c.args.sizes.now i) c.loop-i.rest c.loop-i-test.true c.loop-i.invariant.below in
    let bound = c.fits-sizes (c.loop-i.i - 1) in
    record { fits = omega (arith, bound, some, c.from-size.ensures) }

pub loop-i-preserved : goal.loop-i-preserved
loop-i-preserved c =
    holds-more c.args.dims (λ i. slice_index c.args.sizes.now i) c.args.number c.loop-i.i c.loop-i.rest c.from-size.result c.loop-i.at c.loop-i-test.true (omega arith) c.requires.dims c.from-size.ensures c.loop-i.invariant

pub returns : goal.returns
returns c =
    let end : c.loop-i.i ≡ 0 = omega arith in
    holds-all c.args.dims (λ i. slice_index c.args.sizes.now i) c.args.number c.loop-i.rest c.loop-i.at (rw end at c.loop-i.invariant)
