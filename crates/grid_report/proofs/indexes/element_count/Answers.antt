use Rattle.std.proofs.Common.{◌≡◌, ◌+◌, ◌*◌, ◌∙◌, ℕ, sym, ap₂, arith, slice_index}
use Rattle.bw_types.specs.Tally.{product_below}
use Rattle.grid_report.proofs.Products.{one-more, product-fits}
use Rattle.grid_report.proofs.indexes.element_count.Goals as goal

pub overflow_mul-count : goal.overflow_mul-count
overflow_mul-count c =
    let f = λ (i : ℕ). slice_index c.args.sizes.now i in
    let here : product_below (c.loop-i.i + 1) f ≡ c.loop-i.count * c.from-count.result = one-more c.loop-i.i f ∙ ap₂ (λ m n. m * n) (sym c.loop-i.invariant) (sym c.from-count.ensures) in
    let fits = product-fits f c.fits-sizes (c.loop-i.i + 1) (omega arith) in
    record { fits = omega (arith, here, fits) }
