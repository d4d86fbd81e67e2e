use Rattle.std.proofs.Common.{◌+◌, ◌<◌, ◌∙◌, [], ◌∷◌, ◌++◌, length, ap, sym, slice_index, arith}
use Rattle.std.proofs.lemmas.List.{length-set, map_more, take_more_set}
use Rattle.grid_report.proofs.Fitting.{fitted}
use Rattle.grid_report.proofs.Products.{product-holds}
use Rattle.grid_report.proofs.sums.line_counts.Goals as goal

pub overflow_add-lines : goal.overflow_add-lines
overflow_add-lines c =
    let p = c.args.params.now in
    let g = c.args.grid.now in
    let few = (fitted p g c.requires.fits).corners in
    let all = product-holds (λ i. slice_index g.cells i + 1) p.dims (λ k lt. omega arith) c.loop-i.i (omega arith) in
    record { fits = omega (arith, few, all) }

pub loop-i-preserved : goal.loop-i-preserved
loop-i-preserved c =
    let cells = c.args.grid.now.cells in
    let line = slice_index cells c.loop-i.i + 1 in
    let here : c.loop-i.i < length c.loop-i.lines = omega (arith, c.loop-i.invariant.size) in
    let there : c.loop-i.i < length cells = omega arith in
    record {
      size = length-set c.loop-i.lines c.loop-i.i line ∙ c.loop-i.invariant.size;
      so_far = take_more_set c.loop-i.lines c.loop-i.i line here ∙ ap (λ ks. ks ++ line ∷ []) c.loop-i.invariant.so_far ∙ sym (map_more (λ n. n + 1) cells c.loop-i.i 0 there);
    }
