use Rattle.std.proofs.Common.{rules, ◌≡◌, ◌∙◌, ◌+◌, ◌≤◌, ℕ, Err, List, [], ◌∷◌, ◌++◌, length, map, ap, slice_index, arith}
use Rattle.std.proofs.lemmas.List.{length_push}
use Rattle.std.specs.List.{range_with_len}
use Rattle.bw_types.specs.Below.{below_at}
use Rattle.bw_types.specs.Residues.{residue}
use Rattle.bw_types.specs.Tally.{product_below}
use Rattle.bw_types.specs.declared.params.Params.{Params}
use Rattle.page_warehouse.specs.Shown.{disk_in, params_in}
use Rattle.grid_report.specs.Corners.{corner_at, corners_of}
use Rattle.grid_report.specs.Grids.{grid_corners}
use Rattle.grid_report.specs.Indexes.{indexes_of}
use Rattle.grid_report.specs.declared.cells.GridFault.TheVariants.{Damaged}
use Rattle.grid_report.proofs.CellSums.{corner-taken, corner-total, corner-within, corners-are}
use Rattle.grid_report.proofs.CornersBelow.{below-more, reads-more, reads-within}
use Rattle.grid_report.proofs.Fitting.{fitted}
use Rattle.grid_report.proofs.Maps.{range-more}
use Rattle.grid_report.proofs.Kept.{holds-now, stays-on}
use Rattle.grid_report.proofs.cells.corners_below.Goals as goal

pub overflow_cast-number-end : goal.overflow_cast-number-end
overflow_cast-number-end g c =
    let at = c.args.grid.now in
    let room : c.params-params.result.dims ≤ length at.cells = omega arith in
    let few = (fitted (params_in c.args.house.now) at c.requires.fits).corners in
    let all = corner-total c.params-params.result (params_in c.args.house.now) at c.line_counts-lines.result c.element_count-number-end.result room c.line_counts-lines.ensures c.params-params.ensures.value c.element_count-number-end.ensures in
    record { fits = omega (arith, few, all) }

pub corner-at-requires-clause-within : goal.corner-at-requires-clause-within
corner-at-requires-clause-within g c =
    let p = c.params-params.result in
    let at = c.args.grid.now in
    let room : p.dims ≤ length at.cells = omega arith in
    corner-within p at c.line_counts-lines.result room c.line_counts-lines.ensures c.indexes.result c.loop-number.number (omega (arith, c.element_count-number-end.ensures)) c.indexes.ensures

pub returns-in-Err-clause-sound : goal.returns-in-Err-clause-sound
returns-in-Err-clause-sound g c = λ whole h page held e.
    let same : c.in-Err.fault ≡ Damaged page = cc in
    c.corner_below.ensures.sound whole h page (holds-now g.D.Disk g.X.DomIndex c.args.house.now c.loop-number.house whole h c.loop-number.invariant.stays held) (c.in-Err.is ∙ ap Err same)

pub returns-in-Err-clause-kept : goal.returns-in-Err-clause-kept
returns-in-Err-clause-kept g c = stays-on g.D.Disk g.X.DomIndex c.args.house.now c.loop-number.house c.corner_below.new.house c.loop-number.invariant.stays c.corner_below.ensures.kept

pub returns-then-is_err-clause-kept : goal.returns-then-is_err-clause-kept
returns-then-is_err-clause-kept g c = stays-on g.D.Disk g.X.DomIndex c.args.house.now c.loop-number.house c.corner_below.new.house c.loop-number.invariant.stays c.corner_below.ensures.kept

pub returns-in-Err-clause-reads : goal.returns-in-Err-clause-reads
returns-in-Err-clause-reads g c = λ whole h held.
    let at = c.args.grid.now in
    let room : c.params-params.result.dims ≤ length at.cells = omega arith in
    let all = corner-total c.params-params.result (params_in c.args.house.now) at c.line_counts-lines.result c.element_count-number-end.result room c.line_counts-lines.ensures c.params-params.ensures.value c.element_count-number-end.ensures in
    let read = reads-more g.D.Disk g.X.DomIndex c.args.house.now c.loop-number.house c.loop-number.invariant.stays whole h held g.X.DomIndex.cost _ _ (g.D.Disk.reads (disk_in c.corner_below.new.house)) c.loop-number.number (c.loop-number.invariant.reads whole h held) c.corner_below.ensures.reads in
    reads-within _ _ (c.loop-number.number + 1) (grid_corners (params_in c.args.house.now) at) _ (omega (arith, all)) read

pub returns-then-is_err-clause-reads : goal.returns-then-is_err-clause-reads
returns-then-is_err-clause-reads g c = λ whole h held.
    let at = c.args.grid.now in
    let room : c.params-params.result.dims ≤ length at.cells = omega arith in
    let all = corner-total c.params-params.result (params_in c.args.house.now) at c.line_counts-lines.result c.element_count-number-end.result room c.line_counts-lines.ensures c.params-params.ensures.value c.element_count-number-end.ensures in
    let read = reads-more g.D.Disk g.X.DomIndex c.args.house.now c.loop-number.house c.loop-number.invariant.stays whole h held g.X.DomIndex.cost _ _ (g.D.Disk.reads (disk_in c.corner_below.new.house)) c.loop-number.number (c.loop-number.invariant.reads whole h held) c.corner_below.ensures.reads in
    reads-within _ _ (c.loop-number.number + 1) (grid_corners (params_in c.args.house.now) at) _ (omega (arith, all)) read

pub loop-number-preserved : goal.loop-number-preserved
loop-number-preserved g c =
    let p = c.params-params.result in
    let at = c.args.grid.now in
    let put : c.push.new.self.items ≡ c.loop-number.corners.items ++ c.in-Ok.value ∷ [] = search rules in
    record {
      stays = stays-on g.D.Disk g.X.DomIndex c.args.house.now c.loop-number.house c.corner_below.new.house c.loop-number.invariant.stays c.corner_below.ensures.kept;
      meta = c.corner_below.ensures.meta ∙ c.loop-number.invariant.meta;
      faults = search rules;
      reads = λ whole h held.
          reads-more g.D.Disk g.X.DomIndex c.args.house.now c.loop-number.house c.loop-number.invariant.stays whole h held g.X.DomIndex.cost _ _ (g.D.Disk.reads (disk_in c.corner_below.new.house)) c.loop-number.number (c.loop-number.invariant.reads whole h held) c.corner_below.ensures.reads;
      size = ap length put ∙ length_push c.loop-number.corners.items c.in-Ok.value ∙ ap (λ n. n + 1) c.loop-number.invariant.size;
      so_far = λ whole h held.
          let value = λ (ks : List ℕ). residue (below_at p h c.args.version (corner_at p at ks)) in
          let corner : c.corner-at.result ≡ corner_at p at (indexes_of p.dims (λ i. slice_index c.line_counts-lines.result i) c.loop-number.number) =
          c.corner-at.ensures.at ∙ corner-taken p at c.indexes.result ∙ ap (corner_at p at) c.indexes.ensures in
          let here = below-more g.D.Disk g.X.DomIndex c.args.house.now c.loop-number.house c.loop-number.invariant.stays whole h held p c.in-Ok.value c.args.version c.corner-at.result c.params-params.ensures.value c.in-Ok.ensures.below in
          range-more (λ q. value (indexes_of p.dims (λ i. slice_index c.line_counts-lines.result i) q)) c.loop-number.number c.loop-number.corners.items c.push.new.self.items c.in-Ok.value
          (c.loop-number.invariant.so_far whole h held) (here ∙ ap (λ point. residue (below_at p h c.args.version point)) corner) put;
    }

pub returns-clause-corners : goal.returns-clause-corners
returns-clause-corners g c = λ whole h held.
    let p = c.params-params.result in
    let at = c.args.grid.now in
    let room : p.dims ≤ length at.cells = omega arith in
    let end : c.loop-number.number ≡ product_below p.dims (λ i. slice_index c.line_counts-lines.result i) = omega (arith, c.element_count-number-end.ensures) in
    let value = λ (q : Params) (ks : List ℕ). residue (below_at q h c.args.version (corner_at q at ks)) in
    c.loop-number.invariant.so_far whole h held
    ∙ ap (λ n. map (λ q. value p (indexes_of p.dims (λ i. slice_index c.line_counts-lines.result i) q)) (range_with_len 0 n)) end
    ∙ corners-are p at c.line_counts-lines.result room c.line_counts-lines.ensures (value p)
    ∙ ap (λ (q : Params). map (value q) (corners_of q at)) c.params-params.ensures.value

pub returns-clause-all : goal.returns-clause-all
returns-clause-all g c =
    let at = c.args.grid.now in
    let room : c.params-params.result.dims ≤ length at.cells = omega arith in
    let all = corner-total c.params-params.result (params_in c.args.house.now) at c.line_counts-lines.result c.element_count-number-end.result room c.line_counts-lines.ensures c.params-params.ensures.value c.element_count-number-end.ensures in
    let end : c.loop-number.number ≡ c.element_count-number-end.result = omega arith in
    c.loop-number.invariant.size ∙ end ∙ all

pub returns-clause-reads : goal.returns-clause-reads
returns-clause-reads g c = λ whole h held.
    let at = c.args.grid.now in
    let room : c.params-params.result.dims ≤ length at.cells = omega arith in
    let all = corner-total c.params-params.result (params_in c.args.house.now) at c.line_counts-lines.result c.element_count-number-end.result room c.line_counts-lines.ensures c.params-params.ensures.value c.element_count-number-end.ensures in
    reads-within _ _ c.loop-number.number (grid_corners (params_in c.args.house.now) at) _ (omega (arith, all)) (c.loop-number.invariant.reads whole h held)
