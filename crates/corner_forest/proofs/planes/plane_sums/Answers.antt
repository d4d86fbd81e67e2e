use Rattle.std.proofs.Common.{◌+◌, ◌<◌, Err, length, rules, ap, arith}
use Rattle.std.proofs.lemmas.Result.{err_from_is_err_and}
use Rattle.ports.specs.declared.page.PageFault.TheVariants.{Damaged}
use Rattle.bw_types.specs.Dominance.{dominance_sum}
use Rattle.bw_types.specs.Empty.{empty_tree}
use Rattle.corner_weights.specs.Planes.{plane_count}
use Rattle.corner_forest.specs.Entries.{corner_count}
use Rattle.corner_forest.proofs.Exits.{exit_error}
use Rattle.corner_forest.proofs.Places.{balanced_here, cost_here, damaged_there, more_cost, most_cost, push_sum, stands_here}
use Rattle.corner_forest.proofs.planes.plane_sums.Goals as goal

pub returns-in_err-sum-clause-sound : goal.returns-in_err-sum-clause-sound
returns-in_err-sum-clause-sound g c = λ points page tells each e.
    let p = err_from_is_err_and c.from_residual.result c.from_residual.ensures.1 in
    let same = exit_error c.from_residual.result c.in_err-sum.field-0.0 (Damaged page) p e in
    let forest = c.args.forest.now in
    let params = forest.params in
    let k = corner_count params + c.loop-plane.plane in
    let inside : c.loop-plane.plane < plane_count params = omega (arith, c.loop-plane-test.true, c.plane_count-plane-end.ensures.count) in
    let below : k < length forest.roots.items = omega (arith, inside, c.requires.roots) in
    c.in_err-sum.ensures.sound (points k) page (search rules)
    (stands_here g.X.DomIndex (g.P.Pages.map c.args.pages.now) (g.P.Pages.map c.loop-plane.pages) params.dims points forest.roots.items c.as_slice-roots.result.now k
    (c.from-first.result + c.loop-plane.plane) _ c.loop-plane.invariant.went.map c.as_slice-roots.ensures.value (omega (arith, c.from-first.ensures, c.corner_count.ensures.count)) each below) (ap Err same)

pub returns-in_err-sum-clause-damaged : goal.returns-in_err-sum-clause-damaged
returns-in_err-sum-clause-damaged g c = λ page e tells.
    let p = err_from_is_err_and c.from_residual.result c.from_residual.ensures.1 in
    let same = exit_error c.from_residual.result c.in_err-sum.field-0.0 (Damaged page) p e in
    let forest = c.args.forest.now in
    let params = forest.params in
    let k = corner_count params + c.loop-plane.plane in
    let inside : c.loop-plane.plane < plane_count params = omega (arith, c.loop-plane-test.true, c.plane_count-plane-end.ensures.count) in (
      c.loop-plane.plane,
      inside,
      damaged_there g.X.DomIndex (g.P.Pages.map c.args.pages.now) (g.P.Pages.map c.loop-plane.pages) params.dims c.args.version page c.args.keys.now forest.roots.items
          c.as_slice-roots.result.now k (c.from-first.result + c.loop-plane.plane) empty_tree c.loop-plane.invariant.went.map c.as_slice-roots.ensures.value (omega (arith, c.from-first.ensures, c.corner_count.ensures.count))
          (c.in_err-sum.ensures.damaged page (ap Err same) (search rules)),
    )

pub returns-in_err-sum-clause-cost : goal.returns-in_err-sum-clause-cost
returns-in_err-sum-clause-cost g c = λ tells points n each balanced counts.
    let forest = c.args.forest.now in
    let params = forest.params in
    let k = corner_count params + c.loop-plane.plane in
    let inside : c.loop-plane.plane < plane_count params = omega (arith, c.loop-plane-test.true, c.plane_count-plane-end.ensures.count) in
    let below : k < length forest.roots.items = omega (arith, inside, c.requires.roots) in
    let stands = (stands_here g.X.DomIndex (g.P.Pages.map c.args.pages.now) (g.P.Pages.map c.loop-plane.pages) params.dims points forest.roots.items c.as_slice-roots.result.now k
    (c.from-first.result + c.loop-plane.plane) _ c.loop-plane.invariant.went.map c.as_slice-roots.ensures.value (omega (arith, c.from-first.ensures, c.corner_count.ensures.count)) each below) in
    let low = (balanced_here g.X.DomIndex (g.P.Pages.map c.args.pages.now) (g.P.Pages.map c.loop-plane.pages) params.dims forest.roots.items c.as_slice-roots.result.now k
    (c.from-first.result + c.loop-plane.plane) _ c.loop-plane.invariant.went.map c.as_slice-roots.ensures.value (omega (arith, c.from-first.ensures, c.corner_count.ensures.count)) balanced below) in
    let counted = c.index_laws.ensures.counted (g.P.Pages.map c.loop-plane.pages) params.dims _ (points k) stands in
    let before = c.loop-plane.invariant.cost tells points n each balanced counts in
    let after = cost_here g.X.DomIndex params.dims _ (length (points k)) n (g.P.Pages.gets c.loop-plane.pages) (g.P.Pages.gets c.sum.new.pages) counted.0 (counts c.loop-plane.plane inside)
    (c.in_err-sum.ensures.cost (search rules) (points k) stands low) in
    let more = more_cost c.loop-plane.plane (g.X.DomIndex.cost params.dims n) (g.P.Pages.gets c.args.pages.now) (g.P.Pages.gets c.loop-plane.pages) (g.P.Pages.gets c.sum.new.pages) before after in
    most_cost c.loop-plane.plane (plane_count params) (g.X.DomIndex.cost params.dims n) (g.P.Pages.gets c.args.pages.now) (g.P.Pages.gets c.sum.new.pages) more inside

pub loop-plane-preserved : goal.loop-plane-preserved
loop-plane-preserved g c =
    let forest = c.args.forest.now in
    let params = forest.params in
    let k = corner_count params + c.loop-plane.plane in
    let inside : c.loop-plane.plane < plane_count params = omega (arith, c.loop-plane-test.true, c.plane_count-plane-end.ensures.count) in
    let below : k < length forest.roots.items = omega (arith, inside, c.requires.roots) in
    record {
      len = search rules;
      went = search rules;
      sums = λ tells points each.
          push_sum (λ plane. dominance_sum params.dims (points (corner_count params + plane)) c.args.keys.now c.args.version) c.loop-plane.plane c.loop-plane.sums.items c.push.new.self.items c.in_ok-sum.sum
          (c.loop-plane.invariant.sums tells points each) (c.in_ok-sum.ensures.sum (search rules) (points k)
          (stands_here g.X.DomIndex (g.P.Pages.map c.args.pages.now) (g.P.Pages.map c.loop-plane.pages) params.dims points forest.roots.items c.as_slice-roots.result.now k
          (c.from-first.result + c.loop-plane.plane) _ c.loop-plane.invariant.went.map c.as_slice-roots.ensures.value (omega (arith, c.from-first.ensures, c.corner_count.ensures.count)) each below)) c.push.ensures.items;
      cost = λ tells points n each balanced counts.
          let stands = (stands_here g.X.DomIndex (g.P.Pages.map c.args.pages.now) (g.P.Pages.map c.loop-plane.pages) params.dims points forest.roots.items c.as_slice-roots.result.now k
          (c.from-first.result + c.loop-plane.plane) _ c.loop-plane.invariant.went.map c.as_slice-roots.ensures.value (omega (arith, c.from-first.ensures, c.corner_count.ensures.count)) each below) in
          let low = (balanced_here g.X.DomIndex (g.P.Pages.map c.args.pages.now) (g.P.Pages.map c.loop-plane.pages) params.dims forest.roots.items c.as_slice-roots.result.now k
          (c.from-first.result + c.loop-plane.plane) _ c.loop-plane.invariant.went.map c.as_slice-roots.ensures.value (omega (arith, c.from-first.ensures, c.corner_count.ensures.count)) balanced below) in
          let counted = c.index_laws.ensures.counted (g.P.Pages.map c.loop-plane.pages) params.dims _ (points k) stands in
          let before = c.loop-plane.invariant.cost tells points n each balanced counts in
          let after = cost_here g.X.DomIndex params.dims _ (length (points k)) n (g.P.Pages.gets c.loop-plane.pages) (g.P.Pages.gets c.sum.new.pages) counted.0 (counts c.loop-plane.plane inside)
          (c.in_ok-sum.ensures.cost (search rules) (points k) stands low) in
          let more = more_cost c.loop-plane.plane (g.X.DomIndex.cost params.dims n) (g.P.Pages.gets c.args.pages.now) (g.P.Pages.gets c.loop-plane.pages) (g.P.Pages.gets c.sum.new.pages) before after in
          more;
    }
