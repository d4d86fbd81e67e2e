use Rattle.std.proofs.Common.{◌<◌, Err, length, refl, rules, ap, ◌∙◌, arith}
use Rattle.std.proofs.lemmas.Result.{err_from_is_err_and}
use Rattle.ports.specs.declared.page.PageFault.TheVariants.{Damaged}
use Rattle.bw_types.specs.Empty.{empty_tree}
use Rattle.corner_weights.specs.Subsets.{residue_signed_by}
use Rattle.corner_forest.specs.Corners.{value_at}
use Rattle.corner_forest.specs.Entries.{corner_count}
use Rattle.corner_forest.proofs.Exits.{exit_error}
use Rattle.corner_forest.proofs.Places.{balanced_here, cost_here, damaged_there, more_cost, most_cost, next_sum, stands_here}
use Rattle.corner_forest.proofs.meet.met.Goals as goal

pub returns-in_err-value-clause-sound : goal.returns-in_err-value-clause-sound
returns-in_err-value-clause-sound g c = λ points page tells each e.
    let p = err_from_is_err_and c.from_residual.result c.from_residual.ensures.1 in
    let same = exit_error c.from_residual.result c.in_err-value.field-0.0 (Damaged page) p e in
    let params = c.args.params.now in
    let roots = c.args.roots.now in
    let k = c.loop-subset.subset in
    let below : k < length roots = omega (arith, c.requires.roots, c.loop-subset-test.true, c.corner_count-subset-end.ensures.count) in
    c.in_err-value.ensures.sound (points k) page (search rules)
    (stands_here g.X.DomIndex (g.P.Pages.map c.args.pages.now) (g.P.Pages.map c.loop-subset.pages) params.dims points roots roots k
    c.from.result _ c.loop-subset.invariant.went.map refl c.from.ensures each below) (ap Err same)

pub returns-in_err-value-clause-damaged : goal.returns-in_err-value-clause-damaged
returns-in_err-value-clause-damaged g c = λ page e tells.
    let p = err_from_is_err_and c.from_residual.result c.from_residual.ensures.1 in
    let same = exit_error c.from_residual.result c.in_err-value.field-0.0 (Damaged page) p e in
    let params = c.args.params.now in
    let roots = c.args.roots.now in
    let k = c.loop-subset.subset in
    let inside : c.loop-subset.subset < corner_count params = omega (arith, c.loop-subset-test.true, c.corner_count-subset-end.ensures.count) in
    let told = c.in_err-value.ensures.damaged page (ap Err same) (search rules) in (
      c.loop-subset.subset,
      told.0,
      inside,
      told.1,
      damaged_there g.X.DomIndex (g.P.Pages.map c.args.pages.now) (g.P.Pages.map c.loop-subset.pages) params.dims c.args.version page told.0 roots
          roots k c.from.result empty_tree c.loop-subset.invariant.went.map refl c.from.ensures
          told.2,
    )

pub returns-in_err-value-clause-cost : goal.returns-in_err-value-clause-cost
returns-in_err-value-clause-cost g c = λ tells points n each balanced counts.
    let params = c.args.params.now in
    let roots = c.args.roots.now in
    let k = c.loop-subset.subset in
    let below : k < length roots = omega (arith, c.requires.roots, c.loop-subset-test.true, c.corner_count-subset-end.ensures.count) in
    let stands = (stands_here g.X.DomIndex (g.P.Pages.map c.args.pages.now) (g.P.Pages.map c.loop-subset.pages) params.dims points roots roots k
    c.from.result _ c.loop-subset.invariant.went.map refl c.from.ensures each below) in
    let low = (balanced_here g.X.DomIndex (g.P.Pages.map c.args.pages.now) (g.P.Pages.map c.loop-subset.pages) params.dims roots roots k
    c.from.result _ c.loop-subset.invariant.went.map refl c.from.ensures balanced below) in
    let inside : c.loop-subset.subset < corner_count params = omega (arith, c.loop-subset-test.true, c.corner_count-subset-end.ensures.count) in
    let counted = c.index_laws.ensures.counted (g.P.Pages.map c.loop-subset.pages) params.dims _ (points k) stands in
    let before = c.loop-subset.invariant.cost tells points n each balanced counts in
    let after = cost_here g.X.DomIndex params.dims _ (length (points k)) n (g.P.Pages.gets c.loop-subset.pages) (g.P.Pages.gets c.value_at.new.pages) counted.0 (counts c.loop-subset.subset inside)
    (c.in_err-value.ensures.cost (search rules) (points k) stands low) in
    let more = more_cost c.loop-subset.subset (g.X.DomIndex.cost params.dims n) (g.P.Pages.gets c.args.pages.now) (g.P.Pages.gets c.loop-subset.pages) (g.P.Pages.gets c.value_at.new.pages) before after in
    most_cost c.loop-subset.subset (corner_count params) (g.X.DomIndex.cost params.dims n) (g.P.Pages.gets c.args.pages.now) (g.P.Pages.gets c.value_at.new.pages) more inside

pub loop-subset-preserved : goal.loop-subset-preserved
loop-subset-preserved g c =
    let params = c.args.params.now in
    let roots = c.args.roots.now in
    let k = c.loop-subset.subset in
    let below : k < length roots = omega (arith, c.requires.roots, c.loop-subset-test.true, c.corner_count-subset-end.ensures.count) in
    record {
      went = search rules;
      total = λ tells points each.
          next_sum (λ subset. residue_signed_by subset (value_at params.dims c.args.query.now c.args.version (points subset) subset))
          c.loop-subset.subset c.loop-subset.total c.sign.result c.res_add-total.result (c.loop-subset.invariant.total tells points each)
          (c.sign.ensures ∙ ap (residue_signed_by c.loop-subset.subset)
          (c.in_ok-value.ensures.value (search rules) (points k)
          (stands_here g.X.DomIndex (g.P.Pages.map c.args.pages.now) (g.P.Pages.map c.loop-subset.pages) params.dims points roots roots k
          c.from.result _ c.loop-subset.invariant.went.map refl c.from.ensures each below)))
          c.res_add-total.ensures;
      cost = λ tells points n each balanced counts.
          let stands = (stands_here g.X.DomIndex (g.P.Pages.map c.args.pages.now) (g.P.Pages.map c.loop-subset.pages) params.dims points roots roots k
          c.from.result _ c.loop-subset.invariant.went.map refl c.from.ensures each below) in
          let low = (balanced_here g.X.DomIndex (g.P.Pages.map c.args.pages.now) (g.P.Pages.map c.loop-subset.pages) params.dims roots roots k
          c.from.result _ c.loop-subset.invariant.went.map refl c.from.ensures balanced below) in
          let inside : c.loop-subset.subset < corner_count params = omega (arith, c.loop-subset-test.true, c.corner_count-subset-end.ensures.count) in
          let counted = c.index_laws.ensures.counted (g.P.Pages.map c.loop-subset.pages) params.dims _ (points k) stands in
          let before = c.loop-subset.invariant.cost tells points n each balanced counts in
          let after = cost_here g.X.DomIndex params.dims _ (length (points k)) n (g.P.Pages.gets c.loop-subset.pages) (g.P.Pages.gets c.value_at.new.pages) counted.0 (counts c.loop-subset.subset inside)
          (c.in_ok-value.ensures.cost (search rules) (points k) stands low) in
          let more = more_cost c.loop-subset.subset (g.X.DomIndex.cost params.dims n) (g.P.Pages.gets c.args.pages.now) (g.P.Pages.gets c.loop-subset.pages) (g.P.Pages.gets c.value_at.new.pages) before after in
          more;
    }
