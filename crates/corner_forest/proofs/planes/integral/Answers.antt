use Rattle.std.proofs.Common.{◌≡◌, ℕ, ◌+◌, ◌*◌, ◌<◌, ◌≤◌, Err, length, to_z, of_z, rules, ap, sym, ◌∙◌, subst, arith}
use Rattle.std.specs.Int.{w128}
use Rattle.std.proofs.lemmas.Result.{err_from_is_err_and}
use Rattle.bw_types.specs.Residues.{residue, signed_of}
use Rattle.corner_weights.specs.Corners.{integral_corner}
use Rattle.corner_weights.specs.Subsets.{residue_signed_by}
use Rattle.corner_weights.specs.Integrals.{query_corner}
use Rattle.corner_weights.specs.Planes.{plane_count, planes_value}
use Rattle.corner_weights.specs.PlaneSums.{integral_at}
use Rattle.ports.specs.Pages.{PageMap}
use Rattle.ports.specs.declared.page.PageFault.TheVariants.{Damaged}
use Rattle.corner_forest.specs.Damage.{IsDamagedInPlanes}
use Rattle.corner_forest.specs.Stands.{AreBalanced}
use Rattle.corner_forest.specs.Trees.{EachStands}
use Rattle.corner_forest.specs.Corners.{planes_at}
use Rattle.corner_forest.specs.Entries.{corner_count, root_points}
use Rattle.corner_forest.proofs.Exits.{exit_error}
use Rattle.corner_forest.proofs.Places.{more_cost, most_cost, next_sum}
use Rattle.corner_forest.proofs.PlaneTotals.{integral_by_corners, planed_count}
use Rattle.corner_forest.proofs.planes.integral.Goals as goal

pub returns-in_err-value-clause-damaged : goal.returns-in_err-value-clause-damaged
returns-in_err-value-clause-damaged g c = λ page e tells.
    let p = err_from_is_err_and c.from_residual.result c.from_residual.ensures.1 in
    let same = exit_error c.from_residual.result c.in_err-value.field-0.0 (Damaged page) p e in
    let params = c.args.forest.now.params in
    let inside : c.loop-subset.subset < corner_count params = omega (arith, c.loop-subset-test.true, c.corner_count-subset-end.ensures.count) in (
      c.loop-subset.subset,
      inside,
      subst (λ (m : PageMap). IsDamagedInPlanes g.X.DomIndex m params c.args.forest.now.roots.items (integral_corner params.dims c.args.query.now c.loop-subset.subset) c.args.version page)
          c.loop-subset.invariant.went.map (c.in_err-value.ensures.damaged page (ap Err same) (search rules)),
    )

pub returns-in_err-value-clause-cost : goal.returns-in_err-value-clause-cost
returns-in_err-value-clause-cost g c = λ tells entries stands balanced.
    let params = c.args.forest.now.params in
    let points = root_points params entries in
    let n = length entries * corner_count params in
    let counts = planed_count params entries in
    let each = stands.trees in
    let inside : c.loop-subset.subset < corner_count params = omega (arith, c.loop-subset-test.true, c.corner_count-subset-end.ensures.count) in
    let before = c.loop-subset.invariant.cost tells points n each balanced counts in
    let after = c.in_err-value.ensures.cost (search rules) points n (subst (λ (m : PageMap). EachStands (g.X.DomIndex.stands m params.dims) points 0 c.args.forest.now.roots.items) (sym c.loop-subset.invariant.went.map) each) (subst (λ (m : PageMap). AreBalanced g.X.DomIndex m params c.args.forest.now.roots.items) (sym c.loop-subset.invariant.went.map) balanced) counts in
    let cost = plane_count params * g.X.DomIndex.cost params.dims n in
    let more = more_cost c.loop-subset.subset cost (g.P.Pages.gets c.args.pages.now) (g.P.Pages.gets c.loop-subset.pages) (g.P.Pages.gets c.value_at.new.pages) before after in
    most_cost c.loop-subset.subset (corner_count params) cost (g.P.Pages.gets c.args.pages.now) (g.P.Pages.gets c.value_at.new.pages) more inside

pub loop-subset-preserved : goal.loop-subset-preserved
loop-subset-preserved g c =
    let params = c.args.forest.now.params in
    record {
      went = search rules;
      total = λ tells points each.
          next_sum (λ subset. residue_signed_by subset (residue (planes_value params (planes_at params points (integral_corner params.dims c.args.query.now subset) c.args.version) (query_corner c.args.query.now subset))))
          c.loop-subset.subset c.loop-subset.total c.sign.result c.res_add-total.result (c.loop-subset.invariant.total tells points each)
          (c.sign.ensures ∙ ap (residue_signed_by c.loop-subset.subset) (c.in_ok-value.ensures.value (search rules) points (subst (λ (m : PageMap). EachStands (g.X.DomIndex.stands m params.dims) points 0 c.args.forest.now.roots.items) (sym c.loop-subset.invariant.went.map) each)))
          c.res_add-total.ensures;
      cost = λ tells points n each balanced counts.
          let cost = plane_count params * g.X.DomIndex.cost params.dims n in
          more_cost c.loop-subset.subset cost (g.P.Pages.gets c.args.pages.now) (g.P.Pages.gets c.loop-subset.pages) (g.P.Pages.gets c.value_at.new.pages)
          (c.loop-subset.invariant.cost tells points n each balanced counts) (c.in_ok-value.ensures.cost (search rules) points n (subst (λ (m : PageMap). EachStands (g.X.DomIndex.stands m params.dims) points 0 c.args.forest.now.roots.items) (sym c.loop-subset.invariant.went.map) each) (subst (λ (m : PageMap). AreBalanced g.X.DomIndex m params c.args.forest.now.roots.items) (sym c.loop-subset.invariant.went.map) balanced) counts);
    }

pub returns-clause-cost : goal.returns-clause-cost
returns-clause-cost g c = λ tells entries stands balanced.
    let params = c.args.forest.now.params in
    let n = length entries * corner_count params in
    let is_end : c.loop-subset.subset ≡ corner_count params = omega (arith, c.loop-subset-test.false, c.loop-subset.auto.subset-end, c.corner_count-subset-end.ensures.count) in
    subst (λ (m : ℕ). g.P.Pages.gets c.loop-subset.pages ≤ g.P.Pages.gets c.args.pages.now + m * (plane_count params * g.X.DomIndex.cost params.dims n)) is_end
    (c.loop-subset.invariant.cost tells (root_points params entries) n stands.trees balanced (planed_count params entries))

pub returns-clause-integral : goal.returns-clause-integral
returns-clause-integral g c = λ tells entries stands.
    let params = c.args.forest.now.params in
    let back : to_z w128 (of_z w128 c.res_signed.result) ≡ c.res_signed.result = search rules in
    back ∙ c.res_signed.ensures ∙ ap signed_of
    (integral_by_corners c.integral_by_planes.ensures params c.args.query.now c.args.version entries c.loop-subset.total c.loop-subset.subset c.requires.in_range c.requires.degree c.requires.query stands.fits
    (omega (arith, c.loop-subset-test.false, c.loop-subset.auto.subset-end, c.corner_count-subset-end.ensures.count)) (c.loop-subset.invariant.total tells (root_points params entries) stands.trees))

pub returns-clause-exact : goal.returns-clause-exact
returns-clause-exact g c = λ tells entries stands low high.
    let params = c.args.forest.now.params in
    let back : to_z w128 (of_z w128 c.res_signed.result) ≡ c.res_signed.result = search rules in
    back ∙ c.res_signed.ensures ∙ ap signed_of
    (integral_by_corners c.integral_by_planes.ensures params c.args.query.now c.args.version entries c.loop-subset.total c.loop-subset.subset c.requires.in_range c.requires.degree c.requires.query stands.fits
    (omega (arith, c.loop-subset-test.false, c.loop-subset.auto.subset-end, c.corner_count-subset-end.ensures.count)) (c.loop-subset.invariant.total tells (root_points params entries) stands.trees))
    ∙ c.residues_are_signed.ensures.of_residue (integral_at params c.args.query.now c.args.version entries) low high
