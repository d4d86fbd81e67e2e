use Rattle.std.proofs.Common.{◌≡◌, Err, length, to_z, of_z, rules, ap, ◌∙◌}
use Rattle.std.specs.Int.{w128}
use Rattle.std.proofs.lemmas.Result.{err_from_is_err_and}
use Rattle.bw_types.specs.Residues.{signed_of}
use Rattle.ports.specs.declared.page.PageFault.TheVariants.{Damaged}
use Rattle.corner_forest.specs.Answers.{count_of, sum_of}
use Rattle.corner_forest.specs.Entries.{root_points, sum_and_count}
use Rattle.corner_forest.proofs.Exits.{exit_error}
use Rattle.corner_forest.proofs.MetSums.{met_by_corners}
use Rattle.corner_forest.proofs.Places.{all_first, each_first}
use Rattle.corner_forest.proofs.Totals.{both_fit}
use Rattle.corner_forest.proofs.TreePoints.{met_count}
use Rattle.corner_forest.proofs.meet.met_total.Goals as goal

pub returns-in_err-total-clause-sound : goal.returns-in_err-total-clause-sound
returns-in_err-total-clause-sound g c = λ entries page tells stands e.
    let p = err_from_is_err_and c.from_residual.result c.from_residual.ensures.1 in
    let same = exit_error c.from_residual.result c.in_err-total.field-0.0 (Damaged page) p e in
    let forest = c.args.forest.now in
    let points = root_points forest.params entries in
    c.in_err-total.ensures.sound points page tells
    (each_first (g.X.DomIndex.stands (g.P.Pages.map c.args.pages.now) forest.params.dims) points c.from-corners.result forest.roots.items c.as_slice.result.now c.as_slice.ensures.value stands.trees) (ap Err same)

pub returns-in_err-total-clause-cost : goal.returns-in_err-total-clause-cost
returns-in_err-total-clause-cost g c = λ tells entries stands balanced.
    let forest = c.args.forest.now in
    let points = root_points forest.params entries in
    c.in_err-total.ensures.cost tells points (length entries)
    (each_first (g.X.DomIndex.stands (g.P.Pages.map c.args.pages.now) forest.params.dims) points c.from-corners.result forest.roots.items c.as_slice.result.now c.as_slice.ensures.value stands.trees)
    (all_first (g.X.DomIndex.balanced (g.P.Pages.map c.args.pages.now) forest.params.dims) c.from-corners.result forest.roots.items c.as_slice.result.now c.as_slice.ensures.value balanced)
    (met_count forest.params entries)

pub returns-clause-total : goal.returns-clause-total
returns-clause-total g c = λ tells entries stands.
    let forest = c.args.forest.now in
    let points = root_points forest.params entries in
    let back : to_z w128 (of_z w128 c.res_signed.result) ≡ c.res_signed.result = search rules in
    let fit = both_fit forest.params c.args.query.now c.args.version entries c.requires.in_range stands.weights stands.few in
    back ∙ c.res_signed.ensures ∙ ap signed_of
    (met_by_corners c.entries_meet_by_corners.ensures.sums forest.params c.args.query.now c.args.version entries c.in_ok-total.total c.requires.in_range c.requires.query stands.fits
    (c.in_ok-total.ensures.sum tells points
    (each_first (g.X.DomIndex.stands (g.P.Pages.map c.args.pages.now) forest.params.dims) points c.from-corners.result forest.roots.items c.as_slice.result.now c.as_slice.ensures.value stands.trees)))
    ∙ c.residues_are_signed.ensures.of_residue
    (sum_and_count (sum_of forest.params entries c.args.version c.args.query.now) (count_of forest.params entries c.args.version c.args.query.now)) fit.0 fit.1

pub returns-clause-cost : goal.returns-clause-cost
returns-clause-cost g c = λ tells entries stands balanced.
    let forest = c.args.forest.now in
    let points = root_points forest.params entries in
    c.in_ok-total.ensures.cost tells points (length entries)
    (each_first (g.X.DomIndex.stands (g.P.Pages.map c.args.pages.now) forest.params.dims) points c.from-corners.result forest.roots.items c.as_slice.result.now c.as_slice.ensures.value stands.trees)
    (all_first (g.X.DomIndex.balanced (g.P.Pages.map c.args.pages.now) forest.params.dims) c.from-corners.result forest.roots.items c.as_slice.result.now c.as_slice.ensures.value balanced)
    (met_count forest.params entries)
