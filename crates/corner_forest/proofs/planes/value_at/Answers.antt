use Rattle.std.proofs.Common.{ℕ, Err, List, ap, sym, subst}
use Rattle.std.proofs.lemmas.Result.{err_from_is_err_and}
use Rattle.ports.specs.declared.page.PageFault.TheVariants.{Damaged}
use Rattle.dom_index.specs.Points.{AreKeysBelow}
use Rattle.corner_forest.specs.Damage.{IsDamagedInPlanes}
use Rattle.corner_forest.proofs.Exits.{exit_error}
use Rattle.corner_forest.proofs.KeyBounds.{integral_keys_below}
use Rattle.corner_forest.proofs.planes.value_at.Goals as goal

pub plane_sums-requires-clause-keys : goal.plane_sums-requires-clause-keys
plane_sums-requires-clause-keys g c =
    subst (λ (keys : List ℕ). AreKeysBelow c.args.forest.now.params.dims keys) (sym c.integral_corner-keys.ensures)
    (integral_keys_below c.args.forest.now.params c.args.query.now c.args.subset c.requires.query)

pub returns-in_err-planes-clause-damaged : goal.returns-in_err-planes-clause-damaged
returns-in_err-planes-clause-damaged g c = λ page e tells.
    let p = err_from_is_err_and c.from_residual.result c.from_residual.ensures.1 in
    let same = exit_error c.from_residual.result c.in_err-planes.field-0.0 (Damaged page) p e in
    subst (λ (keys : List ℕ). IsDamagedInPlanes g.X.DomIndex (g.P.Pages.map c.args.pages.now) c.args.forest.now.params c.args.forest.now.roots.items keys c.args.version page)
    c.integral_corner-keys.ensures (c.in_err-planes.ensures.damaged page (ap Err same) tells)
