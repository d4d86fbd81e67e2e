use Rattle.std.proofs.Common.{◌≡◌, ◌*◌, ℕ, IsTrue, List, length}
use Rattle.std.proofs.lemmas.Result.{IfOk-weaker}
use Rattle.bw_types.specs.Residues.{residue}
use Rattle.bw_types.specs.declared.point.Point.{Point}
use Rattle.bw_types.specs.declared.query.Query.{Query}
use Rattle.bw_types.specs.declared.query.Kind.TheVariants.{Integral}
use Rattle.corner_weights.specs.Corners.{integral_corner}
use Rattle.corner_weights.specs.Integrals.{query_corner}
use Rattle.corner_weights.specs.Planes.{planes_value}
use Rattle.corner_weights.specs.PlaneSums.{Entered, entered_below}
use Rattle.corner_forest.specs.Corners.{planes_at}
use Rattle.corner_forest.specs.Entries.{corner_count, root_points}
use Rattle.corner_forest.specs.Stands.{ForestStands}
use Rattle.corner_forest.specs.Trees.{EachStands}
use Rattle.corner_forest.proofs.PlaneTotals.{below_by_corner, planed_count}
use Rattle.corner_forest.proofs.planes.below.Goals as goal

pub returns-clause-below : goal.returns-clause-below
returns-clause-below g c =
    let params = c.args.forest.now.params in
    let at = c.args.at.now in
    let q : Query = record { kind = Integral; low = at; high = at } in
    let pages = g.P.Pages.map c.args.pages.now in
    let tells = IsTrue (g.P.Pages.tells c.args.pages.now) in
    let roots = c.args.forest.now.roots.items in
    IfOk-weaker c.value_at.result
    (λ (value : ℕ). tells → (points : ℕ → List Point) → EachStands (g.X.DomIndex.stands pages params.dims) points 0 roots
    → value ≡ residue (planes_value params (planes_at params points (integral_corner params.dims q 0) c.args.version) (query_corner q 0)))
    (λ (value : ℕ). tells → (entries : List Entered) → ForestStands {X = g.row.X.Denot} g.X.DomIndex pages params roots entries
    → value ≡ residue (entered_below params at c.args.version entries))
    (λ value by_points told entries stands.
    below_by_corner c.below_by_planes.ensures params q c.args.version entries value c.requires.in_range c.requires.degree stands.fits c.told-at
    (by_points told (root_points params entries) stands.trees))
    c.value_at.ensures.value

pub returns-clause-sound : goal.returns-clause-sound
returns-clause-sound g c = λ entries page tells stands.
    c.value_at.ensures.sound (root_points c.args.forest.now.params entries) page tells stands.trees

pub returns-clause-cost : goal.returns-clause-cost
returns-clause-cost g c = λ tells entries stands balanced.
    let params = c.args.forest.now.params in
    c.value_at.ensures.cost tells (root_points params entries) (length entries * corner_count params) stands.trees balanced (planed_count params entries)
